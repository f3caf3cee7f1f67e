-- One more command was added, with the rules of its operands and options.
use Rattle.ith_words.proofs.Arguments.{command_in_turn, globals_in_turn, rules_of_both}
use Rattle.ith_words.proofs.Commands.{locals_push, shapes_push}
use Rattle.ith_words.proofs.command.add_command.Goals as goal

pub returns-clause-shapes : goal.returns-clause-shapes
returns-clause-shapes c =
    shapes_push _ _ _ _ c.in_ok-push.ensures.items
    (command_in_turn _ _ _ _ _ (rw c.about.ensures c.new.ensures.app)
    (rules_of_both _ _ _ _ _ c.new-args.ensures.items c.in_ok-add_arguments.ensures.rules c.in_ok-add_arguments-2.ensures.rules)
    c.in_ok-add_arguments-2.ensures.local c.in_ok-args.ensures)

pub returns-clause-local : goal.returns-clause-local
returns-clause-local c =
    locals_push _ _ _ c.in_ok-push.ensures.items c.requires
    (globals_in_turn _ _ _ c.in_ok-add_arguments-2.ensures.local c.in_ok-args.ensures (rw c.about.ensures c.new.ensures.local))
