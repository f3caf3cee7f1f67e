use Rattle.std.proofs.Common.{◌≡◌, map, ap, ◌∙◌}
use Rattle.std.proofs.lemmas.Result.{IfOk-weaker}
use Rattle.clap.specs.Words.{AddsInTurn, AddsSubcommand, app_of}
use Rattle.clap.specs.declared.builder.command.Command.{Command}
use Rattle.ith_words.specs.Words.{command_line, program, with_commands}
use Rattle.ith_words.proofs.Commands.{below_in_turn}
use Rattle.ith_words.proofs.command.command_line.Goals as goal

pub returns : goal.returns
unfolding command_line
returns c =
    let commands = c.in_ok-commands.commands.items in
    IfOk-weaker _ (AddsInTurn AddsSubcommand c.program.result commands) (λ (whole : Command). app_of whole ≡ command_line)
    (λ whole adds. below_in_turn c.program.result whole commands c.in_ok-commands.ensures.local adds
    ∙ ap (λ a. with_commands a (map app_of commands)) c.program.ensures
    ∙ ap (with_commands program) c.in_ok-commands.ensures.shapes) c.subcommands.ensures
