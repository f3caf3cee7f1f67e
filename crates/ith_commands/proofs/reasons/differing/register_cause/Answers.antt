-- Answers to the goals that the check of `register_cause` leaves open.
use Rattle.std.proofs.Common.{◌≡◌, None, sym, ◌∙◌}
use Rattle.round_report.specs.Differences.{numbered, first_difference}
use Rattle.ith_commands.proofs.Alike.{same-registers}
use Rattle.ith_commands.proofs.reasons.differing.register_cause.Goals as goal

pub returns-in_default-clause-none : goal.returns-in_default-clause-none
returns-in_default-clause-none c =
    let none : first_difference (numbered c.args.now.now) (numbered c.args.was.now) ≡ None =
    rw (← c.to_words-now.ensures.value, ← c.to_words-was.ensures.value) (sym c.first_other_word.ensures.first ∙ c.in_default.is) in
    same-registers c.args.now.now c.args.was.now c.to_words-now.ensures.count c.to_words-was.ensures.count
    c.to_words-now.ensures.zero c.to_words-was.ensures.zero none
