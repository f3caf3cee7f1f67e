-- Answers to the goals that the check of `record_of` leaves open.
use Rattle.std.proofs.Common.{ap, sym, ◌∙◌, option_map}
use Rattle.std.specs.Arc.{arc_value}
use Rattle.ith_commands.proofs.Finding.{if_some, past-mapped}
use Rattle.ith_commands.proofs.reasons.walking.record_of.Goals as goal

pub returns-clause-mapped : goal.returns-clause-mapped
returns-clause-mapped c =
    if_some _ c.old_record.result
    (λ r is old.
    past-mapped c.args.round.now.past c.args.round.now.setup c.args.thread c.args.number
    (arc_value r.now) c.old_record.ensures.mapped
    (sym c.old_record.ensures.record ∙ ap (option_map (λ s. arc_value s.now)) is)
    old)
