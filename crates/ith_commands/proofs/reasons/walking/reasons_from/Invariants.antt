-- The invariant of the loop of `reasons_from`.
use Rattle.std.proofs.Common.{◌≡◌, map}
use Rattle.machine_spec.specs.Whole.{IsWhole}
use Rattle.round_report.specs.declared.why.reason.Reason.{Reason}
use Rattle.round_report.specs.Reasons.{IsBasedOnOldRun}
use Rattle.ith_commands.specs.Walking.{IsBefore}
use Rattle.ith_commands.specs.Searching.{AreOf}
use Rattle.ith_commands.proofs.ReasonsSoFar.{reported_so_far, executed_so_far}
use Rattle.ith_commands.proofs.reasons.walking.reasons_from.Given as goal

-- the machine is that before the next entry, and the reasons so far are reported
abbrev pub invariant-loop-step : goal.invariant-loop-step
invariant-loop-step l = record {
  pages : AreOf l.round l.pages;
  before : IsBefore l.round l.core l.since l.step;
  whole : IsWhole l.core;
  reported : l.reasons.items ≡ reported_so_far l.round l.step;
  each : IsBasedOnOldRun l.round.past l.round.setup
      → map (λ (r : Reason). r.step) l.reasons.items ≡ executed_so_far l.round l.step;
}
