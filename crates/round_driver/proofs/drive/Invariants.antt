-- The invariant of the loop of `drive`.
use Rattle.std.proofs.Common.{◌≡◌, ◌+◌, drop, option_map}
use Rattle.std.specs.Arc.{arc_value}
use Rattle.round_spec.specs.Rounds.{all_happen, round_after}
use Rattle.propagate.specs.Executing.{executed_by}
use Rattle.round_driver.proofs.drive.Given as goal

-- the events so far, followed by the rest, are all; and the counter has risen by what was executed
abbrev pub invariant-loop-event : goal.invariant-loop-event
invariant-loop-event l =
    (all_happen l.driven.round (drop l.event-index l.events)
    ≡ round_after l.fn.setup (option_map arc_value l.fn.past) l.events)
    × (l.turns ≡ l.fn.turns + executed_by l.driven.round)
