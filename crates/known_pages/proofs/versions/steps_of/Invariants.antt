-- The invariant of the loop of `steps_of`.
use Rattle.std.proofs.Common.{◌≡◌, length}
use Rattle.known_pages.specs.Versions.{AreStepsOf}
use Rattle.known_pages.proofs.Passing.{ArePassed}
use Rattle.known_pages.proofs.versions.steps_of.Given as goal

-- the steps before the place were looked at
abbrev pub invariant-loop-place : goal.invariant-loop-place
invariant-loop-place l = record {
  passed : ArePassed l.history l.place l.times.written.items l.times.viewed;
  steps : AreStepsOf l.history l.steps.items;
  count : length l.steps.items ≡ l.place;
}
