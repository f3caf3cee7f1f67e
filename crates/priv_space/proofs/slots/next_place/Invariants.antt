-- No slot so far was touched.
use Rattle.std.proofs.Common.{◌≡◌, List, ℕ, ◌-◌, ◌<◌, ◌≤◌, get_or, length}
use Rattle.priv_space.proofs.slots.next_place.Given as goal

abbrev AreClear : List ℕ → ℕ → ℕ → Type 0
AreClear places from slot = (from ≤ slot) × ((k : ℕ) → from ≤ k → k < slot → get_or places k 0 ≡ 0)

abbrev pub invariant-loop-slot : goal.invariant-loop-slot
invariant-loop-slot l = AreClear l.places l.from l.slot

abbrev pub decreases-loop-slot : goal.decreases-loop-slot
decreases-loop-slot l = length l.places - l.slot

abbrev pub invariant-loop-slot-2 : goal.invariant-loop-slot-2
invariant-loop-slot-2 l = AreClear l.places l.from l.slot

abbrev pub decreases-loop-slot-2 : goal.decreases-loop-slot-2
decreases-loop-slot-2 l = length l.places - l.slot
