-- The pages so far, with those that the slots still give, are all.
use Rattle.std.proofs.Common.{◌≡◌, ◌++◌, ◌-◌, length}
use Rattle.thunk_spec.specs.Delta.{delta_from}
use Rattle.priv_space.proofs.Collecting.{deltas_left}
use Rattle.priv_space.proofs.space.Space.into_delta.Given as goal

abbrev pub invariant-loop-slot : goal.invariant-loop-slot
invariant-loop-slot l = record {
  count : length l.slots ≡ length l.fn.self.view;
  deltas : l.deltas.items ++ deltas_left l.fn.self.view l.slots l.from ≡ delta_from 0 l.fn.self.stored l.fn.self.memory;
}

abbrev pub decreases-loop-slot : goal.decreases-loop-slot
decreases-loop-slot l = length l.slots - l.from
