-- The pages so far have a change.
use Rattle.std.proofs.Common.{◌≡◌, ℕ, ◌||◌, ◌&&◌, leb, take}
use Rattle.history_spec.specs.Before.{is_in}
use Rattle.depend_graph.specs.Reaching.{shows}
use Rattle.depend_graph.proofs.reaching.Changes.add.Given as goal

abbrev pub invariant-loop-slot : goal.invariant-loop-slot
invariant-loop-slot l =
    (p e : ℕ)
    → shows l.self p e ≡ (shows l.initial.self p e || (leb l.from e && is_in p (take l.slot-index l.slots)))
