-- The pages so far, with those that the other slots still add, are all.
use Rattle.std.proofs.Common.{◌≡◌, ◌++◌, ◌-◌, length}
use Rattle.std.specs.Arc.{arc_value}
use Rattle.priv_space.proofs.Collecting.{reads_left}
use Rattle.priv_space.proofs.space.Space.reads.Given as goal

abbrev pub invariant-loop-slot : goal.invariant-loop-slot
invariant-loop-slot l =
    l.pages.items ++ reads_left (arc_value l.self-inside.view) l.self-inside.slots l.from
    ≡ reads_left (arc_value l.self-inside.view) l.self-inside.slots 0

abbrev pub decreases-loop-slot : goal.decreases-loop-slot
decreases-loop-slot l = length l.self-inside.slots - l.from
