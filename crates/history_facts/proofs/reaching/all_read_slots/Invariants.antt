-- The slots of the first steps.
use Rattle.std.proofs.Common.{◌≡◌, map, take}
use Rattle.thunk_spec.specs.Record.{Record}
use Rattle.history_spec.specs.Facts.{read_slots}
use Rattle.depend_graph.specs.Reaching.{slots_of_each}
use Rattle.history_facts.proofs.reaching.all_read_slots.Given as goal

abbrev pub invariant-loop-i : goal.invariant-loop-i
invariant-loop-i l = slots_of_each l.reads.items ≡ map (λ (r : Record). read_slots r) (take l.i l.records)
