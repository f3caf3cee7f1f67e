-- The invariant of the loop of `apply_stores`.
use Rattle.std.proofs.Common.{◌≡◌, drop, length}
use Rattle.memory_spec.specs.Stores.{with_stores}
use Rattle.plain_machine.specs.Stored.{bytes_of}
use Rattle.plain_machine.proofs.stores.apply_stores.Given as goal

-- storing the rest makes the same memory as storing all
abbrev pub invariant-loop-stored : goal.invariant-loop-stored
invariant-loop-stored l =
    (with_stores l.map l.memory (bytes_of (drop l.stored-index l.stores)) ≡ with_stores l.map l.fn.memory (bytes_of l.stores))
    × (length l.memory ≡ length l.map)
