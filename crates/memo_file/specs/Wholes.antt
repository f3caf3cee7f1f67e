-- A pool whose pages are all used.
use Rattle.std.specs.Prelude.{ℕ, ◌==◌, Bool, List, length}
use Rattle.thunk_spec.specs.Record.{Record}
use Rattle.memo_spec.specs.Reading.{RecordState}

-- Whether the records use each page of the pool.
abbrev pub uses_all : List (List ℕ) × List Record × RecordState → Bool
uses_all x = x.2.used == length x.0
