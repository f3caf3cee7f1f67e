-- The facts of records that are still to be applied, one after the other.
use Rattle.std.specs.Prelude.{ℕ, Bool, true, false, List, map}
use Rattle.thunk_spec.specs.Record.{Record}
use Rattle.machine_spec.specs.Machine.{Machine}
use Rattle.history_spec.specs.Facts.{Fact, facts_from, bare_fact}

-- The facts of the remaining records: as far as they fit, if all before them did, and otherwise bare ones.
abbrev pub facts_to_come : Bool → (ℕ → ℕ → List ℕ) → Machine → List Record → List Fact
facts_to_come true reads m rs = facts_from reads m rs
facts_to_come false reads m rs = map bare_fact rs
