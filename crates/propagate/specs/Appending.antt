-- How a record is applied, and appended with its entry.
use Rattle.std.specs.Prelude.{◌≡◌, Bool, List, [], ◌∷◌, ◌++◌}
use Rattle.thunk_spec.specs.Record.{Record}
use Rattle.machine_spec.specs.Machine.{Machine}
use Rattle.machine_spec.specs.Step.{apply}
use Rattle.report_spec.specs.declared.Entry.{Entry}

-- What grows with each step of a round: its machine, its schedule, and the records of its entries.
pub record Trail : Type 0 where
  pub machine : Machine
  pub schedule : List Entry
  pub records : List Record

abbrev pub trail : Machine → List Entry → List Record → Trail
trail machine schedule records = record { machine = machine; schedule = schedule; records = records }

-- A record was applied, and was appended with its entry.
pub record Appends (r : Record) (reused : Bool) (old new : Trail) : Type 0 where
  pub machine : new.machine ≡ apply old.machine r
  pub schedule : new.schedule ≡ old.schedule ++ record { thread = r.thread; reused = reused } ∷ []
  pub records : new.records ≡ old.records ++ r ∷ []
