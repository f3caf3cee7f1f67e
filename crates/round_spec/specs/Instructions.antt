-- How many instructions a round has executed, by its records.
use Rattle.std.specs.Prelude.{ℕ, ◌+◌, if◌then◌else◌, List, [], ◌∷◌}
use Rattle.thunk_spec.specs.Record.{Record}
use Rattle.report_spec.specs.declared.Entry.{Entry}

-- The sum of the counts of the records of executed entries.
abbrev pub executed_instructions : List Entry → List Record → ℕ
executed_instructions [] records = 0
executed_instructions (e ∷ schedule) [] = 0
executed_instructions (e ∷ schedule) (r ∷ records) =
    (if e.reused then 0 else r.kept.count) + executed_instructions schedule records
