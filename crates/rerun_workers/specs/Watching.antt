-- The word that counts the steps of a watched round.
use Rattle.std.specs.Prelude.{◌≡◌, ℕ, Option, IfSome}
use Rattle.atomic_table.specs.Seated.{TableId}
use Rattle.rerun_workers.specs.declared.watching.Counter.{Counter}

-- A counter, if there is one, is of this table, and its word is so many steps.
abbrev pub IsCounting : TableId → ℕ → Option Counter → Type 0
IsCounting table steps counter = IfSome counter (λ (c : Counter). (c.writer.table ≡ table) × (c.writer.added ≡ steps))
