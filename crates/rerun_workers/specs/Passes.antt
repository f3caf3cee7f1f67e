-- The step that a worker holds.
use Rattle.std.specs.Prelude.{ℕ, Option, Some, None}
use Rattle.rerun_workers.specs.declared.begun.Begun.{Begun}

-- 1 if a worker holds a step that was assigned to it, else 0.
abbrev pub held : Option Begun → ℕ
held None = 0
held (Some begun) = 1
