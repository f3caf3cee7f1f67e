-- How many marks a mask has.
use Rattle.std.specs.Prelude.{ℕ, Bool, List}
use Rattle.std.specs.List.{count_by}

-- How many places are marked.
abbrev pub marks_in : List Bool → ℕ
marks_in m = count_by (λ mark. mark) m
