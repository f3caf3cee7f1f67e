-- The edits of an input.
use Rattle.std.specs.Prelude.{ℕ, List}

-- An edit: bytes that are written over those from an offset on, or a new length of the input.
pub data Edit : Type 0 where
  Set : ℕ → List ℕ → Edit
  Size : ℕ → Edit

-- An edit, with the number of its line.
pub record LineEdit : Type 0 where
  pub line : ℕ
  pub edit : Edit
