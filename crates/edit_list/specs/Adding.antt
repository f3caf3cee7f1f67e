-- A line added to others.
use Rattle.std.specs.Prelude.{ℕ, ◌≡◌, List, [], ◌∷◌, ◌++◌, filter}
use Rattle.std.specs.List.{enumerate_from}
use Rattle.edit_spec.specs.Edit.{LineEdit}
use Rattle.edit_spec.specs.Grammar.{Line, EncodeAll, is_filled}

-- pieces as lines, numbered from this number; empty ones are numbered and left out
abbrev pub lines_from : ℕ → List (List ℕ) → List Line
lines_from number pieces = filter (λ line. is_filled line.1) (enumerate_from number pieces)

-- the edit of one line was appended to others, if the line isn't empty
abbrev pub AddsLine : ℕ → List ℕ → List LineEdit → List LineEdit → Type 0
AddsLine number text before after =
    (added : List LineEdit) × EncodeAll (lines_from number (text ∷ [])) added × (after ≡ before ++ added)
