-- How long an input is between edits.
use Rattle.std.specs.Prelude.{ℕ, ◌≡◌, false, min, List, [], ◌∷◌, Option, Some, None, if◌then◌else◌}
use Rattle.edit_spec.specs.Edit.{Edit, Set, Size, LineEdit}
use Rattle.edit_spec.specs.Editing.{is_out_of_range}

-- how long an input of this length is after an edit that is within its bound
abbrev pub new_length : Edit → ℕ → ℕ
new_length (Set offset bytes) len = len
new_length (Size size) len = size

-- the same, or none if the edit passes its bound
abbrev pub length_after : Edit → ℕ → Option ℕ
length_after edit len = if is_out_of_range edit len then None else Some (new_length edit len)

-- no edit passes its bound, and the input has this length after them
abbrev pub ComesTo : List LineEdit → ℕ → ℕ → Type 0
ComesTo [] len last = len ≡ last
ComesTo (e ∷ edits) len last = (is_out_of_range e.edit len ≡ false) × ComesTo edits (new_length e.edit len) last

-- the line of the first edit that passes its bound
abbrev pub line_out_of_range : List LineEdit → ℕ → Option ℕ
line_out_of_range [] len = None
line_out_of_range (e ∷ edits) len =
    if is_out_of_range e.edit len then Some e.line else line_out_of_range edits (new_length e.edit len)

-- the lesser of a length and the one that an edit gives
abbrev pub lesser : Edit → ℕ → ℕ
lesser (Set offset bytes) len = len
lesser (Size size) len = min len size

-- the least length that edits give, at most this one
abbrev pub least : List LineEdit → ℕ → ℕ
least [] most = most
least (e ∷ edits) most = lesser e.edit (least edits most)

-- for each edit the least length that it and those after it give, at most this one
abbrev pub leasts : List LineEdit → ℕ → List ℕ
leasts [] most = []
leasts (e ∷ edits) most = least (e ∷ edits) most ∷ leasts edits most
