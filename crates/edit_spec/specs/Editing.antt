-- What edits do to an input.
use Rattle.std.specs.Prelude.{ℕ, ◌+◌, ◌-◌, Bool, nat_lt, List, [], ◌∷◌, ◌++◌, take, drop, replicate, length, if◌then◌else◌, Result, Ok, Err}
use Rattle.machine_spec.specs.declared.TheConstants.{MOST_INPUT_BYTES}
use Rattle.edit_spec.specs.Edit.{Edit, Set, Size, LineEdit}

-- The most bytes of an input.
abbrev pub longest_input : ℕ
longest_input = MOST_INPUT_BYTES

-- An edit passes its bound: it writes past the end of an input of this length, or its new length is too long.
abbrev pub is_out_of_range : Edit → ℕ → Bool
is_out_of_range (Set offset bytes) len = nat_lt len (offset + length bytes)
is_out_of_range (Size size) len = nat_lt MOST_INPUT_BYTES size

-- What an edit makes of an input: bytes are written over, or it is cut, or it grows by zero bytes.
abbrev pub edited_once : Edit → List ℕ → List ℕ
edited_once (Set offset bytes) input = take offset input ++ bytes ++ drop (offset + length bytes) input
edited_once (Size size) input = take size input ++ replicate (size - length input) 0

-- What edits make of an input, one after the other, or the line of the first that passes its bound.
abbrev pub edited : List LineEdit → List ℕ → Result (List ℕ) ℕ
edited [] input = Ok input
edited (e ∷ edits) input =
    if is_out_of_range e.edit (length input) then Err e.line else edited edits (edited_once e.edit input)
