-- The inputs that are still to come: the next one, and then the results of lists of edits on it, one after the other.
use Rattle.std.specs.Prelude.{ℕ, ◌≡◌, List, [], ◌∷◌, Option, Some, None, Ok, Vec, ⊤}
use Rattle.std.specs.Global.{Global}
use Rattle.std.specs.Result.{result_unwrap_or}
use Rattle.edit_spec.specs.Edit.{LineEdit}
use Rattle.edit_spec.specs.Editing.{edited}

-- An input, and then the result of each list of edits on the one before; a list that can't be applied would change
-- nothing.
abbrev pub inputs_from : List (List LineEdit) → List ℕ → List (List ℕ)
inputs_from [] input = input ∷ []
inputs_from (edits ∷ lists) input = input ∷ inputs_from lists (result_unwrap_or (edited edits input) input)

-- Lists of edits can be applied, the first to an input and each other to the result of the one before it.
abbrev pub CanBeDone : List (List LineEdit) → List ℕ → Type 0
CanBeDone [] input = ⊤
CanBeDone (edits ∷ lists) input = (next : List ℕ) × (edited edits input ≡ Ok next) × CanBeDone lists next

-- The inputs that are still to come, if there is a next one.
abbrev pub inputs_to_come : Option (Vec ℕ Global) → List (List LineEdit) → List (List ℕ)
inputs_to_come None lists = []
inputs_to_come (Some input) lists = inputs_from lists input.items

-- Each of them can be made.
abbrev pub CanBeMade : Option (Vec ℕ Global) → List (List LineEdit) → Type 0
CanBeMade None lists = ⊤
CanBeMade (Some input) lists = CanBeDone lists input.items
