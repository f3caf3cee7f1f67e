-- The inputs of the rounds that lists of edits request, or the first list that is refused.
use Rattle.std.specs.Prelude.{ℕ, zero, suc, ◌≡◌, List, [], ◌∷◌, ◌≤◌, All, length, Ok, Err, ⊤}
use Rattle.edit_spec.specs.Edit.{LineEdit}
use Rattle.edit_spec.specs.Grammar.{Says}
use Rattle.edit_spec.specs.Editing.{edited, longest_input}

-- The bytes of a list of edits turn an input into the next one: they say edits, all of which are applied to it.
pub record Makes (list input next : List ℕ) : Type 0 where
  pub edits : List LineEdit
  pub said : Says list (Ok edits)
  pub done : edited edits input ≡ Ok next

-- What each of some lists makes, in order, the first of an input and each other of what the one before it made.
abbrev pub AreMade : List ℕ → List (List ℕ) → List (List ℕ) → Type 0
AreMade input [] [] = ⊤
AreMade input [] (next ∷ inputs) = ⊥
AreMade input (list ∷ lists) [] = ⊥
AreMade input (list ∷ lists) (next ∷ inputs) = Makes list input next × AreMade next lists inputs

-- The inputs of the rounds: the first input, and then what each list makes of the input before.
abbrev pub AreInputs : List ℕ → List (List ℕ) → List (List ℕ) → Type 0
AreInputs first lists [] = ⊥
AreInputs first lists (input ∷ inputs) = (input ≡ first) × AreMade first lists inputs

-- The inputs of the rounds of a rerun: what each list makes of the input before, or, if there is no list, the first
-- input itself.
abbrev pub AreRerunInputs : List ℕ → List (List ℕ) → List (List ℕ) → Type 0
AreRerunInputs first [] inputs = inputs ≡ first ∷ []
AreRerunInputs first (list ∷ lists) inputs = AreMade first (list ∷ lists) inputs

-- Inputs of which each is as short as an input may be.
abbrev pub AreShort : List (List ℕ) → Type 0
AreShort inputs = All (λ i. length i ≤ longest_input) inputs

-- Why a list of edits is refused, with the line's number: it encodes no edit, or its edit passes its bound.
pub data Refusal : Type 0 where
  BadLine : ℕ → Refusal
  OutOfRange : ℕ → Refusal

-- A list is refused for an input: for its first bad line, or, if there is none, for the first line whose edit passes
-- its bound.
abbrev pub Refuses : List ℕ → List ℕ → Refusal → Type 0
Refuses list input (BadLine number) = Says list (Err number)
Refuses list input (OutOfRange number) =
    (edits : List LineEdit) × Says list (Ok edits) × (edited edits input ≡ Err number)

-- The first list that is refused, by its place from 0 on, and why: each list before it makes an input.
abbrev pub IsFirstRefused : List ℕ → List (List ℕ) → ℕ → Refusal → Type 0
IsFirstRefused input [] place why = ⊥
IsFirstRefused input (list ∷ lists) zero why = Refuses list input why
IsFirstRefused input (list ∷ lists) (suc place) why =
    (next : List ℕ) × Makes list input next × IsFirstRefused next lists place why
