-- Which of several refusals is the first.
use Rattle.std.proofs.Common.{◌≡◌, List, [], ◌∷◌, ◌++◌, Option, Some, None, refl, ap}
use Rattle.elf_spec.specs.declared.Refusal.{Refusal}
use Rattle.elf_spec.specs.Refusals.{first_given}

-- a row that gives no refusal is skipped
pub skip :
    (row : Option Refusal) (rest : List (Option Refusal)) → row ≡ None
    → first_given (row ∷ rest) ≡ first_given rest
skip row rest none = ap (λ o. first_given (o ∷ rest)) none

-- if a row gives a refusal, that is the answer
pub stop :
    (row : Option Refusal) (rest : List (Option Refusal)) (refusal : Refusal) → row ≡ Some refusal
    → first_given (row ∷ rest) ≡ Some refusal
stop row rest refusal is = ap (λ o. first_given (o ∷ rest)) is

-- the last row is the answer
pub last : (row : Option Refusal) → first_given (row ∷ []) ≡ row
last None = refl
last (Some refusal) = refl

-- rows in two parts
pub skip_all :
    (rows rest : List (Option Refusal)) → first_given rows ≡ None
    → first_given (rows ++ rest) ≡ first_given rest
skip_all [] rest none = refl
skip_all (None ∷ rows) rest none = skip_all rows rest none
skip_all (Some refusal ∷ rows) rest none = absurd (cc)

pub stop_within :
    (rows rest : List (Option Refusal)) (refusal : Refusal) → first_given rows ≡ Some refusal
    → first_given (rows ++ rest) ≡ Some refusal
stop_within [] rest refusal is = absurd (cc)
stop_within (None ∷ rows) rest refusal is = stop_within rows rest refusal is
stop_within (Some other ∷ rows) rest refusal is = is
