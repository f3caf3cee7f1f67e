-- How long an edited input is, and edits in two parts.
use Rattle.std.proofs.Common.{suc, ◌≡◌, ◌≤◌, ℕ, Bool, true, false, List, [], ◌∷◌, ◌++◌, length, map, Ok, Err, refl, ap, subst, inl, inr, ◌⊎◌, arith, if◌then◌else◌}
use Rattle.std.specs.List.{Contains}
use Rattle.std.proofs.lemmas.Grind.{common_steps}
use Rattle.std.proofs.lemmas.Bool.Decides.{nat_tests}
use Rattle.machine_spec.specs.declared.TheConstants.{MOST_INPUT_BYTES}
use Rattle.edit_spec.specs.Edit.{Edit, Set, Size, LineEdit}
use Rattle.edit_spec.specs.Editing.{is_out_of_range, edited_once, edited}

-- which branch a choice between answers took
pub chosen :
    {A : Type 0} (b : Bool) (x y z : A) → (if b then x else y) ≡ z → ((b ≡ true) × (x ≡ z)) ⊎ ((b ≡ false) × (y ≡ z))
chosen true x y z e = inl (refl, e)
chosen false x y z e = inr (refl, e)

-- an input that isn't too long isn't too long after one edit
once_is_short :
    (edit : Edit) (input : List ℕ) → length input ≤ MOST_INPUT_BYTES → is_out_of_range edit (length input) ≡ false
    → length (edited_once edit input) ≤ MOST_INPUT_BYTES
once_is_short (Set offset bytes) input short within = grind (arith, common_steps, nat_tests, within)
once_is_short (Size size) input short within = grind (arith, common_steps, nat_tests, within)

pub stays_short :
    (edits : List LineEdit) (input after : List ℕ) → length input ≤ MOST_INPUT_BYTES → edited edits input ≡ Ok after
    → length after ≤ MOST_INPUT_BYTES
stays_short [] input after short is =
    let same : input ≡ after = cc in subst (λ (l : List ℕ). length l ≤ MOST_INPUT_BYTES) same short
stays_short (e ∷ edits) input after short is =
    elim (chosen (is_out_of_range e.edit (length input)) (Err e.line) (edited edits (edited_once e.edit input))
    (Ok after) is) [
      | inl out ↦ absurd (let no : Err e.line ≡ Ok after = out.1 in cc)
      | inr within ↦ stays_short edits (edited_once e.edit input) after
          (once_is_short e.edit input short within.0) within.1
    ]

pub in_two_parts :
    (first second : List LineEdit) (input between : List ℕ) → edited first input ≡ Ok between
    → edited (first ++ second) input ≡ edited second between
in_two_parts [] second input between is = ap (edited second) (let same : input ≡ between = cc in same)
in_two_parts (e ∷ first) second input between is =
    elim (chosen (is_out_of_range e.edit (length input)) (Err e.line) (edited first (edited_once e.edit input))
    (Ok between) is) [
      | inl out ↦ absurd (let no : Err e.line ≡ Ok between = out.1 in cc)
      | inr within ↦ rw within.0 (in_two_parts first second (edited_once e.edit input) between within.1)
    ]

pub refused_there :
    (edits : List LineEdit) (input : List ℕ) (number : ℕ) → edited edits input ≡ Err number
    → Contains (map (λ e. e.line) edits) number
refused_there [] input number is = cc
refused_there (e ∷ edits) input number is =
    elim (chosen (is_out_of_range e.edit (length input)) (Err e.line) (edited edits (edited_once e.edit input))
    (Err number) is) [
      | inl out ↦ (0, omega arith, (let same : e.line ≡ number = cc in same))
      | inr within ↦ let there = refused_there edits (edited_once e.edit input) number within.1 in
          (suc there.0, omega arith, there.2)
    ]
