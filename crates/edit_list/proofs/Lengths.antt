-- Room for edits, and what they do to the first bytes of a buffer.
use Rattle.std.proofs.Common.{◌≡◌, ◌≤◌, ◌<◌, ℕ, zero, suc, slice_index_or, Bool, true, false, List, [], ◌∷◌, length, drop, Some, Err, if◌then◌else◌, refl, ap, ◌∙◌, arith, inl, inr, ◌⊎◌}
use Rattle.std.proofs.lemmas.Grind.{common_steps}
use Rattle.std.proofs.lemmas.Bool.Decides.{nat_tests}
use Rattle.edit_spec.specs.Edit.{Edit, Set, Size, LineEdit}
use Rattle.edit_spec.specs.Editing.{edited, edited_once, is_out_of_range}
use Rattle.edit_list.specs.declared.apply.ApplyError.{ApplyError}
use Rattle.edit_list.specs.declared.apply.ApplyError.TheVariants.{OutOfRange, NoMemory}
use Rattle.edit_list.specs.Lengths.{least, leasts, lesser, new_length, line_out_of_range}
use Rattle.edit_list.specs.Refusals.{WhyNotApplied, WhyNoLength}

-- how long an edited input is
pub length-edited_once :
    (edit : Edit) (input : List ℕ) → is_out_of_range edit (length input) ≡ false
    → length (edited_once edit input) ≡ new_length edit (length input)
length-edited_once (Set offset bytes) input within = grind (arith, common_steps, nat_tests, within)
length-edited_once (Size size) input within = grind (arith, common_steps, nat_tests, within)

-- which branch a choice between lines took
chosen :
    {A : Type 0} (b : Bool) (x y z : A) → (if b then x else y) ≡ z
    → ((b ≡ true) × (x ≡ z)) ⊎ ((b ≡ false) × (y ≡ z))
chosen true x y z e = inl (refl, e)
chosen false x y z e = inr (refl, e)

-- lengths alone determine which line passes its bound
pub out_of_range_is :
    (edits : List LineEdit) (input : List ℕ) (number : ℕ) → line_out_of_range edits (length input) ≡ Some number
    → edited edits input ≡ Err number
out_of_range_is [] input number is = cc
out_of_range_is (e ∷ edits) input number is =
    elim (chosen (is_out_of_range e.edit (length input)) (Some e.line)
    (line_out_of_range edits (new_length e.edit (length input))) (Some number) is) [
      | inl out ↦ rw out.0 (let same : e.line ≡ number = cc in ap (λ (n : ℕ). Err n) same)
      | inr within ↦
          rw within.0
          (out_of_range_is edits (edited_once e.edit input) number
          (ap (line_out_of_range edits) (length-edited_once e.edit input within.0) ∙ within.1))
    ]

pub not_applied :
    (edits : List LineEdit) (input : List ℕ) (error : ApplyError) → WhyNoLength edits (length input) error
    → WhyNotApplied edits input error
not_applied edits input (OutOfRange number) why = out_of_range_is edits input number why
not_applied edits input NoMemory why = absurd why

-- no least length is greater than the most
pub least-most : (edits : List LineEdit) (most : ℕ) → least edits most ≤ most
least-most [] most = omega arith
least-most (e ∷ edits) most = lesser-under e.edit (least edits most) most (least-most edits most)
  where
    lesser-under : (edit : Edit) (n most : ℕ) → n ≤ most → lesser edit n ≤ most
    lesser-under (Set offset bytes) n most under = under
    lesser-under (Size size) n most under = grind (arith, common_steps)

-- the least lengths, one by one
pub first-least : (edits : List LineEdit) (most : ℕ) → slice_index_or (leasts edits most) 0 most ≡ least edits most
first-least [] most = refl
first-least (e ∷ edits) most = refl

pub length-leasts : (edits : List LineEdit) (most : ℕ) → length (leasts edits most) ≡ length edits
length-leasts [] most = refl
length-leasts (e ∷ edits) most = ap (λ (n : ℕ). suc n) (length-leasts edits most)

pub get_or-leasts :
    (edits : List LineEdit) (most k d : ℕ) → k < length edits
    → slice_index_or (leasts edits most) k d ≡ least (drop k edits) most
get_or-leasts [] most k d under = absurd (omega arith)
get_or-leasts (e ∷ edits) most zero d under = refl
get_or-leasts (e ∷ edits) most (suc k) d under = get_or-leasts edits most k d (omega arith)
