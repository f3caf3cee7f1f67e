-- How long inputs are, and how they are made, value by value.
use Rattle.std.proofs.Common.{◌≡◌, ℕ, zero, suc, ◌+◌, ◌-◌, ◌<◌, false, List, [], ◌∷◌, ◌++◌, length, map, take, drop, refl, sym, ap, ◌∙◌, arith, append_assoc}
use Rattle.std.proofs.lemmas.Bool.Decides.{nat_tests}
use Rattle.std.proofs.lemmas.Grind.{common_steps}
use Rattle.std.proofs.lemmas.List.{length-map, append-nil}
use Rattle.edit_spec.specs.Editing.{is_out_of_range}
use Rattle.guest_gen.specs.declared.TheConstants.{INPUT_BYTES}
use Rattle.guest_gen.specs.Generated.{value_after, values_after, highest_byte, input_of, place_of, byte_of, edit_of, next_of}

-- how many values are made
length-values_after : (count value : ℕ) → length (values_after count value) ≡ count
unfolding values_after
length-values_after zero value = refl
length-values_after (suc count) value = ap (λ (n : ℕ). suc n) (length-values_after count (value_after value))

pub length-input_of : (number : ℕ) → length (input_of number) ≡ INPUT_BYTES
length-input_of number = length-map (values_after INPUT_BYTES number) highest_byte ∙ length-values_after INPUT_BYTES number

-- the edited byte exists
pub place-inside : (number : ℕ) → place_of number < length (input_of number)
place-inside number = let count = length-input_of number in omega arith

-- a byte written over another keeps the length
length-written :
    (place byte : ℕ) (input : List ℕ) → place < length input
    → length (take place input ++ byte ∷ [] ++ drop (place + 1) input) ≡ length input
length-written place byte input inside = grind (arith, common_steps)

pub length-next_of : (number : ℕ) → length (next_of number) ≡ INPUT_BYTES
length-next_of number =
    length-written (place_of number) (byte_of number) (input_of number) (place-inside number) ∙ length-input_of number

-- the edit is within its bounds
pub edit-in_range : (number : ℕ) → is_out_of_range (edit_of number) (length (input_of number)) ≡ false
edit-in_range number = let inside = place-inside number in grind (arith, nat_tests)

-- the first of some values, and those after it
first_value :
    (count value : ℕ)
    → map highest_byte (values_after (suc count) value)
    ≡ highest_byte (value_after value) ∷ map highest_byte (values_after count (value_after value))
unfolding values_after
first_value count value = refl

-- one more byte was made
pub one_byte_more :
    (left value : ℕ) (made whole : List ℕ) → 0 < left → made ++ map highest_byte (values_after left value) ≡ whole
    → (made ++ highest_byte (value_after value) ∷ []) ++ map highest_byte (values_after (left - 1) (value_after value))
    ≡ whole
one_byte_more zero value made whole some e = absurd (omega arith)
one_byte_more (suc count) value made whole some e =
    let same : suc count - 1 ≡ count = omega arith in
    rw same
    (append_assoc made (highest_byte (value_after value) ∷ []) (map highest_byte (values_after count (value_after value)))
    ∙ ap (λ (l : List ℕ). made ++ l) (sym (first_value count value)) ∙ e)

-- the same, as the loop counts
pub byte_made :
    (count n value next byte : ℕ) (made after whole : List ℕ) → n < count → next ≡ value_after value
    → byte ≡ highest_byte next → after ≡ made ++ byte ∷ []
    → made ++ map highest_byte (values_after (count - n) value) ≡ whole
    → after ++ map highest_byte (values_after (count - (n + 1)) next) ≡ whole
byte_made count n value next byte made after whole more is top pushed e =
    let fewer : count - (n + 1) ≡ count - n - 1 = omega arith in
    let left : 0 < count - n = omega arith in
    rw (pushed, top, is, fewer) (one_byte_more (count - n) value made whole left e)

-- no byte remains to be made
none_left : (value : ℕ) (made : List ℕ) → made ++ map highest_byte (values_after 0 value) ≡ made
unfolding values_after
none_left value made = append-nil made

pub all_made :
    (left value : ℕ) (made whole : List ℕ) → left ≡ 0 → made ++ map highest_byte (values_after left value) ≡ whole
    → made ≡ whole
all_made left value made whole none e =
    sym (none_left value made)
    ∙ ap (λ (n : ℕ). made ++ map highest_byte (values_after n value)) (sym none) ∙ e
