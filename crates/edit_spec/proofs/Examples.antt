-- Worked examples, on an input of the five bytes 1 to 5. The expected values follow by hand.
use Rattle.std.proofs.Common.{◌≡◌, ℕ, ◌<◌, List, [], ◌∷◌, ◌++◌, length, Ok, Err, inl, inr, refl, sym, subst, lit<, arith}
use Rattle.std.specs.Prelude.{codes, decimal}
use Rattle.std.specs.Fmt.{digits}
use Rattle.edit_spec.specs.Edit.{Set, Size, LineEdit}
use Rattle.edit_spec.specs.Grammar.{EncodeBytes, Encodes, IsEdit, Says, lines}
use Rattle.edit_spec.specs.Editing.{edited}
use Rattle.edit_spec.proofs.Encoding.{digits-decimal, same_around_space, other_word}

abbrev pub five : List ℕ
five = 1 ∷ 2 ∷ 3 ∷ 4 ∷ 5 ∷ []

-- `size 3` on line 1 and `set 2 fF` on line 2
abbrev pub cut_and_set : List LineEdit
cut_and_set = record { line = 1; edit = Size 3 } ∷ record { line = 2; edit = Set 2 (255 ∷ []) } ∷ []

-- letters may be upper or lower case
pub set_is_encoded : Encodes (codes "set 2 fF") (Set 2 (255 ∷ []))
unfolding digits
set_is_encoded = (lit< tt, lit< tt, codes "fF", (refl, refl, tt), refl)

-- an offset of six digits, and two bytes of other digits, the higher digit first
pub six_digits_are_encoded : Encodes (codes "set 123456 f0A1") (Set 123456 (240 ∷ 161 ∷ []))
unfolding digits
six_digits_are_encoded = (lit< tt, lit< tt, codes "f0A1", (refl, refl, (refl, refl, tt)), refl)

-- the largest number of a line has seven digits
pub seven_digits_are_encoded : Encodes (codes "size 9999999") (Size 9999999)
unfolding digits
seven_digits_are_encoded = (lit< tt, refl)

-- the number 0 is written as one digit
pub zero_is_encoded : Encodes (codes "size 0") (Size 0)
unfolding digits
zero_is_encoded = (lit< tt, refl)

-- empty lines are counted
pub list_is_said : Says (codes "\n\nsize 0\n") (Ok (record { line = 3; edit = Size 0 } ∷ []))
unfolding lines
list_is_said = ((refl, zero_is_encoded), tt)

-- a `set` without bytes is no edit
pub no_byte_is_no_edit : IsEdit (codes "set 7 ") → ⊥
unfolding digits
no_byte_is_no_edit (Set offset bytes, p) =
    let e : decimal offset ++ 32 ∷ p.2 ≡ decimal 7 ++ 32 ∷ [] = cc in
    let k =
    same_around_space (decimal offset) (decimal 7) p.2 [] (digits-decimal offset p.0) (digits-decimal 7 (lit< tt)) e in
    some_byte bytes p.1 (subst (λ ds. EncodeBytes ds bytes) k.1 p.3)
  where
    some_byte : (bytes : List ℕ) → 0 < length bytes → EncodeBytes [] bytes → ⊥
    some_byte [] some encoded = omega arith
    some_byte (byte ∷ bytes) some encoded = encoded
no_byte_is_no_edit (Size size, p) = other_word (codes "set 7 ") refl (sym p.1)

-- so its line is the bad one
pub no_byte_is_said : Says (codes "size 3\nset 7 \n") (Err 2)
unfolding lines digits
no_byte_is_said = inr ((Size 3, (lit< tt, refl)), inl (no_byte_is_no_edit, refl))

-- the third byte is ff, and the last two are cut off
pub third_byte_is_set : edited cut_and_set five ≡ Ok (1 ∷ 2 ∷ 255 ∷ [])
third_byte_is_set = refl

-- a length above the bound
pub too_long : edited (record { line = 1; edit = Size 1048577 } ∷ []) five ≡ Err 1
too_long = refl

-- offset 5 is the end of five bytes
pub set_at_the_end : edited (record { line = 1; edit = Set 5 (0 ∷ []) } ∷ []) five ≡ Err 1
set_at_the_end = refl

-- the bound is the length of the input after the line before
pub set_after_a_cut :
    edited (record { line = 1; edit = Size 3 } ∷ record { line = 2; edit = Set 3 (0 ∷ []) } ∷ []) five ≡ Err 2
set_after_a_cut = refl

-- an input grows by zeros
pub grown :
    edited (record { line = 1; edit = Size 3 } ∷ record { line = 2; edit = Size 6 } ∷ []) five
    ≡ Ok (1 ∷ 2 ∷ 3 ∷ 0 ∷ 0 ∷ 0 ∷ [])
grown = refl
