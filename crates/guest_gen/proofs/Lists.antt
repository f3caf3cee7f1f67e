-- The list of edits of a number encodes its edit.
use Rattle.std.proofs.Common.{◌≡◌, ℕ, ◌<◌, ◌/◌, ◌%◌, ◌==◌, true, false, List, [], ◌∷◌, ◌++◌, All, Some, Ok, refl, sym, ap, subst, inl, inr, lit<, arith}
use Rattle.std.specs.Prelude.{decimal, slice_index}
use Rattle.std.specs.Str.{all_ascii_digits}
use Rattle.std.specs.List.{enumerate_from, filter}
use Rattle.std.specs.Char.{is_ascii_digit}
use Rattle.std.proofs.lemmas.Bool.{and_parts, cases_eq}
use Rattle.std.proofs.lemmas.Bool.Decides.{nat_tests}
use Rattle.std.proofs.lemmas.List.Elements.{All-cons, All-append, All-nil}
use Rattle.std.proofs.lemmas.List.Splits.{slice_split_none}
use Rattle.hex.specs.Hex.{encode_with, encode_lower, lower_digits, hex_digit_value}
use Rattle.hex.proofs.HexLemmas.{IsDigits-lower_digits}
use Rattle.edit_spec.specs.Grammar.{newline, space, EncodeBytes, Encodes, Line, lines, is_filled, Says, EncodeAll}
use Rattle.edit_spec.proofs.Encoding.{digits-decimal}
use Rattle.guest_gen.specs.Generated.{place_of, byte_of, edit_of, list_of, edits_of}

-- a byte that ends no line
abbrev InLine : ℕ → Type 0
InLine b = (b == newline) ≡ false

-- digits end no line
in_line-digits : (ds : List ℕ) → all_ascii_digits ds ≡ true → All InLine ds
in_line-digits [] digits = All-nil InLine
in_line-digits (d ∷ ds) digits =
    let parts = and_parts (is_ascii_digit d) (all_ascii_digits ds) digits in
    All-cons InLine d ds (grind (arith, nat_tests, parts.0)) (in_line-digits ds parts.1)

-- nor do hexadecimal digits
newline-no_digit : (d : ℕ) → hex_digit_value newline ≡ Some d → ⊥
newline-no_digit d is = cc

in_line-hex : (c d : ℕ) → hex_digit_value c ≡ Some d → InLine c
in_line-hex c d is =
    elim (cases_eq c newline) [
      | inl same ↦ absurd (newline-no_digit d (subst (λ (x : ℕ). hex_digit_value x ≡ Some d) same is))
      | inr other ↦ grind (arith, nat_tests, other)
    ]

-- the two digits of a byte
encode-byte : (byte : ℕ) → byte < 256 → EncodeBytes (encode_lower (byte ∷ [])) (byte ∷ [])
unfolding encode_with
encode-byte byte small =
    (IsDigits-lower_digits (byte / 16) (omega arith), IsDigits-lower_digits (byte % 16) (omega arith), tt)

in_line-byte : (byte : ℕ) → byte < 256 → All InLine (encode_lower (byte ∷ []))
unfolding encode_with
in_line-byte byte small =
    let high = slice_index lower_digits (byte / 16) in
    let low = slice_index lower_digits (byte % 16) in
    All-cons InLine high (low ∷ []) (in_line-hex high (byte / 16) (IsDigits-lower_digits (byte / 16) (omega arith)))
    (All-cons InLine low [] (in_line-hex low (byte % 16) (IsDigits-lower_digits (byte % 16) (omega arith)))
    (All-nil InLine))

-- a text without a newline is one line
one_line :
    (first : ℕ) (rest : List ℕ) → All InLine (first ∷ rest)
    → lines (first ∷ rest) ≡ (let l : Line = (1, first ∷ rest) in l) ∷ []
unfolding lines
one_line first rest none =
    ap (λ (pieces : List (List ℕ)). filter (λ line. is_filled line.1) (enumerate_from 1 pieces))
    (slice_split_none (λ byte. byte == newline) (first ∷ rest) none)

-- the list's text is one line
in_line-list : (number : ℕ) → All InLine (list_of number)
in_line-list number =
    let digits = encode_lower (byte_of number ∷ []) in
    let back = decimal (place_of number) ++ space ∷ digits in
    let small : place_of number < 10000000 = omega arith in
    let behind =
    All-append InLine (decimal (place_of number)) (space ∷ digits)
    (in_line-digits (decimal (place_of number)) (digits-decimal (place_of number) small))
    (All-cons InLine space digits refl (in_line-byte (byte_of number) (omega arith))) in
    All-cons InLine 115 (101 ∷ 116 ∷ 32 ∷ back) refl
    (All-cons InLine 101 (116 ∷ 32 ∷ back) refl
    (All-cons InLine 116 (32 ∷ back) refl (All-cons InLine 32 back refl behind)))

-- and encodes the edit
list-encodes : (number : ℕ) → Encodes (list_of number) (edit_of number)
list-encodes number = (
  omega arith,
  lit< tt,
  encode_lower (byte_of number ∷ []),
  encode-byte (byte_of number) (omega arith),
  refl,
)

pub list-says : (number : ℕ) → Says (list_of number) (Ok (edits_of number))
list-says number =
    let back = decimal (place_of number) ++ space ∷ encode_lower (byte_of number ∷ []) in
    subst (λ (ls : List Line). EncodeAll ls (edits_of number))
    (sym (one_line 115 (101 ∷ 116 ∷ 32 ∷ back) (in_line-list number)))
    ((refl, list-encodes number), tt)
