-- A text is a numeral exactly if it is the decimal encoding of a small number.
use Rattle.std.proofs.Common.{Bool, ◌&&◌, ◌||◌, ◌==◌, not, nat_lt, nat_le, slice_index, inl, inr, ◌≡◌, ℕ, ◌+◌, ◌-◌, ◌*◌, ◌<◌, ◌≤◌, true, List, length, get_or, take, refl, sym, ap, arith, rules}
use Rattle.std.specs.Prelude.{decimal}
use Rattle.std.specs.List.{list_all}
use Rattle.std.specs.Int.{IsInRange}
use Rattle.std.specs.Char.{is_ascii_digit}
use Rattle.std.specs.Str.Parse.{digits_value}
use Rattle.std.proofs.lemmas.Bool.{and_parts, cases_lt}
use Rattle.std.proofs.lemmas.Bool.Decides.{nat_tests}
use Rattle.std.proofs.lemmas.Str.{digit_value_digit}
use Rattle.std.proofs.lemmas.Str.Parse.{IsNumeralModel, numerals_by_value, digits_value-take-le, digits_value_short, digit_at}
use Rattle.std.proofs.lemmas.Int.Digits.{digits_value_more}
use Rattle.std.proofs.lemmas.Fmt.{digits_decimal, decimal-digits_value, decimal_nonempty, decimal_digit, length-decimal-le, first_decimal}
use Rattle.edit_spec.specs.Grammar.{number_limit}
use Rattle.edit_list.specs.Numerals.{is_numeral}

-- texts of decimal digits, as std's lemmas on numerals see them
pub decimal_texts : IsNumeralModel (λ ds. list_all is_ascii_digit ds ≡ true) (digits_value 10)
decimal_texts = numerals_by_value (λ ds. list_all is_ascii_digit ds ≡ true) (search rules)

-- each byte of such a text is a digit
pub digit_there :
    (ds : List ℕ) (i : ℕ) → list_all is_ascii_digit ds ≡ true → i < length ds
    → IsInRange 48 57 (get_or ds i 0)
digit_there ds i all within = digit_at ds i (decimal_texts.to ds all) within

-- the number so far has at most seven digits
pub small_so_far :
    (ds : List ℕ) (i : ℕ) → list_all is_ascii_digit ds ≡ true → length ds ≤ 7
    → digits_value 10 (take i ds) < 10000000
small_so_far ds i all few =
    omega (arith, digits_value-take-le 10 ds i (omega arith), digits_value_short decimal_texts ds 7 all few)

-- one more digit
pub one_more :
    (ds : List ℕ) (i : ℕ) → list_all is_ascii_digit ds ≡ true → i < length ds
    → digits_value 10 (take (i + 1) ds) ≡ digits_value 10 (take i ds) * 10 + (get_or ds i 0 - 48)
one_more ds i all within =
    let range = digit_there ds i all within in
    let value = digit_value_digit (get_or ds i 0) range in
    omega (arith, digits_value_more 10 ds i within, value)

-- four tests that passed
ands : (a b c d : Bool) → a ≡ true → b ≡ true → c ≡ true → d ≡ true → (a && b && c && d) ≡ true
ands a b c d p q r s = rw (p, q, r, s) refl

-- a numeral is the encoding of its number
pub numeral_is :
    (ds : List ℕ) → is_numeral ds ≡ true
    → (digits_value 10 ds < number_limit) × (ds ≡ decimal (digits_value 10 ds))
numeral_is ds is =
    let whole =
    and_parts (nat_lt 0 (length ds) && nat_le (length ds) 7 && (not (slice_index ds 0 == 48) || length ds == 1))
    (list_all is_ascii_digit ds) is in
    let front =
    and_parts (nat_lt 0 (length ds) && nat_le (length ds) 7) (not (slice_index ds 0 == 48) || length ds == 1) whole.0 in
    let sizes = and_parts (nat_lt 0 (length ds)) (nat_le (length ds) 7) front.0 in
    let some : 0 < length ds = grind (arith, nat_tests, sizes.0) in
    let few : length ds ≤ 7 = grind (arith, nat_tests, sizes.1) in
    let lead : get_or ds 0 0 ≡ 48 → length ds ≡ 1 =
    λ zero_first. single (get_or ds 0 0) (length ds) front.1 zero_first in
    let small = digits_value_short decimal_texts ds 7 whole.1 few in
    (omega arith, sym (decimal-digits_value decimal_texts ds whole.1 some lead (omega arith)))
  where
    single : (first count : ℕ) → (not (first == 48) || count == 1) ≡ true → first ≡ 48 → count ≡ 1
    single first count h is = grind (arith, nat_tests, h)

-- a number's encoding has no leading zero, except that of 0
single_zero : (n : ℕ) → n < number_limit → (not (slice_index (decimal n) 0 == 48) || length (decimal n) == 1) ≡ true
single_zero n small =
    elim (cases_lt 0 n) [
      | inl some ↦ let first = first_decimal n some (omega arith) in grind (arith, nat_tests, first)
      | inr none ↦ let digit =
          decimal_digit n (omega arith) in let count : length (decimal n) ≡ 1 = ap length digit in
          grind (arith, nat_tests, count)
    ]

-- the encoding of a small number is a numeral
pub is_numeral-decimal : (n : ℕ) → n < number_limit → is_numeral (decimal n) ≡ true
is_numeral-decimal n small =
    let some = decimal_nonempty n (omega arith) in
    let few = length-decimal-le 7 n (omega arith) (omega arith) (omega arith) in
    let digits = digits_decimal decimal_texts n (omega arith) in
    ands (nat_lt 0 (length (decimal n))) (nat_le (length (decimal n)) 7)
    (not (slice_index (decimal n) 0 == 48) || length (decimal n) == 1) (list_all is_ascii_digit (decimal n))
    (grind (arith, nat_tests, some)) (grind (arith, nat_tests, few)) (single_zero n small) digits
