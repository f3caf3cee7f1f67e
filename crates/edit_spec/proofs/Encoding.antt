-- A line encodes at most one edit.
use Rattle.std.proofs.Common.{get_or, ◌≡◌, ℕ, ◌<◌, ◌/◌, ◌%◌, true, List, [], ◌∷◌, ◌++◌, refl, sym, ap, subst, arith}
use Rattle.std.specs.Prelude.{codes, decimal}
use Rattle.std.specs.Str.{all_ascii_digits}
use Rattle.std.specs.Char.{is_ascii_digit}
use Rattle.std.specs.Str.Parse.{digits_value}
use Rattle.std.proofs.lemmas.Bool.{and_parts}
use Rattle.std.proofs.lemmas.Str.Parse.{IsNumeralModel, numerals_by_value, tells_all_ascii_digits}
use Rattle.std.proofs.lemmas.Fmt.{digits_decimal, decimal_injective}
use Rattle.edit_spec.specs.Edit.{Edit, Set, Size}
use Rattle.edit_spec.specs.Grammar.{EncodeBytes, Encodes, number_limit}

-- texts of decimal digits, as std's lemmas on numerals see them
pub decimal_texts : IsNumeralModel (λ ds. all_ascii_digits ds ≡ true) (digits_value 10)
decimal_texts = numerals_by_value (λ ds. all_ascii_digits ds ≡ true) tells_all_ascii_digits

-- a number's encoding has digits alone
pub digits-decimal : (n : ℕ) → n < number_limit → all_ascii_digits (decimal n) ≡ true
digits-decimal n h = digits_decimal decimal_texts n (omega arith)

-- the first space ends the digits, so they and what follows are determined
pub same_around_space :
    (xs ys a b : List ℕ) → all_ascii_digits xs ≡ true → all_ascii_digits ys ≡ true → xs ++ 32 ∷ a ≡ ys ++ 32 ∷ b
    → (xs ≡ ys) × (a ≡ b)
same_around_space [] [] a b p q e = (refl, cc)
same_around_space [] (y ∷ ys) a b p q e =
    let is : y ≡ 32 = cc in
    let digit : is_ascii_digit y ≡ true = (and_parts (is_ascii_digit y) (all_ascii_digits ys) q).0 in
    let not : is_ascii_digit 32 ≡ true = subst (λ (c : ℕ). is_ascii_digit c ≡ true) is digit in
    cc
same_around_space (x ∷ xs) [] a b p q e =
    let is : x ≡ 32 = cc in
    let digit : is_ascii_digit x ≡ true = (and_parts (is_ascii_digit x) (all_ascii_digits xs) p).0 in
    let not : is_ascii_digit 32 ≡ true = subst (λ (c : ℕ). is_ascii_digit c ≡ true) is digit in
    cc
same_around_space (x ∷ xs) (y ∷ ys) a b p q e =
    let tails : xs ++ 32 ∷ a ≡ ys ++ 32 ∷ b = cc in
    let k =
    same_around_space xs ys a b (and_parts (is_ascii_digit x) (all_ascii_digits xs) p).1
    (and_parts (is_ascii_digit y) (all_ascii_digits ys) q).1 tails in
    (cc, k.1)

-- two digits encode at most one byte
one_byte : (a b : ℕ) → a / 16 ≡ b / 16 → a % 16 ≡ b % 16 → a ≡ b
one_byte a b high low = omega arith

-- digits encode at most one list of bytes
pub same_bytes : (digits a b : List ℕ) → EncodeBytes digits a → EncodeBytes digits b → a ≡ b
same_bytes [] [] [] p q = refl
same_bytes [] [] (y ∷ b) p q = absurd q
same_bytes [] (x ∷ a) b p q = absurd p
same_bytes (high ∷ []) [] b p q = absurd p
same_bytes (high ∷ []) (x ∷ a) b p q = absurd p
same_bytes (high ∷ low ∷ digits) [] b p q = absurd p
same_bytes (high ∷ low ∷ digits) (x ∷ a) [] p q = absurd q
same_bytes (high ∷ low ∷ digits) (x ∷ a) (y ∷ b) p q =
    let upper : x / 16 ≡ y / 16 = cc in
    let lower : x % 16 ≡ y % 16 = cc in
    let same = one_byte x y upper lower in
    let rest = same_bytes digits a b p.2 q.2 in
    cc

-- no line begins with both words: they differ in the second letter
pub other_word : {a b : List ℕ} (text : List ℕ) → codes "set " ++ a ≡ text → codes "size " ++ b ≡ text → ⊥
other_word text p q =
    let e : get_or text 1 0 ≡ 101 = ap (λ (t : List ℕ). get_or t 1 0) (sym p) in
    let i : get_or text 1 0 ≡ 105 = ap (λ (t : List ℕ). get_or t 1 0) (sym q) in
    omega arith

pub one_edit : (text : List ℕ) (a b : Edit) → Encodes text a → Encodes text b → a ≡ b
one_edit text (Set offset bytes) (Set at written) p q =
    let e : decimal offset ++ 32 ∷ p.2 ≡ decimal at ++ 32 ∷ q.2 = cc in
    let k = same_around_space (decimal offset) (decimal at) p.2 q.2 (digits-decimal offset p.0)
    (digits-decimal at q.0) e in
    let same_place = decimal_injective offset at (omega arith) (omega arith) k.0 in
    let same = same_bytes p.2 bytes written p.3 (subst (λ (ds : List ℕ). EncodeBytes ds written) (sym k.1) q.3) in
    cc
one_edit text (Set offset bytes) (Size size) p q = absurd (other_word text (sym p.4) (sym q.1))
one_edit text (Size size) (Set offset bytes) p q = absurd (other_word text (sym q.4) (sym p.1))
one_edit text (Size size) (Size other) p q =
    let e : decimal size ≡ decimal other = cc in
    let same = decimal_injective size other (omega arith) (omega arith) e in
    cc
