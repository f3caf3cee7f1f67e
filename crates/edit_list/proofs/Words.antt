-- The parts of a line.
use Rattle.std.proofs.Common.{◌≡◌, ℕ, ◌<◌, ◌==◌, true, false, List, [], ◌∷◌, ◌++◌, length, refl, sym, subst, arith}
use Rattle.std.specs.Prelude.{codes, decimal}
use Rattle.std.specs.List.{All, list_all}
use Rattle.std.specs.Char.{is_ascii_digit}
use Rattle.std.proofs.lemmas.Bool.{and_parts}
use Rattle.std.proofs.lemmas.Bool.Decides.{nat_tests}
use Rattle.std.proofs.lemmas.List.Elements.{All-cons, All-head, All-tail}
use Rattle.std.proofs.lemmas.Fmt.{digits_decimal}
use Rattle.edit_spec.specs.Edit.{Set, Size}
use Rattle.edit_spec.specs.Grammar.{EncodeBytes, IsEdit, number_limit}
use Rattle.edit_spec.proofs.Encoding.{other_word}
use Rattle.edit_list.specs.declared.line.LineFault.{LineFault}
use Rattle.edit_list.specs.declared.line.LineFault.TheVariants as fault
use Rattle.edit_list.specs.Refusals.{WhyNoBytes, WhyNoEdit}
use Rattle.edit_list.proofs.Numerals.{decimal_texts}

-- a byte isn't a space
abbrev pub NoSpace : ℕ → Type 0
NoSpace b = (b == 32) ≡ false

-- digits have no space among them
no_space : (ds : List ℕ) → list_all is_ascii_digit ds ≡ true → All NoSpace ds
no_space [] h = λ k d within. absurd (omega arith)
no_space (c ∷ cs) h =
    let parts = and_parts (is_ascii_digit c) (list_all is_ascii_digit cs) h in
    All-cons NoSpace c cs (grind (arith, nat_tests, parts.0)) (no_space cs parts.1)

-- a number's encoding has no space in it
pub no_space-decimal : (n : ℕ) → n < number_limit → All NoSpace (decimal n)
no_space-decimal n small = no_space (decimal n) (digits_decimal decimal_texts n (omega arith))

-- the first space is found again, with the bytes before and after it
pub around_first_space :
    (xs ys a b : List ℕ) → All NoSpace xs → All NoSpace ys → xs ++ 32 ∷ a ≡ ys ++ 32 ∷ b
    → (xs ≡ ys) × (a ≡ b)
around_first_space [] [] a b p q e = (refl, cc)
around_first_space [] (y ∷ ys) a b p q e =
    let is : y ≡ 32 = cc in
    let not : (32 == 32) ≡ false = subst NoSpace is (All-head NoSpace y ys q) in
    cc
around_first_space (x ∷ xs) [] a b p q e =
    let is : x ≡ 32 = cc in
    let not : (32 == 32) ≡ false = subst NoSpace is (All-head NoSpace x xs p) in
    cc
around_first_space (x ∷ xs) (y ∷ ys) a b p q e =
    let tails : xs ++ 32 ∷ a ≡ ys ++ 32 ∷ b = cc in
    let k = around_first_space xs ys a b (All-tail NoSpace x xs p) (All-tail NoSpace y ys q) tails in
    (cc, k.1)

-- if there is no space, none is found
pub space_is_there : (xs ys a : List ℕ) → All NoSpace xs → xs ≡ ys ++ 32 ∷ a → ⊥
space_is_there [] [] a p e = cc
space_is_there [] (y ∷ ys) a p e = cc
space_is_there (x ∷ xs) [] a p e =
    let is : x ≡ 32 = cc in
    let not : (32 == 32) ≡ false = subst NoSpace is (All-head NoSpace x xs p) in
    cc
space_is_there (x ∷ xs) (y ∷ ys) a p e =
    let tails : xs ≡ ys ++ 32 ∷ a = cc in space_is_there xs ys a (All-tail NoSpace x xs p) tails

-- what a line that begins with `set ` encodes
pub set_line : (rest : List ℕ) → IsEdit (codes "set " ++ rest)
    → (offset : ℕ) × (bytes : List ℕ) × (digits : List ℕ) × (offset < number_limit) × (0 < length bytes)
    × EncodeBytes digits bytes × (rest ≡ decimal offset ++ 32 ∷ digits)
set_line rest (Set offset bytes, s) = (offset, bytes, s.2, s.0, s.1, s.3, cc)
set_line rest (Size size, s) = absurd (other_word (codes "set " ++ rest) refl (sym s.1))

-- why a line that begins with `set ` gave no edit if its digits gave no bytes
pub no_set_without_bytes : (rest digits : List ℕ) (answer : LineFault) → WhyNoBytes digits answer
    → (IsEdit (codes "set " ++ rest) → (bytes : List ℕ) × (0 < length bytes) × EncodeBytes digits bytes)
    → WhyNoEdit (codes "set " ++ rest) answer
no_set_without_bytes rest digits fault.Bad why from = λ is. let found = from is in why found.0 found.1 found.2
no_set_without_bytes rest digits fault.NoMemory why from = tt
