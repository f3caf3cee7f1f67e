-- A token encodes at most one thread.
use Rattle.std.proofs.Common.{◌≡◌, ◌≢◌, ℕ, ◌<◌, true, List, [], ◌∷◌, ◌++◌, length, inl, inr, refl, sym, subst, ◌∙◌, arith}
use Rattle.std.specs.Prelude.{decimal}
use Rattle.std.specs.List.{list_all}
use Rattle.std.specs.Char.{is_ascii_digit}
use Rattle.std.proofs.lemmas.Bool.{and_parts}
use Rattle.std.proofs.lemmas.Fmt.{digits_decimal, decimal_injective, decimal_nonempty}
use Rattle.guest_call.specs.declared.thread_number.TheConstants.{THREADS}
use Rattle.edit_list.proofs.Numerals.{decimal_texts}
use Rattle.schedule_list.specs.Schedule.{IsMark, IsEncoding, Encodes}

-- digits alone
abbrev pub AreDigits : List ℕ → Type 0
AreDigits ds = list_all is_ascii_digit ds ≡ true

-- a thread's number has digits alone
pub digits_of : (n : ℕ) → n < THREADS → AreDigits (decimal n)
digits_of n few = digits_decimal decimal_texts n (omega arith)

-- no mark begins with a digit
no_digit : (mark rest : List ℕ) (d : ℕ) → IsMark mark → is_ascii_digit d ≡ true → mark ≡ d ∷ rest → ⊥
no_digit mark rest d (inl none) digit e = cc
no_digit mark rest d (inr (inl same)) digit e =
    let is : d ≡ 61 = cc in
    let not : is_ascii_digit 61 ≡ true = subst (λ (c : ℕ). is_ascii_digit c ≡ true) is digit in
    cc
no_digit mark rest d (inr (inr plus)) digit e =
    let is : d ≡ 43 = cc in
    let not : is_ascii_digit 43 ≡ true = subst (λ (c : ℕ). is_ascii_digit c ≡ true) is digit in
    cc

-- the digits before a mark are determined
pub one_front :
    (xs ys a b : List ℕ) → AreDigits xs → AreDigits ys → IsMark a → IsMark b → xs ++ a ≡ ys ++ b
    → xs ≡ ys
one_front [] [] a b p q m n e = refl
one_front [] (y ∷ ys) a b p q m n e =
    absurd (no_digit a (ys ++ b) y m (and_parts (is_ascii_digit y) (list_all is_ascii_digit ys) q).0 e)
one_front (x ∷ xs) [] a b p q m n e =
    absurd (no_digit b (xs ++ a) x n (and_parts (is_ascii_digit x) (list_all is_ascii_digit xs) p).0 (sym e))
one_front (x ∷ xs) (y ∷ ys) a b p q m n e =
    let tails : xs ++ a ≡ ys ++ b = cc in
    let rest =
    one_front xs ys a b (and_parts (is_ascii_digit x) (list_all is_ascii_digit xs) p).1
    (and_parts (is_ascii_digit y) (list_all is_ascii_digit ys) q).1 m n tails in
    let first : x ≡ y = cc in
    cc

-- numbers of one encoding are one
pub one_number : (m n : ℕ) → m < 10000000 → n < THREADS → decimal m ≡ decimal n → m ≡ n
one_number m n small few e = decimal_injective m n (omega arith) (omega arith) e

pub one_thread : (token : List ℕ) (a b : ℕ) → Encodes token a → Encodes token b → a ≡ b
one_thread token a b p q =
    one_number a b (let few : a < THREADS = p.0 in omega arith) q.0
    (one_front (decimal a) (decimal b) p.1 q.1 (digits_of a p.0) (digits_of b q.0) p.2 q.2 (sym p.3 ∙ q.3))

-- the part of a token before its mark, if that part is digits
abbrev pub IsFront : List ℕ → List ℕ → Type 0
IsFront token front =
    (digits mark : List ℕ) → list_all is_ascii_digit digits ≡ true → 0 < length digits → IsMark mark
    → token ≡ digits ++ mark
    → front ≡ digits

-- a token whose front is no thread's number encodes no thread
pub no_thread :
    (token front : List ℕ) → IsFront token front → ((n : ℕ) → n < THREADS → front ≢ decimal n) → IsEncoding token
    → ⊥
no_thread token front is none (thread, encoded) =
    none thread encoded.0
    (is (decimal thread) encoded.1 (digits_of thread encoded.0)
    (decimal_nonempty thread (let few : thread < THREADS = encoded.0 in omega arith))
    encoded.2 encoded.3)
