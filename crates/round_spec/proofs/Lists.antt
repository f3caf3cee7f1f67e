-- Facts of lists of thread numbers: the first of them, those that pass a test, and the least of a measure.
use Rattle.std.proofs.Common.{◌≡◌, ◌<◌, ◌≤◌, ◌+◌, ℕ, zero, suc, Bool, true, false, ◌||◌, eqb, cond, List, [], ◌∷◌, length, map, Some, is_some, replicate, get_or, set, refl, sym, ◌∙◌, subst, inl, inr, arith}
use Rattle.std.proofs.lemmas.Bool.{eq-eqb, cases_lt, cases_eq}
use Rattle.std.specs.List.{AllByRecursion, filter, list_any, range_with_len}
use Rattle.machine_spec.specs.Machine.{Hart, hart_in}
use Rattle.machine_spec.specs.Choice.{least}
use Rattle.round_spec.specs.Choice.{first_of, least_by}

-- there is a first of those that pass if any passes
pub some-filter : (p : ℕ → Bool) (xs : List ℕ) → is_some (first_of (filter p xs)) ≡ list_any p xs
some-filter p [] = refl
some-filter p (x ∷ xs) =
    elim (p x) as (λ b. is_some (first_of (cond b (x ∷ filter p xs) (filter p xs))) ≡ (b || list_any p xs))
    [ true ↦ refl | false ↦ some-filter p xs ]

-- a test of thread numbers that is a test of the harts
pub any-range :
    (p : ℕ → Bool) (q : Hart → Bool) (hs : List Hart) (a : ℕ)
    → ((i k : ℕ) → a + i ≡ k → p k ≡ q (hart_in hs i))
    → list_any p (range_with_len a (length hs)) ≡ list_any q hs
any-range p q [] a same = refl
any-range p q (h ∷ hs) a same =
    rw (same 0 a (omega arith), any-range p q hs (a + 1) (λ i k is. same (suc i) k (omega arith))) refl

-- what holds of each holds of the first
pub first-all : (P : ℕ → Type 0) (xs : List ℕ) (x : ℕ) → AllByRecursion P xs → first_of xs ≡ Some x → P x
first-all P [] x all is = cc
first-all P (y ∷ ys) x all is = let same : y ≡ x = cc in subst P same all.0

-- what holds of all holds of those that pass
pub all-filter : (P : ℕ → Type 0) (p : ℕ → Bool) (xs : List ℕ) → AllByRecursion P xs → AllByRecursion P (filter p xs)
all-filter P p [] all = tt
all-filter P p (x ∷ xs) all =
    elim (p x) as (λ b. AllByRecursion P (cond b (x ∷ filter p xs) (filter p xs)))
    [ true ↦ (all.0, all-filter P p xs all.1) | false ↦ all-filter P p xs all.1 ]

-- those that are kept pass the test
pub all-pass : (p : ℕ → Bool) (xs : List ℕ) → AllByRecursion (λ x. p x ≡ true) (filter p xs)
all-pass p [] = tt
all-pass p (x ∷ xs) = here (p x) refl (all-pass p xs)
  where
    here :
        (b : Bool) → p x ≡ b → AllByRecursion (λ y. p y ≡ true) (filter p xs)
        → AllByRecursion (λ y. p y ≡ true) (cond b (x ∷ filter p xs) (filter p xs))
    here true is rest = (is, rest)
    here false is rest = rest

-- what holds of those that are kept holds of each that passes
pub all-unfiltered :
    (P : ℕ → Type 0) (p : ℕ → Bool) (xs : List ℕ)
    → AllByRecursion P (filter p xs) → AllByRecursion (λ x. p x ≡ true → P x) xs
all-unfiltered P p [] all = tt
all-unfiltered P p (x ∷ xs) all = here (p x) refl (all-unfiltered P p xs) all
  where
    here :
        (b : Bool) → p x ≡ b
        → (AllByRecursion P (filter p xs) → AllByRecursion (λ y. p y ≡ true → P y) xs)
        → AllByRecursion P (cond b (x ∷ filter p xs) (filter p xs))
        → (p x ≡ true → P x) × AllByRecursion (λ y. p y ≡ true → P y) xs
    here true is later given = (λ _. given.0, later given.1)
    here false is later given = (λ yes. absurd (cc), later given)

pub range-at :
    (P : ℕ → Type 0) (n a u : ℕ)
    → AllByRecursion P (range_with_len a n) → a ≤ u → u < a + n → P u
range-at P zero a u all low high = absurd (omega arith)
range-at P (suc n) a u all low high =
    elim (cases_eq a u) [
      | inl same ↦ subst P same all.0
      | inr other ↦ range-at P n (a + 1) u all.1 (omega arith) (omega arith)
    ]

pub none-any : (p : ℕ → Bool) (xs : List ℕ) → AllByRecursion (λ x. p x ≡ false) xs → list_any p xs ≡ false
none-any p [] all = refl
none-any p (x ∷ xs) all = rw all.0 (none-any p xs all.1)

pub range-all : (P : ℕ → Type 0) (n a : ℕ) → ((u : ℕ) → P u) → AllByRecursion P (range_with_len a n)
range-all P zero a each = tt
range-all P (suc n) a each = (each a, range-all P n (a + 1) each)

-- the least of a measure is at none above it, and at one of them
pub least-under :
    (f : ℕ → ℕ) (x : ℕ) (xs : List ℕ) (l : ℕ)
    → l ≤ least (f x ∷ map f xs) → (l ≤ f x) × AllByRecursion (λ u. l ≤ f u) xs
least-under f x [] l low = (low, tt)
least-under f x (y ∷ ys) l low = (omega arith, least-under f y ys l (omega arith))

or-right : (a b : Bool) → b ≡ true → (a || b) ≡ true
or-right true b h = refl
or-right false b h = h

least-there :
    (f : ℕ → ℕ) (x : ℕ) (xs : List ℕ) (l : ℕ) → l ≡ least (f x ∷ map f xs)
    → list_any (λ u. eqb (f u) l) (x ∷ xs) ≡ true
least-there f x [] l is = let same : eqb (f x) l ≡ true = eq-eqb (f x) l (sym is) in rw same refl
least-there f x (y ∷ ys) l is =
    elim (cases_lt (f x) (least (f y ∷ map f ys))) [
      | inl below ↦ let same : eqb (f x) l ≡ true = eq-eqb (f x) l (omega arith) in rw same refl
      | inr above ↦ or-right (eqb (f x) l) (list_any (λ u. eqb (f u) l) (y ∷ ys)) (least-there f y ys l (omega arith))
    ]

pub some-least_by : (f : ℕ → ℕ) (xs : List ℕ) → is_some (first_of (least_by f xs)) ≡ is_some (first_of xs)
unfolding least_by
some-least_by f [] = refl
some-least_by f (x ∷ xs) =
    some-filter (λ t. eqb (f t) (least (map f (x ∷ xs)))) (x ∷ xs) ∙ least-there f x xs (least (map f (x ∷ xs))) refl

-- a flag that was set is set
pub get-raised : (n v : ℕ) → v < n → get_or (set (replicate n false) v true) v false ≡ true
get-raised zero v below = absurd (omega arith)
get-raised (suc n) zero below = refl
get-raised (suc n) (suc v) below = get-raised n v (omega arith)
