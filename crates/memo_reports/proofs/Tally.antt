-- Counts in lists and of numbers.
use Rattle.std.proofs.Common.{◌≡◌, ◌<◌, ◌≤◌, ◌+◌, ◌-◌, ◌*◌, ℕ, zero, suc, Bool, true, false, ◌&&◌, not, eqb, cond, List, [], ◌∷◌, ◌++◌, length, map, take, drop, get_or, set, refl, ap, ap₂, sym, ◌∙◌, inl, inr, arith}
use Rattle.std.specs.List.{filter, flat_map, range_with_len, sum_by, count_by, AllByRecursion}
use Rattle.std.proofs.lemmas.Bool.{cases_eq, eq-eqb}
use Rattle.std.proofs.lemmas.Bool.Decides.{nat_tests}
use Rattle.std.proofs.lemmas.List.{length-append, append-nil, take-append-le}
use Rattle.std.proofs.lemmas.List.Concat.{flat_map-append, length-flat_map}
use Rattle.std.proofs.lemmas.List.Sums.{sum_by-cons, sum_by-append, sum_by-set, length-filter}

-- one more element
pub count-cons : {X : Type 0} (q : X → Bool) (x : X) (xs : List X) → count_by q (x ∷ xs) ≡ cond (q x) 1 0 + count_by q xs
count-cons q x xs = sum_by-cons (λ y. cond (q y) 1 0) x xs

pub count-append : {X : Type 0} (q : X → Bool) (xs ys : List X) → count_by q (xs ++ ys) ≡ count_by q xs + count_by q ys
count-append q xs ys = sum_by-append (λ y. cond (q y) 1 0) xs ys

pub count-none : {X : Type 0} (q : X → Bool) → ((x : X) → q x ≡ false) → (xs : List X) → count_by q xs ≡ 0
count-none q none [] = refl
count-none q none (x ∷ xs) =
    let here = count-cons q x xs in
    let no = none x in
    let rest = count-none q none xs in
    here ∙ ap₂ (λ (b : Bool) (n : ℕ). cond b 1 0 + n) no rest

-- all elements are counted
pub count-all : {X : Type 0} (xs : List X) → count_by (λ (x : X). true) xs ≡ length xs
count-all [] = refl
count-all (x ∷ xs) =
    let here = count-cons (λ (y : _). true) x xs in let rest = count-all xs in omega arith

-- 1 if a test passed, and else 0
abbrev pub bit : Bool → ℕ
bit b = cond b 1 0

one-bit : (b : Bool) → b ≡ true → bit b ≡ 1
one-bit b is = ap bit is

no-bit : (b : Bool) → b ≡ false → bit b ≡ 0
no-bit b is = ap bit is

-- what is counted 0 times is nowhere
pub none-counted :
    {X : Type 0} (q : X → Bool) (xs : List X) → count_by q xs ≡ 0 → AllByRecursion (λ (x : X). q x ≡ false) xs
none-counted q [] none = tt
none-counted {X = X} q (x ∷ xs) none = here (q x) refl (sym (count-cons q x xs) ∙ none) (none-counted q xs)
  where
    here :
        (b : Bool) → q x ≡ b → cond (q x) 1 0 + count_by q xs ≡ 0
        → (count_by q xs ≡ 0 → AllByRecursion (λ (y : X). q y ≡ false) xs)
        → (q x ≡ false) × AllByRecursion (λ (y : X). q y ≡ false) xs
    here true is sum rest = absurd (let one = one-bit (q x) is in omega arith)
    here false is sum rest =
        (is, rest (let none = no-bit (q x) is in omega arith))

-- in the lists of some elements
pub count-flat :
    {X Y : Type 0} (q : Y → Bool) (f : X → List Y) (xs : List X)
    → count_by q (flat_map f xs) ≡ sum_by (λ (x : X). count_by q (f x)) xs
count-flat q f [] = refl
count-flat q f (x ∷ xs) =
    count-append q (f x) (flat_map f xs)
    ∙ ap (λ (n : ℕ). count_by q (f x) + n) (count-flat q f xs)
    ∙ sym (sum_by-cons (λ y. count_by q (f y)) x xs)

-- filters

pub filter-same :
    {X : Type 0} (p q : X → Bool) (xs : List X) → AllByRecursion (λ (x : X). p x ≡ q x) xs → filter p xs ≡ filter q xs
filter-same p q [] same = refl
filter-same {X = X} p q (x ∷ xs) same =
    ap₂ (λ (b : Bool) (ys : List X). cond b (x ∷ ys) ys) same.0 (filter-same p q xs same.1)

pub filter-both :
    {X : Type 0} (p q : X → Bool) (xs : List X) → filter p (filter q xs) ≡ filter (λ (x : X). q x && p x) xs
filter-both p q [] = refl
filter-both {X = X} p q (x ∷ xs) = here (q x) (filter-both p q xs)
  where
    here :
        (b : Bool) → filter p (filter q xs) ≡ filter (λ (y : X). q y && p y) xs
        → filter p (cond b (x ∷ filter q xs) (filter q xs))
        ≡ cond (b && p x) (x ∷ filter (λ (y : X). q y && p y) xs) (filter (λ (y : X). q y && p y) xs)
    here true rest = ap (λ (ys : List X). cond (p x) (x ∷ ys) ys) rest
    here false rest = rest

-- numbers

-- the sum of a function over the numbers below another
abbrev pub sum_below : (ℕ → ℕ) → ℕ → ℕ
sum_below f zero = 0
sum_below f (suc n) = f n + sum_below f n

pub sum-same : (f g : ℕ → ℕ) (n : ℕ) → ((k : ℕ) → k < n → f k ≡ g k) → sum_below f n ≡ sum_below g n
sum-same f g zero same = refl
sum-same f g (suc n) same =
    ap₂ (λ (a b : ℕ). a + b) (same n (omega arith)) (sum-same f g n (λ k less. same k (omega arith)))

pub sum-add : (f g : ℕ → ℕ) (n : ℕ) → sum_below (λ k. f k + g k) n ≡ sum_below f n + sum_below g n
sum-add f g zero = refl
sum-add f g (suc n) = let rest = sum-add f g n in omega arith

pub sum-none : (n : ℕ) → sum_below (λ k. 0) n ≡ 0
sum-none zero = refl
sum-none (suc n) = let rest = sum-none n in omega arith

pub sum-exchanged :
    (f : ℕ → ℕ → ℕ) (m n : ℕ)
    → sum_below (λ i. sum_below (λ k. f i k) m) n ≡ sum_below (λ k. sum_below (λ i. f i k) n) m
sum-exchanged f m zero = sym (sum-none m)
sum-exchanged f m (suc n) =
    ap (λ (a : ℕ). sum_below (λ k. f n k) m + a) (sum-exchanged f m n)
    ∙ sym (sum-add (λ k. f n k) (λ k. sum_below (λ i. f i k) n) m)

pub sum-most : (f : ℕ → ℕ) (most n : ℕ) → ((k : ℕ) → f k ≤ most) → sum_below f n ≤ n * most
sum-most f most zero small = omega arith
sum-most f most (suc n) small =
    let here = small n in
    let rest = sum-most f most n small in
    let next : suc n * most ≡ most + n * most = grind arith in
    omega arith

-- how many numbers below another pass a test
abbrev pub tally : (ℕ → Bool) → ℕ → ℕ
tally p n = sum_below (λ k. cond (p k) 1 0) n

pub tally-same : (p q : ℕ → Bool) (n : ℕ) → ((k : ℕ) → k < n → p k ≡ q k) → tally p n ≡ tally q n
tally-same p q n same = sum-same (λ k. cond (p k) 1 0) (λ k. cond (q k) 1 0) n (λ k less. ap (λ (b : Bool). cond b 1 0) (same k less))

pub tally-few : (p : ℕ → Bool) (n : ℕ) → tally p n ≤ n
tally-few p zero = omega arith
tally-few p (suc n) = by-bit (p n) (tally-few p n)
  where
    by-bit : (b : Bool) → tally p n ≤ n → cond b 1 0 + tally p n ≤ suc n
    by-bit true few = omega arith
    by-bit false few = omega arith

pub tally-none : (p : ℕ → Bool) (n : ℕ) → ((k : ℕ) → k < n → p k ≡ false) → tally p n ≡ 0
tally-none p n none = tally-same p (λ k. false) n none ∙ sum-none n

-- a test that one number alone passes
pub tally-one : (p : ℕ → Bool) (i n : ℕ) → i < n → tally (λ k. p k && eqb k i) n ≡ cond (p i) 1 0
tally-one p i zero less = absurd (omega arith)
tally-one p i (suc n) less =
    elim (cases_eq n i) [
      | inl same ↦
          let yes : eqb n i ≡ true = eq-eqb n i same in
          let none = tally-none (λ k. p k && eqb k i) n
          (λ k low. let no : eqb k i ≡ false = grind (arith, nat_tests) in rw no (and-false (p k))) in
          rw yes
          (ap₂ (λ (a b : ℕ). a + b) (ap (λ (b : Bool). cond b 1 0) (and-true (p n) ∙ ap p same)) none
          ∙ plus-none (cond (p i) 1 0))
      | inr other ↦
          let no : eqb n i ≡ false = grind (arith, nat_tests) in
          let rest = tally-one p i n (omega arith) in
          rw no (ap₂ (λ (a b : ℕ). a + b) (no-bit (p n && false) (and-false (p n))) rest ∙ none-plus (cond (p i) 1 0))
    ]
  where
    and-false : (b : Bool) → (b && false) ≡ false
    and-false true = refl
    and-false false = refl

    and-true : (b : Bool) → (b && true) ≡ b
    and-true true = refl
    and-true false = refl

    plus-none : (n : ℕ) → n + 0 ≡ n
    plus-none n = omega arith

    none-plus : (n : ℕ) → 0 + n ≡ n
    none-plus n = omega arith

-- lists

-- a list with at most one element, by whether there is one
pub one-listed :
    {X Y : Type 0} (g : X → Y) (r : Y) (is : X → Bool) (xs : List X) (b : Bool)
    → ((x : X) → is x ≡ true → g x ≡ r)
    → count_by (λ (x : X). true) xs ≡ cond b 1 0 → count_by is xs ≡ cond b 1 0
    → map g xs ≡ cond b (r ∷ []) []
one-listed g r is [] true same all some = absurd (omega arith)
one-listed g r is [] false same all some = refl
one-listed g r is (x ∷ xs) false same all some =
    absurd (let one = count-cons (λ (y : _). true) x xs in omega arith)
one-listed {X = X} {Y = Y} g r is (x ∷ []) true same all some =
    ap (λ (y : Y). y ∷ []) (same x (here (is x) refl))
  where
    here : (b : Bool) → is x ≡ b → is x ≡ true
    here true there = there
    here false there =
        absurd (let one = count-cons is x [] in
        let none = no-bit (is x) there in
        let nil : count_by is [] ≡ 0 = refl in
        omega arith)
one-listed g r is (x ∷ y ∷ xs) true same all some =
    absurd (let one = count-cons (λ (y : _). true) x (y ∷ xs) in
    let two = count-cons (λ (y : _). true) y xs in
    omega arith)

-- if elements pass a test up to a place and fail it from there on, those from there on are those that fail
pub drop-passing :
    {X : Type 0} (p q : X → Bool) (xs : List X) (i : ℕ) → ((x : X) → q x ≡ not (p x))
    → ((k : ℕ) (d : X) → k < i → p (get_or xs k d) ≡ true)
    → ((k : ℕ) (d : X) → i ≤ k → k < length xs → p (get_or xs k d) ≡ false)
    → drop i xs ≡ filter q xs
drop-passing p q [] zero other front back = refl
drop-passing p q [] (suc i) other front back = refl
drop-passing {X = X} p q (x ∷ xs) zero other front back =
    let here : q x ≡ true = other x ∙ ap not (back 0 x (omega arith) (omega arith)) in
    rw here (ap (λ (ys : List X). x ∷ ys)
    (drop-passing p q xs 0 other (λ k d less. absurd (omega arith)) (λ k d low less. back (suc k) d (omega arith) (omega arith))))
drop-passing p q (x ∷ xs) (suc i) other front back =
    let here : q x ≡ false = other x ∙ ap not (front 0 x (omega arith)) in
    rw here
    (drop-passing p q xs i other (λ k d less. front (suc k) d (omega arith))
    (λ k d low less. back (suc k) d (omega arith) (omega arith)))

-- rows

pub range-push : (a n : ℕ) → range_with_len a (suc n) ≡ range_with_len a n ++ (a + n) ∷ []
range-push a zero = ap (λ (x : ℕ). x ∷ []) (omega arith)
range-push a (suc n) =
    let rest = range-push (a + 1) n in
    let last : a + 1 + n ≡ a + suc n = omega arith in
    ap (λ (xs : List ℕ). a ∷ xs) (rest ∙ ap (λ (x : ℕ). range_with_len (a + 1) n ++ x ∷ []) last)

-- one more number
pub rows-more :
    {A : Type 0} (f : ℕ → List A) (n : ℕ)
    → flat_map f (range_with_len 0 (n + 1)) ≡ flat_map f (range_with_len 0 n) ++ f n
rows-more f n =
    let next : n + 1 ≡ suc n = omega arith in
    let last : 0 + n ≡ n = omega arith in
    ap (λ (m : ℕ). flat_map f (range_with_len 0 m)) next
    ∙ ap (flat_map f) (range-push 0 n)
    ∙ flat_map-append f (range_with_len 0 n) ((0 + n) ∷ [])
    ∙ ap (λ xs. flat_map f (range_with_len 0 n) ++ xs) (append-nil (f (0 + n)))
    ∙ ap (λ (m : ℕ). flat_map f (range_with_len 0 n) ++ f m) last

-- how many elements rows have together
pub rows-length :
    {A : Type 0} (f : ℕ → List A) (n : ℕ)
    → length (flat_map f (range_with_len 0 n)) ≡ sum_below (λ k. length (f k)) n
rows-length f zero = refl
rows-length f (suc n) =
    let next : n + 1 ≡ suc n = omega arith in
    let rest = rows-length f n in
    let more = ap (λ xs. length xs) (sym (ap (λ (m : ℕ). flat_map f (range_with_len 0 m)) next) ∙ rows-more f n) in
    let both = length-append (flat_map f (range_with_len 0 n)) (f n) in
    omega arith

-- the concatenation of rows, each of which a function gives of its number
pub rows-are :
    {A : Type 0} (f : ℕ → List A) (rows : List (List A)) (low : ℕ)
    → ((i : ℕ) → i < length rows → get_or rows i [] ≡ f (low + i))
    → flat_map (λ (row : List A). row) rows ≡ flat_map f (range_with_len low (length rows))
rows-are f [] low same = refl
rows-are {A = A} f (row ∷ rows) low same =
    let here : row ≡ f low = same 0 (omega arith) ∙ ap f (omega arith) in
    ap₂ (λ (xs ys : List A). xs ++ ys) here
    (rows-are f rows (low + 1) (λ i less. same (suc i) (omega arith) ∙ ap f (omega arith)))

pub range-split : (low m n : ℕ) → range_with_len low (m + n) ≡ range_with_len low m ++ range_with_len (low + m) n
range-split low zero n =
    let one : 0 + n ≡ n = omega arith in
    let two : low + 0 ≡ low = omega arith in
    ap (range_with_len low) one ∙ ap (λ (k : ℕ). range_with_len k n) (sym two)
range-split low (suc m) n =
    let one : suc m + n ≡ suc (m + n) = omega arith in
    let two : low + 1 + m ≡ low + suc m = omega arith in
    ap (range_with_len low) one
    ∙ ap (λ (xs : List ℕ). low ∷ xs)
    (range-split (low + 1) m n ∙ ap (λ (k : ℕ). range_with_len (low + 1) m ++ range_with_len k n) two)

-- the first elements are those of the first rows, if these are enough
pub rows-first :
    {A : Type 0} (f : ℕ → List A) (most m n : ℕ) → m ≤ n → most ≤ length (flat_map f (range_with_len 0 m))
    → take most (flat_map f (range_with_len 0 m)) ≡ take most (flat_map f (range_with_len 0 n))
rows-first f most m n less enough =
    let whole : m + (n - m) ≡ n = omega arith in
    sym (ap (λ (k : ℕ). take most (flat_map f (range_with_len 0 k))) (sym whole)
    ∙ ap (λ (xs : List ℕ). take most (flat_map f xs)) (range-split 0 m (n - m))
    ∙ ap (take most) (flat_map-append f (range_with_len 0 m) (range_with_len (0 + m) (n - m)))
    ∙ take-append-le most (flat_map f (range_with_len 0 m)) (flat_map f (range_with_len (0 + m) (n - m))) enough)

-- a row gets one more element
pub rows-pushed :
    {A : Type 0} (rows : List (List A)) (i : ℕ) (x : A) → i < length rows
    → length (flat_map (λ (row : List A). row) (set rows i (get_or rows i [] ++ x ∷ [])))
    ≡ length (flat_map (λ (row : List A). row) rows) + 1
rows-pushed rows i x less =
    let one = length-flat_map (λ row. row) rows in
    let two = length-flat_map (λ row. row) (set rows i (get_or rows i [] ++ x ∷ [])) in
    let three = sum_by-set (λ row. length row) rows i (get_or rows i [] ++ x ∷ []) [] less in
    let four = length-append (get_or rows i []) (x ∷ []) in
    let five : length (x ∷ []) ≡ 1 = refl in
    omega arith

-- elements that pass one test are counted by another
pub count-filter :
    {X : Type 0} (p q : X → Bool) (xs : List X) → count_by p (filter q xs) ≡ count_by (λ (x : X). q x && p x) xs
count-filter p q xs =
    sym (length-filter p (filter q xs))
    ∙ ap (λ ys. length ys) (filter-both p q xs)
    ∙ length-filter (λ x. q x && p x) xs
