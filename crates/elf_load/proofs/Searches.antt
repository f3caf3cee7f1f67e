-- A search over consecutive numbers, as a loop makes it.
use Rattle.std.proofs.Common.{◌≡◌, ℕ, zero, suc, ◌+◌, ◌-◌, ◌<◌, Bool, true, false, cond, List, [], ◌∷◌, ◌++◌, map, find, filter, flat_map, Option, Some, None, option_map, refl, ap, sym, ◌∙◌, arith, subst, add-zero, append-nil}
use Rattle.std.specs.List.{range_with_len}
use Rattle.std.proofs.lemmas.List.Concat.{flat_map-append}

-- if the first is skipped, the search continues
skipped : {X : Type 0} (b : Bool) (x : X) (rest : Option X) → cond b (Some x) rest ≡ None → (b ≡ false) × (rest ≡ None)
skipped true x rest none = absurd (cc)
skipped false x rest none = (refl, none)

-- nothing was found so far, and nothing is found at the next number
pub find_more :
    (test : ℕ → Bool) (from count next : ℕ) → from + count ≡ next → find test (range_with_len from count) ≡ None
    → test next ≡ false
    → find test (range_with_len from (count + 1)) ≡ None
find_more test from zero next place none here =
    let first : test from ≡ false = ap test (sym (add-zero from) ∙ place) ∙ here in
    let P : Bool → Type 0 = λ b. cond b (Some from) None ≡ None in
    subst P (sym first) refl
find_more test from (suc count) next place none here =
    let before = skipped (test from) from (find test (range_with_len (from + 1) count)) none in
    let rest = find_more test (from + 1) count next (omega arith) before.1 here in
    let whole : find test (range_with_len from (suc (count + 1))) ≡ None =
    let P : Bool → Type 0 = λ b. cond b (Some from) (find test (range_with_len (from + 1) (count + 1))) ≡ None in
    subst P (sym before.0) rest in
    let e : suc (count + 1) ≡ suc count + 1 = omega arith in
    let P : ℕ → Type 0 = λ n. find test (range_with_len from n) ≡ None in
    subst P e whole

-- nothing was found so far, and the next number is found
pub find_here :
    (test : ℕ → Bool) (from count total next : ℕ) → from + count ≡ next → count < total
    → find test (range_with_len from count) ≡ None → test next ≡ true
    → find test (range_with_len from total) ≡ Some next
find_here test from count zero next place below none here = absurd (omega arith)
find_here test from zero (suc total) next place below none here =
    let same : from ≡ next = sym (add-zero from) ∙ place in
    let P : Bool → Type 0 = λ b. cond b (Some from) (find test (range_with_len (from + 1) total)) ≡ Some next in
    subst P (sym (ap test same ∙ here)) (ap Some same)
find_here test from (suc count) (suc total) next place below none here =
    let before = skipped (test from) from (find test (range_with_len (from + 1) count)) none in
    let rest = find_here test (from + 1) count total next (omega arith) (omega arith) before.1 here in
    let P : Bool → Type 0 = λ b. cond b (Some from) (find test (range_with_len (from + 1) total)) ≡ Some next in
    subst P (sym before.0) rest

-- a range in two parts
pub range_split : (a m k : ℕ) → range_with_len a (m + k) ≡ range_with_len a m ++ range_with_len (a + m) k
range_split a zero k =
    let e : a ≡ a + 0 = sym (add-zero a) in
    let z : 0 + k ≡ k = omega arith in ap (λ n. range_with_len a n) z ∙ ap (λ b. range_with_len b k) e
range_split a (suc m) k =
    let s : suc m + k ≡ suc (m + k) = omega arith in
    let t : a + 1 + m ≡ a + suc m = omega arith in
    ap (λ n. range_with_len a n) s
    ∙ ap (λ rest. a ∷ rest) (range_split (a + 1) m k ∙ ap (λ b. range_with_len (a + 1) m ++ range_with_len b k) t)

-- a search of two lists continues in the second exactly if it found nothing in the first
pub find_behind :
    {X : Type 0} (test : X → Bool) (xs ys : List X) → find test xs ≡ None
    → find test (xs ++ ys) ≡ find test ys
find_behind test [] ys none = refl
find_behind {X} test (x ∷ xs) ys none =
    let before = skipped (test x) x (find test xs) none in
    let P : Bool → Type 0 = λ b. cond b (Some x) (find test (xs ++ ys)) ≡ find test ys in
    subst P (sym before.0) (find_behind test xs ys before.1)

pub find_before :
    {X : Type 0} (test : X → Bool) (xs ys : List X) (found : X) → find test xs ≡ Some found
    → find test (xs ++ ys) ≡ Some found
find_before test [] ys found is = absurd (cc)
find_before {X} test (x ∷ xs) ys found is =
    elim (test x) as (λ b. cond b (Some x) (find test xs) ≡ Some found → cond b (Some x) (find test (xs ++ ys))
    ≡ Some found) [ true ↦ λ h. h | false ↦ λ h. find_before test xs ys found h ] is

pub find-map :
    {X Y : Type 0} (test : Y → Bool) (f : X → Y) (xs : List X)
    → find test (map f xs) ≡ option_map f (find (λ x. test (f x)) xs)
find-map test f [] = refl
find-map test f (x ∷ xs) =
    elim (test (f x)) as (λ b. cond b (Some (f x)) (find test (map f xs))
    ≡ option_map f (cond b (Some x) (find (λ x. test (f x)) xs))) [ true ↦ refl | false ↦ find-map test f xs ]

-- no row up to a number has one that passes, nor has that row
pub rows_more :
    {X : Type 0} (test : X → Bool) (row : ℕ → List X) (i : ℕ) → find test (flat_map row (range_with_len 0 i)) ≡ None
    → find test (row i) ≡ None
    → find test (flat_map row (range_with_len 0 (i + 1))) ≡ None
rows_more test row i none here =
    let split =
    ap (flat_map row) (range_split 0 i 1) ∙ flat_map-append row (range_with_len 0 i) (range_with_len (0 + i) 1) in
    let at : 0 + i ≡ i = omega arith in
    let last : flat_map row (range_with_len (0 + i) 1) ≡ row i = append-nil (row (0 + i)) ∙ ap row at in
    ap (find test) split ∙ find_behind test (flat_map row (range_with_len 0 i)) _ none ∙ ap (find test) last ∙ here

-- no row up to a number has one that passes, and that row has one
pub rows_here :
    {X : Type 0} (test : X → Bool) (row : ℕ → List X) (i total : ℕ) (found : X) → i < total
    → find test (flat_map row (range_with_len 0 i)) ≡ None → find test (row i) ≡ Some found
    → find test (flat_map row (range_with_len 0 total)) ≡ Some found
rows_here test row i total found below none here =
    let size : total ≡ i + suc (total - suc i) = omega arith in
    let at : i ≡ 0 + i = omega arith in
    let split =
    ap (λ n. flat_map row (range_with_len 0 n)) size ∙ ap (flat_map row) (range_split 0 i (suc (total - suc i)))
    ∙ flat_map-append row (range_with_len 0 i) (range_with_len (0 + i) (suc (total - suc i))) in
    let first : find test (row (0 + i)) ≡ Some found = ap (λ n. find test (row n)) (sym at) ∙ here in
    ap (find test) split ∙ find_behind test (flat_map row (range_with_len 0 i)) _ none
    ∙ find_before test (row (0 + i)) _ found first

-- one that isn't kept isn't found
not_found :
    {X : Type 0} (t : Bool) (x : X) (kept all : Option X) → (t ≡ true → false ≡ true) → kept ≡ all
    → kept ≡ cond t (Some x) all
not_found true x kept all passes same = let bad : false ≡ true = passes refl in absurd (cc)
not_found false x kept all passes same = same

-- a search with one more element, which is kept or not
find-filter-one :
    {X : Type 0} (test : X → Bool) (k : Bool) (x : X) (kept all : List X) → (test x ≡ true → k ≡ true)
    → find test kept ≡ find test all
    → find test (cond k (x ∷ kept) kept) ≡ find test (x ∷ all)
find-filter-one test true x kept all passes same = ap (λ rest. cond (test x) (Some x) rest) same
find-filter-one test false x kept all passes same = not_found (test x) x (find test kept) (find test all) passes same

-- a search among the kept elements, if each that passes its test is kept
pub find-filter :
    {X : Type 0} (test keeps : X → Bool) → ((x : X) → test x ≡ true → keeps x ≡ true) → (xs : List X)
    → find test (filter keeps xs) ≡ find test xs
find-filter test keeps passes [] = refl
find-filter test keeps passes (x ∷ xs) =
    find-filter-one test (keeps x) x (filter keeps xs) xs (passes x) (find-filter test keeps passes xs)

-- the images of the kept elements are the kept images
pub map-filter :
    {X Y : Type 0} (f : X → Y) (keeps : Y → Bool) (xs : List X)
    → map f (filter (λ x. keeps (f x)) xs) ≡ filter keeps (map f xs)
map-filter f keeps [] = refl
map-filter f keeps (x ∷ xs) =
    elim (keeps (f x)) as (λ b. map f (cond b (x ∷ filter (λ x. keeps (f x)) xs) (filter (λ x. keeps (f x)) xs))
    ≡ cond b (f x ∷ filter keeps (map f xs)) (filter keeps (map f xs)))
    [ true ↦ ap (λ rest. f x ∷ rest) (map-filter f keeps xs) | false ↦ map-filter f keeps xs ]
