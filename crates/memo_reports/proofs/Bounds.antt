-- An upper bound of the number of races.
use Rattle.std.proofs.Common.{◌≡◌, ◌<◌, ◌≤◌, ◌+◌, ◌*◌, All, ℕ, zero, suc, Bool, true, false, ◌||◌, ltb, cond, List, [], ◌∷◌, length, map, refl, ap, ap₂, sym, ◌∙◌, arith}
use Rattle.std.specs.List.{filter, range_with_len, flat_map}
use Rattle.std.proofs.lemmas.Bool.Decides.{nat_tests}
use Rattle.std.proofs.lemmas.List.{length-map, get_or_default}
use Rattle.std.proofs.lemmas.List.Concat.{length-flat_map}
use Rattle.std.proofs.lemmas.List.Elements.{recursion_from_All}
use Rattle.std.proofs.lemmas.List.Sums.{sum_by-le}
use Rattle.memory_spec.specs.Pages.{Mapped, unmapped, ascends_above}
use Rattle.machine_spec.specs.Setup.{Setup, IsSetup, map_of}
use Rattle.history_spec.specs.History.{History}
use Rattle.history_spec.specs.Facts.{Fact, facts}
use Rattle.history_spec.specs.Before.{is_in}
use Rattle.round_spec.specs.Reach.{reads_of}
use Rattle.memo_reports.proofs.Addresses.{word_address}
use Rattle.memo_reports.specs.Touches.{touch_in, touches_in}
use Rattle.memo_reports.proofs.Facts.{pages-few}
use Rattle.memo_reports.proofs.Tally.{sum_below, sum-same, sum-exchanged, rows-length}
use Rattle.round_spec.specs.Races.{is_race, race_at, races_between, races_from, races_of}
use Rattle.memo_reports.proofs.Filters.{filter-none}

pub filter-short : {A : Type 0} (q : A → Bool) (xs : List A) → length (filter q xs) ≤ length xs
filter-short q [] = omega arith
filter-short q (x ∷ xs) = here (q x) (filter-short q xs)
  where
    here : (b : Bool) → length (filter q xs) ≤ length xs → length (cond b (x ∷ filter q xs) (filter q xs)) ≤ suc (length xs)
    here true rest = omega arith
    here false rest = omega arith

range-length : (a n : ℕ) → length (range_with_len a n) ≡ n
range-length a zero = refl
range-length a (suc n) = ap (λ (m : ℕ). suc m) (range-length (a + 1) n)

pub between-short :
    (fs : List Fact) (reads : List (List ℕ)) (pages i j : ℕ) → length (races_between fs reads pages i j) ≤ pages
between-short fs reads pages i j =
    let one = length-map (filter (is_race fs reads i j) (range_with_len 0 pages)) (race_at fs i j) in
    let two = filter-short (is_race fs reads i j) (range_with_len 0 pages) in
    let three = range-length 0 pages in
    omega arith

pub not-early :
    (fs : List Fact) (reads : List (List ℕ)) (i j p : ℕ) → j ≤ i → is_race fs reads i j p ≡ false
unfolding is_race
not-early fs reads i j p early = let late : ltb i j ≡ false = grind (arith, nat_tests) in rw late refl

-- a step doesn't race with itself or with an earlier one
pub none-early :
    (fs : List Fact) (reads : List (List ℕ)) (pages i j : ℕ) → j ≤ i → races_between fs reads pages i j ≡ []
none-early fs reads pages i j early =
    ap (map (race_at fs i j)) (filter-none (is_race fs reads i j) 0 pages (λ p lo hi. not-early fs reads i j p early))

pub touches-short : (pages : ℕ) (reads written : List ℕ) → length (touches_in pages reads written) ≤ pages
touches-short pages reads written =
    let kept = filter (λ p. is_in p written || is_in p reads) (range_with_len 0 pages) in
    let one = length-map kept (touch_in written) in
    let two = filter-short (λ p. is_in p written || is_in p reads) (range_with_len 0 pages) in
    let three = range-length 0 pages in
    omega arith

-- the pages of a setup are few
low-pages :
    (s : Setup) (ps : List Mapped) → IsSetup s → ps ≡ map_of s → All (λ (p : Mapped). p.number < 1048576) ps
low-pages s ps sound are k d below =
    let fit = word_address s ps k _ sound are below refl in
    let same = ap (λ (p : Mapped). p.number) (get_or_default ps k d unmapped below) in
    omega arith

pub few-pages :
    (s : Setup) (ps : List Mapped) → IsSetup s → ps ≡ map_of s → ascends_above 0 ps ≡ true → length ps ≤ 1048576
few-pages s ps sound are asc =
    let few =
    pages-few 0 1048576 ps (omega arith) asc
    (recursion_from_All (λ (p : Mapped). p.number < 1048576) ps (low-pages s ps sound are)) in
    omega arith

-- rows that are each short
pub rows-short :
    {A : Type 0} (rows : List (List A)) (most : ℕ) → All (λ (row : List A). length row ≤ most) rows
    → length (flat_map (λ (row : List A). row) rows) ≤ length rows * most
rows-short {A = A} rows most short =
    let one = length-flat_map (λ (row : List A). row) rows in
    let two = sum_by-le (λ (row : List A). length row) most rows short in
    omega arith

-- the races of all steps, each step's with all before it
pub races-summed :
    (fs : List Fact) (reads : List (List ℕ)) (pages n : ℕ)
    → sum_below (λ k. sum_below (λ i. length (races_between fs reads pages i k)) n) n
    ≡ length (flat_map (races_from fs reads pages n) (range_with_len 0 n))
races-summed fs reads pages n =
    sym (rows-length (races_from fs reads pages n) n
    ∙ sum-same (λ i. length (races_from fs reads pages n i))
    (λ i. sum_below (λ k. length (races_between fs reads pages i k)) n) n
    (λ i less. rows-length (races_between fs reads pages i) n)
    ∙ sum-exchanged (λ i k. length (races_between fs reads pages i k)) n n)

-- the races of all steps are those of the history
pub whole-races :
    (h : History) (pages n : ℕ) → pages ≡ length (map_of h.setup) → n ≡ length h.records
    → flat_map (races_from (facts h) (reads_of h) pages n) (range_with_len 0 n) ≡ races_of h
unfolding races_of
whole-races h pages n are is =
    ap₂ (λ (p k : ℕ). flat_map (races_from (facts h) (reads_of h) p k) (range_with_len 0 k)) are is
