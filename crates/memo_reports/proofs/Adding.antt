-- One more step: its pages, one by one, and what is known after it.
use Rattle.std.proofs.Common.{◌≡◌, ◌<◌, ◌≤◌, ◌+◌, ◌*◌, ◌^◌, ◌⊎◌, ℕ, zero, suc, Bool, true, false, eqb, cond, List, [], ◌∷◌, ◌++◌, length, take, get_or, set, append_assoc, refl, ap, ap₂, sym, ◌∙◌, subst, inl, inr, arith}
use Rattle.std.specs.List.{flat_map, range_with_len, count_by}
use Rattle.std.proofs.lemmas.Bool.{cases_eq, cases_lt, eq-eqb, ne_eqb}
use Rattle.std.proofs.lemmas.List.{length-append, length-take, length_push, get_or_default, get_or_append_left, get_or_push, get_or-take, get_or-set_same, get_or-set_other}
use Rattle.std.proofs.lemmas.Nat.{mul-le}
use Rattle.history_spec.specs.Facts.{Fact}
use Rattle.history_spec.specs.Before.{fact_at}
use Rattle.round_spec.specs.Reach.{read_at}
use Rattle.round_spec.specs.declared.Race.{Race}
use Rattle.round_spec.specs.Races.{is_race, race_at, races_between, races_from}
use Rattle.memo_reports.specs.declared.races.touches.Touch.{Touch}
use Rattle.memo_reports.specs.declared.races.steps.Step.{Step}
use Rattle.memo_reports.specs.declared.races.past.Access.{Access}
use Rattle.memo_reports.specs.declared.races.past.PagePast.{PagePast}
use Rattle.memo_reports.specs.Steps.{IsStep, AreSteps}
use Rattle.memo_reports.specs.Past.{IsPagePast, accesses_of}
use Rattle.memo_reports.proofs.Tally.{bit, tally, sum_below, sum-same, sum-add, sum-none, sum-most, rows-more, rows-length, rows-are, rows-first}
use Rattle.memo_reports.proofs.Bounds.{between-short, not-early, none-early, rows-short}
use Rattle.memo_reports.proofs.Between.{IsTouched, step-touched, step-few, so_far, all-so_far, more-so_far, short-so_far}
use Rattle.memo_reports.proofs.Earlier.{HasPast, access_for, other-page, page-more}

-- a step in the list of them
pub step-is :
    (fs : List Fact) (reads : List (List ℕ)) (pages j n : ℕ) (steps : List Step) (s : Step)
    → AreSteps fs reads pages steps → j < n → n ≡ length steps → s ≡ get_or steps j s → IsStep fs reads pages j s
step-is fs reads pages j n steps s are less end at =
    let many = are.many in subst (IsStep fs reads pages j) (sym at) (are.each j s (omega arith))

pub threads-known :
    (fs : List Fact) (reads : List (List ℕ)) (pages j n : ℕ) (steps : List Step) (s : Step)
    → AreSteps fs reads pages steps → j < n → n ≡ length steps → (i : ℕ) → i < j → (fact_at fs i).thread < 32
threads-known fs reads pages j n steps s are less end i low =
    let many = are.many in
    let is = are.each i s (omega arith) in
    subst (λ (t : ℕ). t < 32) is.thread is.known

-- lists that are each empty
rows-none :
    {A : Type 0} (f : ℕ → List A) (n : ℕ) → ((k : ℕ) → k < n → f k ≡ []) → flat_map f (range_with_len 0 n) ≡ []
rows-none f n none =
    Rattle.std.proofs.lemmas.List.nil_from_length (flat_map f (range_with_len 0 n))
    (rows-length f n
    ∙ sum-same (λ k. length (f k)) (λ k. 0) n (λ k less. ap (λ xs. length xs) (none k less))
    ∙ sum-none n)

-- the sum of a test over more numbers, if none of these passes it
tally-more : (p : ℕ → Bool) (j d : ℕ) → ((k : ℕ) → j ≤ k → p k ≡ false) → tally p (d + j) ≡ tally p j
tally-more p j zero none = let same : 0 + j ≡ j = omega arith in ap (tally p) same
tally-more p j (suc d) none =
    let next : suc d + j ≡ suc (d + j) = omega arith in
    let here : p (d + j) ≡ false = none (d + j) (omega arith) in
    rw (next, here) (let rest = tally-more p j d none in omega arith)

pub tally-all : (p : ℕ → Bool) (j n : ℕ) → j ≤ n → ((k : ℕ) → j ≤ k → p k ≡ false) → tally p n ≡ tally p j
tally-all p j n low none =
    let whole : Rattle.std.specs.Prelude.◌-◌ n j + j ≡ n = omega arith in
    ap (tally p) (sym whole) ∙ tally-more p j (Rattle.std.specs.Prelude.◌-◌ n j) none

-- how many races steps have with all before them
abbrev pub races_before : List Fact → List (List ℕ) → ℕ → ℕ → ℕ → ℕ
races_before fs reads pages n j = sum_below (λ k. sum_below (λ i. length (races_between fs reads pages i k)) n) j

-- and how many the step at place j has with all before it, on the first of its pages
abbrev pub races_now : List Fact → List (List ℕ) → ℕ → ℕ → List Touch → ℕ → ℕ
races_now fs reads n j touches m = sum_below (λ i. length (so_far fs reads i j touches m)) n

pub none-now : (fs : List Fact) (reads : List (List ℕ)) (n j : ℕ) (touches : List Touch) → races_now fs reads n j touches 0 ≡ 0
none-now fs reads n j touches = sum-none n

module _ (fs : List Fact) (reads : List (List ℕ)) (pages n j : ℕ) (s : Step) (is : IsStep fs reads pages j s)
    (low : j < n) where
  -- one more page
  pub now-more :
      (m : ℕ) (t : Touch) → m < length s.touches.items → t ≡ get_or s.touches.items m t
      → races_now fs reads n j s.touches.items (m + 1)
      ≡ races_now fs reads n j s.touches.items m + tally (λ i. is_race fs reads i j t.slot) j
  now-more m t less at =
      sum-same (λ i. length (so_far fs reads i j s.touches.items (m + 1)))
      (λ i. length (so_far fs reads i j s.touches.items m) + bit (is_race fs reads i j t.slot)) n
      (λ i below.
      ap (λ (rs : List Race). length rs) (more-so_far fs reads i j s.touches.items m t less at)
      ∙ length-append (so_far fs reads i j s.touches.items m) (cond (is_race fs reads i j t.slot) (race_at fs i j t.slot ∷ []) [])
      ∙ ap (λ (k : ℕ). length (so_far fs reads i j s.touches.items m) + k)
      (one-long (is_race fs reads i j t.slot) (race_at fs i j t.slot)))
      ∙ sum-add (λ i. length (so_far fs reads i j s.touches.items m)) (λ i. bit (is_race fs reads i j t.slot)) n
      ∙ ap (λ (k : ℕ). races_now fs reads n j s.touches.items m + k)
      (tally-all (λ i. is_race fs reads i j t.slot) j n (omega arith) (λ k late. not-early fs reads k j t.slot late))
    where
      one-long : (b : Bool) (r : Race) → length (cond b (r ∷ []) []) ≡ bit b
      one-long true r = refl
      one-long false r = refl

  -- all pages
  pub before-next :
      (m : ℕ) → length s.touches.items ≤ m
      → races_before fs reads pages n j + races_now fs reads n j s.touches.items m ≡ races_before fs reads pages n (j + 1)
  before-next m end =
      let next : j + 1 ≡ suc j = omega arith in
      let all = sum-same (λ i. length (so_far fs reads i j s.touches.items m)) (λ i. length (races_between fs reads pages i j)) n
      (λ i less. ap (λ (rs : List Race). length rs) (all-so_far fs reads pages j s is i m end)) in
      rw next (omega arith)

  -- the counts stay small
  pub total-fits :
      (m total count : ℕ) → n ≤ 65536 → pages ≤ 1048576 → count ≤ j
      → total ≡ races_before fs reads pages n j + races_now fs reads n j s.touches.items m
      → total + count < 2 ^ 64
  total-fits m total count few small at_most is_total =
      let one = sum-most (λ k. sum_below (λ i. length (races_between fs reads pages i k)) n) (n * pages) j
      (λ k. sum-most (λ i. length (races_between fs reads pages i k)) pages n (λ i. between-short fs reads pages i k)) in
      let touches = step-few fs reads pages j s is in
      let two = sum-most (λ i. length (so_far fs reads i j s.touches.items m)) pages n
      (λ i. (let short = short-so_far fs reads i j s.touches.items m in omega arith)) in
      let three : n * pages ≤ 65536 * 1048576 = mul-le n pages 65536 1048576 few small in
      let four : j * (n * pages) ≤ 65536 * 68719476736 = mul-le j (n * pages) 65536 68719476736 (omega arith) (omega arith) in
      omega arith

  pub many-fits :
      (m many more : ℕ) (rows : List (List Race)) → n ≤ 65536 → pages ≤ 1048576 → length rows ≤ j → more ≤ j + pages
      → ((i : ℕ) → i < length rows
      → get_or rows i []
      ≡ flat_map (races_between fs reads pages i) (range_with_len 0 j) ++ so_far fs reads i j s.touches.items m)
      → many ≡ length (flat_map (λ (row : List Race). row) rows)
      → many + more < 2 ^ 64
  many-fits m many more rows few small within extra each counted =
      let short = rows-short rows (j * pages + pages)
      (λ i d less.
      (let here = ap (λ (rs : List Race). length rs) (get_or_default rows i d [] less ∙ each i less) in
      let both = length-append (flat_map (races_between fs reads pages i) (range_with_len 0 j))
      (so_far fs reads i j s.touches.items m) in
      let long = rows-length (races_between fs reads pages i) j in
      let one = sum-most (λ k. length (races_between fs reads pages i k)) pages j (λ k. between-short fs reads pages i k) in
      let two = short-so_far fs reads i j s.touches.items m in
      let three = step-few fs reads pages j s is in
      omega arith)) in
      let four : j * pages ≤ 65536 * 1048576 = mul-le j pages 65536 1048576 (omega arith) small in
      let five : length rows * (j * pages + pages) ≤ 65536 * 68720525312 =
      mul-le (length rows) (j * pages + pages) 65536 68720525312 (omega arith) (omega arith) in
      omega arith

-- what is known of a page by its place in a list
pub page-has :
    (fs : List Fact) (reads : List (List ℕ)) (p j m : ℕ) (s : Step) (past : List PagePast) (page : PagePast)
    → HasPast fs reads p j m s (get_or past p page) → page ≡ get_or past p page → HasPast fs reads p j m s page
page-has fs reads p j m s past page has at = subst (HasPast fs reads p j m s) (sym at) has

-- the row of a step, after one more page
pub row-next :
    (fs : List Fact) (reads : List (List ℕ)) (i j m : ℕ) (touches : List Touch) (t : Touch) (row row' before found : List Race)
    → m < length touches → t ≡ get_or touches m t
    → row ≡ before ++ so_far fs reads i j touches m
    → row' ≡ row ++ found
    → found ≡ cond (is_race fs reads i j t.slot) (race_at fs i j t.slot ∷ []) []
    → row' ≡ before ++ so_far fs reads i j touches (m + 1)
row-next fs reads i j m touches t row row' before found less at is more reported =
    more
    ∙ ap₂ (λ (xs ys : List Race). xs ++ ys) is reported
    ∙ append_assoc before (so_far fs reads i j touches m) (cond (is_race fs reads i j t.slot) (race_at fs i j t.slot ∷ []) [])
    ∙ ap (λ (rs : List Race). before ++ rs) (sym (more-so_far fs reads i j touches m t less at))

-- the rows after a step
pub rows-next :
    (fs : List Fact) (reads : List (List ℕ)) (pages j m : ℕ) (s : Step) (is : IsStep fs reads pages j s)
    (rows kept opened : List (List Race))
    → length s.touches.items ≤ m → length rows ≤ j
    → ((i : ℕ) → i < length rows
    → get_or rows i []
    ≡ flat_map (races_between fs reads pages i) (range_with_len 0 j) ++ so_far fs reads i j s.touches.items m)
    → kept ≡ take (length kept) rows
    → opened ≡ cond (eqb (length kept) j) (kept ++ [] ∷ []) kept
    → (i : ℕ) → i < length opened
    → get_or opened i [] ≡ flat_map (races_between fs reads pages i) (range_with_len 0 (j + 1))
rows-next fs reads pages j m s is rows kept opened end within each first more i less =
    let shorter : length kept ≤ length rows =
    (let long = ap (λ (rs : List (List Race)). length rs) first in
    let taken = length-take (length kept) rows in
    omega arith) in
    let old : i < length kept → get_or kept i [] ≡ flat_map (races_between fs reads pages i) (range_with_len 0 (j + 1)) =
    λ low.
    ap (λ (rs : List (List Race)). get_or rs i []) first
    ∙ get_or-take (length kept) rows i [] low
    ∙ each i (omega arith)
    ∙ ap (λ (rs : List Race). flat_map (races_between fs reads pages i) (range_with_len 0 j) ++ rs)
    (all-so_far fs reads pages j s is i m end)
    ∙ sym (rows-more (races_between fs reads pages i) j) in
    elim (cases_eq (length kept) j) [
      | inl all ↦
          let yes : eqb (length kept) j ≡ true = eq-eqb (length kept) j all in
          let pushed : opened ≡ kept ++ [] ∷ [] = more ∙ ap (λ (b : Bool). cond b (kept ++ [] ∷ []) kept) yes in
          let long = ap (λ (rs : List (List Race)). length rs) pushed ∙ length_push kept [] in
          elim (cases_lt i (length kept)) [
            | inl low ↦
                ap (λ (rs : List (List Race)). get_or rs i []) pushed ∙ get_or_append_left kept ([] ∷ []) [] i low ∙ old low
            | inr last ↦
                ap (λ (rs : List (List Race)). get_or rs i []) pushed ∙ get_or_push kept [] [] i (omega arith)
                ∙ sym (rows-none (races_between fs reads pages i) (j + 1)
                (λ k below. none-early fs reads pages i k (omega arith)))
          ]
      | inr fewer ↦
          let no : eqb (length kept) j ≡ false = ne_eqb (length kept) j fewer in
          let same : opened ≡ kept = more ∙ ap (λ (b : Bool). cond b (kept ++ [] ∷ []) kept) no in
          let low : i < length kept = subst (λ (rs : List (List Race)). i < length rs) same less in
          ap (λ (rs : List (List Race)). get_or rs i []) same ∙ old low
    ]

pub rows-few :
    (j : ℕ) (rows kept opened : List (List Race)) → length rows ≤ j
    → kept ≡ take (length kept) rows → opened ≡ cond (eqb (length kept) j) (kept ++ [] ∷ []) kept
    → length opened ≤ j + 1
rows-few j rows kept opened within first more =
    let long = ap (λ (rs : List (List Race)). length rs) first in
    let taken = length-take (length kept) rows in
    by-bit (eqb (length kept) j) (ap (λ (rs : List (List Race)). length rs) more) (omega arith)
  where
    by-bit : (b : Bool) → length opened ≡ length (cond b (kept ++ [] ∷ []) kept) → length kept ≤ j → length opened ≤ j + 1
    by-bit true is few = let one = length_push kept [] in omega arith
    by-bit false is few = omega arith

-- there are enough rows: all, or as many as have the requested races
pub rows-enough :
    (j most many many' : ℕ) (rows kept opened : List (List Race))
    → (length rows ≡ j) ⊎ (most ≤ many)
    → many ≡ length (flat_map (λ (row : List Race). row) rows)
    → many' ≡ length (flat_map (λ (row : List Race). row) kept)
    → (kept ≡ rows) ⊎ (most ≤ many')
    → opened ≡ cond (eqb (length kept) j) (kept ++ [] ∷ []) kept
    → (length opened ≡ j + 1) ⊎ (most ≤ many')
rows-enough j most many many' rows kept opened enough counted counted' still more =
    elim still [
      | inl same ↦
          elim enough [
            | inl all ↦
                let long = ap (λ (rs : List (List Race)). length rs) same in
                let yes : eqb (length kept) j ≡ true = eq-eqb (length kept) j (long ∙ all) in
                inl (ap (λ (rs : List (List Race)). length rs)
                (more ∙ ap (λ (b : Bool). cond b (kept ++ [] ∷ []) kept) yes)
                ∙ length_push kept [] ∙ ap (λ (k : ℕ). k + 1) (long ∙ all))
            | inr much ↦
                let one = ap (λ (rs : List (List Race)). length (flat_map (λ (row : List Race). row) rs)) same in
                inr (omega arith)
          ]
      | inr much ↦ inr much
    ]

-- the first races are in the rows
pub rows-listed :
    (fs : List Fact) (reads : List (List ℕ)) (pages n most many : ℕ) (rows : List (List Race))
    → length rows ≤ n
    → ((i : ℕ) → i < length rows → get_or rows i [] ≡ flat_map (races_between fs reads pages i) (range_with_len 0 n))
    → many ≡ length (flat_map (λ (row : List Race). row) rows)
    → (length rows ≡ n) ⊎ (most ≤ many)
    → take most (flat_map (λ (row : List Race). row) rows)
    ≡ take most (flat_map (races_from fs reads pages n) (range_with_len 0 n))
rows-listed fs reads pages n most many rows within each counted enough =
    let are = rows-are (races_from fs reads pages n) rows 0
    (λ i less. each i less ∙ ap (races_from fs reads pages n) (omega arith)) in
    ap (take most) are
    ∙ (elim enough [
      | inl all ↦ ap (λ (k : ℕ). take most (flat_map (races_from fs reads pages n) (range_with_len 0 k))) all
      | inr much ↦
          let long = ap (λ (rs : List Race). length rs) are in
          rows-first (races_from fs reads pages n) most (length rows) n within (omega arith)
    ])

-- the accesses to each page, after one more page of the step
pub past-more :
    (fs : List Fact) (reads : List (List ℕ)) (pages j m : ℕ) (s : Step) (is : IsStep fs reads pages j s)
    (known : (i : ℕ) → i < j → (fact_at fs i).thread < 32) (t : Touch) (past : List PagePast) (page page' : PagePast)
    → m < length s.touches.items → t ≡ get_or s.touches.items m t → t.slot < length past
    → page ≡ get_or past t.slot page
    → IsPagePast page'
    → ((q : Access → Bool) → count_by q (accesses_of page') ≡ count_by q (accesses_of page) + bit (q (access_for s j t)))
    → (p : ℕ) (d : PagePast) → HasPast fs reads p j m s (get_or past p d)
    → HasPast fs reads p j (m + 1) s (get_or (set past t.slot page') p d)
past-more fs reads pages j m s is known t past page page' less at within here ok counts p d has =
    elim (cases_eq t.slot p) [
      | inl same ↦
          let old : page ≡ get_or past p d =
          here ∙ get_or_default past t.slot page d within ∙ ap (λ (k : ℕ). get_or past k d) same in
          subst (HasPast fs reads p j (m + 1) s)
          (sym (ap (λ (k : ℕ). get_or (set past t.slot page') k d) (sym same) ∙ get_or-set_same past t.slot page' d within))
          (page-more fs reads pages j s is known t p m page page' less at same
          (subst (HasPast fs reads p j m s) (sym old) has) ok counts)
      | inr other ↦
          subst (HasPast fs reads p j (m + 1) s) (sym (get_or-set_other past t.slot p page' d (λ e. other (sym e))))
          (other-page fs reads pages j s is known t p m (get_or past p d) less at other has)
    ]

-- a page of the step
pub touch-at :
    (s : Step) (touches : List Touch) (m : ℕ) (d : Touch) → touches ≡ s.touches.items → m < length touches
    → get_or touches m d ≡ get_or s.touches.items m (get_or touches m d)
touch-at s touches m d same less =
    get_or_default touches m d (get_or touches m d) less
    ∙ ap (λ (ts : List Touch). get_or ts m (get_or touches m d)) same

pub touch-is :
    (fs : List Fact) (reads : List (List ℕ)) (pages j : ℕ) (s : Step) (is : IsStep fs reads pages j s)
    (touches : List Touch) (m : ℕ) (d : Touch) → touches ≡ s.touches.items → m < length touches
    → IsTouched (fact_at fs j).written (read_at reads j) pages (get_or touches m d)
touch-is fs reads pages j s is touches m d same less =
    step-touched fs reads pages j s is m (get_or touches m d) (subst (λ (ts : List Touch). m < length ts) same less)
    (touch-at s touches m d same less)
