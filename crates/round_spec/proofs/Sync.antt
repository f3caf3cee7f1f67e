-- The facts without pages have only the first cases of the order, and clocks determine it.
use Rattle.std.proofs.Common.{◌≡◌, ◌<◌, ◌≤◌, ◌+◌, ℕ, zero, suc, Bool, true, false, ◌&&◌, ◌||◌, not, eqb, ltb, leb, cond, List, [], ◌∷◌, refl, ap, ap₂, sym, ◌∙◌, inl, inr, arith}
use Rattle.std.proofs.lemmas.Bool.{cases_lt}
use Rattle.std.proofs.lemmas.Bool.Decides.{nat_tests}
use Rattle.history_spec.specs.Facts.{Fact}
use Rattle.history_spec.specs.Before.{is_in, meets, overlap, fact_at, all_below, is_next_at, before_at}
use Rattle.history_spec.specs.Ancestors.{count_below, is_up_to, clock_at, number_at}
use Rattle.history_spec.proofs.Lists.{is_or_not}
use Rattle.history_spec.proofs.Clocks.{lt-bit, bit-lt, count-le, clock-tells}
use Rattle.round_spec.specs.Reach.{gave_at, giver_end}
use Rattle.round_spec.specs.Sync.{sync_fact, sync_facts, is_within, is_ordered, count_within, seen_at}

pub at-sync : (fs : List Fact) (i : ℕ) → fact_at (sync_facts fs) i ≡ sync_fact (fact_at fs i)
at-sync [] i = refl
at-sync (f ∷ fs) zero = refl
at-sync (f ∷ fs) (suc i) = at-sync fs i

all-like :
    (p q : ℕ → Bool) (n : ℕ) → ((k : ℕ) → p k ≡ q k) → all_below p n ≡ all_below q n
all-like p q zero same = refl
all-like p q (suc n) same = ap₂ (λ (a b : Bool). a && b) (same n) (all-like p q n same)

next-sync : (fs : List Fact) (i j : ℕ) → is_next_at (sync_facts fs) i j ≡ is_next_at fs i j
next-sync fs i j =
    all-like (λ k. leb k i || not (eqb (fact_at (sync_facts fs) k).thread (fact_at (sync_facts fs) j).thread))
    (λ k. leb k i || not (eqb (fact_at fs k).thread (fact_at fs j).thread)) j
    (λ k.
    ap₂ (λ (f g : Fact). leb k i || not (eqb f.thread g.thread)) (at-sync fs k) (at-sync fs j))

or-none : (a b : Bool) → (a || (b || false)) ≡ (a || b)
or-none true b = refl
or-none false true = refl
or-none false false = refl

-- the order of two facts, by whether the later one is the next of its thread
abbrev before-by : Fact → Fact → Bool → Bool
before-by f g next =
    eqb f.thread g.thread
    || ((is_in g.thread f.given && next)
    || (overlap f.objects g.objects
    || (meets f.written g.written || (meets f.written g.opened || (meets f.opened g.written || g.last)))))

-- the first cases only
pub before-sync :
    (fs : List Fact) (i j : ℕ)
    → before_at (sync_facts fs) i j
    ≡ (eqb (fact_at fs i).thread (fact_at fs j).thread
    || (gave_at fs i j || overlap (fact_at fs i).objects (fact_at fs j).objects))
before-sync fs i j =
    ap₂ (λ (f g : Fact). before-by f g (is_next_at (sync_facts fs) i j)) (at-sync fs i) (at-sync fs j)
    ∙ ap (before-by (sync_fact (fact_at fs i)) (sync_fact (fact_at fs j))) (next-sync fs i j)
    ∙ ap (λ (b : Bool). eqb (fact_at fs i).thread (fact_at fs j).thread || b)
    (or-none (gave_at fs i j) (overlap (fact_at fs i).objects (fact_at fs j).objects))

count-like :
    (p q : ℕ → Bool) (n : ℕ) → ((k : ℕ) → p k ≡ q k) → count_below p n ≡ count_below q n
count-like p q zero same = refl
count-like p q (suc n) same =
    ap₂ (λ (a : Bool) (m : ℕ). cond a 1 0 + m) (same n) (count-like p q n same)

number-sync : (fs : List Fact) (i : ℕ) → number_at (sync_facts fs) i ≡ number_at fs i
number-sync fs i =
    count-like (λ k. eqb (fact_at (sync_facts fs) k).thread (fact_at (sync_facts fs) i).thread)
    (λ k. eqb (fact_at fs k).thread (fact_at fs i).thread) i
    (λ k. ap₂ (λ (f g : Fact). eqb f.thread g.thread) (at-sync fs k) (at-sync fs i))

count-longer : (p : ℕ → Bool) (n d : ℕ) → count_below p n ≤ count_below p (n + d)
count-longer p n zero = let same : n + 0 ≡ n = omega arith in rw same (omega arith)
count-longer p n (suc d) =
    let rest = count-longer p n d in
    let same : n + suc d ≡ suc (n + d) = omega arith in
    rw same (omega arith)

-- a clock counts no step that comes later than its own
late-above :
    (fs : List Fact) (g i : ℕ) → g < i → clock_at fs g (fact_at fs i).thread ≤ number_at fs i
late-above fs g i late =
    let fewer =
    count-le (λ k. eqb (fact_at fs k).thread (fact_at fs i).thread && is_up_to fs g k)
    (λ k. eqb (fact_at fs k).thread (fact_at fs i).thread) (suc g)
    (λ k low both. left (eqb (fact_at fs k).thread (fact_at fs i).thread) (is_up_to fs g k) both) in
    let more =
    count-longer (λ k. eqb (fact_at fs k).thread (fact_at fs i).thread) (suc g) (Rattle.std.specs.Prelude.◌-◌ i (suc g)) in
    let same : suc g + Rattle.std.specs.Prelude.◌-◌ i (suc g) ≡ i = omega arith in
    let whole : count_below (λ k. eqb (fact_at fs k).thread (fact_at fs i).thread)
    (suc g + Rattle.std.specs.Prelude.◌-◌ i (suc g))
    ≡ count_below (λ k. eqb (fact_at fs k).thread (fact_at fs i).thread) i =
    ap (count_below (λ k. eqb (fact_at fs k).thread (fact_at fs i).thread)) same in
    omega arith
  where
    left : (a b : Bool) → (a && b) ≡ true → a ≡ true
    left true b both = refl
    left false b both = cc

late-not : (fs : List Fact) (g i : ℕ) → g < i → is_up_to fs g i ≡ false
late-not fs g i late =
    let one : eqb i g ≡ false = grind (arith, nat_tests) in
    let two : ltb i g ≡ false = grind (arith, nat_tests) in
    rw (one, two) refl

up-tells :
    (fs : List Fact) (g i : ℕ)
    → is_up_to fs g i ≡ ltb (number_at fs i) (clock_at fs g (fact_at fs i).thread)
up-tells fs g i =
    elim (cases_lt g i) [
      | inl late ↦
          let above = late-above fs g i late in
          let no : ltb (number_at fs i) (clock_at fs g (fact_at fs i).thread) ≡ false = grind (arith, nat_tests) in
          late-not fs g i late ∙ sym no
      | inr early ↦
          elim (is_or_not (is_up_to fs g i)) [
            | inl up ↦
                up ∙ sym (lt-bit (number_at fs i) (clock_at fs g (fact_at fs i).thread)
                ((clock-tells fs g i early).0 up))
            | inr isnt ↦
                elim (is_or_not (ltb (number_at fs i) (clock_at fs g (fact_at fs i).thread))) [
                  | inl below ↦
                      (let up : is_up_to fs g i ≡ true =
                      (clock-tells fs g i early).1
                      (bit-lt (number_at fs i) (clock_at fs g (fact_at fs i).thread) below) in cc)
                  | inr past ↦ isnt ∙ sym past
                ]
          ]
    ]

within-tells :
    (fs : List Fact) (end i : ℕ)
    → is_within fs end i ≡ ltb (number_at fs i) (count_within fs end (fact_at fs i).thread)
within-tells fs zero i =
    let no : ltb (number_at fs i) 0 ≡ false = grind (arith, nat_tests) in sym no
within-tells fs (suc g) i =
    up-tells (sync_facts fs) g i
    ∙ ap₂ (λ (n t : ℕ). ltb n (clock_at (sync_facts fs) g t)) (number-sync fs i)
    (ap (λ (f : Fact). f.thread) (at-sync fs i))

-- a step comes before a thunk exactly if its number is below what the thunk's view counts
pub ordered-tells :
    (fs : List Fact) (i j : ℕ) → is_ordered fs i j ≡ ltb (number_at fs i) (seen_at fs j (fact_at fs i).thread)
unfolding is_ordered seen_at
ordered-tells fs i j = within-tells fs (giver_end fs j) i
