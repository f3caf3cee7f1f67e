-- The steps of a history by their places, their threads and numbers, and which of them have come.
use Rattle.std.proofs.Common.{◌≡◌, ◌≢◌, ◌<◌, ◌+◌, ℕ, zero, suc, Bool, true, false, ◌||◌, eqb, cond, List, [], ◌∷◌, length, map, find, Some, refl, ap, sym, ◌∙◌, subst, inl, inr, ◌⊎◌, arith}
use Rattle.std.proofs.Math.ListN as numbered
use Rattle.std.proofs.lemmas.Bool.{cases_eq, cases_lt, eq-eqb, eqb-true}
use Rattle.std.proofs.lemmas.Bool.Decides.{nat_tests}
use Rattle.std.specs.List.{AllByRecursion}
use Rattle.thunk_spec.specs.Record.{Record}
use Rattle.history_spec.specs.History.{History, IsHonest, is_of}
use Rattle.history_spec.proofs.Numbers.{one_for, honest-numbered}
use Rattle.history_spec.proofs.Truth.{found-of}
use Rattle.history_spec.specs.Facts.{Fact, facts, read_slots}
use Rattle.history_spec.specs.Before.{is_in, fact_at}
use Rattle.history_spec.specs.Keeping.{record_thread}
use Rattle.history_spec.specs.Ancestors.{number_at}
use Rattle.history_spec.proofs.Lists.{or-in_left, or-in_right, is_or_not}
use Rattle.round_spec.proofs.Placed as placed
use Rattle.round_spec.proofs.Placed.{no_record, number-same}
use Rattle.round_spec.proofs.Like.{record_at}
use Rattle.round_spec.specs.Reach.{read_at, reads_of}

-- records at places

pub all-at : (P : Record → Type 0) (rs : List Record) (j : ℕ) → AllByRecursion P rs → j < length rs → P (record_at rs j)
all-at P [] j all below = absurd (omega arith)
all-at P (r ∷ rs) zero all below = all.0
all-at P (r ∷ rs) (suc j) all below = all-at P rs j all.1 (omega arith)

-- the place of a record
pub record IsPlace (rs : List Record) (r : Record) : Type 0 where
  pub at : ℕ
  pub below : at < length rs
  pub is : record_at rs at ≡ r

pub find-place : (test : Record → Bool) (rs : List Record) (r : Record) → find test rs ≡ Some r → IsPlace rs r
find-place test [] r there = cc
find-place test (x ∷ rs) r there = here (test x) (find-place test rs r) there
  where
    here :
        (b : Bool) → (find test rs ≡ Some r → IsPlace rs r) → cond b (Some x) (find test rs) ≡ Some r
        → IsPlace (x ∷ rs) r
    here true later is = record { at = 0; below = omega arith; is = (let same : x ≡ r = cc in same) }
    here false later is =
        let place =
        later is in record { at = suc place.at; below = (let below = place.below in omega arith); is = place.is }

module _ (h : History) (honest : IsHonest h) where
  pub thread-is : (k : ℕ) → (fact_at (facts h) k).thread ≡ (record_at h.records k).thread
  thread-is k = sym (placed.thread-is h k) ∙ numbered.get_or-map record_thread h.records k no_record

  pub number-is : (j : ℕ) → j < length h.records → (record_at h.records j).number ≡ number_at (facts h) j
  number-is j below = placed.record-number h j (honest-numbered h honest) below

  -- the place of a found record
  pub record IsStepPlace (t number : ℕ) (r : Record) : Type 0 where
    pub at : ℕ
    pub below : at < length h.records
    pub is : record_at h.records at ≡ r
    pub of_thread : (fact_at (facts h) at).thread ≡ t
    pub of_number : number_at (facts h) at ≡ number

  pub found-place : (t number : ℕ) (r : Record) → find (is_of t number) h.records ≡ Some r → IsStepPlace t number r
  found-place t number r there =
      let place = find-place (is_of t number) h.records r there in
      let of = found-of t number h.records r there in
      record {
        at = place.at;
        below = place.below;
        is = place.is;
        of_thread = thread-is place.at ∙ ap (λ (x : Record). x.thread) place.is ∙ of.0;
        of_number = sym (number-is place.at place.below) ∙ ap (λ (x : Record). x.number) place.is ∙ of.1;
      }

read-map : (rs : List Record) (j : ℕ) → read_at (map (λ (r : Record). read_slots r) rs) j ≡ read_slots (record_at rs j)
read-map [] j = refl
read-map (r ∷ rs) zero = refl
read-map (r ∷ rs) (suc j) = read-map rs j

pub reads-at : (h : History) (j : ℕ) → read_at (reads_of h) j ≡ read_slots (record_at h.records j)
reads-at h j = read-map h.records j

-- which steps have come, by how many of each thread have

-- the places that have come are those of the first steps of each thread, as many as it has made
pub record IsMade (fs : List Fact) (come : List ℕ) (count : ℕ → ℕ) : Type 0 where
  pub to : (j : ℕ) → j < length fs → is_in j come ≡ true → number_at fs j < count (fact_at fs j).thread
  pub from : (j : ℕ) → j < length fs → number_at fs j < count (fact_at fs j).thread → is_in j come ≡ true

pub made-like :
    (fs : List Fact) (come : List ℕ) (count other : ℕ → ℕ) → ((u : ℕ) → other u ≡ count u) → IsMade fs come count
    → IsMade fs come other
made-like fs come count other same made =
    record {
      to = λ j below there. (let less = made.to j below there in let is = same (fact_at fs j).thread in omega arith);
      from = λ j below less. made.from j below (let is = same (fact_at fs j).thread in omega arith);
    }

pub made-more :
    (fs : List Fact) (come : List ℕ) (count : ℕ → ℕ) (j : ℕ)
    → number_at fs j ≡ count (fact_at fs j).thread → IsMade fs come count
    → IsMade fs (j ∷ come) (λ u. count u + one_for u (fact_at fs j).thread)
made-more fs come count j number made =
    record {
      to = λ i below there. to i below (cases_eq j i) there;
      from = λ i below less. from i below (is_or_not (eqb (fact_at fs j).thread (fact_at fs i).thread)) less;
    }
  where
    to :
        (i : ℕ) → i < length fs → (j ≡ i) ⊎ (j ≢ i) → (eqb j i || is_in i come) ≡ true
        → number_at fs i < count (fact_at fs i).thread + one_for (fact_at fs i).thread (fact_at fs j).thread
    to i below (inl same) there =
        subst (λ (k : ℕ).
        number_at fs k < count (fact_at fs k).thread + one_for (fact_at fs k).thread (fact_at fs j).thread) same
        (let own : one_for (fact_at fs j).thread (fact_at fs j).thread ≡ 1 =
        (let is : eqb (fact_at fs j).thread (fact_at fs j).thread ≡ true =
        eq-eqb (fact_at fs j).thread (fact_at fs j).thread refl in rw is refl) in omega arith)
    to i below (inr other) there =
        let isnt : eqb j i ≡ false = grind (arith, nat_tests) in
        let less = made.to i below (rw isnt at there) in
        omega arith

    from :
        (i : ℕ) → i < length fs
        → (eqb (fact_at fs j).thread (fact_at fs i).thread ≡ true) ⊎
        (eqb (fact_at fs j).thread (fact_at fs i).thread ≡ false)
        → number_at fs i < count (fact_at fs i).thread + one_for (fact_at fs i).thread (fact_at fs j).thread
        → (eqb j i || is_in i come) ≡ true
    from i below (inl is) less =
        let same : (fact_at fs j).thread ≡ (fact_at fs i).thread =
        eqb-true (fact_at fs j).thread (fact_at fs i).thread is in
        let one : one_for (fact_at fs i).thread (fact_at fs j).thread ≡ 1 = (rw is refl) in
        elim (cases_lt (number_at fs i) (count (fact_at fs i).thread)) [
          | inl early ↦ or-in_right (eqb j i) (is_in i come) (made.from i below early)
          | inr late ↦
              let number_i : number_at fs j ≡ number_at fs i =
              (let count_same : count (fact_at fs j).thread ≡ count (fact_at fs i).thread = ap count same in
              omega arith) in
              or-in_left (eqb j i) (is_in i come) (eq-eqb j i (number-same fs j i same number_i))
        ]
    from i below (inr isnt) less =
        let none : one_for (fact_at fs i).thread (fact_at fs j).thread ≡ 0 = (rw isnt refl) in
        or-in_right (eqb j i) (is_in i come) (made.from i below (omega arith))
