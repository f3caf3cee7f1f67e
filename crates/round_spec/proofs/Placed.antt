-- The steps of a history by their places, their threads and numbers, and which threads are due by that.
use Rattle.std.proofs.Common.{◌≡◌, ◌<◌, ◌≤◌, ◌+◌, ℕ, zero, suc, Bool, true, false, ◌&&◌, ◌||◌, not, eqb, cond, List, [], ◌∷◌, ◌++◌, length, map, get_or, count_by, Some, refl, ap, ap₂, sym, ◌∙◌, subst, inl, inr, arith}
use Rattle.std.proofs.Math.ListN as numbered
use Rattle.std.proofs.lemmas.Bool.{cases_eq, cases_lt, eq-eqb, eqb-true}
use Rattle.std.proofs.lemmas.List.{get_or-map}
use Rattle.std.proofs.lemmas.List.Sums.{fails_before_first, passes_at_first}
use Rattle.thunk_spec.specs.declared.ends.ThunkEnd.TheVariants as thunk_end
use Rattle.thunk_spec.specs.Record.{Record}
use Rattle.machine_spec.specs.Machine.{Machine, hart_of}
use Rattle.machine_spec.specs.Setup.{first}
use Rattle.history_spec.specs.History.{History, is_of, is_numbered, is_numbered_after, threads_of_records}
use Rattle.history_spec.proofs.Numbers.{one_for, count-more}
use Rattle.history_spec.specs.Facts.{Fact, facts, reads_in}
use Rattle.history_spec.specs.Before.{no_fact, fact_at, all_below}
use Rattle.history_spec.specs.Keeping.{fact_thread, record_thread}
use Rattle.history_spec.specs.Ancestors.{count_below, number_at}
use Rattle.history_spec.proofs.Lists.{and-left, and-right}
use Rattle.history_spec.proofs.Places.{below-all}
use Rattle.history_spec.proofs.Clocks.{count-step}
use Rattle.history_spec.proofs.Honest.{facts-threads}
use Rattle.round_spec.specs.Due.{place_in, is_step_at, are_passed_before, is_due_by, is_due}

-- tests of all numbers below another, and what they imply

pub all-below-of : (test : ℕ → Bool) (n : ℕ) → ((i : ℕ) → i < n → test i ≡ true) → all_below test n ≡ true
all-below-of test zero all = refl
all-below-of test (suc n) all =
    let here = all n (omega arith) in
    let rest = all-below-of test n (λ i less. all i (omega arith)) in
    rw (here, rest) refl

pub not-or : (a b : Bool) → (a ≡ true → b ≡ true) → (not a || b) ≡ true
not-or true b h = h refl
not-or false b h = refl

pub not-or_gives : (a b : Bool) → (not a || b) ≡ true → a ≡ true → b ≡ true
not-or_gives true b h is = h
not-or_gives false b h is = cc

same-bit : (a b : Bool) → (a ≡ true → b ≡ true) → (b ≡ true → a ≡ true) → a ≡ b
same-bit true b to from = sym (to refl)
same-bit false true to from = from refl
same-bit false false to from = refl

-- numbers within a thread

pub number-less :
    (fs : List Fact) (i j : ℕ) → i < j → (fact_at fs i).thread ≡ (fact_at fs j).thread
    → suc (number_at fs i) ≤ number_at fs j
number-less fs i j below same =
    subst (λ (t : ℕ). suc (count_below (λ k. eqb (fact_at fs k).thread t) i) ≤ number_at fs j) (sym same)
    (count-step (λ k. eqb (fact_at fs k).thread (fact_at fs j).thread) i j below
    (eq-eqb (fact_at fs i).thread (fact_at fs j).thread same))

pub number-same :
    (fs : List Fact) (i j : ℕ)
    → (fact_at fs i).thread ≡ (fact_at fs j).thread → number_at fs i ≡ number_at fs j → i ≡ j
number-same fs i j same number =
    elim (cases_lt i j) [
      | inl below ↦ absurd (let less = number-less fs i j below same in omega arith)
      | inr past ↦
          elim (cases_eq i j) [
            | inl is ↦ is
            | inr other ↦ absurd (let less = number-less fs j i (omega arith) (sym same) in omega arith)
          ]
    ]

pub count-shift : (p : ℕ → Bool) (n : ℕ) → count_below p (suc n) ≡ cond (p 0) 1 0 + count_below (λ k. p (suc k)) n
count-shift p zero = refl
count-shift p (suc n) = let rest = count-shift p n in omega arith

pub count-like : (p q : ℕ → Bool) (n : ℕ) → ((k : ℕ) → p k ≡ q k) → count_below p n ≡ count_below q n
count-like p q zero same = refl
count-like p q (suc n) same = ap₂ (λ (b : Bool) (k : ℕ). cond b 1 0 + k) (same n) (count-like p q n same)

-- the number of a record is how many of its thread come before it
numbered-at :
    (rs : List Record) (earlier : List ℕ) (j : ℕ) (d : Record)
    → is_numbered_after earlier rs ≡ true → j < length rs
    → (get_or rs j d).number
    ≡ count_by (λ (t : ℕ). eqb t (get_or rs j d).thread) earlier
    + count_below (λ k. eqb (get_or (threads_of_records rs) k 0) (get_or rs j d).thread) j
numbered-at [] earlier j d right below = absurd (omega arith)
numbered-at (x ∷ rs) earlier zero d right below =
    let is : x.number ≡ count_by (λ (t : ℕ). eqb t x.thread) earlier =
    eqb-true x.number (count_by (λ (t : ℕ). eqb t x.thread) earlier)
    (and-left (eqb x.number (count_by (λ (t : ℕ). eqb t x.thread) earlier))
    (is_numbered_after (earlier ++ x.thread ∷ []) rs) right) in
    omega arith
numbered-at (x ∷ rs) earlier (suc j) d right below =
    let later =
    numbered-at rs (earlier ++ x.thread ∷ []) j d
    (and-right (eqb x.number (count_by (λ (t : ℕ). eqb t x.thread) earlier))
    (is_numbered_after (earlier ++ x.thread ∷ []) rs) right) (omega arith) in
    let more = count-more (get_or rs j d).thread x.thread earlier in
    let shift = count-shift (λ k. eqb (get_or (x.thread ∷ threads_of_records rs) k 0) (get_or rs j d).thread) j in
    let one : one_for (get_or rs j d).thread x.thread ≡ cond (eqb x.thread (get_or rs j d).thread) 1 0 = refl in
    omega arith

-- the stand-in for a record that doesn't exist
abbrev pub no_record : Record
no_record =
    record {
      thread = 0;
      number = 0;
      start = record { pc = 0; x = [] };
      kept = record {
        reads = [];
        delta = [];
        finish = record { pc = 0; x = [] };
        end = thunk_end.Fuel;
        count = 0;
      };
    }

-- the facts of a history are of the threads of its records
pub facts-of : (h : History) → map fact_thread (facts h) ≡ threads_of_records h.records
facts-of h = facts-threads (reads_in h.records) (first h.setup) h.records

same-length : (fs : List Fact) (rs : List Record) → map fact_thread fs ≡ map record_thread rs → length fs ≡ length rs
same-length [] [] same = refl
same-length [] (r ∷ rs) same = cc
same-length (f ∷ fs) [] same = cc
same-length (f ∷ fs) (r ∷ rs) same =
    ap suc (same-length fs rs (let rest : map fact_thread fs ≡ map record_thread rs = cc in rest))

pub facts-length : (h : History) → length (facts h) ≡ length h.records
facts-length h = same-length (facts h) h.records (facts-of h)

pub thread-is : (h : History) (k : ℕ) → get_or (threads_of_records h.records) k 0 ≡ (fact_at (facts h) k).thread
thread-is h k =
    ap (λ (ts : List ℕ). get_or ts k 0) (sym (facts-of h)) ∙ numbered.get_or-map fact_thread (facts h) k no_fact

pub record-thread :
    (h : History) (j : ℕ) → j < length h.records
    → (get_or h.records j no_record).thread ≡ (fact_at (facts h) j).thread
record-thread h j below = sym (get_or-map record_thread h.records j no_record 0 below) ∙ thread-is h j

pub record-number :
    (h : History) (j : ℕ) → is_numbered h.records ≡ true → j < length h.records
    → (get_or h.records j no_record).number ≡ number_at (facts h) j
record-number h j right below =
    (let is = numbered-at h.records [] j no_record right below in
    let same :
    (get_or h.records j no_record).number
    ≡ count_below (λ k. eqb (get_or (threads_of_records h.records) k 0) (get_or h.records j no_record).thread) j =
    omega arith in
    same)
    ∙ count-like
    (λ k. eqb (get_or (threads_of_records h.records) k 0) (get_or h.records j no_record).thread)
    (λ k. eqb (fact_at (facts h) k).thread (fact_at (facts h) j).thread) j
    (λ k. ap₂ eqb (thread-is h k) (record-thread h j below))

-- a record is of a thread at a number exactly if its place is that of the thread's step at the number
pub step-at :
    (h : History) (t number j : ℕ) → is_numbered h.records ≡ true → j < length h.records
    → is_of t number (get_or h.records j no_record) ≡ is_step_at (facts h) t number j
step-at h t number j right below =
    ap₂ (λ (u n : ℕ). eqb u t && eqb n number) (record-thread h j below) (record-number h j right below)

-- the thread of the step at a place
pub step-thread : (fs : List Fact) (t number j : ℕ) → is_step_at fs t number j ≡ true → (fact_at fs j).thread ≡ t
step-thread fs t number j is =
    eqb-true (fact_at fs j).thread t (and-left (eqb (fact_at fs j).thread t) (eqb (number_at fs j) number) is)

pub step-number : (fs : List Fact) (t number j : ℕ) → is_step_at fs t number j ≡ true → number_at fs j ≡ number
step-number fs t number j is =
    eqb-true (number_at fs j) number (and-right (eqb (fact_at fs j).thread t) (eqb (number_at fs j) number) is)

-- a thread without a place is due
pub absent-due :
    (h : History) (m : Machine) (t : ℕ) → is_numbered h.records ≡ true → place_in (Some h) m t ≡ length h.records
    → is_due (Some h) m t ≡ true
unfolding is_due
absent-due h m t right far =
    all-below-of
    (λ j. not (is_step_at (facts h) t (hart_of m t).number j) || are_passed_before (facts h) m j)
    (length (facts h))
    (λ j less.
    let long = facts-length h in
    let none : is_step_at (facts h) t (hart_of m t).number j ≡ false =
    sym (step-at h t (hart_of m t).number j right (omega arith))
    ∙ fails_before_first (is_of t (hart_of m t).number) h.records j no_record (omega arith) in
    rw none refl)

-- the step of a thread that has a place is there
pub placed-step :
    (h : History) (m : Machine) (t : ℕ) → is_numbered h.records ≡ true → place_in (Some h) m t < length h.records
    → is_step_at (facts h) t (hart_of m t).number (place_in (Some h) m t) ≡ true
placed-step h m t right near =
    sym (step-at h t (hart_of m t).number (place_in (Some h) m t) right near)
    ∙ passes_at_first (is_of t (hart_of m t).number) h.records no_record near

-- a thread whose step is at a place is due exactly if all that must come before that place is passed
pub due-at :
    (fs : List Fact) (m : Machine) (t j : ℕ) → j < length fs → is_step_at fs t (hart_of m t).number j ≡ true
    → is_due_by fs m t ≡ are_passed_before fs m j
due-at fs m t j below is =
    same-bit (is_due_by fs m t) (are_passed_before fs m j)
    (λ due.
    not-or_gives (is_step_at fs t (hart_of m t).number j) (are_passed_before fs m j)
    (below-all (λ i. not (is_step_at fs t (hart_of m t).number i) || are_passed_before fs m i) (length fs) j due below)
    is)
    (λ passed.
    all-below-of (λ i. not (is_step_at fs t (hart_of m t).number i) || are_passed_before fs m i) (length fs)
    (λ i less.
    not-or (is_step_at fs t (hart_of m t).number i) (are_passed_before fs m i)
    (λ there.
    let same : i ≡ j =
    number-same fs i j
    (step-thread fs t (hart_of m t).number i there ∙ sym (step-thread fs t (hart_of m t).number j is))
    (step-number fs t (hart_of m t).number i there ∙ sym (step-number fs t (hart_of m t).number j is)) in
    ap (are_passed_before fs m) same ∙ passed)))

pub placed-due :
    (h : History) (m : Machine) (t : ℕ) → is_numbered h.records ≡ true → place_in (Some h) m t < length h.records
    → is_due (Some h) m t ≡ are_passed_before (facts h) m (place_in (Some h) m t)
unfolding is_due
placed-due h m t right near =
    let long = facts-length h in
    due-at (facts h) m t (place_in (Some h) m t) (omega arith) (placed-step h m t right near)
