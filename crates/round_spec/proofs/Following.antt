-- If a history is honest and its own setup is run again, its next step is due, is the one that is chosen, and its
-- record fits.
use Rattle.std.proofs.Common.{◌≡◌, ◌≢◌, ◌<◌, ◌≤◌, ◌+◌, ℕ, zero, suc, Bool, true, false, not, ◌&&◌, ◌||◌, eqb, ltb, List, [], ◌∷◌, ◌++◌, length, length-append, map, take, get_or, Option, Some, None, is_some, is_none, find, refl, ap, sym, ◌∙◌, subst, append_assoc, append-nil, inl, inr, arith}
use Rattle.std.proofs.lemmas.List.{get_or_append_left}
use Rattle.std.proofs.lemmas.Bool.{eq-eqb, ne_eqb, cases_eq}
use Rattle.std.specs.List.{AllByRecursion, position_or_len}
use Rattle.thunk_spec.specs.Record.{Record}
use Rattle.machine_spec.specs.declared.states.End.{End}
use Rattle.machine_spec.specs.Machine.{Machine, hart_of, is_ready}
use Rattle.machine_spec.specs.Step.{step, fits, can_step}
use Rattle.machine_spec.specs.Schedule.{scratch_from, is_permitted_from, record_of, records_from}
use Rattle.machine_spec.specs.Setup.{first, scratch, records}
use Rattle.machine_spec.specs.Whole.{IsWhole}
use Rattle.machine_spec.proofs.Beginning.{IsWhole-first}
use Rattle.machine_spec.proofs.Alone.{step-limit, step-steps, first-limit}
use Rattle.machine_spec.proofs.Steps.{can_step-ready}
use Rattle.history_spec.specs.History.{History, IsHonest, schedule_of, is_of, past_records, is_numbered}
use Rattle.history_spec.proofs.Scratch.{and-left, and-right, scratch-whole, scratch-more}
use Rattle.history_spec.proofs.Numbers.{first-steps, honest-numbered}
use Rattle.history_spec.proofs.Truth.{record-fits}
use Rattle.history_spec.specs.Facts.{facts}
use Rattle.history_spec.specs.Before.{fact_at}
use Rattle.history_spec.specs.Ancestors.{is_ancestor, number_at}
use Rattle.history_spec.proofs.Lists.{or-in_left}
use Rattle.history_spec.proofs.Clocks.{lt-bit}
use Rattle.history_spec.proofs.Alike.{fits-parts}
use Rattle.report_spec.specs.declared.Entry.{Entry}
use Rattle.round_spec.specs.Marks.{record_for, is_fitting, fits_next, marked_from}
use Rattle.round_spec.specs.Rounds.{none_in_flight}
use Rattle.round_spec.specs.Due.{place_in, is_passed_at, are_passed_before, is_due}
use Rattle.round_spec.specs.Choice.{choice_by}
use Rattle.round_spec.specs.Alone.{guided_from}
use Rattle.round_spec.proofs.Placed.{all-below-of, not-or, no_record, record-thread, record-number, placed-due}
use Rattle.round_spec.proofs.Choosing.{choice_by-chosen, free-ready}
use Rattle.round_spec.proofs.Numbers.{IsMadeOn, made-all}
use Rattle.round_spec.proofs.Picks.{guided-over, guided-next, Stands, Over, Goes, stands}

-- if no record in front passes a test

position-after :
    (p : Record → Bool) (front rest : List Record)
    → AllByRecursion (λ r. p r ≡ false) front
    → position_or_len p (front ++ rest) ≡ length front + position_or_len p rest
position-after p [] rest all = omega arith
position-after p (r ∷ front) rest all = rw all.0 (let later = position-after p front rest all.1 in omega arith)

find-after :
    (p : Record → Bool) (front rest : List Record)
    → AllByRecursion (λ r. p r ≡ false) front → find p (front ++ rest) ≡ find p rest
find-after p [] rest all = refl
find-after p (r ∷ front) rest all = rw all.0 (find-after p front rest all.1)

-- a record whose step has been made is none of a next step
made-not_next : (m : Machine) (u : ℕ) (r : Record) → IsMadeOn m r → is_of u (hart_of m u).number r ≡ false
made-not_next m u r made =
    elim (cases_eq r.thread u) [
      | inl same ↦
          let number : eqb r.number (hart_of m u).number ≡ false =
          ne_eqb r.number (hart_of m u).number
          (λ is.
          let now : (hart_of m r.thread).number ≡ (hart_of m u).number = ap (λ (t : ℕ). (hart_of m t).number) same in
          omega arith) in
          right (eqb r.thread u) (eqb r.number (hart_of m u).number) number
      | inr other ↦ left (eqb r.thread u) (eqb r.number (hart_of m u).number) (ne_eqb r.thread u other)
    ]
  where
    left : (a b : Bool) → a ≡ false → (a && b) ≡ false
    left a b none = rw none refl

    right : (a b : Bool) → b ≡ false → (a && b) ≡ false
    right true b none = none
    right false b none = refl

made-none_next :
    (m : Machine) (u : ℕ) (rs : List Record) → AllByRecursion (IsMadeOn m) rs
    → AllByRecursion (λ r. is_of u (hart_of m u).number r ≡ false) rs
made-none_next m u [] all = tt
made-none_next m u (r ∷ rs) all = (made-not_next m u r all.0, made-none_next m u rs all.1)

-- the records in front are of steps that have been made, and then comes the one of a step that can be made
pub record IsNext (past : Option History) (m : Machine) (front : List Record) (r : Record) (back : List Record) : Type 0
  where
    pub split : past_records past ≡ front ++ r ∷ back
    pub numbered : is_numbered (past_records past) ≡ true
    pub made : AllByRecursion (IsMadeOn m) front
    pub can : can_step m r.thread ≡ true
    pub number : r.number ≡ (hart_of m r.thread).number

own-record :
    (m : Machine) (r : Record) → r.number ≡ (hart_of m r.thread).number
    → is_of r.thread (hart_of m r.thread).number r ≡ true
own-record m r is =
    let thread : eqb r.thread r.thread ≡ true = eq-eqb r.thread r.thread refl in
    let number : eqb r.number (hart_of m r.thread).number ≡ true = eq-eqb r.number (hart_of m r.thread).number is in
    rw (thread, number) refl

other-record : (m : Machine) (r : Record) (u : ℕ) → u ≢ r.thread → is_of u (hart_of m u).number r ≡ false
other-record m r u other =
    let thread : eqb r.thread u ≡ false = ne_eqb r.thread u (λ same. other (sym same)) in
    rw thread refl

pub next-place :
    (past : Option History) (m : Machine) (front : List Record) (r : Record) (back : List Record)
    → IsNext past m front r back → place_in past m r.thread ≡ length front
next-place past m front r back next =
    ap (position_or_len (is_of r.thread (hart_of m r.thread).number)) next.split
    ∙ position-after (is_of r.thread (hart_of m r.thread).number) front (r ∷ back)
    (made-none_next m r.thread front next.made)
    ∙ here (own-record m r next.number)
  where
    here :
        is_of r.thread (hart_of m r.thread).number r ≡ true
        → length front + position_or_len (is_of r.thread (hart_of m r.thread).number) (r ∷ back) ≡ length front
    here own = rw own (omega arith)

pub other-place :
    (past : Option History) (m : Machine) (front : List Record) (r : Record) (back : List Record) (u : ℕ)
    → IsNext past m front r back → u ≢ r.thread → length front < place_in past m u
other-place past m front r back u next other =
    let split = ap (position_or_len (is_of u (hart_of m u).number)) next.split in
    let after =
    position-after (is_of u (hart_of m u).number) front (r ∷ back) (made-none_next m u front next.made) in
    let here = later (other-record m r u other) in
    omega arith
  where
    later :
        is_of u (hart_of m u).number r ≡ false
        → 1 ≤ position_or_len (is_of u (hart_of m u).number) (r ∷ back)
    later not_own = rw not_own (omega arith)

pub next-found :
    (past : Option History) (m : Machine) (front : List Record) (r : Record) (back : List Record)
    → IsNext past m front r back → record_for past m r.thread ≡ Some r
next-found past m front r back next =
    ap (find (is_of r.thread (hart_of m r.thread).number)) next.split
    ∙ find-after (is_of r.thread (hart_of m r.thread).number) front (r ∷ back)
    (made-none_next m r.thread front next.made)
    ∙ here (own-record m r next.number)
  where
    here :
        is_of r.thread (hart_of m r.thread).number r ≡ true
        → find (is_of r.thread (hart_of m r.thread).number) (r ∷ back) ≡ Some r
    here own = rw own refl

pub next-fits :
    (past : Option History) (m : Machine) (front : List Record) (r : Record) (back : List Record)
    → IsNext past m front r back → fits m r ≡ true → fits_next past m r.thread ≡ true
next-fits past m front r back next fit = ap (is_fitting m) (next-found past m front r back next) ∙ fit

-- after all of them, no record is that of a next step
pub made-absent :
    (past : Option History) (m : Machine) (u : ℕ) → AllByRecursion (IsMadeOn m) (past_records past)
    → place_in past m u ≡ length (past_records past)
made-absent past m u made =
    ap (position_or_len (is_of u (hart_of m u).number)) (sym (append-nil (past_records past)))
    ∙ position-after (is_of u (hart_of m u).number) (past_records past) []
    (made-none_next m u (past_records past) made)
    ∙ omega arith

all-at :
    (P : Record → Type 0) (rs : List Record) (j : ℕ) (d : Record) → AllByRecursion P rs → j < length rs
    → P (get_or rs j d)
all-at P [] j d all below = absurd (omega arith)
all-at P (r ∷ rs) zero d all below = all.0
all-at P (r ∷ rs) (suc j) d all below = all-at P rs j d all.1 (omega arith)

-- all steps in front are passed
next-passed :
    (h : History) (m : Machine) (front : List Record) (r : Record) (back : List Record) (a : ℕ)
    → IsNext (Some h) m front r back → a < length front → is_passed_at (facts h) m a ≡ true
next-passed h m front r back a next less =
    let there : get_or h.records a no_record ≡ get_or front a no_record =
    ap (λ (rs : List Record). get_or rs a no_record) next.split
    ∙ get_or_append_left front (r ∷ back) no_record a less in
    let made : IsMadeOn m (get_or h.records a no_record) =
    subst (IsMadeOn m) (sym there) (all-at (IsMadeOn m) front a no_record next.made less) in
    let long = ap (λ (rs : List Record). length rs) next.split in
    let parts = length-append front (r ∷ back) in
    let below : a < length h.records = omega arith in
    let thread = ap (λ (u : ℕ). (hart_of m u).number) (record-thread h a below) in
    let number = record-number h a next.numbered below in
    or-in_left (ltb (number_at (facts h) a) (hart_of m (fact_at (facts h) a).thread).number) _
    (lt-bit (number_at (facts h) a) (hart_of m (fact_at (facts h) a).thread).number (omega arith))

pub next-due :
    (past : Option History) (m : Machine) (front : List Record) (r : Record) (back : List Record)
    → IsNext past m front r back → is_due past m r.thread ≡ true
unfolding is_due
next-due None m front r back next = refl
next-due (Some h) m front r back next =
    let place : place_in (Some h) m r.thread ≡ length front = next-place (Some h) m front r back next in
    let long = ap (λ (rs : List Record). length rs) next.split in
    let parts = length-append front (r ∷ back) in
    placed-due h m r.thread next.numbered (omega arith)
    ∙ ap (are_passed_before (facts h) m) place
    ∙ all-below-of (λ a. not (is_ancestor (facts h) a (length front)) || is_passed_at (facts h) m a) (length front)
    (λ a less.
    not-or (is_ancestor (facts h) a (length front)) (is_passed_at (facts h) m a)
    (λ ancestor. next-passed h m front r back a next less))

pub can_step-none : (m : Machine) (t : ℕ) → can_step m t ≡ true → m.ending ≡ None
can_step-none m t can = none (m.ending) (and-left (is_none m.ending) (is_ready (hart_of m t).status) can)
  where
    none : (e : Option End) → is_none e ≡ true → e ≡ None
    none (Some e) h = cc
    none None h = refl

-- it is the chosen one
pub next-chosen :
    (past : Option History) (m : Machine) (front : List Record) (r : Record) (back : List Record)
    → IsWhole m → IsNext past m front r back → choice_by past m none_in_flight ≡ Some r.thread
next-chosen past m front r back whole next = by (stands past m whole)
  where
    by : Stands past m → choice_by past m none_in_flight ≡ Some r.thread
    by (Over e is) = absurd (let none = can_step-none m r.thread next.can in cc)
    by (Goes u none chosen can) =
        elim (cases_eq u r.thread) [
          | inl same ↦ chosen ∙ ap (λ (n : ℕ). Some n) same
          | inr other ↦ absurd
              (let least =
              (choice_by-chosen past m none_in_flight u chosen).least r.thread
              (free-ready m r.thread ∙ can_step-ready m r.thread next.can)
              (next-due past m front r back next) in
              let own = next-place past m front r back next in
              let far = other-place past m front r back u next other in
              omega arith)
        ]

-- schedules in two parts

pub permitted-front :
    (m : Machine) (xs ys : List ℕ) → is_permitted_from m (xs ++ ys) ≡ true
    → is_permitted_from m xs ≡ true
permitted-front m [] ys permitted = refl
permitted-front m (x ∷ xs) ys permitted =
    rw (and-left (can_step m x) (is_permitted_from (step m x) (xs ++ ys)) permitted)
    (permitted-front (step m x) xs ys (and-right (can_step m x) (is_permitted_from (step m x) (xs ++ ys)) permitted))

pub permitted-back :
    (m : Machine) (xs ys : List ℕ) → is_permitted_from m (xs ++ ys) ≡ true
    → is_permitted_from (scratch_from m xs) ys ≡ true
permitted-back m [] ys permitted = permitted
permitted-back m (x ∷ xs) ys permitted =
    permitted-back (step m x) xs ys (and-right (can_step m x) (is_permitted_from (step m x) (xs ++ ys)) permitted)

pub records-both :
    (m : Machine) (xs ys : List ℕ)
    → records_from m (xs ++ ys) ≡ records_from m xs ++ records_from (scratch_from m xs) ys
records-both m [] ys = refl
records-both m (x ∷ xs) ys = ap (λ (rs : List Record). record_of m x ∷ rs) (records-both (step m x) xs ys)

-- the machine after some first steps of an honest history
pub honest-whole : (h : History) (xs ys : List ℕ) → IsHonest h → schedule_of h ≡ xs ++ ys → IsWhole (scratch h.setup xs)
honest-whole h xs ys honest split =
    scratch-whole (first h.setup) xs (IsWhole-first h.setup honest.valid)
    (permitted-front (first h.setup) xs ys (ap (is_permitted_from (first h.setup)) (sym split) ∙ honest.permitted))

-- the record of a step that can be made fits before it
pub own-fits : (m : Machine) (t : ℕ) → can_step m t ≡ true → fits m (record_of m t) ≡ true
own-fits m t can = record-fits m t (can_step-ready m t can)

-- the next step of an honest history
pub honest-next :
    (h : History) (xs : List ℕ) (t : ℕ) (ys : List ℕ)
    → IsHonest h → schedule_of h ≡ xs ++ t ∷ ys
    → IsNext (Some h) (scratch h.setup xs) (records h.setup xs) (record_of (scratch h.setup xs) t)
    (records_from (step (scratch h.setup xs) t) ys)
honest-next h xs t ys honest split =
    let permitted : is_permitted_from (first h.setup) (xs ++ t ∷ ys) ≡ true =
    ap (is_permitted_from (first h.setup)) (sym split) ∙ honest.permitted in
    let back : is_permitted_from (scratch h.setup xs) (t ∷ ys) ≡ true =
    permitted-back (first h.setup) xs (t ∷ ys) permitted in
    let can : can_step (scratch h.setup xs) t ≡ true =
    and-left (can_step (scratch h.setup xs) t) (is_permitted_from (step (scratch h.setup xs) t) ys) back in
    record {
      split = honest.recorded ∙ ap (records h.setup) split ∙ records-both (first h.setup) xs (t ∷ ys);
      numbered = honest-numbered h honest;
      made = made-all (first h.setup) xs (permitted-front (first h.setup) xs (t ∷ ys) permitted);
      can = can;
      number =
          (fits-parts (scratch h.setup xs) (record_of (scratch h.setup xs) t) (own-fits (scratch h.setup xs) t can)).number;
    }

-- after all steps of it there is an end
pub honest-end :
    (h : History) (xs : List ℕ) → IsHonest h → schedule_of h ≡ xs ++ []
    → is_some (scratch h.setup xs).ending ≡ true
honest-end h xs honest split =
    ap (λ (ts : List ℕ). is_some (scratch h.setup ts).ending) (sym (split ∙ append-nil xs)) ∙ honest.complete

pub some-is : {X : Type 0} (o : Option X) → is_some o ≡ true → (x : X) × (o ≡ Some x)
some-is (Some x) h = (x, refl)
some-is None h = cc

-- one worker follows its schedule
pub follow :
    (h : History) (n : ℕ) (xs ys : List ℕ)
    → IsHonest h → schedule_of h ≡ xs ++ ys
    → guided_from (Some h) n (scratch h.setup xs) ≡ take n ys
follow h zero xs ys honest split = refl
follow h (suc n) xs [] honest split =
    let some = some-is (scratch h.setup xs).ending (honest-end h xs honest split) in
    guided-over (Some h) (suc n) (scratch h.setup xs) some.0 some.1
follow h (suc n) xs (t ∷ ys) honest split =
    let next = honest-next h xs t ys honest split in
    guided-next (Some h) n (scratch h.setup xs) t (can_step-none (scratch h.setup xs) t next.can)
    (next-chosen (Some h) (scratch h.setup xs) (records h.setup xs) (record_of (scratch h.setup xs) t)
    (records_from (step (scratch h.setup xs) t) ys)
    (honest-whole h xs (t ∷ ys) honest split) next)
    ∙ ap (λ (m : Machine). t ∷ guided_from (Some h) n m) (sym (scratch-more (first h.setup) xs t))
    ∙ ap (λ (us : List ℕ). t ∷ us) (follow h n (xs ++ t ∷ []) ys honest (split ∙ sym (append_assoc xs (t ∷ []) ys)))

-- and each of its steps is marked as reused
pub follow-marks :
    (h : History) (xs ys : List ℕ)
    → IsHonest h → schedule_of h ≡ xs ++ ys
    → marked_from (Some h) (scratch h.setup xs) ys ≡ map (λ t. record { thread = t; reused = true }) ys
follow-marks h xs [] honest split = refl
follow-marks h xs (t ∷ ys) honest split =
    let next = honest-next h xs t ys honest split in
    ap (λ (b : Bool). record { thread = t; reused = b } ∷ marked_from (Some h) (step (scratch h.setup xs) t) ys)
    (next-fits (Some h) (scratch h.setup xs) (records h.setup xs) (record_of (scratch h.setup xs) t)
    (records_from (step (scratch h.setup xs) t) ys) next
    (own-fits (scratch h.setup xs) t next.can))
    ∙ ap (λ (m : Machine). record { thread = t; reused = true } ∷ marked_from (Some h) m ys)
    (sym (scratch-more (first h.setup) xs t))
    ∙ ap (λ (es : List Entry). record { thread = t; reused = true } ∷ es)
    (follow-marks h (xs ++ t ∷ []) ys honest (split ∙ sym (append_assoc xs (t ∷ []) ys)))

-- it is no longer than the limit
scratch-steps : (m : Machine) (ts : List ℕ) → (scratch_from m ts).steps ≡ m.steps + length ts
scratch-steps m [] = omega arith
scratch-steps m (t ∷ ts) = let here = step-steps m t in let later = scratch-steps (step m t) ts in omega arith

scratch-limit : (m : Machine) (ts : List ℕ) → (scratch_from m ts).limit ≡ m.limit
scratch-limit m [] = refl
scratch-limit m (t ∷ ts) = scratch-limit (step m t) ts ∙ step-limit m t

pub honest-length : (h : History) → IsHonest h → length (schedule_of h) ≤ h.setup.limit
honest-length h honest =
    let whole : IsWhole (scratch h.setup (schedule_of h)) =
    scratch-whole (first h.setup) (schedule_of h) (IsWhole-first h.setup honest.valid) honest.permitted in
    let few = whole.few_steps in
    let steps = scratch-steps (first h.setup) (schedule_of h) in
    let limit = scratch-limit (first h.setup) (schedule_of h) in
    let most = first-limit h.setup in
    let none = first-steps h.setup in
    omega arith
