-- The thunks of an honest history read what its records give, and each record is found by its thread and number.
use Rattle.std.proofs.Common.{◌≡◌, ◌≢◌, ◌≤◌, ℕ, Bool, true, false, ◌&&◌, eqb, cond, List, [], ◌∷◌, ◌++◌, count_by, find, map, ◌||◌, Some, is_none, refl, ap, ap₂, sym, ◌∙◌, inl, inr, arith}
use Rattle.std.proofs.lemmas.Bool.{cases_eq, eq-eqb, eqb-true}
use Rattle.std.proofs.lemmas.Bool.Decides.{nat_tests}
use Rattle.std.specs.List.{AllByRecursion}
use Rattle.thunk_spec.specs.Record.{Record}
use Rattle.machine_spec.specs.Machine.{Machine}
use Rattle.machine_spec.specs.Setup.{first, scratch}
use Rattle.machine_spec.proofs.Beginning.{IsWhole-first}
use Rattle.history_spec.specs.History.{History, IsHonest, schedule_of, threads_of_records, is_of, is_numbered_after, applied_from, can_apply_from}
use Rattle.history_spec.proofs.Numbers.{one_for, count-more, honest-numbered}
use Rattle.history_spec.proofs.Truth.{honest-true, records-applied, records-can_apply}
use Rattle.history_spec.specs.Facts.{Fact, reads_of_found, reads_in, facts, facts_from, fact_of, bare_fact}
use Rattle.history_spec.specs.Keeping.{set_second, moved, rest_of, fact_thread, record_thread, is_free_of, may_come, may_begin, keeps, set_front, arranged}
use Rattle.history_spec.specs.Orders.{LeadToTheSame}
use Rattle.history_spec.proofs.Lists.{and-left, and-right}
use Rattle.history_spec.proofs.Alike.{IsReading}
use Rattle.history_spec.proofs.Simulate.{IsFollowing}
use Rattle.machine_spec.specs.Step.{apply, fits}
use Rattle.history_spec.proofs.Every.{every, keeps-begin, moved-full}

-- a record whose number is at least how many records of its thread come before it
abbrev IsAbove : List ℕ → Record → Type 0
IsAbove earlier r = count_by (λ (t : ℕ). eqb t r.thread) earlier ≤ r.number

pub all-from :
    {P Q : Record → Type 0} (rs : List Record) → ((r : Record) → P r → Q r) → AllByRecursion P rs → AllByRecursion Q rs
all-from [] step all = tt
all-from (r ∷ rs) step all = (step r all.0, all-from rs step all.1)

numbers-above :
    (earlier : List ℕ) (rs : List Record) → is_numbered_after earlier rs ≡ true → AllByRecursion (IsAbove earlier) rs
numbers-above earlier [] right = tt
numbers-above earlier (x ∷ rs) right =
    let is : x.number ≡ count_by (λ (t : ℕ). eqb t x.thread) earlier =
    eqb-true x.number (count_by (λ (t : ℕ). eqb t x.thread) earlier)
    (and-left (eqb x.number (count_by (λ (t : ℕ). eqb t x.thread) earlier))
    (is_numbered_after (earlier ++ x.thread ∷ []) rs) right) in (
      omega arith,
      all-from rs
          (λ r above. let more = count-more r.thread x.thread earlier in
          let here : count_by (λ (t : ℕ). eqb t r.thread) (earlier ++ x.thread ∷ []) ≤ r.number = above in omega arith)
          (numbers-above (earlier ++ x.thread ∷ []) rs
          (and-right (eqb x.number (count_by (λ (t : ℕ). eqb t x.thread) earlier))
          (is_numbered_after (earlier ++ x.thread ∷ []) rs) right)),
    )

-- a record is found by its thread and number
abbrev pub IsFound : List Record → Record → Type 0
IsFound rs r = find (is_of r.thread r.number) rs ≡ Some r

pub all-both :
    {P Q S : Record → Type 0} (rs : List Record) → ((r : Record) → P r → Q r → S r) → AllByRecursion P rs
    → AllByRecursion Q rs → AllByRecursion S rs
all-both [] step ps qs = tt
all-both (r ∷ rs) step ps qs = (step r ps.0 qs.0, all-both rs step ps.1 qs.1)

own-of : (r : Record) → is_of r.thread r.number r ≡ true
own-of r =
    let one : eqb r.thread r.thread ≡ true = eq-eqb r.thread r.thread refl in let two : eqb r.number r.number ≡ true =
    eq-eqb r.number r.number refl in rw (one, two) refl

later-found :
    (earlier : List ℕ) (x : Record) (rs : List Record) (r : Record)
    → x.number ≡ count_by (λ (t : ℕ). eqb t x.thread) earlier → IsAbove (earlier ++ x.thread ∷ []) r → IsFound rs r
    → IsFound (x ∷ rs) r
later-found earlier x rs r number above there =
    elim (cases_eq x.thread r.thread) [
      | inl same ↦
          let yes_one : one_for r.thread x.thread ≡ 1 =
          (let is : eqb x.thread r.thread ≡ true = eq-eqb x.thread r.thread same in rw is refl) in
          let count = count-more r.thread x.thread earlier in
          let number_r : x.number ≡ count_by (λ (t : ℕ). eqb t r.thread) earlier =
          number ∙ ap (λ (u : ℕ). count_by (λ (t : ℕ). eqb t u) earlier) same in
          let here : count_by (λ (t : ℕ). eqb t r.thread) (earlier ++ x.thread ∷ []) ≤ r.number = above in
          let differ : x.number ≢ r.number = omega arith in
          let isnt : eqb x.number r.number ≡ false = grind (arith, nat_tests) in
          rw (isnt, both-false (eqb x.thread r.thread)) there
      | inr other ↦
          let isnt : eqb x.thread r.thread ≡ false = grind (arith, nat_tests) in
          rw isnt there
    ]
  where
    both-false : (b : Bool) → (b && false) ≡ false
    both-false true = refl
    both-false false = refl

all-found : (earlier : List ℕ) (rs : List Record) → is_numbered_after earlier rs ≡ true → AllByRecursion (IsFound rs) rs
all-found earlier [] right = tt
all-found earlier (x ∷ rs) right =
    let number : x.number ≡ count_by (λ (t : ℕ). eqb t x.thread) earlier =
    eqb-true x.number (count_by (λ (t : ℕ). eqb t x.thread) earlier)
    (and-left (eqb x.number (count_by (λ (t : ℕ). eqb t x.thread) earlier))
    (is_numbered_after (earlier ++ x.thread ∷ []) rs) right) in
    let later : is_numbered_after (earlier ++ x.thread ∷ []) rs ≡ true =
    and-right (eqb x.number (count_by (λ (t : ℕ). eqb t x.thread) earlier))
    (is_numbered_after (earlier ++ x.thread ∷ []) rs) right in (
      (let own = own-of x in rw own refl),
      all-both rs (λ r above there. later-found earlier x rs r number above there)
          (numbers-above (earlier ++ x.thread ∷ []) rs later) (all-found (earlier ++ x.thread ∷ []) rs later),
    )

pub honest-found : (h : History) → IsHonest h → AllByRecursion (IsFound h.records) h.records
honest-found h honest = all-found [] h.records (honest-numbered h honest)

pub honest-reading :
    (h : History) → IsHonest h → AllByRecursion (IsReading (reads_in h.records) (first h.setup).frame) h.records
honest-reading h honest =
    all-both h.records (λ r is there. record { honest = is; slots = ap reads_of_found there }) (honest-true h honest)
    (honest-found h honest)

-- the order has the threads of its schedule

map-second : {A : Type 0} (f : A → ℕ) (a : A) (ys : List A) → map f (set_second a ys) ≡ set_second (f a) (map f ys)
map-second f a [] = refl
map-second f a (y ∷ ys) = refl

pub moved-map : {A : Type 0} (f : A → ℕ) (t : ℕ) (xs : List A) → map f (moved f t xs) ≡ moved (λ n. n) t (map f xs)
moved-map f t [] = refl
moved-map f t (a ∷ xs) = here (eqb (f a) t) (moved-map f t xs)
  where
    here :
        (b : Bool) → map f (moved f t xs) ≡ moved (λ n. n) t (map f xs)
        → map f (cond b (a ∷ xs) (set_second a (moved f t xs)))
        ≡ cond b (f a ∷ map f xs) (set_second (f a) (moved (λ n. n) t (map f xs)))
    here true later = refl
    here false later = map-second f a (moved f t xs) ∙ ap (set_second (f a)) later

pub head-thread :
    (t : ℕ) (fs : List Fact) (g : Fact) (gs : List Fact) → may_come t fs ≡ true → moved fact_thread t fs ≡ g ∷ gs
    → g.thread ≡ t
head-thread t [] g gs may is = cc
head-thread t (f ∷ fs) g gs may is =
    here (λ h hs. head-thread t fs h hs) (eqb f.thread t) refl (moved fact_thread t fs) refl may is
  where
    here :
        ((h : Fact) (hs : List Fact) → may_come t fs ≡ true → moved fact_thread t fs ≡ h ∷ hs → h.thread ≡ t)
        → (b : Bool) → eqb f.thread t ≡ b → (ys : List Fact) → moved fact_thread t fs ≡ ys
        → (b || (may_come t fs && is_free_of f ys)) ≡ true → cond b (f ∷ fs) (set_second f ys) ≡ g ∷ gs → g.thread ≡ t
    here next true own ys eq h same =
        let head : f ≡ g = cc in ap (λ (x : Fact). x.thread) (sym head) ∙ eqb-true f.thread t own
    here next false own [] eq h same = let some = and-right (may_come t fs) (is_free_of f []) h in cc
    here next false own (y ∷ ys) eq h same =
        let head : y ≡ g = cc in
        ap (λ (x : Fact). x.thread) (sym head) ∙ next y ys (and-left (may_come t fs) (is_free_of f (y ∷ ys)) h) eq

first-thread :
    (t : ℕ) (gs : List Fact) (q : Record) (qs : List Record)
    → ((g : Fact) (hs : List Fact) → gs ≡ g ∷ hs → g.thread ≡ t) → map fact_thread gs ≡ q.thread ∷ map record_thread qs
    → (q.thread ≡ t) × (map fact_thread (rest_of gs) ≡ map record_thread qs)
first-thread t [] q qs head same = cc
first-thread t (g ∷ gs) q qs head same =
    let one : g.thread ≡ q.thread = cc in
    let rest : map fact_thread gs ≡ map record_thread qs = cc in
    (sym one ∙ head g gs refl, rest)

pub threads-arranged :
    (s : List ℕ) (rs : List Record) (fs : List Fact)
    → map fact_thread fs ≡ map record_thread rs → keeps fs s ≡ true → map record_thread (arranged s rs) ≡ s
threads-arranged [] rs [] same keep = sym same
threads-arranged [] rs (f ∷ fs) same keep = cc
threads-arranged (t ∷ s) rs [] same keep = cc
threads-arranged (t ∷ s) rs (f ∷ fs) same keep =
    let may = and-left (may_come t (f ∷ fs)) (keeps (rest_of (moved fact_thread t (f ∷ fs))) s) keep in
    let later = and-right (may_come t (f ∷ fs)) (keeps (rest_of (moved fact_thread t (f ∷ fs))) s) keep in
    let both : map fact_thread (moved fact_thread t (f ∷ fs)) ≡ map record_thread (moved record_thread t rs) =
    moved-map fact_thread t (f ∷ fs) ∙ ap (moved (λ n. n) t) same ∙ sym (moved-map record_thread t rs) in
    here (moved record_thread t rs) both may
    (λ qs eq. threads-arranged s qs (rest_of (moved fact_thread t (f ∷ fs))) eq later)
  where
    here :
        (qs : List Record) → map fact_thread (moved fact_thread t (f ∷ fs)) ≡ map record_thread qs
        → may_come t (f ∷ fs) ≡ true
        → ((ps : List Record) → map fact_thread (rest_of (moved fact_thread t (f ∷ fs))) ≡ map record_thread ps
        → map record_thread (arranged s ps) ≡ s)
        → map record_thread (set_front qs (arranged s (rest_of qs))) ≡ t ∷ s
    here [] both may next = absurd (empty (moved fact_thread t (f ∷ fs)) both refl)
      where
        empty : (gs : List Fact) → map fact_thread gs ≡ [] → moved fact_thread t (f ∷ fs) ≡ gs → ⊥
        empty [] h eq = moved-full t (f ∷ fs) may eq
        empty (g ∷ gs) h eq = cc
    here (q ∷ qs) both may next =
        let first =
        first-thread t (moved fact_thread t (f ∷ fs)) q qs (λ g hs eq. head-thread t (f ∷ fs) g hs may eq) both in
        ap₂ (λ (x : ℕ) (xs : List ℕ). x ∷ xs) first.0 (next qs first.1)

bare-threads : (rs : List Record) → map fact_thread (map bare_fact rs) ≡ map record_thread rs
bare-threads [] = refl
bare-threads (r ∷ rs) = ap (λ (ts : List ℕ). r.thread ∷ ts) (bare-threads rs)

pub facts-threads :
    (reads : ℕ → ℕ → List ℕ) (m : Machine) (rs : List Record)
    → map fact_thread (facts_from reads m rs) ≡ map record_thread rs
facts-threads reads m [] = refl
facts-threads reads m (r ∷ rs) = here (is_none m.ending && fits m r) (facts-threads reads (apply m r) rs)
  where
    here :
        (b : Bool) → map fact_thread (facts_from reads (apply m r) rs) ≡ map record_thread rs
        → map fact_thread (cond b (fact_of reads m r ∷ facts_from reads (apply m r) rs) (map bare_fact (r ∷ rs)))
        ≡ map record_thread (r ∷ rs)
    here true later = ap (λ (ts : List ℕ). r.thread ∷ ts) later
    here false later = bare-threads (r ∷ rs)

pub honest-threads :
    (h : History) (s : List ℕ) → keeps (facts h) s ≡ true → threads_of_records (arranged s h.records) ≡ s
honest-threads h s keep =
    threads-arranged s h.records (facts h) (facts-threads (reads_in h.records) (first h.setup) h.records) keep

-- what is reordered is found in the history
second-all :
    (P : Record → Type 0) (a : Record) (rs : List Record) → P a → AllByRecursion P rs
    → AllByRecursion P (set_second a rs)
second-all P a [] p ps = (p, tt)
second-all P a (r ∷ rs) p ps = (ps.0, (p, ps.1))

moved-all :
    (P : Record → Type 0) (t : ℕ) (rs : List Record) → AllByRecursion P rs → AllByRecursion P (moved record_thread t rs)
moved-all P t [] ps = tt
moved-all P t (r ∷ rs) ps = here (eqb r.thread t) (moved-all P t rs ps.1)
  where
    here :
        (b : Bool) → AllByRecursion P (moved record_thread t rs)
        → AllByRecursion P (cond b (r ∷ rs) (set_second r (moved record_thread t rs)))
    here true later = ps
    here false later = second-all P r (moved record_thread t rs) ps.0 later

pub arranged-all :
    (P : Record → Type 0) (s : List ℕ) (rs : List Record) → AllByRecursion P rs → AllByRecursion P (arranged s rs)
arranged-all P [] rs ps = ps
arranged-all P (t ∷ s) rs ps = here (moved record_thread t rs) (moved-all P t rs ps) (λ qs. arranged-all P s qs)
  where
    here :
        (qs : List Record) → AllByRecursion P qs
        → ((ps : List Record) → AllByRecursion P ps → AllByRecursion P (arranged s ps))
        → AllByRecursion P (set_front qs (arranged s (rest_of qs)))
    here [] all next = next [] tt
    here (q ∷ qs) all next = (all.0, next qs all.1)

-- any order that keeps what must come before leads an honest history to its end
pub honest-begin :
    (h : History) (s : List ℕ) → IsHonest h → may_begin (facts h) s ≡ true
    → IsFollowing (reads_in h.records) (first h.setup) h.records (first h.setup) (arranged s h.records)
honest-begin h s honest keep =
    every (reads_in h.records) s (first h.setup) h.records (IsWhole-first h.setup honest.valid)
    (honest-reading h honest)
    (ap (λ (rs : List Record). can_apply_from (first h.setup) rs) honest.recorded
    ∙ records-can_apply (first h.setup) (schedule_of h) (IsWhole-first h.setup honest.valid) honest.permitted)
    keep

-- its records applied are the machine from scratch
pub honest-applied : (h : History) → IsHonest h → applied_from (first h.setup) h.records ≡ scratch h.setup (schedule_of h)
honest-applied h honest =
    ap (λ (rs : List Record). applied_from (first h.setup) rs) honest.recorded
    ∙ records-applied (first h.setup) (schedule_of h) (IsWhole-first h.setup honest.valid) honest.permitted

pub honest-every :
    (h : History) (s : List ℕ) → IsHonest h → keeps (facts h) s ≡ true
    → IsFollowing (reads_in h.records) (first h.setup) h.records (first h.setup) (arranged s h.records)
honest-every h s honest keep = honest-begin h s honest (keeps-begin (facts h) s keep)

-- so from any beginning, the rest in the old order leads to the same
pub begin-leads :
    (h : History) (s : List ℕ) → IsHonest h → may_begin (facts h) s ≡ true → LeadToTheSame h (arranged s h.records)
begin-leads h s honest begin =
    let along = honest-begin h s honest begin in
    record {
      fits = along.can;
      ending = along.alike.ending ∙ ap (λ (m : Machine). m.ending) (honest-applied h honest);
      output = along.alike.output ∙ ap (λ (m : Machine). m.output) (honest-applied h honest);
      memory = along.alike.memory ∙ ap (λ (m : Machine). m.memory) (honest-applied h honest);
    }
