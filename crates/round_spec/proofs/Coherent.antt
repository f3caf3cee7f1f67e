-- The next step of a coherent history.
use Rattle.std.proofs.Common.{◌≡◌, ◌<◌, ◌≤◌, ℕ, true, ◌&&◌, eqb, List, [], ◌∷◌, ◌++◌, length, count_by, Some, is_none, is_some, refl, ap, sym, ◌∙◌, append-nil, arith}
use Rattle.std.proofs.lemmas.Bool.{and_parts, eq-eqb}
use Rattle.std.specs.List.{AllByRecursion}
use Rattle.thunk_spec.specs.Record.{Record}
use Rattle.machine_spec.specs.Machine.{Machine, hart_of}
use Rattle.machine_spec.specs.Setup.{IsSetup, first}
use Rattle.machine_spec.specs.Step.{apply, fits, can_step}
use Rattle.machine_spec.specs.Whole.{IsWhole}
use Rattle.machine_spec.proofs.Beginning.{IsWhole-first}
use Rattle.history_spec.specs.History.{History, applied_from, can_apply_from, is_coherent, is_numbered_after}
use Rattle.history_spec.proofs.Applying.{apply-whole, fits-can_step}
use Rattle.history_spec.proofs.Numbers.{apply-number, count-more, first-number}
use Rattle.history_spec.proofs.Alike.{fits-parts}
use Rattle.round_spec.specs.Due.{place_in}
use Rattle.round_spec.proofs.Following.{IsNext, made-absent}
use Rattle.round_spec.proofs.Numbers.{IsMadeOn, one_for-own}

-- records in two parts

pub applied-both : (m : Machine) (xs ys : List Record) → applied_from m (xs ++ ys) ≡ applied_from (applied_from m xs) ys
applied-both m [] ys = refl
applied-both m (x ∷ xs) ys = applied-both (apply m x) xs ys

can-front : (m : Machine) (xs ys : List Record) → can_apply_from m (xs ++ ys) ≡ true → can_apply_from m xs ≡ true
can-front m [] ys can = refl
can-front m (x ∷ xs) ys can =
    let parts = and_parts (is_none m.ending && fits m x) (can_apply_from (apply m x) (xs ++ ys)) can in
    rw parts.0 (can-front (apply m x) xs ys parts.1)

can-back :
    (m : Machine) (xs ys : List Record) → can_apply_from m (xs ++ ys) ≡ true
    → can_apply_from (applied_from m xs) ys ≡ true
can-back m [] ys can = can
can-back m (x ∷ xs) ys can =
    can-back (apply m x) xs ys
    (and_parts (is_none m.ending && fits m x) (can_apply_from (apply m x) (xs ++ ys)) can).1

-- after records that fit

pub applied-whole : (m : Machine) (rs : List Record) → IsWhole m → can_apply_from m rs ≡ true → IsWhole (applied_from m rs)
applied-whole m [] whole can = whole
applied-whole m (r ∷ rs) whole can =
    let parts = and_parts (is_none m.ending && fits m r) (can_apply_from (apply m r) rs) can in
    let here = and_parts (is_none m.ending) (fits m r) parts.0 in
    applied-whole (apply m r) rs (apply-whole m r whole (fits-can_step m r here.0 here.1)) parts.1

number-rises :
    (m : Machine) (rs : List Record) (u : ℕ) → can_apply_from m rs ≡ true
    → (hart_of m u).number ≤ (hart_of (applied_from m rs) u).number
number-rises m [] u can = omega arith
number-rises m (r ∷ rs) u can =
    let parts = and_parts (is_none m.ending && fits m r) (can_apply_from (apply m r) rs) can in
    let fit = (and_parts (is_none m.ending) (fits m r) parts.0).1 in
    let here = apply-number m r u (fits-parts m r fit).ready in
    let later = number-rises (apply m r) rs u parts.1 in
    omega arith

applied-made :
    (m : Machine) (rs : List Record) → can_apply_from m rs ≡ true
    → AllByRecursion (IsMadeOn (applied_from m rs)) rs
applied-made m [] can = tt
applied-made m (r ∷ rs) can =
    let parts = and_parts (is_none m.ending && fits m r) (can_apply_from (apply m r) rs) can in
    let fit = fits-parts m r (and_parts (is_none m.ending) (fits m r) parts.0).1 in
    let number = fit.number in
    let own = apply-number m r r.thread fit.ready in
    let one = one_for-own r.thread in
    let later = number-rises (apply m r) rs r.thread parts.1 in
    let here : r.number < (hart_of (applied_from (apply m r) rs) r.thread).number = omega arith in
    (here, applied-made (apply m r) rs parts.1)

applied-numbered :
    (m : Machine) (rs : List Record) (earlier : List ℕ) → can_apply_from m rs ≡ true
    → ((u : ℕ) → (hart_of m u).number ≡ count_by (λ (x : ℕ). eqb x u) earlier)
    → is_numbered_after earlier rs ≡ true
applied-numbered m [] earlier can numbers = refl
applied-numbered m (r ∷ rs) earlier can numbers =
    let parts = and_parts (is_none m.ending && fits m r) (can_apply_from (apply m r) rs) can in
    let fit = fits-parts m r (and_parts (is_none m.ending) (fits m r) parts.0).1 in
    let here : eqb r.number (count_by (λ (x : ℕ). eqb x r.thread) earlier) ≡ true =
    eq-eqb r.number (count_by (λ (x : ℕ). eqb x r.thread) earlier) (fit.number ∙ numbers r.thread) in
    rw here
    (applied-numbered (apply m r) rs (earlier ++ r.thread ∷ []) parts.1
    (λ u.
    let more = apply-number m r u fit.ready in
    let count = count-more u r.thread earlier in
    let before = numbers u in
    omega arith))

coherent-can : (h : History) → is_coherent h ≡ true → can_apply_from (first h.setup) h.records ≡ true
coherent-can h coherent =
    (and_parts (can_apply_from (first h.setup) h.records) (is_some (applied_from (first h.setup) h.records).ending)
    coherent).0

-- the machine after some first records
pub coherent-whole :
    (h : History) (front back : List Record) → IsSetup h.setup → is_coherent h ≡ true → h.records ≡ front ++ back
    → IsWhole (applied_from (first h.setup) front)
coherent-whole h front back valid coherent split =
    applied-whole (first h.setup) front (IsWhole-first h.setup valid)
    (can-front (first h.setup) front back
    (ap (can_apply_from (first h.setup)) (sym split) ∙ coherent-can h coherent))

-- the record after some first ones fits, and there is no end before it
pub coherent-fits :
    (h : History) (front : List Record) (r : Record) (back : List Record)
    → is_coherent h ≡ true → h.records ≡ front ++ r ∷ back
    → (is_none (applied_from (first h.setup) front).ending ≡ true) × (fits (applied_from (first h.setup) front) r ≡ true)
coherent-fits h front r back coherent split =
    let m : Machine = applied_from (first h.setup) front in
    let all : can_apply_from (first h.setup) (front ++ r ∷ back) ≡ true =
    ap (can_apply_from (first h.setup)) (sym split) ∙ coherent-can h coherent in
    and_parts (is_none m.ending) (fits m r)
    (and_parts (is_none m.ending && fits m r) (can_apply_from (apply m r) back)
    (can-back (first h.setup) front (r ∷ back) all)).0

-- A machine on which each thread has made as many steps as on another.
abbrev pub HasNumbersOf : Machine → Machine → Type 0
HasNumbersOf m n = (u : ℕ) → (hart_of n u).number ≡ (hart_of m u).number

-- so the same records are those of steps that have been made
made-on : (m n : Machine) (rs : List Record) → HasNumbersOf m n → AllByRecursion (IsMadeOn m) rs → AllByRecursion (IsMadeOn n) rs
made-on m n [] numbers all = tt
made-on m n (r ∷ rs) numbers all =
    let same = numbers r.thread in
    let before = all.0 in
    let here : r.number < (hart_of n r.thread).number = omega arith in
    (here, made-on m n rs numbers all.1)

-- the next step, also on a machine that has other memory and registers
pub coherent-next-on :
    (h : History) (front : List Record) (r : Record) (back : List Record) (m : Machine)
    → is_coherent h ≡ true → h.records ≡ front ++ r ∷ back
    → HasNumbersOf (applied_from (first h.setup) front) m → can_step m r.thread ≡ true
    → IsNext (Some h) m front r back
coherent-next-on h front r back m coherent split numbers can =
    let all : can_apply_from (first h.setup) (front ++ r ∷ back) ≡ true =
    ap (can_apply_from (first h.setup)) (sym split) ∙ coherent-can h coherent in
    let fit = (coherent-fits h front r back coherent split).1 in
    record {
      split = split;
      numbered = applied-numbered (first h.setup) h.records [] (coherent-can h coherent) (λ u. first-number h.setup u);
      made =
          made-on (applied_from (first h.setup) front) m front numbers
          (applied-made (first h.setup) front (can-front (first h.setup) front (r ∷ back) all));
      can = can;
      number = (fits-parts (applied_from (first h.setup) front) r fit).number ∙ sym (numbers r.thread);
    }

pub coherent-next :
    (h : History) (front : List Record) (r : Record) (back : List Record)
    → is_coherent h ≡ true → h.records ≡ front ++ r ∷ back
    → IsNext (Some h) (applied_from (first h.setup) front) front r back
coherent-next h front r back coherent split =
    let fit = coherent-fits h front r back coherent split in
    coherent-next-on h front r back (applied_from (first h.setup) front) coherent split (λ u. refl)
    (fits-can_step (applied_from (first h.setup) front) r fit.0 fit.1)

-- there is no next step after all of it, on such a machine
pub coherent-over :
    (h : History) (m : Machine) (u : ℕ)
    → is_coherent h ≡ true → HasNumbersOf (applied_from (first h.setup) h.records) m
    → place_in (Some h) m u ≡ length h.records
coherent-over h m u coherent numbers =
    made-absent (Some h) m u
    (made-on (applied_from (first h.setup) h.records) m h.records numbers
    (applied-made (first h.setup) h.records (coherent-can h coherent)))

-- after all of it there is an end
pub coherent-end :
    (h : History) (front : List Record) → is_coherent h ≡ true → h.records ≡ front ++ []
    → is_some (applied_from (first h.setup) front).ending ≡ true
coherent-end h front coherent split =
    ap (λ (rs : List Record). is_some (applied_from (first h.setup) rs).ending) (sym (split ∙ append-nil front))
    ∙ (and_parts (can_apply_from (first h.setup) h.records) (is_some (applied_from (first h.setup) h.records).ending)
    coherent).1
