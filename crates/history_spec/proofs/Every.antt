-- Every order of the records of a history that keeps what must come before leads to the same.
use Rattle.std.proofs.Common.{◌≡◌, ℕ, Bool, true, false, ◌&&◌, ◌||◌, eqb, cond, List, [], ◌∷◌, Option, Some, None, is_none, is_some, refl, ap, ap₂, sym, ◌∙◌, subst}
use Rattle.std.proofs.lemmas.Bool.{eq-eqb}
use Rattle.std.specs.List.{AllByRecursion}
use Rattle.thunk_spec.specs.Thunk.{Frame}
use Rattle.thunk_spec.specs.Record.{Record}
use Rattle.machine_spec.specs.declared.states.End.{End}
use Rattle.machine_spec.specs.Machine.{Machine, hart_of}
use Rattle.machine_spec.specs.Step.{apply, fits}
use Rattle.machine_spec.specs.Whole.{IsWhole}
use Rattle.history_spec.specs.History.{applied_from, can_apply_from}
use Rattle.history_spec.proofs.Applying.{fits-can_step, apply-frame, apply-whole}
use Rattle.history_spec.specs.Facts.{Fact, objects_of, served_by, read_by, written_slots, fact_of, facts_from}
use Rattle.history_spec.specs.Before.{is_in, meets, overlap, before}
use Rattle.history_spec.specs.Keeping.{set_second, moved, rest_of, fact_thread, record_thread, is_free_of, may_come, may_begin, keeps, set_front, arranged}
use Rattle.history_spec.proofs.Lists.{and-left, and-right, or-left, or-right, not-true}
use Rattle.history_spec.proofs.Alike.{IsAlike, IsReading}
use Rattle.history_spec.proofs.Simulate.{IsFollowing, all-like, reading-apply}
use Rattle.history_spec.proofs.Swap.{IsPair, fit_early, fit_late, none_early, swapped, whole_first, whole_second, fact_early, fact_late}

pub alike-refl : (reads : ℕ → ℕ → List ℕ) (m : Machine) → IsAlike reads m m
alike-refl reads m =
    record {
      frame = refl;
      limit = refl;
      memory = refl;
      objects = refl;
      output = refl;
      steps = refl;
      ending = refl;
      count = refl;
      harts = λ u. refl;
      views = λ on u p ready read. refl;
    }

pub alike-trans : (reads : ℕ → ℕ → List ℕ) (m n o : Machine) → IsAlike reads m n → IsAlike reads n o → IsAlike reads m o
alike-trans reads m n o one two =
    record {
      frame = two.frame ∙ one.frame;
      limit = two.limit ∙ one.limit;
      memory = two.memory ∙ one.memory;
      objects = two.objects ∙ one.objects;
      output = two.output ∙ one.output;
      steps = two.steps ∙ one.steps;
      ending = two.ending ∙ one.ending;
      count = two.count ∙ one.count;
      harts = λ u. two.harts u ∙ one.harts u;
      views = λ on u p ready read.
          two.views (ap is_none one.ending ∙ on) u p
          (ap (λ (h : Rattle.machine_spec.specs.Machine.Hart). Rattle.machine_spec.specs.Machine.is_ready h.status)
          (one.harts u) ∙ ready)
          (ap (λ (h : Rattle.machine_spec.specs.Machine.Hart). Rattle.history_spec.specs.Before.is_in p
          (reads u h.number)) (one.harts u) ∙ read)
          ∙ one.views on u p ready read;
    }

-- the fact of a record that fits
pub fit-facts :
    (reads : ℕ → ℕ → List ℕ) (m : Machine) (r : Record) (rs : List Record)
    → (is_none m.ending && fits m r) ≡ true
    → facts_from reads m (r ∷ rs) ≡ fact_of reads m r ∷ facts_from reads (apply m r) rs
fit-facts reads m r rs here = rw here refl

-- what the test of two facts states
pair-from :
    (reads : ℕ → ℕ → List ℕ) (m : Machine) (a b : Record)
    → IsWhole m → is_none m.ending ≡ true → fits m a ≡ true → is_none (apply m a).ending ≡ true → fits (apply m a) b ≡ true
    → before (fact_of reads m a) (fact_of reads (apply m a) b) ≡ false
    → IsPair reads m a b
pair-from reads m a b whole none fit_a none_a fit_b free =
    let p1 = or-left (eqb a.thread b.thread) _ free in
    let r1 = or-right (eqb a.thread b.thread) _ free in
    let p2 = or-left (is_in b.thread (served_by m a)) _ r1 in
    let r2 = or-right (is_in b.thread (served_by m a)) _ r1 in
    let p3 = or-left (overlap (objects_of m a) (objects_of (apply m a) b)) _ r2 in
    let r3 = or-right (overlap (objects_of m a) (objects_of (apply m a) b)) _ r2 in
    let p4 = or-left (meets (written_slots a) (written_slots b)) _ r3 in
    let r4 = or-right (meets (written_slots a) (written_slots b)) _ r3 in
    let p5 = or-left (meets (written_slots a) (read_by reads (apply (apply m a) b) (served_by (apply m a) b))) _ r4 in
    let r5 = or-right (meets (written_slots a) (read_by reads (apply (apply m a) b) (served_by (apply m a) b))) _ r4 in
    let p6 = or-left (meets (read_by reads (apply m a) (served_by m a)) (written_slots b)) _ r5 in
    let last =
    or-right (meets (read_by reads (apply m a) (served_by m a)) (written_slots b))
    (is_some (apply (apply m a) b).ending) r5 in
    record {
      whole = whole;
      none = none;
      fit_a = fit_a;
      none_a = none_a;
      fit_b = fit_b;
      none_b = some-none (apply (apply m a) b).ending last;
      threads = λ same. (let is : eqb a.thread b.thread ≡ true = eq-eqb a.thread b.thread (sym same) in cc);
      given = p2;
      objects = p3;
      writes = p4;
      opens = p5;
      opened = p6;
    }
  where
    some-none : (e : Option End) → is_some e ≡ false → is_none e ≡ true
    some-none (Some x) h = cc
    some-none None h = refl

-- a record moved to the front
pub record IsFront (reads : ℕ → ℕ → List ℕ) (m : Machine) (rs qs : List Record) (fs : List Fact) : Type 0 where
  pub following : IsFollowing reads m rs m qs
  pub facts : facts_from reads m qs ≡ fs
  pub reading : AllByRecursion (IsReading reads m.frame) qs

-- two neighbours swapped, and what follows
front-swap :
    (reads : ℕ → ℕ → List ℕ) (m : Machine) (a : Record) (rs : List Record) (b : Record) (rest : List Record)
    → IsWhole m → AllByRecursion (IsReading reads m.frame) (a ∷ []) → (is_none m.ending && fits m a) ≡ true
    → (fs : List Fact) → IsFront reads (apply m a) rs (b ∷ rest) fs
    → is_free_of (fact_of reads m a) fs ≡ true
    → IsFront reads m (a ∷ rs) (b ∷ a ∷ rest) (set_second (fact_of reads m a) fs)
front-swap reads m a rs b rest whole reading here fs front free =
    let none : is_none m.ending ≡ true = and-left (is_none m.ending) (fits m a) here in
    let fit : fits m a ≡ true = and-right (is_none m.ending) (fits m a) here in
    let can = front.following.can in
    let at_b : (is_none (apply m a).ending && fits (apply m a) b) ≡ true =
    and-left (is_none (apply m a).ending && fits (apply m a) b) _ can in
    let later : can_apply_from (apply (apply m a) b) rest ≡ true =
    and-right (is_none (apply m a).ending && fits (apply m a) b) _ can in
    let reported : (fact_of reads (apply m a) b ∷ facts_from reads (apply (apply m a) b) rest) ≡ fs =
    sym (fit-facts reads (apply m a) b rest at_b) ∙ front.facts in
    let free_b = rw (sym reported) at free in
    let pair : IsPair reads m a b =
    pair-from reads m a b whole none fit
    (and-left (is_none (apply m a).ending) (fits (apply m a) b) at_b)
    (and-right (is_none (apply m a).ending) (fits (apply m a) b) at_b)
    (not-true (before (fact_of reads m a) (fact_of reads (apply m a) b)) free_b) in
    let follow =
    all-like reads rest (apply (apply m a) b) (apply (apply m b) a) (swapped reads m a b pair) (whole_first reads m a b pair)
    (whole_second reads m a b pair)
    (reading-apply reads (apply m a) b rest front.reading.1) later in
    let first : (is_none m.ending && fits m b) ≡ true = rw (none, fit_early reads m a b pair) refl in
    let second : (is_none (apply m b).ending && fits (apply m b) a) ≡ true =
    rw (none_early reads m a b pair, fit_late reads m a b pair) refl in
    record {
      following =
          record {
            can = rw (first, second) follow.0.can;
            alike =
                alike-trans reads (applied_from (apply m a) rs) (applied_from (apply (apply m a) b) rest)
                (applied_from (apply (apply m b) a) rest) front.following.alike follow.0.alike;
          };
      facts =
          fit-facts reads m b (a ∷ rest) first
          ∙ ap₂ (λ (f : Fact) (gs : List Fact). f ∷ gs) (fact_early reads m a b pair)
          (fit-facts reads (apply m b) a rest second
          ∙ ap₂ (λ (f : Fact) (gs : List Fact). f ∷ gs) (fact_late reads m a b pair) follow.1)
          ∙ ap (set_second (fact_of reads m a)) reported;
      reading = (
        subst (λ (f : Frame). IsReading reads f b) (apply-frame m a) front.reading.0,
        (reading.0, subst (λ (f : Frame). AllByRecursion (IsReading reads f) rest) (apply-frame m a) front.reading.1),
      );
    }

front-none :
    (reads : ℕ → ℕ → List ℕ) (m : Machine) (rs : List Record) (fs : List Fact) (f : Fact)
    → IsFront reads m rs [] fs → is_free_of f fs ≡ true → ⊥
front-none reads m rs fs f front free = let free_none = rw (sym front.facts) at free in cc

pub front :
    (reads : ℕ → ℕ → List ℕ) (t : ℕ) (rs : List Record) (m : Machine)
    → IsWhole m → AllByRecursion (IsReading reads m.frame) rs → can_apply_from m rs ≡ true
    → may_come t (facts_from reads m rs) ≡ true
    → IsFront reads m rs (moved record_thread t rs) (moved fact_thread t (facts_from reads m rs))
front reads t [] m whole reading can may = cc
front reads t (a ∷ rs) m whole reading can may =
    let here : (is_none m.ending && fits m a) ≡ true =
    and-left (is_none m.ending && fits m a) (can_apply_from (apply m a) rs) can in
    let later : can_apply_from (apply m a) rs ≡ true =
    and-right (is_none m.ending && fits m a) (can_apply_from (apply m a) rs) can in
    let none : is_none m.ending ≡ true = and-left (is_none m.ending) (fits m a) here in
    let fit : fits m a ≡ true = and-right (is_none m.ending) (fits m a) here in
    let reported : facts_from reads m (a ∷ rs) ≡ fact_of reads m a ∷ facts_from reads (apply m a) rs =
    fit-facts reads m a rs here in
    subst (λ (fs : List Fact). IsFront reads m (a ∷ rs) (moved record_thread t (a ∷ rs)) (moved fact_thread t fs))
    (sym reported)
    (go here later
    (front reads t rs (apply m a) (apply-whole m a whole (fits-can_step m a none fit))
    (reading-apply reads m a rs reading.1) later)
    (eqb a.thread t) (rw reported at may))
  where
    second :
        (is_none m.ending && fits m a) ≡ true
        → (qs : List Record) → IsFront reads (apply m a) rs qs (moved fact_thread t (facts_from reads (apply m a) rs))
        → is_free_of (fact_of reads m a) (moved fact_thread t (facts_from reads (apply m a) rs)) ≡ true
        → IsFront reads m (a ∷ rs) (set_second a qs)
        (set_second (fact_of reads m a) (moved fact_thread t (facts_from reads (apply m a) rs)))
    second here [] front free =
        absurd (front-none reads (apply m a) rs (moved fact_thread t (facts_from reads (apply m a) rs))
        (fact_of reads m a) front free)
    second here (b ∷ rest) front free =
        front-swap reads m a rs b rest whole (reading.0, tt) here
        (moved fact_thread t (facts_from reads (apply m a) rs)) front free

    go :
        (is_none m.ending && fits m a) ≡ true → can_apply_from (apply m a) rs ≡ true
        → (may_come t (facts_from reads (apply m a) rs) ≡ true
        → IsFront reads (apply m a) rs (moved record_thread t rs) (moved fact_thread t (facts_from reads (apply m a) rs)))
        → (x : Bool)
        → (x || (may_come t (facts_from reads (apply m a) rs)
        && is_free_of (fact_of reads m a) (moved fact_thread t (facts_from reads (apply m a) rs)))) ≡ true
        → IsFront reads m (a ∷ rs)
        (cond x (a ∷ rs) (set_second a (moved record_thread t rs)))
        (cond x (fact_of reads m a ∷ facts_from reads (apply m a) rs)
        (set_second (fact_of reads m a) (moved fact_thread t (facts_from reads (apply m a) rs))))
    go here later next true h = record {
      following = record { can = rw (here, later) refl; alike = alike-refl reads (applied_from (apply m a) rs) };
      facts = fit-facts reads m a rs here;
      reading = reading;
    }
    go here later next false h =
        let some =
        and-left (may_come t (facts_from reads (apply m a) rs))
        (is_free_of (fact_of reads m a) (moved fact_thread t (facts_from reads (apply m a) rs))) h in
        let free =
        and-right (may_come t (facts_from reads (apply m a) rs))
        (is_free_of (fact_of reads m a) (moved fact_thread t (facts_from reads (apply m a) rs))) h in
        second here (moved record_thread t rs) (next some) free

-- every order that keeps what must come before
every-first :
    (reads : ℕ → ℕ → List ℕ) (t : ℕ) (s : List ℕ) (m : Machine) (rs qs : List Record) (fs : List Fact)
    → IsWhole m → IsFront reads m rs qs fs
    → ((n : Machine) (ps : List Record) → IsWhole n → AllByRecursion (IsReading reads n.frame) ps
    → can_apply_from n ps ≡ true → may_begin (facts_from reads n ps) s ≡ true → IsFollowing reads n ps n (arranged s ps))
    → may_begin (rest_of fs) s ≡ true
    → (fs ≡ [] → ⊥)
    → IsFollowing reads m rs m (set_front qs (arranged s (rest_of qs)))
every-first reads t s m rs [] fs whole front next keep full = absurd (full (sym front.facts))
every-first reads t s m rs (b ∷ rest) fs whole front next keep full =
    let here : (is_none m.ending && fits m b) ≡ true = and-left (is_none m.ending && fits m b) _ front.following.can in
    let later : can_apply_from (apply m b) rest ≡ true = and-right (is_none m.ending && fits m b) _ front.following.can in
    let reported : fs ≡ fact_of reads m b ∷ facts_from reads (apply m b) rest =
    sym front.facts ∙ fit-facts reads m b rest here in
    let follow : IsFollowing reads (apply m b) rest (apply m b) (arranged s rest) =
    next (apply m b) rest
    (apply-whole m b whole
    (fits-can_step m b (and-left (is_none m.ending) (fits m b) here) (and-right (is_none m.ending) (fits m b) here)))
    (reading-apply reads m b rest front.reading.1) later (rw reported at keep) in
    record {
      can = rw (here, follow.can) refl;
      alike =
          alike-trans reads (applied_from m rs) (applied_from (apply m b) rest)
          (applied_from (apply m b) (arranged s rest)) front.following.alike follow.alike;
    }

pub moved-full : (t : ℕ) (fs : List Fact) → may_come t fs ≡ true → moved fact_thread t fs ≡ [] → ⊥
moved-full t [] may none = cc
moved-full t (f ∷ fs) may none = here (eqb f.thread t) (moved fact_thread t fs) none
  where
    here : (b : Bool) (gs : List Fact) → cond b (f ∷ fs) (set_second f gs) ≡ [] → ⊥
    here true gs h = cc
    here false [] h = cc
    here false (g ∷ gs) h = cc

-- whatever steps have been made, each after all that must come before it, the rest can follow in the old order, to the
-- end
pub every :
    (reads : ℕ → ℕ → List ℕ) (s : List ℕ) (m : Machine) (rs : List Record)
    → IsWhole m → AllByRecursion (IsReading reads m.frame) rs → can_apply_from m rs ≡ true
    → may_begin (facts_from reads m rs) s ≡ true
    → IsFollowing reads m rs m (arranged s rs)
every reads [] m rs whole reading can come = record { can = can; alike = alike-refl reads (applied_from m rs) }
every reads (t ∷ s) m rs whole reading can come =
    let may =
    and-left (may_come t (facts_from reads m rs))
    (may_begin (rest_of (moved fact_thread t (facts_from reads m rs))) s) come in
    let later =
    and-right (may_come t (facts_from reads m rs))
    (may_begin (rest_of (moved fact_thread t (facts_from reads m rs))) s) come in
    every-first reads t s m rs (moved record_thread t rs) (moved fact_thread t (facts_from reads m rs)) whole
    (front reads t rs m whole reading can may)
    (λ n ps. every reads s n ps) later
    (moved-full t (facts_from reads m rs) may)

pub keeps-begin : (fs : List Fact) (s : List ℕ) → keeps fs s ≡ true → may_begin fs s ≡ true
keeps-begin fs [] keep = refl
keeps-begin [] (t ∷ s) keep = cc
keeps-begin (f ∷ fs) (t ∷ s) keep =
    rw (and-left (may_come t (f ∷ fs)) (keeps (rest_of (moved fact_thread t (f ∷ fs))) s) keep)
    (keeps-begin (rest_of (moved fact_thread t (f ∷ fs))) s
    (and-right (may_come t (f ∷ fs)) (keeps (rest_of (moved fact_thread t (f ∷ fs))) s) keep))
