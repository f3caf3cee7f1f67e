-- When pages were written and views given, after each step; and which versions of pages a history's steps find.
use Rattle.std.proofs.Common.{◌≡◌, ◌<◌, ◌≤◌, ◌+◌, ℕ, zero, suc, Bool, true, false, ◌&&◌, cond, List, [], ◌∷◌, ◌++◌, length, map, take, replicate, slice_index, Option, Some, None, is_none, refl, ap, ap₂, sym, ◌∙◌, subst, inl, inr, ◌⊎◌, arith}
use Rattle.std.proofs.lemmas.Bool.{and_parts, cases_lt}
use Rattle.std.proofs.lemmas.Bool.Decides.{nat_tests}
use Rattle.std.specs.List.{slice_get}
use Rattle.memory_spec.specs.Pages.{Memory, page_of}
use Rattle.thunk_spec.specs.Delta.{PageDelta, masked}
use Rattle.thunk_spec.specs.Reads.{ReadPage}
use Rattle.thunk_spec.specs.Record.{Record}
use Rattle.thunk_spec.specs.Thunk.{Frame}
use Rattle.machine_spec.specs.Machine.{Hart, Machine, hart_of, is_ready}
use Rattle.machine_spec.specs.Setup.{Setup, IsSetup, first}
use Rattle.machine_spec.specs.Step.{apply, fits, fate_end}
use Rattle.machine_spec.specs.Whole.{IsWhole}
use Rattle.history_spec.specs.History.{History, is_coherent, applied_from, can_apply_from}
use Rattle.history_spec.proofs.Applying.{apply-frame}
use Rattle.history_spec.specs.Facts.{Fact, ask_of, effect_of, served_by, written_slots, fact_of, facts_from, reads_in, facts}
use Rattle.history_spec.specs.Before.{is_in}
use Rattle.history_spec.proofs.Lists.{is_or_not}
use Rattle.history_spec.proofs.Pages.{length-masked, masked-other}
use Rattle.history_spec.proofs.After.{after_at, apply-at, apply-memory, apply-ending, own_end_of}
use Rattle.history_spec.proofs.Alike.{touched, untouched-after, touched-served, served-touched, fits-parts}
use Rattle.history_spec.proofs.Every.{fit-facts}
use Rattle.history_spec.proofs.Simulate.{none-is, end_after-none, fate-none}
use Rattle.release_core.specs.Applying.{machine_at}
use Rattle.release_core.proofs.Histories.{machine-more, coherent-can, coherent-whole}
use Rattle.known_pages.specs.declared.versions.StepVersions.{StepVersions}
use Rattle.known_pages.specs.Versions.{with_each, is_by, is_current, AreTimes, stored_version, seen_version, IsStepOf, AreStepsOf}
use Rattle.known_pages.proofs.Entries.{each-other, each-in, each-index, index-zeros, get-replicate}

-- ---- times

-- A known time, no later than another one.
pub record IsBy (o : Option ℕ) (given : ℕ) : Type 0 where
  pub at : ℕ
  pub is : o ≡ Some at
  pub by : at ≤ given

pub by-some : (o : Option ℕ) (given : ℕ) → is_by o given ≡ true → IsBy o given
by-some None given h = cc
by-some (Some at) given h = record { at = at; is = refl; by = grind (arith, nat_tests) }

-- How a record's step changes the times at which threads were given their views: the time of a ready thread which the
-- step didn't touch stays.
pub record AreGivenBy (m : Machine) (r : Record) (n : ℕ) (viewed given : List ℕ) : Type 0 where
  pub each :
      (u : ℕ) → is_ready (hart_of (apply m r) u).status ≡ true
      → (touched (effect_of m r) r.thread (length m.harts) u ≡ true) ⊎ (slice_index given u ≡ slice_index viewed u)
  pub past : (u : ℕ) → is_ready (hart_of (apply m r) u).status ≡ true → slice_index given u ≤ suc n
  pub most : (u : ℕ) → slice_index given u ≤ suc (suc n)

pub times-apply :
    (m : Machine) (r : Record) (n : ℕ) (written viewed given : List ℕ)
    → AreTimes m n written viewed → IsWhole m → is_none m.ending ≡ true → is_ready (hart_of m r.thread).status ≡ true
    → AreGivenBy m r n viewed given
    → AreTimes (apply m r) (suc n) (with_each written (written_slots r) (suc n)) given
times-apply m r n written viewed given times whole none ready_t gives =
    record { current = current; past = gives.past; most = gives.most }
  where
    later : List ℕ
    later = with_each written (written_slots r) (suc n)

    at_m :
        (u : ℕ) → hart_of (apply m r) u
        ≡ after_at (effect_of m r) (masked m.memory r.kept.delta) r (length m.harts) u (hart_of m u)
    at_m u = apply-at m r u whole.tied ready_t

    fate : is_none (apply m r).ending ≡ true → fate_end (effect_of m r).fate ≡ None
    fate going =
        fate-none m r.thread (ask_of r)
        (end_after-none (own_end_of m r) (apply m r).harts m.limit (suc m.steps)
        (sym (apply-ending m r) ∙ none-is (apply m r).ending going)).0

    served :
        (u p : ℕ) → is_none (apply m r).ending ≡ true → is_ready (hart_of (apply m r) u).status ≡ true
        → touched (effect_of m r) r.thread (length m.harts) u ≡ true
        → page_of (hart_of (apply m r) u).view p ≡ page_of (apply m r).memory p
    served u p going ready is =
        let is_served =
        touched-served (effect_of m r) (masked m.memory r.kept.delta) r (length m.harts) u (hart_of m u) is (fate going)
        (ap (λ (h : Hart). is_ready h.status) (sym (at_m u)) ∙ ready) in
        ap (λ (h : Hart). page_of h.view p) (at_m u)
        ∙ ap (λ (v : Memory). page_of v p) is_served.view
        ∙ ap (λ (v : Memory). page_of v p) (sym (apply-memory m r))

    stays :
        (u : ℕ) → touched (effect_of m r) r.thread (length m.harts) u ≡ false → hart_of (apply m r) u ≡ hart_of m u
    stays u isnt =
        at_m u
        ∙ untouched-after (effect_of m r) (masked m.memory r.kept.delta) r (length m.harts) u (hart_of m u) isnt

    unserved :
        (u p : ℕ) → is_ready (hart_of (apply m r) u).status ≡ true
        → touched (effect_of m r) r.thread (length m.harts) u ≡ false
        → slice_index given u ≡ slice_index viewed u
        → is_current later given u p ≡ true
        → page_of (hart_of (apply m r) u).view p ≡ page_of (apply m r).memory p
    unserved u p ready isnt same cur =
        let ready_m : is_ready (hart_of m u).status ≡ true =
        ap (λ (h : Hart). is_ready h.status) (sym (stays u isnt)) ∙ ready in
        elim (is_or_not (is_in p (written_slots r))) [
          | inl wrote ↦
              let by : IsBy (slice_get later p) (slice_index given u) =
              by-some (slice_get later p) (slice_index given u) cur in
              let at : by.at ≡ suc n = each-in written (written_slots r) (suc n) by.at p wrote by.is in
              let before = times.past u ready_m in
              let late = by.by in
              absurd (omega (arith, at, same))
          | inr free ↦
              ap (λ (h : Hart). page_of h.view p) (stays u isnt)
              ∙ times.current u p none ready_m
              (ap₂ is_by (sym (each-other written (written_slots r) (suc n) p free)) (sym same) ∙ cur)
              ∙ sym (ap (λ (v : Memory). page_of v p) (apply-memory m r) ∙ masked-other r.kept.delta m.memory p free)
        ]

    current :
        (u p : ℕ) → is_none (apply m r).ending ≡ true → is_ready (hart_of (apply m r) u).status ≡ true
        → is_current later given u p ≡ true
        → page_of (hart_of (apply m r) u).view p ≡ page_of (apply m r).memory p
    current u p going ready cur =
        elim (is_or_not (touched (effect_of m r) r.thread (length m.harts) u)) [
          | inl is ↦ served u p going ready is
          | inr isnt ↦
              by (gives.each u ready) isnt
        ]
      where
        by :
            (touched (effect_of m r) r.thread (length m.harts) u ≡ true) ⊎ (slice_index given u ≡ slice_index viewed u)
            → touched (effect_of m r) r.thread (length m.harts) u ≡ false
            → page_of (hart_of (apply m r) u).view p ≡ page_of (apply m r).memory p
        by (inl is) isnt = served u p going ready is
        by (inr same) isnt = unserved u p ready isnt same cur

-- ---- the steps of a history

-- the facts of a coherent history

facts-at :
    (reads : ℕ → ℕ → List ℕ) (m : Machine) (rs : List Record) (k : ℕ) (r : Record) → can_apply_from m rs ≡ true
    → slice_get rs k ≡ Some r
    → slice_get (facts_from reads m rs) k ≡ Some (fact_of reads (applied_from m (take k rs)) r)
facts-at reads m [] zero r can at = cc
facts-at reads m [] (suc k) r can at = cc
facts-at reads m (x ∷ rs) zero r can at =
    let parts = and_parts (is_none m.ending && fits m x) (can_apply_from (apply m x) rs) can in
    let same : x ≡ r = cc in
    ap (λ (l : List Fact). slice_get l 0) (fit-facts reads m x rs parts.0)
    ∙ ap (λ (q : Record). Some (fact_of reads m q)) same
facts-at reads m (x ∷ rs) (suc k) r can at =
    let parts = and_parts (is_none m.ending && fits m x) (can_apply_from (apply m x) rs) can in
    ap (λ (l : List Fact). slice_get l (suc k)) (fit-facts reads m x rs parts.0)
    ∙ facts-at reads (apply m x) rs k r parts.1 at

-- the threads to which a step gives views
pub facts-given :
    (h : History) (k : ℕ) (r : Record) (f : Fact) → is_coherent h ≡ true → slice_get h.records k ≡ Some r
    → slice_get (facts h) k ≡ Some f → f.given ≡ served_by (machine_at h k) r
facts-given h k r f coherent at there =
    let known =
    facts-at (reads_in h.records) (first h.setup) h.records k r
    (and_parts (can_apply_from (first h.setup) h.records) _ coherent).0 at in
    let both : Some f ≡ Some (fact_of (reads_in h.records) (machine_at h k) r) = sym there ∙ known in
    given-of f (fact_of (reads_in h.records) (machine_at h k) r) both
  where
    given-of : (f g : Fact) → Some f ≡ Some g → f.given ≡ g.given
    given-of f g both = let same : f ≡ g = cc in ap (λ (x : Fact). x.given) same

-- When pages were written and views given, after some steps of a history: a page is the version of its last writing.
pub record ArePassed (h : History) (place : ℕ) (written viewed : List ℕ) : Type 0 where
  pub times : AreTimes (machine_at h place) place written viewed
  pub stood :
      (p x : ℕ) → slice_get written p ≡ Some x → page_of (machine_at h place).memory p ≡ page_of (machine_at h x).memory p

first-view : (s : Setup) (u : ℕ) → is_ready (hart_of (first s) u).status ≡ true → (hart_of (first s) u).view ≡ (first s).memory
unfolding first
first-view s zero ready = refl
first-view s (suc u) ready = cc

pub passed-start : (h : History) (pages : ℕ) → ArePassed h 0 (replicate pages 0) (replicate 32 0)
passed-start h pages =
    record {
      times =
          record {
            current = λ u p none ready cur. ap (λ (v : Memory). page_of v p) (first-view h.setup u ready);
            past = λ u ready. let zeros = index-zeros 32 u in omega arith;
            most = λ u. let zeros = index-zeros 32 u in omega arith;
          };
      stood = λ p x at.
          ap (λ (k : ℕ). page_of (machine_at h k).memory p) (sym (get-replicate pages p 0 x at));
    }

pub passed-more :
    (h : History) (k : ℕ) (r : Record) (written viewed given : List ℕ)
    → IsSetup h.setup → is_coherent h ≡ true → slice_get h.records k ≡ Some r → given ≡ served_by (machine_at h k) r
    → ArePassed h k written viewed
    → ArePassed h (k + 1) (with_each written (written_slots r) (k + 1)) (with_each viewed given (k + 1))
passed-more h k r written viewed given valid coherent at served passed =
    subst (λ (n : ℕ). ArePassed h n (with_each written (written_slots r) n) (with_each viewed given n)) (sym next)
    (record { times = times; stood = stood })
  where
    m : Machine
    m = machine_at h k

    next : k + 1 ≡ suc k
    next = omega arith

    can : (is_none (machine_at h k).ending ≡ true) × (fits (machine_at h k) r ≡ true)
    can = and_parts (is_none (machine_at h k).ending) (fits (machine_at h k) r) (coherent-can h k r coherent at)

    more : machine_at h (suc k) ≡ apply (machine_at h k) r
    more = ap (machine_at h) (sym next) ∙ machine-more h k r at

    gives : AreGivenBy (machine_at h k) r k viewed (with_each viewed given (suc k))
    gives =
        record {
          each = λ u ready. by u (each-index viewed given (suc k) u);
          past = λ u ready. let before = passed.times.most u in few u (each-index viewed given (suc k) u) before;
          most = λ u.
              let before = passed.times.most u in
              let late = few u (each-index viewed given (suc k) u) before in
              omega arith;
        }
      where
        by :
            (u : ℕ)
            → ((is_in u given ≡ true) × (slice_index (with_each viewed given (suc k)) u ≡ suc k))
            ⊎ (slice_index (with_each viewed given (suc k)) u ≡ slice_index viewed u)
            → (touched (effect_of m r) r.thread (length m.harts) u ≡ true)
            ⊎ (slice_index (with_each viewed given (suc k)) u ≡ slice_index viewed u)
        by u (inl both) =
            inl (served-touched (effect_of m r) r.thread (length m.harts) u (ap (is_in u) (sym served) ∙ both.0))
        by u (inr same) = inr same

        few :
            (u : ℕ)
            → ((is_in u given ≡ true) × (slice_index (with_each viewed given (suc k)) u ≡ suc k))
            ⊎ (slice_index (with_each viewed given (suc k)) u ≡ slice_index viewed u)
            → slice_index viewed u ≤ suc k
            → slice_index (with_each viewed given (suc k)) u ≤ suc k
        few u (inl both) before = let is = both.1 in omega arith
        few u (inr same) before = omega arith

    times :
        AreTimes (machine_at h (suc k)) (suc k) (with_each written (written_slots r) (suc k))
        (with_each viewed given (suc k))
    times =
        subst
        (λ (x : Machine). AreTimes x (suc k) (with_each written (written_slots r) (suc k)) (with_each viewed given (suc k)))
        (sym more)
        (times-apply m r k written viewed (with_each viewed given (suc k)) passed.times (coherent-whole h k valid coherent)
        can.0 (fits-parts m r can.1).ready gives)

    stood :
        (p x : ℕ) → slice_get (with_each written (written_slots r) (suc k)) p ≡ Some x
        → page_of (machine_at h (suc k)).memory p ≡ page_of (machine_at h x).memory p
    stood p x there =
        elim (is_or_not (is_in p (written_slots r))) [
          | inl wrote ↦
              ap (λ (n : ℕ). page_of (machine_at h n).memory p)
              (sym (each-in written (written_slots r) (suc k) x p wrote there))
          | inr free ↦
              ap (λ (x : Machine). page_of x.memory p) more
              ∙ ap (λ (v : Memory). page_of v p) (apply-memory m r)
              ∙ masked-other r.kept.delta m.memory p free
              ∙ passed.stood p x (sym (each-other written (written_slots r) (suc k) p free) ∙ there)
        ]

pub step-of :
    (h : History) (k : ℕ) (r : Record) (written viewed : List ℕ) (s : StepVersions)
    → is_coherent h ≡ true → slice_get h.records k ≡ Some r → ArePassed h k written viewed
    → s.read.items ≡ map (λ (p : ReadPage). seen_version written viewed r.thread p.slot) r.kept.reads
    → s.written.items ≡ map (λ (d : PageDelta). stored_version written d.slot) r.kept.delta
    → IsStepOf h k r s
step-of h k r written viewed s coherent at passed read stored =
    record {
      seen = λ p. cond (is_current written viewed r.thread p) (slice_get written p) None;
      stored = λ p. slice_get written p;
      read = read;
      written = stored;
      views = λ p x is. views p x (is_current written viewed r.thread p) refl is;
      memory = passed.stood;
    }
  where
    can : (is_none (machine_at h k).ending ≡ true) × (fits (machine_at h k) r ≡ true)
    can = and_parts (is_none (machine_at h k).ending) (fits (machine_at h k) r) (coherent-can h k r coherent at)

    views :
        (p x : ℕ) (c : Bool) → is_current written viewed r.thread p ≡ c → cond c (slice_get written p) None ≡ Some x
        → page_of (hart_of (machine_at h k) r.thread).view p ≡ page_of (machine_at h x).memory p
    views p x true cur is =
        passed.times.current r.thread p can.0 (fits-parts (machine_at h k) r can.1).ready cur ∙ passed.stood p x is
    views p x false cur is = cc

pub no-steps : (h : History) → AreStepsOf h []
no-steps h = record { each = λ place r s at there. absurd (none place s there) }
  where
    none : (place : ℕ) (s : StepVersions) → slice_get [] place ≡ Some s → ⊥
    none zero s there = cc
    none (suc place) s there = cc

-- one more step of those whose versions are known
pub steps-more :
    (h : History) (k : ℕ) (r : Record) (steps : List StepVersions) (s : StepVersions)
    → AreStepsOf h steps → length steps ≡ k → slice_get h.records k ≡ Some r → IsStepOf h k r s
    → AreStepsOf h (steps ++ s ∷ [])
steps-more h k r steps s were long at is =
    record {
      each = λ place q step there found.
          by place q step there (cases_lt place (length steps)) found;
    }
  where
    left : (xs : List StepVersions) (p : ℕ) → p < length xs → slice_get (xs ++ s ∷ []) p ≡ slice_get xs p
    left [] p below = absurd (omega arith)
    left (x ∷ xs) zero below = refl
    left (x ∷ xs) (suc p) below = left xs p (omega arith)

    last : (xs : List StepVersions) (p : ℕ) (y : StepVersions) → length xs ≤ p → slice_get (xs ++ s ∷ []) p ≡ Some y
        → (p ≡ length xs) × (y ≡ s)
    last [] zero y past found = (refl, let same : y ≡ s = cc in same)
    last [] (suc p) y past found = cc
    last (x ∷ xs) zero y past found = absurd (omega arith)
    last (x ∷ xs) (suc p) y past found =
        let rest = last xs p y (omega arith) found in (ap suc rest.0, rest.1)

    by :
        (place : ℕ) (q : Record) (step : StepVersions) → slice_get h.records place ≡ Some q
        → (place < length steps) ⊎ (length steps ≤ place) → slice_get (steps ++ s ∷ []) place ≡ Some step
        → IsStepOf h place q step
    by place q step there (inl below) found = were.each place q step there (sym (left steps place below) ∙ found)
    by place q step there (inr past) found =
        let end = last steps place step past found in
        let here : place ≡ k = end.0 ∙ long in
        let same : q ≡ r = (let both = sym there ∙ ap (slice_get h.records) here ∙ at in cc) in
        subst (λ (n : ℕ). IsStepOf h n q step) (sym here)
        (subst (λ (x : Record). IsStepOf h k x step) (sym same) (subst (IsStepOf h k r) (sym end.1) is))

-- the page map, the fuel and the number of pages stay

pub applied-frame : (m : Machine) (rs : List Record) (k : ℕ) → (applied_from m (take k rs)).frame ≡ m.frame
applied-frame m [] zero = refl
applied-frame m [] (suc k) = refl
applied-frame m (r ∷ rs) zero = refl
applied-frame m (r ∷ rs) (suc k) = applied-frame (apply m r) rs k ∙ apply-frame m r

pub applied-size : (m : Machine) (rs : List Record) (k : ℕ) → length (applied_from m (take k rs)).memory ≡ length m.memory
applied-size m [] zero = refl
applied-size m [] (suc k) = refl
applied-size m (r ∷ rs) zero = refl
applied-size m (r ∷ rs) (suc k) =
    applied-size (apply m r) rs k ∙ ap (λ (v : Memory). length v) (apply-memory m r) ∙ length-masked r.kept.delta m.memory

pub first-fuel : (s : Setup) → (first s).frame.fuel ≡ s.fuel
unfolding first
first-fuel s = refl

pub frame-fuel : (h : History) (k : ℕ) → (machine_at h k).frame.fuel ≡ h.setup.fuel
frame-fuel h k =
    ap (λ (f : Frame). f.fuel) (applied-frame (first h.setup) h.records k) ∙ first-fuel h.setup
