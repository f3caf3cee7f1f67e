-- The machines before and after the records of a history, and what facts need of them.
use Rattle.std.proofs.Common.{◌≡◌, ◌<◌, ◌≤◌, ◌+◌, ℕ, zero, suc, Bool, true, false, List, [], ◌∷◌, Option, Some, None, is_none, is_some, ◌++◌, length, take, replicate, cond, set, get_or, eqb, ap₂, refl, sym, ap, subst, ◌∙◌, inl, inr, arith}
use Rattle.std.proofs.lemmas.Bool.{and_parts, cases_eq, eq-eqb}
use Rattle.std.proofs.lemmas.Bool.Decides.{nat_tests}
use Rattle.std.proofs.lemmas.List.{get_or-set_same, get_or-set_other, length-set}
use Rattle.std.specs.List.{slice_get}
use Rattle.std.specs.Prelude.{◌&&◌}
use Rattle.memory_spec.specs.Pages.{Mapped}
use Rattle.guest_call.specs.declared.Object.{Object}
use Rattle.guest_call.specs.Objects.{Objects, opening, created_count}
use Rattle.thunk_spec.specs.Record.{Record}
use Rattle.machine_spec.specs.declared.states.End.{End}
use Rattle.machine_spec.specs.Machine.{Machine, hart_of, is_ready}
use Rattle.machine_spec.specs.Whole.{IsWhole}
use Rattle.machine_spec.specs.Setup.{Setup, IsSetup, first, map_of}
use Rattle.machine_spec.specs.Step.{apply, fits}
use Rattle.machine_spec.proofs.Harts.{ready-below}
use Rattle.history_spec.specs.History.{History, applied_from, can_apply_from, is_coherent}
use Rattle.history_spec.proofs.Applying.{apply-frame}
use Rattle.history_spec.proofs.Mapped.{first-map}
use Rattle.history_spec.proofs.Numbers.{first-number, apply-number}
use Rattle.history_spec.specs.Facts.{Fact, ask_of, acted, effect_of, objects_of, served_by, written_slots, read_by, fact_of}
use Rattle.history_spec.proofs.After.{apply-length, apply-objects}
use Rattle.release_core.specs.Applying.{can_apply, machine_at}
use Rattle.release_core.proofs.Histories.{coherent-can, coherent-whole}
use Rattle.machine_calls.proofs.Asking.{few_numbers}
use Rattle.history_facts.specs.declared.outline.Outline.{Outline}
use Rattle.history_facts.specs.Outlining.{numbered, IsOutlineOf, MayBeApplied}
use Rattle.history_facts.proofs.Applying.{ready}

none-some : (e : Option End) → is_none e ≡ true → is_some e ≡ false
none-some None none = refl
none-some (Some e) none = cc

-- the end comes after the last of them, and only then
last-at :
    (m : Machine) (rs : List Record) (k : ℕ) (r : Record) → can_apply_from m rs ≡ true
    → is_some (applied_from m rs).ending ≡ true → slice_get rs k ≡ Some r
    → eqb (k + 1) (length rs) ≡ is_some (apply (applied_from m (take k rs)) r).ending
last-at m [] k r can ended at = cc
last-at m (x ∷ []) zero r can ended at =
    let same : x ≡ r = cc in sym (subst (λ (y : Record). is_some (apply m y).ending ≡ true) same ended)
last-at m (x ∷ []) (suc k) r can ended at = cc
last-at m (x ∷ y ∷ rs) zero r can ended at =
    let same : x ≡ r = cc in
    let rest : can_apply_from (apply m x) (y ∷ rs) ≡ true = (and_parts (is_none m.ending && fits m x) _ can).1 in
    let fit : (is_none (apply m x).ending && fits (apply m x) y) ≡ true = (and_parts _ (can_apply_from (apply (apply m x) y) rs) rest).0 in
    let next : is_none (apply m x).ending ≡ true = (and_parts _ _ fit).0 in
    let later : eqb (0 + 1) (length (x ∷ y ∷ rs)) ≡ false = grind (arith, nat_tests) in
    later ∙ sym (subst (λ (z : Record). is_some (apply m z).ending ≡ false) same (none-some (apply m x).ending next))
last-at m (x ∷ y ∷ rs) (suc k) r can ended at =
    let same : eqb (suc k + 1) (length (x ∷ y ∷ rs)) ≡ eqb (k + 1) (length (y ∷ rs)) = grind (arith, nat_tests) in
    same ∙ last-at (apply m x) (y ∷ rs) k r (and_parts (is_none m.ending && fits m x) _ can).1 ended at

pub coherent-applied :
    (h : History) (k : ℕ) (r : Record) (o : Outline)
    → IsSetup h.setup → is_coherent h ≡ true → slice_get h.records k ≡ Some r → IsOutlineOf (machine_at h k) o
    → MayBeApplied (machine_at h k) o r
coherent-applied h k r o valid coherent at is = record {
  outline = is;
  whole = coherent-whole h k valid coherent;
  can = coherent-can h k r coherent at;
}

pub coherent-last :
    (h : History) (k : ℕ) (r : Record) → is_coherent h ≡ true → slice_get h.records k ≡ Some r
    → eqb (k + 1) (length h.records) ≡ is_some (apply (machine_at h k) r).ending
coherent-last h k r coherent at =
    let parts = and_parts (can_apply_from (first h.setup) h.records) _ coherent in
    last-at (first h.setup) h.records k r parts.0 parts.1 at

-- after a record was applied

few : (m : Machine) → IsWhole m → length m.harts ≤ 32
few m whole = omega (arith, whole.tied.threads, whole.tied.kept.few_threads)

pub below-32 : (m : Machine) (r : Record) → IsWhole m → can_apply m r ≡ true → r.thread < 32
below-32 m r whole can = omega (arith, few m whole, ready-below m.harts r.thread (ready m r can))

number-more :
    (m : Machine) (r : Record) (numbers : List ℕ) (u : ℕ)
    → ((t : ℕ) → get_or numbers t 0 ≡ (hart_of m t).number)
    → r.thread < length numbers → is_ready (hart_of m r.thread).status ≡ true
    → get_or (set numbers r.thread (get_or numbers r.thread 0 + 1)) u 0 ≡ (hart_of (apply m r) u).number
number-more m r numbers u are inside able =
    let after = apply-number m r u able in
    let at = are u in
    elim (cases_eq u r.thread) [
      | inl same ↦
          let is : eqb r.thread r.thread ≡ true = eq-eqb r.thread r.thread refl in
          rw same (get_or-set_same numbers r.thread (get_or numbers r.thread 0 + 1) 0 inside
          ∙ ap (λ n. n + 1) (are r.thread)
          ∙ sym (apply-number m r r.thread able ∙ rw is refl))
      | inr other ↦
          let is : eqb r.thread u ≡ false = grind (arith, nat_tests) in
          get_or-set_other numbers r.thread u (get_or numbers r.thread 0 + 1) 0 other
          ∙ at ∙ sym (after ∙ rw is (omega arith))
    ]

pub outline-more :
    (m : Machine) (r : Record) (o : Outline) (objects : Objects) (threads : ℕ) (numbers : List ℕ)
    → IsOutlineOf m o → IsWhole m → can_apply m r ≡ true
    → objects ≡ (acted m r.thread (ask_of r)).1
    → threads ≡ o.threads + created_count (effect_of m r).created
    → numbers ≡ set o.numbers r.thread (get_or o.numbers r.thread 0 + 1)
    → IsOutlineOf (apply m r) (record { map = o.map; objects = objects; threads = threads; numbers = numbers })
outline-more m r o objects threads numbers is whole can is_objects is_threads is_numbers = record {
  map = is.map ∙ sym (ap (λ f. f.map) (apply-frame m r));
  objects = is_objects ∙ sym (apply-objects m r);
  threads = is_threads ∙ ap (λ n. n + created_count (effect_of m r).created) is.threads ∙ sym (apply-length m r);
  each = ap (λ (ns : List ℕ). length ns) is_numbers
      ∙ length-set o.numbers r.thread (get_or o.numbers r.thread 0 + 1) ∙ is.each;
  numbers = λ u.
      ap (λ ns. get_or ns u 0) is_numbers
      ∙ number-more m r o.numbers u is.numbers (let inside = below-32 m r whole can in let each = is.each in omega arith)
      (ready m r can);
}

pub created-one : (c : Option (ℕ × ℕ)) → cond (is_some c) 1 0 ≡ created_count c
created-one None = refl
created-one (Some c) = refl

-- a machine's threads and steps are few
pub few-steps :
    (m : Machine) (r : Record) → IsWhole m → can_apply m r ≡ true → (hart_of m r.thread).number ≤ 65536
few-steps m r whole can = few_numbers m r.thread whole (ready m r can)

pub few-threads : (m : Machine) → IsWhole m → length m.harts ≤ 32
few-threads m whole = few m whole

-- the one of the machine at the start
zeros-none : (n u : ℕ) → get_or {A = ℕ} (replicate {A = ℕ} n 0) u 0 ≡ 0
zeros-none zero u = refl
zeros-none (suc n) zero = refl
zeros-none (suc n) (suc u) = zeros-none n u

first-threads : (s : Setup) → length (first s).harts ≡ 1
unfolding first
first-threads s = refl

first-objects : (s : Setup) → (first s).objects ≡ opening
unfolding first
first-objects s = refl

pub outline-first :
    (s : Setup) (map : List Mapped) (objects : Objects) → map ≡ map_of s → objects ≡ opening
    → IsOutlineOf (first s) (record { map = map; objects = objects; threads = 1; numbers = replicate 32 0 })
outline-first s map objects is_map is_objects = record {
  map = is_map ∙ sym (first-map s);
  objects = is_objects ∙ sym (first-objects s);
  threads = sym (first-threads s);
  each = refl;
  numbers = λ u. zeros-none 32 u ∙ sym (first-number s u);
}

-- the slots that the threads' next thunks read
pub numbered-read :
    (reads : ℕ → ℕ → List ℕ) (m : Machine) (numbers ts : List ℕ)
    → ((t : ℕ) → get_or numbers t 0 ≡ (hart_of m t).number)
    → numbered reads numbers ts ≡ read_by reads m ts
numbered-read reads m numbers [] are = refl
numbered-read reads m numbers (t ∷ ts) are =
    ap₂ (λ (n : ℕ) (rest : List ℕ). reads t n ++ rest) (are t) (numbered-read reads m numbers ts are)

-- a fact by its parts
pub fact-is :
    (reads : ℕ → ℕ → List ℕ) (m : Machine) (r : Record) (thread : ℕ) (objects : List Object)
    (given written opened : List ℕ) (last : Bool)
    → thread ≡ r.thread → objects ≡ objects_of m r → given ≡ served_by m r → written ≡ written_slots r
    → opened ≡ read_by reads (apply m r) (served_by m r) → last ≡ is_some (apply m r).ending
    → (let f : Fact =
    record {
      thread = thread;
      objects = objects;
      given = given;
      written = written;
      opened = opened;
      last = last;
    } in f)
    ≡ fact_of reads m r
fact-is reads m r thread objects given written opened last is_thread is_objects is_given is_written is_opened is_last =
    rw (is_thread, is_objects, is_given, is_written, is_opened, is_last) refl
