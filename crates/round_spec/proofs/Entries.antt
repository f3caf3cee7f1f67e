-- The entry and the record at a place of a schedule with marks; and that an entry chosen by the rule is in time.
use Rattle.std.proofs.Common.{◌≡◌, ◌<◌, ◌≤◌, ◌+◌, ℕ, zero, suc, Bool, true, false, ◌&&◌, ◌||◌, not, eqb, List, [], ◌∷◌, length, take, get_or, slice_get, Option, Some, is_some, refl, ap, sym, ◌∙◌, inl, inr, arith}
use Rattle.std.proofs.lemmas.Bool.{cases_eq, eqb-true}
use Rattle.std.proofs.lemmas.List.{take-map}
use Rattle.std.specs.List.{list_any, range_with_len}
use Rattle.machine_spec.specs.Machine.{Machine, hart_of, is_ready}
use Rattle.machine_spec.specs.Schedule.{scratch_from, record_of, records_from}
use Rattle.machine_spec.specs.Step.{step}
use Rattle.machine_spec.specs.Setup.{Setup, scratch}
use Rattle.machine_spec.proofs.Harts.{ready-below}
use Rattle.history_spec.specs.History.{History, found}
use Rattle.report_spec.specs.declared.Entry.{Entry}
use Rattle.report_spec.specs.Report.{threads_of}
use Rattle.history_spec.specs.Facts.{facts}
use Rattle.history_spec.proofs.Lists.{or-in_left, or-in_right}
use Rattle.round_spec.specs.Due.{is_due_by, is_due}
use Rattle.round_spec.specs.Marks.{fits_next, marked_from}
use Rattle.round_spec.specs.Picking.{any_thread, is_ready_and_due, is_picked_on, machine_after, IsPicked, ArePicked}
use Rattle.round_spec.specs.Working.{IsInTime, AreInTime}
use Rattle.round_spec.proofs.Like.{machine_at, IsTimely}

pub get-below : {A : Type 0} → (xs : List A) (i : ℕ) (x : A) → slice_get xs i ≡ Some x → i < length xs
get-below [] i x there = cc
get-below (y ∷ ys) zero x there = omega arith
get-below (y ∷ ys) (suc i) x there = let rest = get-below ys i x there in omega arith

pub get-some : {A : Type 0} → (xs : List A) (i : ℕ) (x absent : A) → slice_get xs i ≡ Some x → get_or xs i absent ≡ x
get-some [] i x absent there = cc
get-some (y ∷ ys) zero x absent there = let same : y ≡ x = cc in same
get-some (y ∷ ys) (suc i) x absent there = get-some ys i x absent there

pub marked-at :
    (past : Option History) (m : Machine) (ts : List ℕ) (i : ℕ) → i < length ts
    → slice_get (marked_from past m ts) i
    ≡ Some (record { thread = get_or ts i 0; reused = fits_next past (scratch_from m (take i ts)) (get_or ts i 0) })
marked-at past m [] i below = absurd (omega arith)
marked-at past m (t ∷ ts) zero below = refl
marked-at past m (t ∷ ts) (suc i) below = marked-at past (step m t) ts i (omega arith)

pub records-at :
    (m : Machine) (ts : List ℕ) (i : ℕ) → i < length ts
    → slice_get (records_from m ts) i ≡ Some (record_of (scratch_from m (take i ts)) (get_or ts i 0))
records-at m [] i below = absurd (omega arith)
records-at m (t ∷ ts) zero below = refl
records-at m (t ∷ ts) (suc i) below = records-at (step m t) ts i (omega arith)

pub threads-length : (es : List Entry) → length (threads_of es) ≡ length es
threads-length [] = refl
threads-length (e ∷ es) = ap suc (threads-length es)

-- the machine after the first entries, by their threads alone
pub machine-is :
    (setup : Setup) (schedule : List Entry) (i : ℕ)
    → machine_after setup schedule i ≡ machine_at setup (threads_of schedule) i
machine-is setup schedule i = ap (scratch setup) (sym (take-map (λ (e : Entry). e.thread) i schedule))

-- a thread that exists passes a test
in-range :
    (test : ℕ → Bool) (k n u : ℕ) → k ≤ u → u < k + n → test u ≡ true → list_any test (range_with_len k n) ≡ true
in-range test k zero u low high is = absurd (omega arith)
in-range test k (suc n) u low high is =
    elim (cases_eq k u) [
      | inl same ↦ or-in_left (test k) (list_any test (range_with_len (k + 1) n)) (ap test same ∙ is)
      | inr other ↦
          or-in_right (test k) (list_any test (range_with_len (k + 1) n))
          (in-range test (k + 1) n u (omega arith) (omega arith) is)
    ]

-- a thread that is due by the rule is due, if any ready one is
due-of :
    (h : History) (m : Machine) (t u : ℕ)
    → (is_due (Some h) m t || not (any_thread m (is_ready_and_due (Some h) m))) ≡ true
    → is_ready (hart_of m u).status ≡ true → is_due_by (facts h) m u ≡ true
    → is_due_by (facts h) m t ≡ true
unfolding is_due
due-of h m t u rule ready due =
    here (is_due_by (facts h) m t) (any_thread m (is_ready_and_due (Some h) m)) rule
    (in-range (is_ready_and_due (Some h) m) 0 (length m.harts) u (omega arith)
    (let below = ready-below m.harts u ready in omega arith) (rw (ready, due) refl))
  where
    here : (a b : Bool) → (a || not b) ≡ true → b ≡ true → a ≡ true
    here true b rule some = refl
    here false true rule some = cc
    here false false rule some = cc

pub timely-of :
    (h : History) (setup : Setup) (schedule : List Entry) (i : ℕ) (e : Entry) (p : ℕ)
    → get_or (threads_of schedule) i 0 ≡ e.thread → IsInTime setup (Some h) schedule i e p
    → IsTimely h setup (threads_of schedule) i p
timely-of h setup schedule i e p thread timely =
    record {
      early = timely.earlier;
      number =
          rw (thread, ← machine-is setup schedule p, ← machine-is setup schedule i) timely.number;
      due = λ u ready due.
          let then : machine_at setup (threads_of schedule) p ≡ machine_after setup schedule p =
          sym (machine-is setup schedule p) in
          let ready_then : is_ready (hart_of (machine_after setup schedule p) u).status ≡ true =
          ap (λ (m : Machine). is_ready (hart_of m u).status) (sym then) ∙ ready in
          let due_then : is_due_by (facts h) (machine_after setup schedule p) u ≡ true =
          ap (λ (m : Machine). is_due_by (facts h) m u) (sym then) ∙ due in
          ap (λ (m : Machine). is_due_by (facts h) m (get_or (threads_of schedule) i 0)) then
          ∙ ap (is_due_by (facts h) (machine_after setup schedule p)) thread
          ∙ due-of h (machine_after setup schedule p) e.thread u timely.due ready_then due_then;
    }

picked-parts :
    (ready number due fits : Bool)
    → (ready && number && due && fits) ≡ true → (number ≡ true) × (due ≡ true)
picked-parts true true true fits is = (refl, refl)
picked-parts true true false fits is = cc
picked-parts true false due fits is = cc
picked-parts false number due fits is = cc

-- an entry that was chosen by the rule was in time
in_time-of :
    (setup : Setup) (past : Option History) (schedule : List Entry) (i : ℕ) (e : Entry) (p : ℕ)
    → IsPicked setup past schedule i e p → IsInTime setup past schedule i e p
unfolding is_picked_on
in_time-of setup past schedule i e p picked =
    let m : Machine = machine_after setup schedule p in
    let number : ℕ = (hart_of (machine_after setup schedule i) e.thread).number in
    let parts =
    picked-parts (is_ready (hart_of m e.thread).status) (eqb (hart_of m e.thread).number number)
    (is_due past m e.thread || not (any_thread m (is_ready_and_due past m)))
    (is_some (found past e.thread number) || not (any_thread m (λ u. is_ready_and_due past m u && fits_next past m u)))
    picked.by_rule in
    record {
      earlier = picked.earlier;
      number = eqb-true (hart_of m e.thread).number number parts.0;
      due = parts.1;
    }

pub are_in_time :
    (setup : Setup) (past : Option History) (schedule : List Entry) (points : List ℕ)
    → ArePicked setup past schedule points → AreInTime setup past schedule points
are_in_time setup past schedule points picked =
    record { each = λ i e there. in_time-of setup past schedule i e (get_or points i 0) (picked.by_rule i e there) }
