-- A thread has made as many steps as there are entries of it in the schedule.
use Rattle.std.proofs.Common.{◌≡◌, ◌<◌, ◌+◌, ℕ, zero, suc, true, false, cond, eqb, List, [], ◌∷◌, ◌++◌, length, set, count_by, append_assoc, append-nil, Option, Some, None, is_none, refl, ap, sym, ◌∙◌, inl, inr, arith}
use Rattle.std.proofs.lemmas.Bool.{cases_eq, eq-eqb}
use Rattle.std.proofs.lemmas.Bool.Decides.{nat_tests}
use Rattle.std.proofs.lemmas.List.{get_or-set_same, get_or-set_other}
use Rattle.std.proofs.lemmas.List.Sums.{sum_by-cons, sum_by_push}
use Rattle.isa_spec.specs.Registers.{Registers}
use Rattle.memory_spec.specs.Pages.{Memory}
use Rattle.guest_call.specs.declared.Fate.{Fate}
use Rattle.guest_call.specs.declared.Fate.TheVariants.{Returns, Blocks, Ends, Exits}
use Rattle.guest_call.specs.Effect.{Effect}
use Rattle.guest_call.specs.Objects.{act}
use Rattle.thunk_spec.specs.declared.ends.ThunkEnd.{ThunkEnd}
use Rattle.thunk_spec.specs.Put.{is_readable}
use Rattle.thunk_spec.specs.Record.{Record}
use Rattle.machine_spec.specs.declared.states.Asked.{Asked}
use Rattle.machine_spec.specs.declared.states.Asked.TheVariants.{Asks, Stops}
use Rattle.machine_spec.specs.Machine.{Hart, Machine, hart_in, hart_of, nobody, is_ready}
use Rattle.machine_spec.specs.Performing.{returned, fated, woken, first_hart, with_created, settled}
use Rattle.machine_spec.specs.Step.{advanced, written, asked, done_as_asked, finished, step, apply, can_step}
use Rattle.machine_spec.specs.Schedule.{scratch_from, is_permitted_from, records_from}
use Rattle.machine_spec.specs.Setup.{Setup, first}
use Rattle.machine_spec.proofs.Alone.{finished-steps}
use Rattle.machine_spec.proofs.Harts.{ready-below}
use Rattle.history_spec.specs.History.{History, IsHonest, schedule_of, threads_of_records, is_numbered, is_numbered_after}
use Rattle.history_spec.proofs.Scratch.{and-left, and-right}

-- writing a hart with an unchanged number changes no number
number-set :
    (hs : List Hart) (t u : ℕ) (h : Hart)
    → h.number ≡ (hart_in hs t).number
    → (hart_in (set hs t h) u).number ≡ (hart_in hs u).number
number-set [] t u h same = refl
number-set (x ∷ hs) zero zero h same = same
number-set (x ∷ hs) zero (suc u) h same = refl
number-set (x ∷ hs) (suc t) zero h same = refl
number-set (x ∷ hs) (suc t) (suc u) h same = number-set hs t u h same

number-fated : (f : Fate) (memory : Memory) (h : Hart) → (fated f memory h).number ≡ h.number
number-fated (Returns a0 a1) memory h = refl
number-fated Blocks memory h = refl
number-fated (Ends v) memory h = refl
number-fated (Exits code) memory h = refl

number-woken :
    (memory : Memory) (reported : Option ℕ) (us : List ℕ) (hs : List Hart) (u : ℕ)
    → (hart_in (woken memory reported us hs) u).number ≡ (hart_in hs u).number
number-woken memory reported [] hs u = refl
number-woken memory reported (v ∷ us) hs u =
    number-woken memory reported us (set hs v (returned memory 0 reported (hart_in hs v))) u
    ∙ number-set hs v u (returned memory 0 reported (hart_in hs v)) refl

-- a created thread has made no step, and neither has a thread that doesn't exist
number-pushed :
    (hs : List Hart) (h : Hart) (u : ℕ) → h.number ≡ 0
    → (hart_in (hs ++ h ∷ []) u).number ≡ (hart_in hs u).number
number-pushed [] h zero none = none
number-pushed [] h (suc u) none = refl
number-pushed (x ∷ hs) h zero none = refl
number-pushed (x ∷ hs) h (suc u) none = number-pushed hs h u none

number-created :
    (memory : Memory) (c : Option (ℕ × ℕ)) (hs : List Hart) (u : ℕ)
    → (hart_in (with_created memory c hs) u).number ≡ (hart_in hs u).number
number-created memory None hs u = refl
number-created memory (Some c) hs u = number-pushed hs (first_hart memory (length hs) c.0 c.1) u refl

number-settled :
    (e : Effect) (memory : Memory) (t : ℕ) (hs : List Hart) (u : ℕ)
    → (hart_in (settled e memory t hs) u).number ≡ (hart_in hs u).number
number-settled e memory t hs u =
    number-created memory e.created (woken memory e.reported e.woken (set hs t (fated e.fate memory (hart_in hs t)))) u
    ∙ number-woken memory e.reported e.woken (set hs t (fated e.fate memory (hart_in hs t))) u
    ∙ number-set hs t u (fated e.fate memory (hart_in hs t)) (number-fated e.fate memory (hart_in hs t))

number-done :
    (m : Machine) (t : ℕ) (a : Asked) (u : ℕ)
    → (hart_of (done_as_asked m t a) u).number ≡ (hart_of m u).number
number-done m t (Asks call) u = number-settled (act (is_readable m.frame.map) m.objects t call).0 m.memory t m.harts u
number-done m t (Stops e) u = refl

-- how much the step of a thread adds to its own number, and to that of another
abbrev pub one_for : ℕ → ℕ → ℕ
one_for u t = cond (eqb t u) 1 0

number-written :
    (m : Machine) (t : ℕ) (memory : Memory) (regs : Registers) (put : List ℕ) (u : ℕ)
    → is_ready (hart_of m t).status ≡ true
    → (hart_of (written m t memory regs put) u).number ≡ (hart_of m u).number + one_for u t
number-written m t memory regs put u ready =
    elim (cases_eq u t) [
      | inl same ↦
          let below : t < length m.harts = ready-below m.harts t ready in
          let here : (hart_of (written m t memory regs put) t).number ≡ suc (hart_of m t).number =
          ap (λ (x : Hart). x.number)
          (get_or-set_same m.harts t (advanced (hart_of m t) regs) nobody below) in
          let is : eqb t t ≡ true = eq-eqb t t refl in
          rw (same, is) (here ∙ omega arith)
      | inr other ↦
          let here : (hart_of (written m t memory regs put) u).number ≡ (hart_of m u).number =
          ap (λ (x : Hart). x.number)
          (get_or-set_other m.harts t u (advanced (hart_of m t) regs) nobody other) in
          let is : eqb t u ≡ false = grind (arith, nat_tests) in
          rw is (here ∙ omega arith)
    ]

pub finished-number :
    (m : Machine) (t : ℕ) (memory : Memory) (regs : Registers) (e : ThunkEnd) (put : List ℕ) (u : ℕ)
    → is_ready (hart_of m t).status ≡ true
    → (hart_of (finished m t memory regs e put) u).number ≡ (hart_of m u).number + one_for u t
unfolding finished
finished-number m t memory regs e put u ready =
    number-done (written m t memory regs put) t (asked t e regs) u ∙ number-written m t memory regs put u ready

pub step-number :
    (m : Machine) (t u : ℕ) → is_ready (hart_of m t).status ≡ true
    → (hart_of (step m t) u).number ≡ (hart_of m u).number + one_for u t
unfolding step
step-number m t u ready = finished-number m t _ _ _ _ u ready

pub apply-number :
    (m : Machine) (r : Record) (u : ℕ) → is_ready (hart_of m r.thread).status ≡ true
    → (hart_of (apply m r) u).number ≡ (hart_of m u).number + one_for u r.thread
unfolding apply
apply-number m r u ready = finished-number m r.thread _ _ _ _ u ready

pub apply-steps : (m : Machine) (r : Record) → (apply m r).steps ≡ suc m.steps
unfolding apply
apply-steps m r = finished-steps m r.thread _ _ _ _

pub count-cons :
    (u t : ℕ) (ts : List ℕ)
    → count_by (λ (x : ℕ). eqb x u) (t ∷ ts) ≡ one_for u t + count_by (λ (x : ℕ). eqb x u) ts
count-cons u t ts = sum_by-cons (λ (x : ℕ). cond (eqb x u) 1 0) t ts

-- one more entry
pub count-more :
    (u t : ℕ) (ts : List ℕ)
    → count_by (λ (x : ℕ). eqb x u) (ts ++ t ∷ []) ≡ count_by (λ (x : ℕ). eqb x u) ts + one_for u t
count-more u t ts = sum_by_push (λ (x : ℕ). cond (eqb x u) 1 0) ts t

-- after a permitted schedule a thread has made as many more steps as there are entries of it
pub scratch-number :
    (m : Machine) (ts : List ℕ) (u : ℕ)
    → is_permitted_from m ts ≡ true
    → (hart_of (scratch_from m ts) u).number ≡ (hart_of m u).number + count_by (λ (x : ℕ). eqb x u) ts
scratch-number m [] u permitted = omega arith
scratch-number m (t ∷ ts) u permitted =
    let can : can_step m t ≡ true = and-left (can_step m t) (is_permitted_from (step m t) ts) permitted in
    let here = step-number m t u (and-right (is_none m.ending) (is_ready (hart_of m t).status) can) in
    let rest = scratch-number (step m t) ts u (and-right (can_step m t) (is_permitted_from (step m t) ts) permitted) in
    let count = count-cons u t ts in
    rest ∙ (omega (arith, here, count))

pub first-steps : (s : Setup) → (first s).steps ≡ 0
unfolding first
first-steps s = refl

pub first-number : (s : Setup) (u : ℕ) → (hart_of (first s) u).number ≡ 0
unfolding first
first-number s zero = refl
first-number s (suc u) = refl

pub setup-number :
    (s : Setup) (ts : List ℕ) (u : ℕ)
    → is_permitted_from (first s) ts ≡ true
    → (hart_of (scratch_from (first s) ts) u).number ≡ count_by (λ (x : ℕ). eqb x u) ts
setup-number s ts u permitted =
    let none = first-number s u in
    let is = scratch-number (first s) ts u permitted in
    omega arith

-- one more record, whose number is right
pub numbered-more :
    (earlier : List ℕ) (rs : List Record) (r : Record)
    → is_numbered_after earlier rs ≡ true
    → r.number ≡ count_by (λ (x : ℕ). eqb x r.thread) (earlier ++ threads_of_records rs)
    → is_numbered_after earlier (rs ++ r ∷ []) ≡ true
numbered-more earlier [] r right number =
    let is : eqb r.number (count_by (λ (x : ℕ). eqb x r.thread) earlier) ≡ true =
    eq-eqb r.number (count_by (λ (x : ℕ). eqb x r.thread) earlier)
    (number ∙ ap (λ (ts : List ℕ). count_by (λ (x : ℕ). eqb x r.thread) ts) (append-nil earlier)) in
    rw is refl
numbered-more earlier (x ∷ rs) r right number =
    let first : eqb x.number (count_by (λ (y : ℕ). eqb y x.thread) earlier) ≡ true =
    and-left (eqb x.number (count_by (λ (y : ℕ). eqb y x.thread) earlier))
    (is_numbered_after (earlier ++ x.thread ∷ []) rs) right in
    rw first
    (numbered-more (earlier ++ x.thread ∷ []) rs r
    (and-right (eqb x.number (count_by (λ (y : ℕ). eqb y x.thread) earlier))
    (is_numbered_after (earlier ++ x.thread ∷ []) rs) right)
    (number ∙ ap (λ (ts : List ℕ). count_by (λ (y : ℕ). eqb y r.thread) ts)
    (sym (append_assoc earlier (x.thread ∷ []) (threads_of_records rs)))))

-- the records of a permitted schedule are numbered
records-numbered :
    (m : Machine) (ts earlier : List ℕ)
    → is_permitted_from m ts ≡ true
    → ((u : ℕ) → (hart_of m u).number ≡ count_by (λ (x : ℕ). eqb x u) earlier)
    → is_numbered_after earlier (records_from m ts) ≡ true
records-numbered m [] earlier permitted numbers = refl
records-numbered m (t ∷ ts) earlier permitted numbers =
    let can : can_step m t ≡ true = and-left (can_step m t) (is_permitted_from (step m t) ts) permitted in
    let first : eqb (hart_of m t).number (count_by (λ (x : ℕ). eqb x t) earlier) ≡ true =
    eq-eqb (hart_of m t).number (count_by (λ (x : ℕ). eqb x t) earlier) (numbers t) in
    rw first
    (records-numbered (step m t) ts (earlier ++ t ∷ [])
    (and-right (can_step m t) (is_permitted_from (step m t) ts) permitted)
    (λ u.
    let here = step-number m t u (and-right (is_none m.ending) (is_ready (hart_of m t).status) can) in
    let count = count-more u t earlier in
    let before = numbers u in
    omega arith))

pub honest-numbered : (h : History) → IsHonest h → is_numbered h.records ≡ true
honest-numbered h honest =
    ap is_numbered honest.recorded
    ∙ records-numbered (first h.setup) (schedule_of h) [] honest.permitted (λ u. first-number h.setup u)
