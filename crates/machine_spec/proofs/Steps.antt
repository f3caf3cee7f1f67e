-- A step keeps every other ready hart as it is and the invariant of machines, and it is the same as applying a true
-- record that fits.
use Rattle.std.proofs.Common.{◌≡◌, ◌≢◌, ◌<◌, ◌≤◌, ℕ, zero, suc, Bool, true, false, not, leb, cond, List, [], ◌∷◌, ◌++◌, length, set, Option, Some, None, is_none, refl, ap, ◌∙◌, arith}
use Rattle.std.proofs.lemmas.Bool.{and_parts}
use Rattle.std.proofs.lemmas.Bool.Decides.{nat_tests}
use Rattle.std.proofs.lemmas.List.{get_or-set_other}
use Rattle.std.specs.List.{AllByRecursion, list_all, list_any}
use Rattle.isa_spec.specs.Registers.{Registers}
use Rattle.isa_spec.proofs.Equality.{same_registers-true}
use Rattle.memory_spec.specs.Pages.{Mapped, Memory, IsMemory}
use Rattle.memory_spec.specs.Stores.{with_stores}
use Rattle.memory_spec.proofs.WithStores.{IsMemory-with_stores}
use Rattle.guest_call.specs.declared.Fate.{Fate}
use Rattle.guest_call.specs.declared.Fate.TheVariants.{Returns, Blocks, Ends, Exits}
use Rattle.guest_call.specs.Effect.{Effect}
use Rattle.guest_call.specs.Objects.{act}
use Rattle.thunk_spec.specs.declared.ends.ThunkEnd.{ThunkEnd}
use Rattle.thunk_spec.specs.Put.{is_readable}
use Rattle.thunk_spec.specs.Thunk.{Thunk, thunk}
use Rattle.thunk_spec.specs.Reads.{has}
use Rattle.thunk_spec.specs.Record.{Record, IsTrue, StandsFor, fits_at}
use Rattle.thunk_spec.proofs.Truth.{StandsFor-true}
use Rattle.machine_spec.specs.declared.states.End.{End}
use Rattle.machine_spec.specs.Limits.{AreLimits}
use Rattle.machine_spec.specs.Machine.{Hart, Machine, hart_in, hart_of, nobody, is_ready, is_ended}
use Rattle.machine_spec.specs.Performing.{returned, fated, woken, first_hart, with_created, settled}
use Rattle.machine_spec.specs.Step.{advanced, written, Asked, Asks, Stops, asked, fate_end, end_after, done_as_asked, finished, step, apply, fits, can_step}
use Rattle.machine_spec.specs.Whole.{IsTied, IsHartOf, IsWhole}
use Rattle.machine_spec.proofs.Harts.{ready-below, status-set}
use Rattle.machine_spec.proofs.Tied.{tied-written, tied-called, stays-called}

-- after the writing, the caller is ready if it was before
ready-written :
    (m : Machine) (t : ℕ) (memory : Memory) (regs : Registers) (put : List ℕ)
    → is_ready (hart_of m t).status ≡ true
    → is_ready (hart_of (written m t memory regs put) t).status ≡ true
ready-written m t memory regs put ready =
    ap is_ready
    (status-set m.harts t t
    (advanced (hart_of m t) regs) refl)
    ∙ ready

tied-after_writing :
    (m : Machine) (t : ℕ) (memory : Memory) (regs : Registers) (put : List ℕ)
    → IsTied m.objects m.harts
    → IsTied (written m t memory regs put).objects (written m t memory regs put).harts
tied-after_writing m t memory regs put tied =
    tied-written m.objects m.harts t
    (advanced (hart_of m t) regs) refl tied

done-stays :
    (m : Machine) (t u : ℕ) (a : Asked)
    → IsTied m.objects m.harts → is_ready (hart_of m t).status ≡ true
    → u ≢ t → is_ready (hart_of m u).status ≡ true
    → hart_of (done_as_asked m t a) u ≡ hart_of m u
done-stays m t u (Asks call) tied ready other ready_u =
    stays-called (is_readable m.frame.map) m.objects m.harts t call m.memory u tied ready other ready_u
done-stays m t u (Stops e) tied ready other ready_u = refl

pub finished-stays :
    (m : Machine) (t u : ℕ) (memory : Memory) (regs : Registers) (e : ThunkEnd) (put : List ℕ)
    → IsTied m.objects m.harts → is_ready (hart_of m t).status ≡ true
    → u ≢ t → is_ready (hart_of m u).status ≡ true
    → hart_of (finished m t memory regs e put) u ≡ hart_of m u
unfolding finished
finished-stays m t u memory regs e put tied ready other ready_u =
    let same : hart_of (written m t memory regs put) u ≡ hart_of m u =
    get_or-set_other m.harts t u
    (advanced (hart_of m t) regs) nobody other in
    done-stays (written m t memory regs put) t u (asked t e regs) (tied-after_writing m t memory regs put tied)
    (ready-written m t memory regs put ready) other (ap (λ (h : Hart). is_ready h.status) same ∙ ready_u)
    ∙ same

pub can_step-ready : (m : Machine) (t : ℕ) → can_step m t ≡ true → is_ready (hart_of m t).status ≡ true
can_step-ready m t can = grind (arith, nat_tests)

-- a step of one thread leaves every other ready thread's registers, view, number and status as they are
pub step-stays :
    (m : Machine) (t u : ℕ)
    → IsWhole m → can_step m t ≡ true
    → u ≢ t → is_ready (hart_of m u).status ≡ true
    → hart_of (step m t) u ≡ hart_of m u
unfolding step
step-stays m t u whole can other ready_u =
    let done : Thunk = thunk m.frame (hart_of m t).view (hart_of m t).regs in
    finished-stays m t u (with_stores m.frame.map m.memory (thunk m.frame (hart_of m t).view (hart_of m t).regs).stores)
    (thunk m.frame (hart_of m t).view (hart_of m t).regs).regs
    (thunk m.frame (hart_of m t).view (hart_of m t).regs).end
    (thunk m.frame (hart_of m t).view (hart_of m t).regs).put
    whole.tied (can_step-ready m t can) other ready_u

-- harts

hart-set :
    (map : List Mapped) (steps : ℕ) (hs : List Hart) (t : ℕ) (h : Hart)
    → IsHartOf map steps h → AllByRecursion (IsHartOf map steps) hs → AllByRecursion (IsHartOf map steps) (set hs t h)
hart-set map steps [] t h fit all = tt
hart-set map steps (x ∷ hs) zero h fit all = (fit, all.1)
hart-set map steps (x ∷ hs) (suc t) h fit all = (all.0, hart-set map steps hs t h fit all.1)

hart-push :
    (map : List Mapped) (steps : ℕ) (hs : List Hart) (h : Hart)
    → IsHartOf map steps h → AllByRecursion (IsHartOf map steps) hs → AllByRecursion (IsHartOf map steps) (hs ++ h ∷ [])
hart-push map steps [] h fit all = (fit, tt)
hart-push map steps (x ∷ hs) h fit all = (all.0, hart-push map steps hs h fit all.1)

pub hart-at :
    (map : List Mapped) (steps : ℕ) (hs : List Hart) (t : ℕ)
    → t < length hs → AllByRecursion (IsHartOf map steps) hs → IsHartOf map steps (hart_in hs t)
hart-at map steps [] t below all = absurd (omega arith)
hart-at map steps (x ∷ hs) zero below all = all.0
hart-at map steps (x ∷ hs) (suc t) below all = hart-at map steps hs t (omega arith) all.1

-- a thread that doesn't exist has made no step either
number-at :
    (map : List Mapped) (steps : ℕ) (hs : List Hart) (t : ℕ) → AllByRecursion (IsHartOf map steps) hs
    → (hart_in hs t).number ≤ steps
number-at map steps [] t all = omega arith
number-at map steps (x ∷ hs) zero all = all.0.number
number-at map steps (x ∷ hs) (suc t) all = number-at map steps hs t all.1

-- one more step of the run
hart-later :
    (map : List Mapped) (steps : ℕ) (hs : List Hart) → AllByRecursion (IsHartOf map steps) hs
    → AllByRecursion (IsHartOf map (suc steps)) hs
hart-later map steps [] all = tt
hart-later map steps (x ∷ hs) all =
    (record { view = all.0.view; number = let number = all.0.number in omega arith }, hart-later map steps hs all.1)

hart-fated :
    (map : List Mapped) (steps : ℕ) (f : Fate) (memory : Memory) (h : Hart)
    → IsMemory map memory → IsHartOf map steps h → IsHartOf map steps (fated f memory h)
hart-fated map steps (Returns a0 a1) memory h whole fit = record { view = whole; number = fit.number }
hart-fated map steps Blocks memory h whole fit = record { view = fit.view; number = fit.number }
hart-fated map steps (Ends v) memory h whole fit = record { view = fit.view; number = fit.number }
hart-fated map steps (Exits code) memory h whole fit = fit

hart-woken :
    (map : List Mapped) (steps : ℕ) (memory : Memory) (reported : Option ℕ) (us : List ℕ) (hs : List Hart)
    → IsMemory map memory → AllByRecursion (IsHartOf map steps) hs
    → AllByRecursion (IsHartOf map steps) (woken memory reported us hs)
hart-woken map steps memory reported [] hs whole all = all
hart-woken map steps memory reported (v ∷ us) hs whole all =
    hart-woken map steps memory reported us (set hs v (returned memory 0 reported (hart_in hs v))) whole
    (hart-set map steps hs v (returned memory 0 reported (hart_in hs v))
    (record { view = whole; number = number-at map steps hs v all }) all)

hart-created :
    (map : List Mapped) (steps : ℕ) (memory : Memory) (c : Option (ℕ × ℕ)) (hs : List Hart)
    → IsMemory map memory → AllByRecursion (IsHartOf map steps) hs
    → AllByRecursion (IsHartOf map steps) (with_created memory c hs)
hart-created map steps memory None hs whole all = all
hart-created map steps memory (Some c) hs whole all =
    hart-push map steps hs (first_hart memory (length hs) c.0 c.1) (record { view = whole; number = omega arith }) all

hart-settled :
    (map : List Mapped) (steps : ℕ) (e : Effect) (memory : Memory) (t : ℕ) (hs : List Hart)
    → t < length hs → IsMemory map memory
    → AllByRecursion (IsHartOf map steps) hs → AllByRecursion (IsHartOf map steps) (settled e memory t hs)
hart-settled map steps e memory t hs below whole all =
    hart-created map steps memory e.created
    (woken memory e.reported e.woken (set hs t (fated e.fate memory (hart_in hs t)))) whole
    (hart-woken map steps memory e.reported e.woken (set hs t (fated e.fate memory (hart_in hs t))) whole
    (hart-set map steps hs t (fated e.fate memory (hart_in hs t))
    (hart-fated map steps e.fate memory (hart_in hs t) whole (hart-at map steps hs t below all)) all))

-- the end

end_at-left :
    (a b : Bool) (limit steps : ℕ) (x y z : End)
    → cond a (Some x) (cond b (Some y) (cond (leb limit steps) (Some z) None)) ≡ None → steps < limit
end_at-left true b limit steps x y z none = cc
end_at-left false true limit steps x y z none = cc
end_at-left false false limit steps x y z none = grind (arith, nat_tests)

end_after-left : (e : Option End) (hs : List Hart) (limit steps : ℕ) → end_after e hs limit steps ≡ None → steps < limit
end_after-left (Some e) hs limit steps none = cc
end_after-left None hs limit steps none =
    end_at-left (list_all (λ (h : Hart). is_ended h.status) hs)
    (not (list_any (λ (h : Hart). is_ready h.status) hs)) limit steps _ _ _ none

end_at-ready :
    (a b : Bool) (limit steps : ℕ) (x y z : End)
    → cond a (Some x) (cond (not b) (Some y) (cond (leb limit steps) (Some z) None)) ≡ None → b ≡ true
end_at-ready true b limit steps x y z none = cc
end_at-ready false true limit steps x y z none = refl
end_at-ready false false limit steps x y z none = cc

end_after-ready :
    (e : Option End) (hs : List Hart) (limit steps : ℕ) → end_after e hs limit steps ≡ None
    → list_any (λ (h : Hart). is_ready h.status) hs ≡ true
end_after-ready (Some e) hs limit steps none = cc
end_after-ready None hs limit steps none =
    end_at-ready (list_all (λ (h : Hart). is_ended h.status) hs)
    (list_any (λ (h : Hart). is_ready h.status) hs) limit steps _ _ _ none

-- the machine after the writing, before it is checked for an end
record IsWritten (m : Machine) (t : ℕ) : Type 0 where
  pub memory : IsMemory m.frame.map m.memory
  pub harts : AllByRecursion (IsHartOf m.frame.map m.steps) m.harts
  pub tied : IsTied m.objects m.harts
  pub ready : is_ready (hart_of m t).status ≡ true
  pub limits : AreLimits m.frame.fuel m.limit
  pub few_steps : m.steps ≤ m.limit

done-whole : (m : Machine) (t : ℕ) (a : Asked) → IsWritten m t → IsWhole (done_as_asked m t a)
done-whole m t (Asks call) w =
    record {
      memory = w.memory;
      harts =
          hart-settled m.frame.map m.steps (act (is_readable m.frame.map) m.objects t call).0 m.memory t m.harts
          (ready-below m.harts t w.ready)
          w.memory w.harts;
      tied = tied-called (is_readable m.frame.map) m.objects m.harts t call m.memory w.tied w.ready;
      limits = w.limits;
      few_steps = w.few_steps;
      some_ready = λ none.
          end_after-ready (fate_end (act (is_readable m.frame.map) m.objects t call).0.fate)
          (settled (act (is_readable m.frame.map) m.objects t call).0 m.memory t m.harts) m.limit m.steps none;
      steps_left = λ none.
          end_after-left (fate_end (act (is_readable m.frame.map) m.objects t call).0.fate)
          (settled (act (is_readable m.frame.map) m.objects t call).0 m.memory t m.harts) m.limit m.steps none;
    }
done-whole m t (Stops e) w =
    record {
      memory = w.memory;
      harts = w.harts;
      tied = w.tied;
      limits = w.limits;
      few_steps = w.few_steps;
      some_ready = λ none. cc;
      steps_left = λ none. cc;
    }

can_step-left : (m : Machine) (t : ℕ) → IsWhole m → can_step m t ≡ true → m.steps < m.limit
can_step-left m t whole can =
    whole.steps_left (none-is m.ending (and_parts (is_none m.ending) (is_ready (hart_of m t).status) can).0)
  where
    none-is : (e : Option End) → is_none e ≡ true → e ≡ None
    none-is (Some e) h = cc
    none-is None h = refl

pub finished-whole :
    (m : Machine) (t : ℕ) (memory : Memory) (regs : Registers) (e : ThunkEnd) (put : List ℕ)
    → IsWhole m → can_step m t ≡ true → IsMemory m.frame.map memory
    → IsWhole (finished m t memory regs e put)
unfolding finished
finished-whole m t memory regs e put whole can fit =
    let ready : is_ready (hart_of m t).status ≡ true = can_step-ready m t can in
    let left : m.steps < m.limit = can_step-left m t whole can in
    let here : IsHartOf m.frame.map m.steps (hart_of m t) =
    hart-at m.frame.map m.steps m.harts t (ready-below m.harts t ready) whole.harts in
    done-whole (written m t memory regs put) t (asked t e regs)
    (record {
      memory = fit;
      harts =
          hart-set m.frame.map (suc m.steps) m.harts t
          (advanced (hart_of m t) regs)
          (record { view = here.view; number = let number = here.number in omega arith })
          (hart-later m.frame.map m.steps m.harts whole.harts);
      tied = tied-after_writing m t memory regs put whole.tied;
      ready = ready-written m t memory regs put ready;
      limits = whole.limits;
      few_steps = omega arith;
    })

-- the invariant of machines holds after a step
pub step-whole : (m : Machine) (t : ℕ) → IsWhole m → can_step m t ≡ true → IsWhole (step m t)
unfolding step
step-whole m t whole can =
    finished-whole m t (with_stores m.frame.map m.memory (thunk m.frame (hart_of m t).view (hart_of m t).regs).stores)
    (thunk m.frame (hart_of m t).view (hart_of m t).regs).regs
    (thunk m.frame (hart_of m t).view (hart_of m t).regs).end
    (thunk m.frame (hart_of m t).view (hart_of m t).regs).put
    whole can
    (IsMemory-with_stores m.frame.map m.memory (thunk m.frame (hart_of m t).view (hart_of m t).regs).stores whole.memory)

-- applying

-- applying a true record that fits is the step of its thread
pub apply-step :
    (m : Machine) (r : Record)
    → IsWhole m → IsTrue m.frame r.start r.kept → fits m r ≡ true
    → apply m r ≡ step m r.thread
unfolding apply step fits fits_at
apply-step m r whole honest fit =
    let ready : is_ready (hart_of m r.thread).status ≡ true = grind (arith, nat_tests) in
    let regs : r.start ≡ (hart_of m r.thread).regs =
    same_registers-true r.start (hart_of m r.thread).regs (grind (arith, nat_tests)) in
    let reads : has (hart_of m r.thread).view r.kept.reads ≡ true = grind (arith, nat_tests) in
    let stands : StandsFor m.frame (hart_of m r.thread).view m.memory r.start r.kept =
    StandsFor-true m.frame (hart_of m r.thread).view m.memory r.start r.kept honest reads
    (hart-at m.frame.map m.steps m.harts r.thread (ready-below m.harts r.thread ready) whole.harts).view whole.memory in
    rw (← regs, stands.put_is, stands.memory_is, stands.finish_is, stands.end_is) refl
