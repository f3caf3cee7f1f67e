-- Whether a record may be applied, and which call it requests.
use Rattle.std.proofs.Common.{◌≡◌, ◌<◌, ℕ, true, Some, length, sym, ap, subst, ◌∙◌}
use Rattle.std.proofs.lemmas.Bool.{and_parts}
use Rattle.std.specs.Prelude.{List}
use Rattle.memory_spec.specs.Pages.{Mapped}
use Rattle.thunk_spec.specs.Put.{is_readable}
use Rattle.guest_call.specs.declared.Call.{Call}
use Rattle.guest_call.specs.Effect.{Effect}
use Rattle.guest_call.specs.Objects.{Objects, act, waits_at}
use Rattle.thunk_spec.specs.Record.{Record}
use Rattle.machine_spec.specs.declared.states.Asked.{Asked}
use Rattle.machine_spec.specs.declared.states.Asked.TheVariants.{Asks, Stops}
use Rattle.machine_spec.specs.Machine.{Machine, hart_of, is_ready}
use Rattle.machine_spec.specs.Whole.{IsWhole}
use Rattle.machine_spec.specs.Step.{can_step}
use Rattle.history_spec.proofs.Applying.{fits-can_step}
use Rattle.release_core.specs.Applying.{can_apply}
use Rattle.release_core.proofs.Applying.{fitting_can}
use Rattle.machine_calls.proofs.Asking.{exists, free}
use Rattle.history_spec.specs.Facts.{ask_of, acted, effect_of, served}
use Rattle.history_facts.specs.Asking.{call_in}

-- a record that may be applied is of a ready thread, which may make a step
pub ready : (m : Machine) (r : Record) → can_apply m r ≡ true → is_ready (hart_of m r.thread).status ≡ true
ready m r can = fitting_can m r (and_parts _ _ can).1

pub can-make : (m : Machine) (r : Record) → can_apply m r ≡ true → can_step m r.thread ≡ true
can-make m r can = let parts = and_parts _ _ can in fits-can_step m r parts.0 parts.1

-- it exists in the table of threads, and waits nowhere
pub acts-exists :
    (m : Machine) (r : Record) (o : Objects) (t : ℕ) → IsWhole m → can_apply m r ≡ true → o ≡ m.objects → t ≡ r.thread
    → t < length o.threads
acts-exists m r o t whole can same is =
    subst (λ u. u < length o.threads) (sym is)
    (subst (λ (p : Objects). r.thread < length p.threads) (sym same)
    (exists m.objects m.harts r.thread whole.tied (ready m r can)))

pub acts-free :
    (m : Machine) (r : Record) (o : Objects) (t : ℕ) → IsWhole m → can_apply m r ≡ true → o ≡ m.objects → t ≡ r.thread
    → waits_at o t ≡ 0
acts-free m r o t whole can same is =
    ap (λ u. waits_at o u) is ∙ ap (λ (p : Objects). waits_at p r.thread) same
    ∙ free m.objects m.harts r.thread whole.tied (ready m r can)

-- What is known while the call of a record is performed: its objects and page map, which are those
-- of the machine, its thread and the call.
pub record IsCalled (m : Machine) (r : Record) (o : Objects) (map : List Mapped) (t : ℕ) (call : Call) : Type 0 where
  pub objects : o ≡ m.objects
  pub map_is : map ≡ m.frame.map
  pub thread : t ≡ r.thread
  pub asks : call_in (ask_of r) ≡ Some call

-- a requested call acts on its objects
acted-call :
    (m : Machine) (t : ℕ) (a : Asked) (call : Call) → call_in a ≡ Some call
    → acted m t a ≡ act (is_readable m.frame.map) m.objects t call
acted-call m t (Asks c) call is = let same : c ≡ call = cc in ap (act (is_readable m.frame.map) m.objects t) same
acted-call m t (Stops e) call is = cc

-- it does what was requested
called-acts :
    (m : Machine) (r : Record) (o : Objects) (map : List Mapped) (t : ℕ) (call : Call)
    → IsCalled m r o map t call → act (is_readable map) o t call ≡ acted m r.thread (ask_of r)
called-acts m r o map t call is =
    ap (λ pages. act (is_readable pages) o t call) is.map_is
    ∙ ap (λ p. act (is_readable m.frame.map) p t call) is.objects
    ∙ ap (λ u. act (is_readable m.frame.map) m.objects u call) is.thread
    ∙ sym (acted-call m r.thread (ask_of r) call is.asks)

-- it gives a view to the threads to which the step does
pub called-served :
    (m : Machine) (r : Record) (o : Objects) (map : List Mapped) (t : ℕ) (call : Call) (e : Effect) (n : ℕ)
    → IsCalled m r o map t call
    → served e t n ≡ served (act (is_readable map) o t call).0 t n
    → served e r.thread n ≡ served (effect_of m r) r.thread n
called-served m r o map t call e n is gives =
    subst (λ u. served e u n ≡ served (effect_of m r) u n) is.thread
    (gives ∙ ap (λ x. served x.0 t n) (called-acts m r o map t call is))
