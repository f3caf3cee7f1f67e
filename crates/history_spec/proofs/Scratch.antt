-- What holds of a machine after the steps of a permitted schedule.
use Rattle.std.proofs.Common.{◌≡◌, ◌≢◌, ℕ, Bool, true, false, ◌&&◌, ◌||◌, eqb, List, [], ◌∷◌, ◌++◌, refl, ap, sym, ◌∙◌}
use Rattle.std.proofs.lemmas.Bool.{eq-eqb}
use Rattle.std.specs.List.{list_any}
use Rattle.isa_spec.specs.Registers.{Registers}
use Rattle.memory_spec.specs.Pages.{Memory}
use Rattle.thunk_spec.specs.declared.ends.ThunkEnd.{ThunkEnd}
use Rattle.thunk_spec.specs.Record.{Record}
use Rattle.machine_spec.specs.declared.states.Asked.{Asked}
use Rattle.machine_spec.specs.declared.states.Asked.TheVariants.{Asks, Stops}
use Rattle.machine_spec.specs.Machine.{Hart, Machine, hart_of, is_ready}
use Rattle.machine_spec.specs.Step.{written, asked, done_as_asked, finished, step, can_step}
use Rattle.machine_spec.specs.Schedule.{scratch_from, is_permitted_from, record_of, records_from}
use Rattle.machine_spec.specs.Whole.{IsWhole}
use Rattle.machine_spec.proofs.Steps.{step-stays, step-whole}
use Rattle.history_spec.specs.History.{threads_of_records}

pub and-left : (a b : Bool) → (a && b) ≡ true → a ≡ true
and-left true b h = refl
and-left false b h = h

pub and-right : (a b : Bool) → (a && b) ≡ true → b ≡ true
and-right true b h = h
and-right false b h = cc

done-frame : (m : Machine) (t : ℕ) (a : Asked) → (done_as_asked m t a).frame ≡ m.frame
done-frame m t (Asks call) = refl
done-frame m t (Stops e) = refl

pub finished-frame :
    (m : Machine) (t : ℕ) (memory : Memory) (regs : Registers) (e : ThunkEnd) (put : List ℕ)
    → (finished m t memory regs e put).frame ≡ m.frame
unfolding finished
finished-frame m t memory regs e put = done-frame (written m t memory regs put) t (asked t e regs)

-- no step changes what thunks depend on beside registers and view
pub step-frame : (m : Machine) (t : ℕ) → (step m t).frame ≡ m.frame
unfolding step
step-frame m t = finished-frame m t _ _ _ _

pub scratch-frame : (m : Machine) (ts : List ℕ) → (scratch_from m ts).frame ≡ m.frame
scratch-frame m [] = refl
scratch-frame m (t ∷ ts) = scratch-frame (step m t) ts ∙ step-frame m t

pub scratch-whole :
    (m : Machine) (ts : List ℕ) → IsWhole m → is_permitted_from m ts ≡ true
    → IsWhole (scratch_from m ts)
scratch-whole m [] whole permitted = whole
scratch-whole m (t ∷ ts) whole permitted =
    scratch-whole (step m t) ts
    (step-whole m t whole (and-left (can_step m t) (is_permitted_from (step m t) ts) permitted))
    (and-right (can_step m t) (is_permitted_from (step m t) ts) permitted)

-- a thread that is ready and makes none of the steps stays as it is
pub scratch-stays :
    (m : Machine) (ts : List ℕ) (u : ℕ)
    → IsWhole m → is_permitted_from m ts ≡ true
    → list_any (λ t. eqb t u) ts ≡ false
    → is_ready (hart_of m u).status ≡ true
    → hart_of (scratch_from m ts) u ≡ hart_of m u
scratch-stays m [] u whole permitted none ready = refl
scratch-stays m (t ∷ ts) u whole permitted none ready =
    let can : can_step m t ≡ true = and-left (can_step m t) (is_permitted_from (step m t) ts) permitted in
    let here : hart_of (step m t) u ≡ hart_of m u =
    step-stays m t u whole can (other (eqb t u) (list_any (λ t. eqb t u) ts) none refl) ready in
    scratch-stays (step m t) ts u (step-whole m t whole can)
    (and-right (can_step m t) (is_permitted_from (step m t) ts) permitted)
    (later (eqb t u) (list_any (λ t. eqb t u) ts) none)
    (ap (λ (h : Hart). is_ready h.status) here ∙ ready)
    ∙ here
  where
    later : (a b : Bool) → (a || b) ≡ false → b ≡ false
    later true b h = cc
    later false b h = h

    other : (a b : Bool) → (a || b) ≡ false → eqb t u ≡ a → u ≢ t
    other true b h is = cc
    other false b h is = λ same. let yes : eqb t u ≡ true = eq-eqb t u (sym same) in cc

-- one more step
pub scratch-more : (m : Machine) (ts : List ℕ) (t : ℕ) → scratch_from m (ts ++ t ∷ []) ≡ step (scratch_from m ts) t
scratch-more m [] t = refl
scratch-more m (u ∷ ts) t = scratch-more (step m u) ts t

pub permitted-more :
    (m : Machine) (ts : List ℕ) (t : ℕ)
    → is_permitted_from m ts ≡ true → can_step (scratch_from m ts) t ≡ true
    → is_permitted_from m (ts ++ t ∷ []) ≡ true
permitted-more m [] t permitted can = rw can refl
permitted-more m (u ∷ ts) t permitted can =
    rw (and-left (can_step m u) (is_permitted_from (step m u) ts) permitted)
    (permitted-more (step m u) ts t (and-right (can_step m u) (is_permitted_from (step m u) ts) permitted) can)

pub records-more :
    (m : Machine) (ts : List ℕ) (t : ℕ)
    → records_from m (ts ++ t ∷ []) ≡ records_from m ts ++ record_of (scratch_from m ts) t ∷ []
records-more m [] t = refl
records-more m (u ∷ ts) t = ap (λ (rs : List Record). record_of m u ∷ rs) (records-more (step m u) ts t)

-- the records of a schedule are of its threads
pub records-threads : (m : Machine) (ts : List ℕ) → threads_of_records (records_from m ts) ≡ ts
records-threads m [] = refl
records-threads m (t ∷ ts) = ap (λ (us : List ℕ). t ∷ us) (records-threads (step m t) ts)
