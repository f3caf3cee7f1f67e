-- Schedules with an entry that isn't permitted, and the turns of permitted ones.
use Rattle.std.proofs.Common.{◌≡◌, ◌+◌, ◌<◌, ℕ, zero, suc, Bool, true, false, ◌&&◌, List, [], ◌∷◌, length, take, get_or, refl, ap, arith}
use Rattle.machine_spec.specs.Machine.{Machine}
use Rattle.machine_spec.specs.Step.{step, can_step}
use Rattle.machine_spec.specs.Schedule.{scratch_from, is_permitted_from}
use Rattle.machine_spec.specs.Setup.{Setup, first, is_permitted}
use Rattle.report_spec.specs.Report.{threads_of, instructions_from}
use Rattle.rerun_spec.specs.Reports.{all_executed}
use Rattle.plain_machine.specs.Making.{thunk_of}
use Rattle.plain_machine.specs.Replaying.{turns_from, IsFirstForbidden}

both-left : (a b : Bool) → (a && b) ≡ true → a ≡ true
both-left true b both = refl
both-left false b both = both

both-right : (a b : Bool) → (a && b) ≡ true → b ≡ true
both-right true b both = both
both-right false b both = absurd (cc)

-- an entry of a permitted schedule is permitted
may-step :
    (m : Machine) (ts : List ℕ) (i : ℕ) → i < length ts → is_permitted_from m ts ≡ true
    → can_step (scratch_from m (take i ts)) (get_or ts i 0) ≡ true
may-step m [] i inside all = absurd (omega arith)
may-step m (t ∷ ts) zero inside all = both-left (can_step m t) (is_permitted_from (step m t) ts) all
may-step m (t ∷ ts) (suc i) inside all =
    may-step (step m t) ts i (omega arith) (both-right (can_step m t) (is_permitted_from (step m t) ts) all)

pub first-permitted :
    (setup : Setup) (ts : List ℕ) (i : ℕ) → is_permitted setup ts ≡ true → IsFirstForbidden setup ts i → ⊥
first-permitted setup ts i all forbidden =
    let may : can_step (scratch_from (first setup) (take i ts)) (get_or ts i 0) ≡ true =
    may-step (first setup) ts i forbidden.inside all in
    let never : can_step (scratch_from (first setup) (take i ts)) (get_or ts i 0) ≡ false = forbidden.forbidden in
    absurd (cc)

-- the turns of a schedule are those of its entries, each executed
pub executed-turns : (m : Machine) (ts : List ℕ) → instructions_from m (all_executed ts) ≡ turns_from m ts
executed-turns m [] = refl
executed-turns m (t ∷ ts) = ap (λ (n : ℕ). (thunk_of m t).count + n) (executed-turns (step m t) ts)

pub executed-threads : (ts : List ℕ) → threads_of (all_executed ts) ≡ ts
executed-threads [] = refl
executed-threads (t ∷ ts) = ap (λ (l : List ℕ). t ∷ l) (executed-threads ts)
