-- One more step of a schedule.
use Rattle.std.proofs.Common.{◌≡◌, ℕ, zero, suc, ◌+◌, ◌<◌, Bool, true, false, ◌&&◌, List, [], ◌∷◌, length, take, get_or, refl, ap, ◌∙◌, arith}
use Rattle.machine_spec.specs.Machine.{Machine}
use Rattle.machine_spec.specs.declared.states.Asked.{Asked}
use Rattle.machine_spec.specs.declared.states.Asked.TheVariants.{Asks, Stops}
use Rattle.machine_spec.specs.Step.{written, asked, done_as_asked, finished, step, can_step}
use Rattle.memory_spec.specs.Stores.{with_stores}
use Rattle.machine_spec.specs.Schedule.{scratch_from, is_permitted_from}
use Rattle.plain_machine.specs.Making.{thunk_of}
use Rattle.plain_machine.specs.Replaying.{turns_from}

left : (a b : Bool) → (a && b) ≡ true → a ≡ true
left true b both = refl
left false b both = cc

right : (a b : Bool) → (a && b) ≡ true → b ≡ true
right true b both = both
right false b both = cc

plus : (i : ℕ) → i + 1 ≡ suc i
plus i = omega arith

scratch-suc :
    (m : Machine) (xs : List ℕ) (i : ℕ) → i < length xs
    → scratch_from m (take (suc i) xs) ≡ step (scratch_from m (take i xs)) (get_or xs i 0)
scratch-suc m [] i below = absurd (omega (arith, below))
scratch-suc m (x ∷ xs) zero below = refl
scratch-suc m (x ∷ xs) (suc i) below = scratch-suc (step m x) xs i (omega (arith, below))

permitted-suc :
    (m : Machine) (xs : List ℕ) (i : ℕ) → i < length xs → is_permitted_from m (take i xs) ≡ true
    → can_step (scratch_from m (take i xs)) (get_or xs i 0) ≡ true
    → is_permitted_from m (take (suc i) xs) ≡ true
permitted-suc m [] i below before may = absurd (omega (arith, below))
permitted-suc m (x ∷ xs) zero below before may = rw may refl
permitted-suc m (x ∷ xs) (suc i) below before may =
    let first : can_step m x ≡ true = left (can_step m x) (is_permitted_from (step m x) (take i xs)) before in
    let rest : is_permitted_from (step m x) (take i xs) ≡ true =
    right (can_step m x) (is_permitted_from (step m x) (take i xs)) before in
    rw (first, permitted-suc (step m x) xs i (omega (arith, below)) rest may) refl

turns-suc :
    (m : Machine) (xs : List ℕ) (i : ℕ) → i < length xs
    → turns_from m (take (suc i) xs)
    ≡ turns_from m (take i xs) + (thunk_of (scratch_from m (take i xs)) (get_or xs i 0)).count
turns-suc m [] i below = absurd (omega (arith, below))
turns-suc m (x ∷ xs) zero below = omega arith
turns-suc m (x ∷ xs) (suc i) below =
    let more = turns-suc (step m x) xs i (omega (arith, below)) in omega (arith, more)

-- the machine after one more step
pub scratch-more :
    (m : Machine) (xs : List ℕ) (i : ℕ) → i < length xs
    → scratch_from m (take (i + 1) xs) ≡ step (scratch_from m (take i xs)) (get_or xs i 0)
scratch-more m xs i below = ap (λ (n : ℕ). scratch_from m (take n xs)) (plus i) ∙ scratch-suc m xs i below

-- the schedule is permitted if the one before was and the step may be made
pub permitted-more :
    (m : Machine) (xs : List ℕ) (i : ℕ) → i < length xs → is_permitted_from m (take i xs) ≡ true
    → can_step (scratch_from m (take i xs)) (get_or xs i 0) ≡ true
    → is_permitted_from m (take (i + 1) xs) ≡ true
permitted-more m xs i below before may =
    ap (λ (n : ℕ). is_permitted_from m (take n xs)) (plus i) ∙ permitted-suc m xs i below before may

-- and it has the turns of its thunk in addition
pub turns-more :
    (m : Machine) (xs : List ℕ) (i : ℕ) → i < length xs
    → turns_from m (take (i + 1) xs)
    ≡ turns_from m (take i xs) + (thunk_of (scratch_from m (take i xs)) (get_or xs i 0)).count
turns-more m xs i below = ap (λ (n : ℕ). turns_from m (take n xs)) (plus i) ∙ turns-suc m xs i below

-- performing a request makes no step
done-steps : (m : Machine) (t : ℕ) (a : Asked) → (done_as_asked m t a).steps ≡ m.steps
done-steps m t (Asks call) = refl
done-steps m t (Stops e) = refl

-- a step is one more step
pub step-steps : (m : Machine) (t : ℕ) → (step m t).steps ≡ suc m.steps
unfolding step finished
step-steps m t =
    let done = thunk_of m t in
    done-steps (written m t (with_stores m.frame.map m.memory done.stores) done.regs done.put) t (asked t done.end done.regs)
