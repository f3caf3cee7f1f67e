-- Each step of a permitted schedule has been made after it.
use Rattle.std.proofs.Common.{◌≡◌, ◌<◌, ℕ, true, eqb, List, [], ◌∷◌, refl, arith}
use Rattle.std.proofs.lemmas.Bool.{eq-eqb}
use Rattle.std.specs.List.{AllByRecursion}
use Rattle.thunk_spec.specs.Record.{Record}
use Rattle.machine_spec.specs.Machine.{Machine, hart_of}
use Rattle.machine_spec.specs.Step.{step, can_step}
use Rattle.machine_spec.specs.Schedule.{scratch_from, is_permitted_from, records_from}
use Rattle.machine_spec.proofs.Steps.{can_step-ready}
use Rattle.history_spec.proofs.Scratch.{and-left, and-right}
use Rattle.history_spec.proofs.Numbers.{one_for, step-number, scratch-number}

-- a record whose step has been made
abbrev pub IsMadeOn : Machine → Record → Type 0
IsMadeOn m r = r.number < (hart_of m r.thread).number

pub one_for-own : (t : ℕ) → one_for t t ≡ 1
one_for-own t = let same : eqb t t ≡ true = eq-eqb t t refl in rw same refl

pub made-all :
    (m : Machine) (ts : List ℕ) → is_permitted_from m ts ≡ true
    → AllByRecursion (IsMadeOn (scratch_from m ts)) (records_from m ts)
made-all m [] permitted = tt
made-all m (t ∷ ts) permitted =
    let later : is_permitted_from (step m t) ts ≡ true =
    and-right (can_step m t) (is_permitted_from (step m t) ts) permitted in
    let ready = can_step-ready m t (and-left (can_step m t) (is_permitted_from (step m t) ts) permitted) in
    let own = step-number m t t ready in
    let one = one_for-own t in
    let rest = scratch-number (step m t) ts t later in
    let here : (hart_of m t).number < (hart_of (scratch_from (step m t) ts) t).number = omega arith in
    (here, made-all (step m t) ts later)
