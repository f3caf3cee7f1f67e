-- If all records are as the machine makes them, they are those of its steps; the first that isn't is false.
use Rattle.std.proofs.Common.{◌≡◌, ℕ, zero, suc, ◌<◌, true, List, [], ◌∷◌, length, Option, Some, None, is_some, refl, sym, ap, ◌∙◌, subst, arith}
use Rattle.thunk_spec.specs.Record.{Record}
use Rattle.machine_spec.specs.Machine.{Machine}
use Rattle.machine_spec.specs.Step.{step, apply, can_step}
use Rattle.machine_spec.specs.Schedule.{is_permitted_from, is_complete_from, record_of, records_from}
use Rattle.machine_spec.specs.Setup.{IsSetup, first}
use Rattle.machine_spec.specs.Whole.{IsWhole}
use Rattle.machine_spec.proofs.Beginning.{IsWhole-first}
use Rattle.machine_spec.proofs.Steps.{step-whole}
use Rattle.history_spec.specs.History.{History, IsHonest, schedule_of, threads_of_records, applied_from, can_apply_from, is_coherent}
use Rattle.history_spec.proofs.Scratch.{and-left, and-right}
use Rattle.history_spec.proofs.Truth.{record-apply}
use Rattle.history_spec.specs.Audit.{IsMade, IsFirstFalseFrom, IsFirstFalse, IsVerdict}

-- Applying a made record is making the step.
pub made-apply : (m : Machine) (r : Record) → IsWhole m → IsMade m r → apply m r ≡ step m r.thread
made-apply m r whole is = ap (apply m) is.made ∙ record-apply m r.thread whole is.can

-- Records that are those of a schedule that is permitted and complete.
record AreOfSteps (m : Machine) (rs : List Record) : Type 0 where
  permitted : is_permitted_from m (threads_of_records rs) ≡ true
  complete : is_complete_from m (threads_of_records rs) ≡ true
  recorded : rs ≡ records_from m (threads_of_records rs)

all-made : (m : Machine) (rs : List Record) → IsWhole m → IsFirstFalseFrom m rs None → AreOfSteps m rs
all-made m [] whole none = record { permitted = refl; complete = none; recorded = refl }
all-made m (r ∷ rs) whole none =
    let next : IsFirstFalseFrom (step m r.thread) rs None =
    subst (λ (x : Machine). IsFirstFalseFrom x rs None) (made-apply m r whole none.0) none.1 in
    let rest = all-made (step m r.thread) rs (step-whole m r.thread whole none.0.can) next in
    record {
      permitted = rw none.0.can rest.permitted;
      complete = rest.complete;
      recorded =
          ap (λ (x : Record). x ∷ rs) none.0.made
          ∙ ap (λ (xs : List Record). record_of m r.thread ∷ xs) rest.recorded;
    }

steps-made :
    (m : Machine) (ts : List ℕ) → IsWhole m → is_permitted_from m ts ≡ true → is_complete_from m ts ≡ true
    → IsFirstFalseFrom m (records_from m ts) None
steps-made m [] whole permitted complete = complete
steps-made m (t ∷ ts) whole permitted complete =
    let can : can_step m t ≡ true = and-left (can_step m t) (is_permitted_from (step m t) ts) permitted in
    let rest : IsFirstFalseFrom (step m t) (records_from (step m t) ts) None =
    steps-made (step m t) ts (step-whole m t whole can)
    (and-right (can_step m t) (is_permitted_from (step m t) ts) permitted) complete in (
      record { can = can; made = refl },
      subst (λ (x : Machine). IsFirstFalseFrom x (records_from (step m t) ts) None) (sym (record-apply m t whole can))
          rest,
    )

pub honest-unless-false : (h : History) → IsSetup h.setup → IsFirstFalse h None → IsHonest h
honest-unless-false h valid none =
    let steps = all-made (first h.setup) h.records (IsWhole-first h.setup valid) none in
    record { valid = valid; permitted = steps.permitted; complete = steps.complete; recorded = steps.recorded }

pub honest-made : (h : History) → IsHonest h → IsFirstFalse h None
honest-made h honest =
    subst (λ (rs : List Record). IsFirstFalseFrom (first h.setup) rs None) (sym honest.recorded)
    (steps-made (first h.setup) (schedule_of h) (IsWhole-first h.setup honest.valid) honest.permitted honest.complete)

-- one machine and one list of records have one first false record
pub one-first :
    (m : Machine) (rs : List Record) (a b : Option ℕ) → IsFirstFalseFrom m rs a → IsFirstFalseFrom m rs b → a ≡ b
one-first m [] None None x y = refl
one-first m [] None (Some zero) x y = cc
one-first m [] None (Some (suc j)) x y = absurd y
one-first m [] (Some zero) None x y = cc
one-first m [] (Some zero) (Some zero) x y = refl
one-first m [] (Some zero) (Some (suc j)) x y = absurd y
one-first m [] (Some (suc i)) b x y = absurd x
one-first m (r ∷ rs) None None x y = refl
one-first m (r ∷ rs) None (Some zero) x y = absurd (y x.0)
one-first m (r ∷ rs) None (Some (suc j)) x y =
    let no : None ≡ Some j = one-first (apply m r) rs None (Some j) x.1 y.1 in cc
one-first m (r ∷ rs) (Some zero) None x y = absurd (x y.0)
one-first m (r ∷ rs) (Some zero) (Some zero) x y = refl
one-first m (r ∷ rs) (Some zero) (Some (suc j)) x y = absurd (x y.0)
one-first m (r ∷ rs) (Some (suc i)) None x y =
    let no : Some i ≡ None = one-first (apply m r) rs (Some i) None x.1 y.1 in cc
one-first m (r ∷ rs) (Some (suc i)) (Some zero) x y = absurd (y x.0)
one-first m (r ∷ rs) (Some (suc i)) (Some (suc j)) x y =
    let same : Some i ≡ Some j = one-first (apply m r) rs (Some i) (Some j) x.1 y.1 in
    let also : i ≡ j = cc in
    ap (λ (k : ℕ). Some (suc k)) also

-- if an end comes after the records, the first false one is one of them
false-below :
    (m : Machine) (rs : List Record) (i : ℕ) → is_some (applied_from m rs).ending ≡ true
    → IsFirstFalseFrom m rs (Some i) → i < length rs
false-below m [] zero ended x = cc
false-below m [] (suc i) ended x = absurd x
false-below m (r ∷ rs) zero ended x = omega arith
false-below m (r ∷ rs) (suc i) ended x = omega (arith, false-below (apply m r) rs i ended x.1)

pub verdict-by :
    (h : History) (place : Option ℕ) → IsSetup h.setup → is_coherent h ≡ true → IsFirstFalse h place → IsVerdict h place
verdict-by h None valid coherent x = honest-unless-false h valid x
verdict-by h (Some i) valid coherent x = (
  λ honest. let no : None ≡ Some i = one-first (first h.setup) h.records None (Some i) (honest-made h honest) x in cc,
  (
    false-below (first h.setup) h.records i
        (and-right (can_apply_from (first h.setup) h.records) (is_some (applied_from (first h.setup) h.records).ending) coherent) x,
    x,
  ),
)
