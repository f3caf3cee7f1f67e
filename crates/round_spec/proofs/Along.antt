-- The machines along the schedule of a round.
use Rattle.std.proofs.Common.{◌≡◌, ◌<◌, ◌≤◌, ◌+◌, ℕ, zero, suc, true, List, [], ◌∷◌, length, take, get_or, is_none, refl, ap, ◌∙◌, inl, inr, arith}
use Rattle.std.proofs.lemmas.Bool.{cases_eq}
use Rattle.std.proofs.Math.Seq.{take-suc}
use Rattle.machine_spec.specs.Machine.{Machine, hart_of, is_ready}
use Rattle.machine_spec.specs.Step.{step, can_step}
use Rattle.machine_spec.specs.Schedule.{scratch_from, is_permitted_from}
use Rattle.machine_spec.specs.Setup.{Setup, IsSetup, first, is_permitted}
use Rattle.machine_spec.specs.Whole.{IsWhole}
use Rattle.machine_spec.proofs.Beginning.{IsWhole-first}
use Rattle.history_spec.proofs.Numbers.{one_for, step-number}
use Rattle.history_spec.proofs.Scratch.{and-left, and-right, scratch-whole, scratch-frame, scratch-more}
use Rattle.round_spec.proofs.Like.{machine_at}

permitted-take :
    (m : Machine) (ts : List ℕ) (i : ℕ) → is_permitted_from m ts ≡ true → is_permitted_from m (take i ts) ≡ true
permitted-take m ts zero permitted = refl
permitted-take m [] (suc i) permitted = refl
permitted-take m (t ∷ ts) (suc i) permitted =
    rw (and-left (can_step m t) (is_permitted_from (step m t) ts) permitted)
    (permitted-take (step m t) ts i (and-right (can_step m t) (is_permitted_from (step m t) ts) permitted))

can-take :
    (m : Machine) (ts : List ℕ) (i : ℕ) → is_permitted_from m ts ≡ true → i < length ts
    → can_step (scratch_from m (take i ts)) (get_or ts i 0) ≡ true
can-take m [] i permitted below = absurd (omega arith)
can-take m (t ∷ ts) zero permitted below = and-left (can_step m t) (is_permitted_from (step m t) ts) permitted
can-take m (t ∷ ts) (suc i) permitted below =
    can-take (step m t) ts i (and-right (can_step m t) (is_permitted_from (step m t) ts) permitted) (omega arith)

module _ (setup : Setup) (schedule : List ℕ) (valid : IsSetup setup)
    (permitted : is_permitted setup schedule ≡ true) where
  pub whole-at : (i : ℕ) → IsWhole (machine_at setup schedule i)
  whole-at i =
      scratch-whole (first setup) (take i schedule) (IsWhole-first setup valid)
      (permitted-take (first setup) schedule i permitted)

  pub frame-at : (i : ℕ) → (machine_at setup schedule i).frame ≡ (first setup).frame
  frame-at i = scratch-frame (first setup) (take i schedule)

  pub can-at : (i : ℕ) → i < length schedule → can_step (machine_at setup schedule i) (get_or schedule i 0) ≡ true
  can-at i below = can-take (first setup) schedule i permitted below

  pub ready-at :
      (i : ℕ) → i < length schedule
      → is_ready (hart_of (machine_at setup schedule i) (get_or schedule i 0)).status ≡ true
  ready-at i below =
      and-right (is_none (machine_at setup schedule i).ending)
      (is_ready (hart_of (machine_at setup schedule i) (get_or schedule i 0)).status) (can-at i below)

  pub going-at : (i : ℕ) → i < length schedule → is_none (machine_at setup schedule i).ending ≡ true
  going-at i below =
      and-left (is_none (machine_at setup schedule i).ending)
      (is_ready (hart_of (machine_at setup schedule i) (get_or schedule i 0)).status) (can-at i below)

  pub next-at :
      (i : ℕ) → i < length schedule
      → machine_at setup schedule (suc i) ≡ step (machine_at setup schedule i) (get_or schedule i 0)
  next-at i below =
      ap (scratch_from (first setup)) (take-suc schedule i 0 below)
      ∙ scratch-more (first setup) (take i schedule) (get_or schedule i 0)

  pub number-next :
      (i u : ℕ) → i < length schedule
      → (hart_of (machine_at setup schedule (suc i)) u).number
      ≡ (hart_of (machine_at setup schedule i) u).number + one_for u (get_or schedule i 0)
  number-next i u below =
      ap (λ (m : Machine). (hart_of m u).number) (next-at i below)
      ∙ step-number (machine_at setup schedule i) (get_or schedule i 0) u (ready-at i below)

  pub number-grows :
      (p i u : ℕ) → p ≤ i → i ≤ length schedule
      → (hart_of (machine_at setup schedule p) u).number ≤ (hart_of (machine_at setup schedule i) u).number
  number-grows p zero u low high = let same : p ≡ 0 = omega arith in rw same (omega arith)
  number-grows p (suc i) u low high =
      elim (cases_eq p (suc i)) [
        | inl same ↦ rw same (omega arith)
        | inr other ↦
            (let early = number-grows p i u (omega arith) (omega arith) in let next = number-next i u (omega arith) in
            omega arith)
      ]
