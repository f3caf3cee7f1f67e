-- Answers to the goals that the check of `refuse_before_locks` leaves open.
use Rattle.std.proofs.Common.{◌≡◌, ℕ, suc, ◌-◌, length, Some, sym, ap, ◌∙◌, arith}
use Rattle.std.specs.Prelude.{slice_get}
use Rattle.memo_spec.specs.declared.Refusal.TheVariants.{Old}
use Rattle.memo_file.specs.declared.error.ReadError.TheVariants.{Refused}
use Rattle.memo_file.proofs.Aging.{lock_is, none_locked}
use Rattle.memo_file.proofs.age.refuse_before_locks.Goals as goal

pub returns-then-count-eq0-clause-today : goal.returns-then-count-eq0-clause-today
returns-then-count-eq0-clause-today c = none_locked c.args.history.now
    (omega (arith, ap length c.records-records.ensures.records))

pub returns-then-ends_at_lock-clause-before : goal.returns-then-ends_at_lock-clause-before
returns-then-ends_at_lock-clause-before c =
    let h = c.args.history.now in let r = c.deref.result.now in let k = c.len-count.result - 1 in
    let all = ap length c.records-records.ensures.records in
    let count : suc k ≡ length h.records = omega arith in
    let at : slice_get h.records k ≡ Some r = rw (← c.records-records.ensures.records, c.deref.ensures) c.at.ensures in (
      lock_is h k r count at ∙ sym c.ends_at_lock.ensures ∙ c.if-ends_at_lock.true,
      ap (λ (n : ℕ). Refused (Old n)) (omega arith),
    )

pub returns-else-ends_at_lock-clause-today : goal.returns-else-ends_at_lock-clause-today
returns-else-ends_at_lock-clause-today c =
    let h = c.args.history.now in let r = c.deref.result.now in let k = c.len-count.result - 1 in
    let all = ap length c.records-records.ensures.records in
    let count : suc k ≡ length h.records = omega arith in
    let at : slice_get h.records k ≡ Some r = rw (← c.records-records.ensures.records, c.deref.ensures) c.at.ensures in
    lock_is h k r count at ∙ sym c.ends_at_lock.ensures ∙ c.if-ends_at_lock.false
