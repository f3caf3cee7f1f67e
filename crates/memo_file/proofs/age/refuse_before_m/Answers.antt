-- Answers to the goals that the check of `refuse_before_m` leaves open.
use Rattle.std.proofs.Common.{◌≡◌, ℕ, suc, ◌-◌, length, Some, sym, ap, ◌∙◌, arith}
use Rattle.std.specs.Prelude.{slice_get}
use Rattle.memo_spec.specs.declared.Refusal.TheVariants.{Old}
use Rattle.memo_file.specs.declared.error.ReadError.TheVariants.{Refused}
use Rattle.memo_file.proofs.Aging.{age_is, none_old}
use Rattle.memo_file.proofs.Sizes.{small_pages}
use Rattle.memo_file.proofs.age.refuse_before_m.Goals as goal

pub returns-then-count-eq0-clause-today : goal.returns-then-count-eq0-clause-today
returns-then-count-eq0-clause-today c = none_old c.args.history.now
    (omega (arith, ap length c.records-records.ensures.records))

pub ends_at_m-requires : goal.ends_at_m-requires
ends_at_m-requires c =
    rw c.requires.slots (small_pages c.args.history.now.setup c.requires.sound)

pub returns-then-ends_at_m-clause-before : goal.returns-then-ends_at_m-clause-before
returns-then-ends_at_m-clause-before c =
    let h = c.args.history.now in let r = c.deref.result.now in let k = c.len-count.result - 1 in
    let all = ap length c.records-records.ensures.records in
    let count : suc k ≡ length h.records = omega arith in
    let at : slice_get h.records k ≡ Some r = rw (← c.records-records.ensures.records, c.deref.ensures) c.at.ensures in (
      age_is h c.args.slots.now k r c.requires.slots count at ∙ sym c.ends_at_m.ensures ∙ c.if-ends_at_m.true,
      ap (λ (n : ℕ). Refused (Old n)) (omega arith),
    )

pub returns-else-ends_at_m-clause-today : goal.returns-else-ends_at_m-clause-today
returns-else-ends_at_m-clause-today c =
    let h = c.args.history.now in let r = c.deref.result.now in let k = c.len-count.result - 1 in
    let all = ap length c.records-records.ensures.records in
    let count : suc k ≡ length h.records = omega arith in
    let at : slice_get h.records k ≡ Some r = rw (← c.records-records.ensures.records, c.deref.ensures) c.at.ensures in
    age_is h c.args.slots.now k r c.requires.slots count at ∙ sym c.ends_at_m.ensures ∙ c.if-ends_at_m.false
