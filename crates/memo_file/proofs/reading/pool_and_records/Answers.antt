-- Answers to the goals that the check of `pool_and_records` leaves open.
use Rattle.std.proofs.Common.{length, map, refl, arith, eq-eqb}
use Rattle.std.specs.Arc.{arc_value}
use Rattle.std.proofs.lemmas.Bool.{ne_eqb}
use Rattle.std.proofs.lemmas.List.{length-map}
use Rattle.std.proofs.lemmas.Result.{err_from_is_err_and}
use Rattle.memo_spec.specs.Reading.{pool_and_records_at}
use Rattle.memo_file.proofs.Loops.{part_fails}
use Rattle.memo_file.proofs.reading.pool_and_records.Goals as goal

pub returns-in_err-count : goal.returns-in_err-count
unfolding pool_and_records_at
returns-in_err-count c =
    let p = err_from_is_err_and c.from_residual.result c.from_residual.ensures.1 in
    let e = c.in_err-count.field-0.0 in
    rw (p.1, p.2) (part_fails e _ _ (part_fails e _ _ (part_fails e _ _ c.in_err-count.ensures.given)))

pub returns-in_err-pool : goal.returns-in_err-pool
unfolding pool_and_records_at
returns-in_err-pool c =
    let p = err_from_is_err_and c.from_residual-in_err-pool.result c.from_residual-in_err-pool.ensures.1 in
    let e = c.in_err-pool.field-0.0 in
    rw (p.1, p.2, c.in_ok-count.ensures.given)
    (part_fails e _ _ (part_fails e _ _ (part_fails e _ _ c.in_err-pool.ensures)))

pub returns-in_err-read : goal.returns-in_err-read
unfolding pool_and_records_at
returns-in_err-read c =
    let p = err_from_is_err_and c.from_residual-in_err-read.result c.from_residual-in_err-read.ensures.1 in
    let e = c.in_err-read.field-0.0 in
    rw (
      p.1,
      p.2,
      c.in_ok-count.ensures.given,
      c.in_ok-pool.ensures,
      ← c.requires.slots,
      ← c.fuel.ensures.value,
      ← c.as_slice.ensures.value,
    )
    (part_fails e _ _ (part_fails e _ _ (part_fails e _ _ c.in_err-read.ensures)))

pub returns-then-used-len : goal.returns-then-used-len
unfolding pool_and_records_at
returns-then-used-len c =
    let read = rw (c.requires.slots, c.fuel.ensures.value, c.as_slice.ensures.value) at c.in_ok-read.ensures in
    let all = eq-eqb c.in_ok-read.read.used (length (map arc_value c.in_ok-pool.pool.items))
    (omega (arith, length-map c.in_ok-pool.pool.items arc_value)) in
    rw (c.in_ok-count.ensures.given, c.in_ok-pool.ensures, read, all, c.into_records.ensures) refl

pub returns : goal.returns
unfolding pool_and_records_at
returns c =
    let read = rw (c.requires.slots, c.fuel.ensures.value, c.as_slice.ensures.value) at c.in_ok-read.ensures in
    let unused = ne_eqb c.in_ok-read.read.used (length (map arc_value c.in_ok-pool.pool.items))
    (λ same. c.if-used-len.false (omega (arith, length-map c.in_ok-pool.pool.items arc_value))) in
    rw (c.in_ok-count.ensures.given, c.in_ok-pool.ensures, read, unused, c.position-at.ensures) refl
