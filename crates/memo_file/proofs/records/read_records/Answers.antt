-- Answers to the goals that the check of `read_records` leaves open.
use Rattle.std.proofs.Common.{◌++◌, ◌∷◌, [], map, arith}
use Rattle.std.specs.Arc.{arc_value}
use Rattle.std.proofs.lemmas.Result.{err_from_is_err_and}
use Rattle.std.proofs.lemmas.List.{length-append}
use Rattle.history_spec.specs.History.{threads_of_records}
use Rattle.memo_spec.specs.Reading.{record_at}
use Rattle.memo_file.specs.Growth.{state_of}
use Rattle.memo_file.proofs.Loops.{goes_on, ends}
use Rattle.memo_file.proofs.Counting.{threads_push}
use Rattle.memo_file.proofs.records.read_records.Goals as goal

pub returns-in_err-made : goal.returns-in_err-made
returns-in_err-made c =
    let p = err_from_is_err_and c.from_residual.result c.from_residual.ensures.1 in
    rw (p.1, p.2) (ends c.in_err-made.field-0.0
    (record_at c.args.sources.now.slots.now c.args.sources.now.fuel (map arc_value c.args.sources.now.pool.now))
    c.loop.growing.records c.args.entries c.loop.counter (state_of c.loop.growing) c.loop.cursor _
    c.loop-test.true c.in_err-made.ensures.given c.loop.invariant.1)

pub loop-preserved : goal.loop-preserved
loop-preserved c =
    let rs = c.loop.growing.records in
    let made = c.in_ok-made.made in
    rw (c.in_ok-push.ensures.ok, threads_push rs made) (
      omega (arith, c.loop.invariant.0, length-append rs (made ∷ [])),
      goes_on (record_at c.args.sources.now.slots.now c.args.sources.now.fuel
          (map arc_value c.args.sources.now.pool.now)) rs c.args.entries c.loop.counter (state_of c.loop.growing)
          c.loop.cursor
          (made, record { earlier = threads_of_records rs ++ made.thread ∷ []; used = c.in_ok-made.used })
          c.record.new.cursor _ c.loop-test.true c.in_ok-made.ensures.given c.loop.invariant.1,
    )
