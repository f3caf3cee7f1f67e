-- Answers to the goals that the check of `record` leaves open: the fields before the one that fails were read.
use Rattle.std.proofs.Common.{ℕ, List, map, refl, ap}
use Rattle.std.specs.Arc.{arc_value}
use Rattle.std.proofs.lemmas.Result.{err_from_is_err_and}
use Rattle.thunk_spec.specs.Reads.{ReadPage}
use Rattle.memo_file.specs.Growth.{state_of}
use Rattle.memo_file.specs.Heads.{behind_head}
use Rattle.memo_file.proofs.Loops.{part_fails, kept_fails, kept_ok}
use Rattle.memo_file.proofs.records.record.Goals as goal

pub returns-in_err-head-clause-given : goal.returns-in_err-head-clause-given
returns-in_err-head-clause-given c =
    let p = err_from_is_err_and c.from_residual.result c.from_residual.ensures.1 in
    rw (p.1, p.2)
    (c.in_err-head.ensures.refused c.args.sources.now.slots.now (map arc_value c.args.sources.now.pool.now)
    (state_of c.args.before.now))

pub returns-in_err-read_count-clause-given : goal.returns-in_err-read_count-clause-given
unfolding behind_head
returns-in_err-read_count-clause-given c =
    let p = err_from_is_err_and c.from_residual-in_err-read_count.result c.from_residual-in_err-read_count.ensures.1 in
    let behind =
    c.in_ok-head.ensures.behind c.args.sources.now.slots.now (map arc_value c.args.sources.now.pool.now)
    (state_of c.args.before.now) in
    rw (p.1, p.2, behind)
    (part_fails c.in_err-read_count.field-0.0 _ _ c.in_err-read_count.ensures.given)

pub returns-in_err-reads-clause-given : goal.returns-in_err-reads-clause-given
unfolding behind_head
returns-in_err-reads-clause-given c =
    let p = err_from_is_err_and c.from_residual-in_err-reads.result c.from_residual-in_err-reads.ensures.1 in
    let behind =
    c.in_ok-head.ensures.behind c.args.sources.now.slots.now (map arc_value c.args.sources.now.pool.now)
    (state_of c.args.before.now) in
    let e = c.in_err-reads.field-0.0 in
    rw (p.1, p.2, behind, c.in_ok-read_count.ensures.given, ← c.used.ensures)
    (part_fails e _ _ (kept_fails e _ _ c.in_err-reads.ensures.given))

pub returns-in_err-delta_count-clause-given : goal.returns-in_err-delta_count-clause-given
unfolding behind_head
returns-in_err-delta_count-clause-given c =
    let p = err_from_is_err_and c.from_residual-in_err-delta_count.result c.from_residual-in_err-delta_count.ensures.1 in
    let behind =
    c.in_ok-head.ensures.behind c.args.sources.now.slots.now (map arc_value c.args.sources.now.pool.now)
    (state_of c.args.before.now) in
    let reads = kept_ok _ _ _ _ c.in_ok-reads.ensures.given in
    rw (p.1, p.2, behind, c.in_ok-read_count.ensures.given, ← c.used.ensures, reads.1)
    (part_fails c.in_err-delta_count.field-0.0 _ _ c.in_err-delta_count.ensures.given)

pub returns-in_err-delta-clause-given : goal.returns-in_err-delta-clause-given
unfolding behind_head
returns-in_err-delta-clause-given c =
    let p = err_from_is_err_and c.from_residual-in_err-delta.result c.from_residual-in_err-delta.ensures.1 in
    let behind =
    c.in_ok-head.ensures.behind c.args.sources.now.slots.now (map arc_value c.args.sources.now.pool.now)
    (state_of c.args.before.now) in
    let reads = kept_ok _ _ _ _ c.in_ok-reads.ensures.given in
    let e = c.in_err-delta.field-0.0 in
    rw (p.1, p.2, behind, c.in_ok-read_count.ensures.given, ← c.used.ensures, reads.1, c.in_ok-delta_count.ensures.given)
    (part_fails e _ _ (kept_fails e _ _ c.in_err-delta.ensures.given))

pub returns-clause-thread : goal.returns-clause-thread
returns-clause-thread c = rw c.new-made.ensures c.in_ok-head.ensures.thread

pub returns-clause-number : goal.returns-clause-number
returns-clause-number c = rw c.new-made.ensures c.next_number-number.ensures

pub returns-clause-given : goal.returns-clause-given
unfolding behind_head
returns-clause-given c =
    let behind =
    c.in_ok-head.ensures.behind c.args.sources.now.slots.now (map arc_value c.args.sources.now.pool.now)
    (state_of c.args.before.now) in
    let reads = kept_ok _ _ _ _ c.in_ok-reads.ensures.given in
    let delta = kept_ok _ _ _ _ c.in_ok-delta.ensures.given in
    rw (c.new-made.ensures, c.new.ensures, c.new-2.ensures, c.next_number-number.ensures) (rw (
      behind,
      c.in_ok-read_count.ensures.given,
      ← c.used.ensures,
      reads.1,
      c.in_ok-delta_count.ensures.given,
      delta.1,
      ap (λ (x : List ReadPage × ℕ). x.0) reads.2,
      ap (λ (x : List ReadPage × ℕ). x.1) reads.2,
      delta.2,
    ) refl)
