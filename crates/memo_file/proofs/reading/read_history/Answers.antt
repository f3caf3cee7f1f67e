-- Answers to the goals that the check of `read_history` leaves open.
use Rattle.std.proofs.Common.{◌≡◌, arith, rules}
use Rattle.std.proofs.lemmas.Result.{err_from_is_err_and}
use Rattle.memo_spec.specs.Reading.{history_at}
use Rattle.memo_file.proofs.Loops.{part_fails, kept_fails}
use Rattle.memo_file.proofs.Ending.{history, history_taken, map_is}
use Rattle.memo_file.proofs.Sizes.{small_pages, read_is_mapped}
use Rattle.memo_file.proofs.reading.read_history.Goals as goal

pub pool_and_records-requires-clause-slots : goal.pool_and_records-requires-clause-slots
pool_and_records-requires-clause-slots c =
    let e : c.map.result.now ≡ c.in_ok-core.core.frame.map = search rules in
    map_is c.in_ok-setup.setup c.in_ok-core.core c.map.result.now c.in_ok-core.ensures.first e

pub pool_and_records-requires-clause-small : goal.pool_and_records-requires-clause-small
pool_and_records-requires-clause-small c =
    let e : c.map.result.now ≡ c.in_ok-core.core.frame.map = search rules in
    let m = map_is c.in_ok-setup.setup c.in_ok-core.core c.map.result.now c.in_ok-core.ensures.first e in
    rw m (small_pages c.in_ok-setup.setup c.in_ok-core.ensures.sound)

pub pool_and_records-requires-clause-few : goal.pool_and_records-requires-clause-few
pool_and_records-requires-clause-few c =
    omega (arith, c.in_ok-entries.ensures.within, c.in_ok-core.ensures.sound.limits.most_steps)

pub new-requires-2 : goal.new-requires-2
new-requires-2 c =
    let e = history_taken c.args.cursor.now c.read_setup.new.cursor c.limited.new.cursor c.pool_and_records.new.cursor
    c.in_ok-setup.setup c.steps.result c.in_ok-entries.entries c.in_ok-records.records c.in_ok-setup.ensures
    c.steps.ensures.value c.in_ok-entries.ensures.given c.in_ok-records.ensures in
    read_is_mapped c.args.cursor.now (history c.in_ok-setup.setup c.in_ok-records.records)
    c.pool_and_records.new.cursor c.requires.bytes e

pub returns-clause-core : goal.returns-clause-core
returns-clause-core c = rw c.new-2.ensures c.in_ok-core.ensures.first

pub returns-clause-sound : goal.returns-clause-sound
returns-clause-sound c = rw c.new-2.ensures c.in_ok-core.ensures.sound

pub returns-clause-given : goal.returns-clause-given
returns-clause-given c =
    let e = history_taken c.args.cursor.now c.read_setup.new.cursor c.limited.new.cursor c.pool_and_records.new.cursor
    c.in_ok-setup.setup c.steps.result c.in_ok-entries.entries c.in_ok-records.records c.in_ok-setup.ensures
    c.steps.ensures.value c.in_ok-entries.ensures.given c.in_ok-records.ensures in
    rw c.new-2.ensures e

pub returns-in_err-setup-clause-given : goal.returns-in_err-setup-clause-given
unfolding history_at
returns-in_err-setup-clause-given c =
    let p = err_from_is_err_and c.from_residual.result c.from_residual.ensures.1 in
    rw (p.1, p.2) (part_fails c.in_err-setup.field-0.0 _ _ c.in_err-setup.ensures)

pub returns-in_err-entries-clause-given : goal.returns-in_err-entries-clause-given
unfolding history_at
returns-in_err-entries-clause-given c =
    let p = err_from_is_err_and c.from_residual-in_err-entries.result c.from_residual-in_err-entries.ensures.1 in
    rw (p.1, p.2, c.in_ok-setup.ensures, ← c.steps.ensures.value)
    (part_fails c.in_err-entries.field-0.0 _ _ c.in_err-entries.ensures.given)

pub returns-in_err-core-clause-given : goal.returns-in_err-core-clause-given
returns-in_err-core-clause-given c =
    let p = err_from_is_err_and c.from_residual-in_err-core.result c.from_residual-in_err-core.ensures.1 in
    rw (p.1, p.2) tt

pub returns-in_err-records-clause-given : goal.returns-in_err-records-clause-given
unfolding history_at
returns-in_err-records-clause-given c =
    let p = err_from_is_err_and c.from_residual-in_err-records.result c.from_residual-in_err-records.ensures.1 in
    let e = c.in_err-records.field-0.0 in
    let entries = rw c.steps.ensures.value at c.in_ok-entries.ensures.given in
    rw (p.1, p.2, c.in_ok-setup.ensures, entries)
    (part_fails e _ _ (kept_fails e _ _ c.in_err-records.ensures))
