-- Answers to the goals that the check of `add` leaves open.
use Rattle.std.proofs.Common.{◌<◌, ◌+◌, ◌/◌, ◌%◌, set, get_or, sym, subst, arith}
use Rattle.page_store.specs.MapTables.{IsTable}
use Rattle.page_store.proofs.MapTables.{table-place}
use Rattle.page_store.proofs.map_table.Table.add.Goals as goal

pub returns-then-start-ne0 : goal.returns-then-start-ne0
returns-then-start-ne0 c =
    let table = c.start_for-start.new.self in
    let number = c.number_at-number.result in
    let some : 0 < get_or table.starts (number / 4096) 0 = omega (arith, c.start_for-start.ensures.start) in
    subst
    (λ start. IsTable c.args.pages.now table.starts (set table.places.items (start + number % 4096) (c.args.slot + 1))
    table.used)
    (sym c.start_for-start.ensures.start)
    (table-place c.args.pages.now table.starts table.places.items table.used number c.args.slot
    c.start_for-start.ensures.table some c.requires.slot (sym c.number_at-number.ensures))
