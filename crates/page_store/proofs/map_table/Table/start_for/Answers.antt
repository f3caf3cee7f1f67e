-- Answers to the goals that the check of `start_for` leaves open.
use Rattle.page_store.proofs.MapTables.{table-block}
use Rattle.page_store.proofs.map_table.Table.start_for.Goals as goal

pub returns-clause-table : goal.returns-clause-table
returns-clause-table c =
    let table = c.args.self.now in
    table-block c.args.pages.now table.starts table.places.items table.used c.args.block c.requires.table c.requires.block
    c.if-start-ne0.false c.if-self-gt-PLACES.false
