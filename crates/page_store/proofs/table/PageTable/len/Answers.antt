-- Answers to the goals that the check of `len` leaves open.
use Rattle.std.proofs.Common.{arith}
use Rattle.std.specs.Arc.{arc_value}
use Rattle.page_store.proofs.Places.{count_is}
use Rattle.page_store.proofs.table.PageTable.len.Goals as goal

pub returns-clause-count : goal.returns-clause-count
returns-clause-count c =
    let t = c.self.inside in
    count_is 64 (omega arith) arc_value t.count t.shelves.items c.args.self.now c.self.invariant.shelved c.self.view_is
