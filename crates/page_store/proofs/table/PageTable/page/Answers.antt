-- Answers to the goals that the check of `page` leaves open.
use Rattle.std.proofs.Common.{[], ◌∙◌, arith}
use Rattle.std.specs.Arc.{arc_value}
use Rattle.page_store.proofs.Places.{group_of, place_of, page_at}
use Rattle.page_store.proofs.table.PageTable.page.Goals as goal

pub index-requires : goal.index-requires
index-requires c =
    let t = c.self.inside in
    omega (
      arith,
      group_of 64 (omega arith) arc_value t.count c.args.slot t.shelves.items c.args.self.now c.self.invariant.shelved
          c.self.view_is c.requires,
      t.shelves.ok,
    )

pub page-requires : goal.page-requires
page-requires c =
    let t = c.self.inside in
    rw c.deref.ensures
    (place_of 64 (omega arith) arc_value t.count c.args.slot t.shelves.items c.args.self.now c.index.result.now c.self.invariant.shelved
    c.self.view_is c.requires c.index.ensures)

pub returns-clause-page : goal.returns-clause-page
returns-clause-page c =
    let t = c.self.inside in
    c.page.ensures ∙ rw c.deref.ensures
    (page_at 64 (omega arith) arc_value t.count c.args.slot t.shelves.items c.args.self.now c.index.result.now []
    c.self.invariant.shelved c.self.view_is c.requires c.index.ensures)
