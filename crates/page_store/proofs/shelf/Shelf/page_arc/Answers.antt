-- Answers to the goals that the check of `page_arc` leaves open.
use Rattle.std.proofs.Common.{[], length, arith}
use Rattle.std.specs.Arc.{arc_value}
use Rattle.page_store.specs.Shelves.{pages_on}
use Rattle.page_store.proofs.Places.{group_of, place_of, page_at}
use Rattle.page_store.proofs.shelf.Shelf.page_arc.Goals as goal

pub index-requires : goal.index-requires
index-requires c =
    let t = c.self.inside in
    omega (
      arith,
      group_of 8 (omega arith) arc_value (length (pages_on t)) c.args.place t.groups.items c.args.self.now c.self.invariant
          c.self.view_is c.requires,
      t.groups.ok,
    )

pub page_arc-requires : goal.page_arc-requires
page_arc-requires c =
    let t = c.self.inside in
    rw c.deref.ensures
    (place_of 8 (omega arith) arc_value (length (pages_on t)) c.args.place t.groups.items c.args.self.now c.index.result.now c.self.invariant
    c.self.view_is c.requires c.index.ensures)

pub returns : goal.returns
returns c =
    let t = c.self.inside in
    let at =
    page_at 8 (omega arith) arc_value (length (pages_on t)) c.args.place t.groups.items c.args.self.now c.index.result.now [] c.self.invariant
    c.self.view_is c.requires c.index.ensures in
    rw (← at, ← c.deref.ensures) c.page_arc.ensures
