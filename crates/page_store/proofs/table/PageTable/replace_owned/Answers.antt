-- Answers to the goals that the check of `replace_owned` leaves open.
use Rattle.std.proofs.Common.{◌≡◌, List, ℕ, length, set, refl, ◌∙◌, ◌%◌, arith}
use Rattle.std.proofs.lemmas.List.Elements.{All-set}
use Rattle.std.specs.Arc.{arc_value}
use Rattle.page_store.proofs.Places.{group_of, place_of, pages-set, groups-set}
use Rattle.page_store.proofs.table.PageTable.replace_owned.Goals as goal

pub index-requires : goal.index-requires
index-requires c =
    let t = c.self.inside in
    omega (
      arith,
      group_of 64 (omega arith) arc_value t.count c.args.slot t.shelves.items c.args.self.now c.self.invariant.shelved
          c.self.view_is c.requires,
      t.shelves.ok,
    )

pub with_page-requires : goal.with_page-requires
with_page-requires c =
    let t = c.self.inside in
    rw c.deref-2.ensures
    (place_of 64 (omega arith) arc_value t.count c.args.slot t.shelves.items c.args.self.now c.index.result.now c.self.invariant.shelved
    c.self.view_is c.requires c.index.ensures)

pub index_mut-requires : goal.index_mut-requires
index_mut-requires c =
    let t = c.self.inside in
    omega (
      arith,
      group_of 64 (omega arith) arc_value t.count c.args.slot t.shelves.items c.args.self.now c.self.invariant.shelved
          c.self.view_is c.requires,
      t.shelves.ok,
    )

pub invariant_of-self : goal.invariant_of-self
invariant_of-self c =
    let t = c.self.inside in
    let made : arc_value c.in_ok-shelf-2.shelf ≡ set (arc_value c.index.result.now) (c.args.slot % 64) (arc_value c.args.page) =
    c.in_ok-shelf-2.ensures.ok ∙ c.in_ok-shelf.ensures ∙ rw c.deref-2.ensures refl in
    let pages =
    pages-set 64 (omega arith) arc_value t.count c.args.slot t.shelves.items c.args.self.now c.index.result.now c.in_ok-shelf-2.shelf
    (arc_value c.args.page) c.self.invariant.shelved c.self.view_is c.requires c.index.ensures made in
    record {
      shelved =
          groups-set 64 (omega arith) arc_value t.count c.args.slot t.shelves.items c.args.self.now c.index.result.now
          c.in_ok-shelf-2.shelf (arc_value c.args.page) c.self.invariant.shelved c.self.view_is c.requires c.index.ensures made;
      pages =
          rw (pages, ← c.self.view_is)
          (All-set (λ (page : List ℕ). length page ≡ 4096) _ c.args.slot (arc_value c.args.page) (rw (← c.deref.ensures) c.bytes.ensures.whole)
          c.self.invariant.pages);
    }

pub returns-clause-ok : goal.returns-clause-ok
returns-clause-ok c =
    let t = c.self.inside in
    let made : arc_value c.in_ok-shelf-2.shelf ≡ set (arc_value c.index.result.now) (c.args.slot % 64) (arc_value c.args.page) =
    c.in_ok-shelf-2.ensures.ok ∙ c.in_ok-shelf.ensures ∙ rw c.deref-2.ensures refl in
    pages-set 64 (omega arith) arc_value t.count c.args.slot t.shelves.items c.args.self.now c.index.result.now c.in_ok-shelf-2.shelf
    (arc_value c.args.page) c.self.invariant.shelved c.self.view_is c.requires c.index.ensures made
