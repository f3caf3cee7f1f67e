-- Answers to the goals that the check of `with_page` leaves open.
use Rattle.std.proofs.Common.{◌≡◌, ◌%◌, length, set, map, ap, refl, ◌∙◌, arith}
use Rattle.std.specs.Arc.{arc_value}
use Rattle.page_store.proofs.Groups.{of_length}
use Rattle.page_store.proofs.Places.{group_of, place_of, pages-set, groups-set}
use Rattle.page_store.proofs.Shelves.{shared_groups}
use Rattle.page_store.proofs.shelf.Shelf.with_page.Goals as goal

pub index-requires : goal.index-requires
index-requires c =
    let items = c.in_ok-groups.groups.items in
    let here =
    shared_groups arc_value c.self.inside.groups.items items c.args.self.now
    (c.in_ok-groups.ensures ∙ ap (map arc_value) c.deref.ensures.value) c.self.invariant c.self.view_is in
    omega (
      arith,
      group_of 8 (omega arith) arc_value (length c.args.self.now) c.args.place items c.args.self.now here.grouped
          here.pages c.requires,
      c.in_ok-groups.groups.ok,
    )

pub with_page-requires : goal.with_page-requires
with_page-requires c =
    let items = c.in_ok-groups.groups.items in
    let here =
    shared_groups arc_value c.self.inside.groups.items items c.args.self.now
    (c.in_ok-groups.ensures ∙ ap (map arc_value) c.deref.ensures.value) c.self.invariant c.self.view_is in
    rw c.deref-2.ensures
    (place_of 8 (omega arith) arc_value (length c.args.self.now) c.args.place items c.args.self.now c.index.result.now
    here.grouped here.pages c.requires c.index.ensures)

pub index_mut-requires : goal.index_mut-requires
index_mut-requires c =
    let items = c.in_ok-groups.groups.items in
    let here =
    shared_groups arc_value c.self.inside.groups.items items c.args.self.now
    (c.in_ok-groups.ensures ∙ ap (map arc_value) c.deref.ensures.value) c.self.invariant c.self.view_is in
    omega (
      arith,
      group_of 8 (omega arith) arc_value (length c.args.self.now) c.args.place items c.args.self.now here.grouped
          here.pages c.requires,
      c.in_ok-groups.groups.ok,
    )

pub invariant_of-result : goal.invariant_of-result
invariant_of-result c =
    let items = c.in_ok-groups.groups.items in
    let here =
    shared_groups arc_value c.self.inside.groups.items items c.args.self.now
    (c.in_ok-groups.ensures ∙ ap (map arc_value) c.deref.ensures.value) c.self.invariant c.self.view_is in
    let made : arc_value c.in_ok-groups-2.field-0 ≡ set (arc_value c.index.result.now) (c.args.place % 8)
    (arc_value c.args.page) =
    c.in_ok-groups-2.ensures.ok ∙ c.in_ok-group.ensures ∙ rw c.deref-2.ensures refl in
    of_length 8 (length c.args.self.now) _
    (groups-set 8 (omega arith) arc_value (length c.args.self.now) c.args.place items c.args.self.now
    c.index.result.now c.in_ok-groups-2.field-0 (arc_value c.args.page) here.grouped here.pages c.requires
    c.index.ensures made)

pub returns : goal.returns
returns c =
    let items = c.in_ok-groups.groups.items in
    let here =
    shared_groups arc_value c.self.inside.groups.items items c.args.self.now
    (c.in_ok-groups.ensures ∙ ap (map arc_value) c.deref.ensures.value) c.self.invariant c.self.view_is in
    let made : arc_value c.in_ok-groups-2.field-0 ≡ set (arc_value c.index.result.now) (c.args.place % 8)
    (arc_value c.args.page) =
    c.in_ok-groups-2.ensures.ok ∙ c.in_ok-group.ensures ∙ rw c.deref-2.ensures refl in
    pages-set 8 (omega arith) arc_value (length c.args.self.now) c.args.place items c.args.self.now
    c.index.result.now c.in_ok-groups-2.field-0 (arc_value c.args.page) here.grouped here.pages c.requires
    c.index.ensures made
