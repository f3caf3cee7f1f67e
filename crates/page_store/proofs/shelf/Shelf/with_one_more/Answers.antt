-- Answers to the goals that the check of `with_one_more` leaves open.
use Rattle.std.proofs.Common.{◌<◌, ◌%◌, length, map, ap, refl, ◌∙◌, arith}
use Rattle.std.specs.Arc.{arc_value}
use Rattle.page_store.proofs.Groups.{of_length}
use Rattle.page_store.proofs.Places.{last_of, HasOneMore, begun, extended}
use Rattle.page_store.proofs.Shelves.{shared_groups}
use Rattle.page_store.proofs.shelf.Shelf.with_one_more.Goals as goal
use Rattle.page_store.proofs.shelf.Shelf.with_one_more.Goals.{then-place-eq0+in_ok-of_one+in_ok-new+in_ok-push, else-place-eq0+in_ok-group+in_ok-groups-2}

pub index-requires : goal.index-requires
index-requires c =
    let items = c.in_ok-groups.groups.items in
    let here =
    shared_groups arc_value c.self.inside.groups.items items c.args.self.now
    (c.in_ok-groups.ensures ∙ ap (map arc_value) c.deref.ensures.value) c.self.invariant c.self.view_is in
    let some : 0 < length c.args.self.now % 8 = omega (arith, c.if-place-eq0.false, c.requires) in
    omega (
      arith,
      last_of 8 (omega arith) arc_value (length c.args.self.now) items here.grouped some,
      c.in_ok-groups.groups.ok,
      c.requires,
    )

pub index_mut-requires : goal.index_mut-requires
index_mut-requires c =
    let items = c.in_ok-groups.groups.items in
    let here =
    shared_groups arc_value c.self.inside.groups.items items c.args.self.now
    (c.in_ok-groups.ensures ∙ ap (map arc_value) c.deref.ensures.value) c.self.invariant c.self.view_is in
    let some : 0 < length c.args.self.now % 8 = omega (arith, c.if-place-eq0.false, c.requires) in
    omega (
      arith,
      last_of 8 (omega arith) arc_value (length c.args.self.now) items here.grouped some,
      c.in_ok-groups.groups.ok,
      c.requires,
    )

one_more :
    (c : goal.Joined-place-eq0)
    → HasOneMore 8 (omega arith) arc_value (length c.args.self.now) c.args.self.now (arc_value c.args.page)
    c.if-place-eq0.groups.items
one_more c =
    let items = c.in_ok-groups.groups.items in
    let here =
    shared_groups arc_value c.self.inside.groups.items items c.args.self.now
    (c.in_ok-groups.ensures ∙ ap (map arc_value) c.deref.ensures.value) c.self.invariant c.self.view_is in
    elim c.if-place-eq0.branch [
      | then-place-eq0+in_ok-of_one+in_ok-new+in_ok-push w ↦
          rw (w.groups-is, w.in_ok-push.ensures.items)
          (begun 8 (omega arith) arc_value (length c.args.self.now) items c.args.self.now w.in_ok-new.field-0
          (arc_value c.args.page) here.grouped here.pages (omega (arith, w.if-place-eq0.true, c.requires))
          (w.in_ok-new.ensures.ok ∙ w.in_ok-of_one.ensures))
      | else-place-eq0+in_ok-group+in_ok-groups-2 w ↦
          rw (w.groups-is, c.requires)
          (extended 8 (omega arith) arc_value (length c.args.self.now) items c.args.self.now w.index.result.now
          w.in_ok-groups-2.field-0 (arc_value c.args.page) here.grouped here.pages
          (omega (arith, w.if-place-eq0.false, c.requires)) (rw (← c.requires) w.index.ensures)
          (w.in_ok-groups-2.ensures.ok ∙ w.in_ok-group.ensures ∙ rw w.deref-else-place-eq0.ensures refl))
    ]

pub invariant_of-result : goal.invariant_of-result
invariant_of-result c = of_length 8 _ _ (one_more c).grouped

pub returns : goal.returns
returns c = (one_more c).pages
