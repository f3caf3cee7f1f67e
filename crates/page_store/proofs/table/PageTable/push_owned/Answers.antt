-- Answers to the goals that the check of `push_owned` leaves open.
use Rattle.std.proofs.Common.{◌≡◌, ℕ, ◌<◌, ◌+◌, ◌%◌, List, length, map, Result, Ok, Err, IsErr, OnOk, OnErr, refl, sym, ap, ◌∙◌, arith}
use Rattle.std.proofs.lemmas.List.Elements.{All-push}
use Rattle.std.specs.Arc.{arc_value}
use Rattle.memory_spec.specs.Pages.{Memory}
use Rattle.page_store.specs.Groups.{joined}
use Rattle.page_store.proofs.Places.{last_of, length_of_last, HasOneMore, begun, extended}
use Rattle.page_store.proofs.table.PageTable.push_owned.Goals as goal
use Rattle.page_store.proofs.table.PageTable.push_owned.Goals.{then-place-eq0+in_ok-of_one+in_ok-shelf+in_ok-push, else-place-eq0+in_ok-shelf-2+in_ok-shelf-3}

-- after an error the table is as before
failed :
    {T E : Type 0} (r : Result T E) (after now : Memory) (more : Type 0) → IsErr r → after ≡ now
    → record { ok : OnOk r more; err : OnErr r (after ≡ now) }
failed (Ok x) after now more err same = absurd (cc)
failed (Err e) after now more err same = record { ok = tt; err = same }

pub returns-in_err-count : goal.returns-in_err-count
returns-in_err-count c = failed c.from_residual.result _ _ _ c.from_residual.ensures.0 refl

pub returns-in_err-of_one : goal.returns-in_err-of_one
returns-in_err-of_one c =
    failed c.from_residual-in_err-of_one.result _ _ _ c.from_residual-in_err-of_one.ensures.0 refl

pub returns-in_err-shelf : goal.returns-in_err-shelf
returns-in_err-shelf c = failed c.from_residual-in_err-shelf.result _ _ _ c.from_residual-in_err-shelf.ensures.0 refl

pub returns-in_err-push : goal.returns-in_err-push
returns-in_err-push c =
    failed c.from_residual-in_err-push.result _ _ _ c.from_residual-in_err-push.ensures.0
    (ap (λ items. joined (map arc_value items)) c.in_err-push.ensures.items ∙ c.self.view_is)

pub invariant_of-self : goal.invariant_of-self
invariant_of-self c =
    let items = c.in_err-push.ensures.items in
    record { shelved = rw items c.self.invariant.shelved; pages = rw items c.self.invariant.pages }

pub returns-in_err-shelf-2 : goal.returns-in_err-shelf-2
returns-in_err-shelf-2 c =
    failed c.from_residual-in_err-shelf-2.result _ _ _ c.from_residual-in_err-shelf-2.ensures.0 refl

pub returns-in_err-shelf-3 : goal.returns-in_err-shelf-3
returns-in_err-shelf-3 c =
    failed c.from_residual-in_err-shelf-3.result _ _ _ c.from_residual-in_err-shelf-3.ensures.0 refl

pub index-requires : goal.index-requires
index-requires c =
    let t = c.self.inside in
    let some : 0 < t.count % 64 = omega (arith, c.if-place-eq0.false) in
    omega (arith, last_of 64 (omega arith) arc_value t.count t.shelves.items c.self.invariant.shelved some, t.shelves.ok)

pub with_one_more-requires : goal.with_one_more-requires
with_one_more-requires c =
    let t = c.self.inside in
    let some : 0 < t.count % 64 = omega (arith, c.if-place-eq0.false) in
    rw c.deref-else-place-eq0.ensures
    (sym
    (length_of_last 64 (omega arith) arc_value t.count t.shelves.items c.index.result.now c.self.invariant.shelved some
    c.index.ensures))

pub index_mut-requires : goal.index_mut-requires
index_mut-requires c =
    let t = c.self.inside in
    let some : 0 < t.count % 64 = omega (arith, c.if-place-eq0.false) in
    omega (arith, last_of 64 (omega arith) arc_value t.count t.shelves.items c.self.invariant.shelved some, t.shelves.ok)

one_more :
    (c : goal.After-self-2-1)
    → HasOneMore 64 (omega arith) arc_value c.self.inside.count c.args.self.now (arc_value c.args.page)
    c.if-place-eq0.self-inside.shelves.items
one_more c =
    let t = c.self.inside in
    elim c.if-place-eq0.branch [
      | then-place-eq0+in_ok-of_one+in_ok-shelf+in_ok-push w ↦
          rw (w.self-inside-is, w.in_ok-push.ensures.items)
          (begun 64 (omega arith) arc_value t.count t.shelves.items c.args.self.now w.in_ok-shelf.shelf (arc_value c.args.page)
          c.self.invariant.shelved c.self.view_is w.if-place-eq0.true
          (w.in_ok-shelf.ensures.ok ∙ w.in_ok-of_one.ensures))
      | else-place-eq0+in_ok-shelf-2+in_ok-shelf-3 w ↦
          rw w.self-inside-is
          (extended 64 (omega arith) arc_value t.count t.shelves.items c.args.self.now w.index.result.now w.in_ok-shelf-3.shelf
          (arc_value c.args.page) c.self.invariant.shelved c.self.view_is (omega (arith, w.if-place-eq0.false))
          w.index.ensures
          (w.in_ok-shelf-3.ensures.ok ∙ w.in_ok-shelf-2.ensures ∙ rw w.deref-else-place-eq0.ensures refl))
    ]

pub invariant_of-self-2 : goal.invariant_of-self-2
invariant_of-self-2 c =
    let t = c.self.inside in
    let more : c.in_ok-count.count ≡ t.count + 1 = (rw c.in_ok-count.ensures.ok_part at c.checked_add.ensures).1 in
    let next = one_more c in
    record {
      shelved = rw more next.grouped;
      pages =
          rw (next.pages, ← c.self.view_is)
          (All-push (λ (page : List ℕ). length page ≡ 4096) _ (arc_value c.args.page) c.self.invariant.pages
          (rw (← c.deref.ensures) c.bytes.ensures.whole));
    }

pub returns-clause-ok : goal.returns-clause-ok
returns-clause-ok c = (one_more c).pages
