-- Answers to the goals that the check of `committed` leaves open.
use Rattle.std.proofs.Common.{◌≡◌, ◌+◌, length, drop, set, sym, ap, ◌∙◌, arith}
use Rattle.std.proofs.lemmas.List.{drop_all, length-set, set_past}
use Rattle.memory_spec.specs.Pages.{page_of}
use Rattle.thunk_spec.specs.Delta.{masked, spread}
use Rattle.page_store.proofs.Finding.{with_delta, split}
use Rattle.page_store.proofs.Writing.{writes_stores}
use Rattle.page_store.proofs.committing.committed.Goals as goal
use Rattle.page_store.proofs.committing.committed.Goals.{then-slot-len+in_ok-page+in_ok-replace_owned, else-slot-len}

pub loop-stored-init : goal.loop-stored-init
loop-stored-init c = record {
  count = ap length c.in_ok-after.ensures;
  rest = ap (λ m. masked m c.pages-stored-items.result.now) c.in_ok-after.ensures;
}

pub loop-stored-preserved : goal.loop-stored-preserved
loop-stored-preserved c =
    let after = c.loop-stored.after in
    let items = c.pages-stored-items.result.now in
    let i = c.loop-stored.stored-index in
    let d = c.stored-item.result in
    let is : c.if-slot-len.after ≡ with_delta after d =
    elim c.if-slot-len.branch [
      | then-slot-len+in_ok-page+in_ok-replace_owned w ↦
          w.after-is ∙ w.in_ok-replace_owned.ensures.ok
          ∙ ap (set after c.slot-slot.result) (w.in_ok-page.ensures ∙ ap (spread d.mask d.bytes) w.page.ensures.page)
          ∙ ap (λ k. set after k (spread d.mask d.bytes (page_of after k))) c.slot-slot.ensures
      | else-slot-len w ↦
          w.after-is
          ∙ sym (set_past after d.slot _ (omega (arith, w.if-slot-len.false, c.len.ensures.count, c.slot-slot.ensures)))
    ] in
    record {
      count = ap length is ∙ length-set after d.slot _ ∙ c.loop-stored.invariant.count;
      rest = ap (λ m. masked m (drop (i + 1) items)) is
          ∙ sym (ap (masked after) (split items i d c.stored-item.is c.loop-stored-test.true))
          ∙ c.loop-stored.invariant.rest;
    }

pub returns-clause-bytes : goal.returns-clause-bytes
returns-clause-bytes c =
    ap (masked c.loop-stored.after)
    (sym (drop_all c.loop-stored.stored-index c.pages-stored-items.result.now c.loop-stored-test.false))
    ∙ c.loop-stored.invariant.rest
    ∙ ap (masked c.args.table.now) c.pages-stored-items.ensures.pages

pub returns-clause-stores : goal.returns-clause-stores
returns-clause-stores c =
    writes_stores c.args.table.now c.args.delta.now c.loop-stored.after (returns-clause-bytes c)
