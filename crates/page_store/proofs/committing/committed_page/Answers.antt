-- Answers to the goals that the check of `committed_page` leaves open.
use Rattle.std.proofs.Common.{◌≡◌, ◌+◌, drop, sym, ap, ◌∙◌}
use Rattle.memory_spec.specs.Pages.{page_of}
use Rattle.thunk_spec.specs.Delta.{masked, spread}
use Rattle.thunk_spec.specs.Ascending.{deltas_ascend}
use Rattle.page_store.proofs.Finding.{split, passed, found}
use Rattle.page_store.proofs.committing.committed_page.Goals as goal

pub returns-then-slot : goal.returns-then-slot
returns-then-slot c =
    let page : page_of (masked c.args.table.now c.pages-stored-items.result.now) c.args.slot
    ≡ spread c.stored-item.result.mask c.stored-item.result.bytes (page_of c.args.table.now c.args.slot) =
    c.loop-stored.invariant
    ∙ found c.args.table.now c.pages-stored-items.result.now _ c.stored-item.result c.loop-stored.stored-index 0
    c.args.slot (ap (deltas_ascend 0) c.pages-stored-items.ensures.pages ∙ c.pages-stored-items.ensures.ascending)
    (split _ _ _ c.stored-item.is c.loop-stored-test.true) (sym c.slot.ensures ∙ c.if-slot.true) c.requires in
    c.written.ensures ∙ ap (spread c.stored-item.result.mask c.stored-item.result.bytes) c.page.ensures.page ∙ sym page
    ∙ ap (λ delta. page_of (masked c.args.table.now delta) c.args.slot) c.pages-stored-items.ensures.pages

pub loop-stored-preserved : goal.loop-stored-preserved
loop-stored-preserved c =
    c.loop-stored.invariant
    ∙ ap (λ delta. page_of (masked c.args.table.now delta) c.args.slot)
    (split _ _ _ c.stored-item.is c.loop-stored-test.true)
    ∙ passed c.args.table.now c.stored-item.result
    (drop (c.loop-stored.stored-index + 1) c.pages-stored-items.result.now) c.args.slot (λ e. c.if-slot.false (c.slot.ensures ∙ e)) c.requires
