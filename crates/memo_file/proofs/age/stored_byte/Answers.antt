-- Answers to the goals that the check of `stored_byte` leaves open.
use Rattle.std.proofs.Common.{◌≡◌, length, Some, refl, sym, ◌∙◌}
use Rattle.std.specs.Prelude.{slice_get}
use Rattle.std.proofs.lemmas.Option.{slice_get_read}
use Rattle.memo_file.proofs.Aging.{stored_here, stored_later}
use Rattle.memo_file.proofs.age.stored_byte.Goals as goal

pub returns-then-slot : goal.returns-then-slot
returns-then-slot c =
    let pages = c.args.pages.now in
    let i = c.loop-page.page-index in
    let d = c.page-item.result in
    let at : slice_get pages i ≡ Some d =
    slice_get_read pages (length pages) i d refl c.loop-page-test.true c.page-item.is in
    c.stored_in.ensures ∙ stored_here pages i c.args.slot c.args.offset d _ at (sym c.slot.ensures ∙ c.if-slot.true)
    c.loop-page.invariant

pub loop-page-preserved : goal.loop-page-preserved
loop-page-preserved c =
    let pages = c.args.pages.now in
    let i = c.loop-page.page-index in
    let d = c.page-item.result in
    let at : slice_get pages i ≡ Some d =
    slice_get_read pages (length pages) i d refl c.loop-page-test.true c.page-item.is in
    stored_later pages i c.args.slot c.args.offset d _ at (λ is. c.if-slot.false (c.slot.ensures ∙ is))
    c.loop-page.invariant
