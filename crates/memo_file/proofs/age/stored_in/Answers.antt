-- Answers to the goals that the check of `stored_in` leaves open.
use Rattle.std.proofs.Common.{◌≡◌, false, true, sym, ◌∙◌, arith}
use Rattle.std.specs.Prelude.{slice_index_or}
use Rattle.page_store.specs.declared.stored.StoredPage.{StoredPage}
use Rattle.memo_file.proofs.Aging.{stored_at, mask_is}
use Rattle.memo_file.proofs.age.stored_in.Goals as goal

pub returns-then-get : goal.returns-then-get
returns-then-get c =
    let d = c.args.page.now in
    let s : StoredPage = record { page = c.stored-stored.result.page.now; mask = c.stored-stored.result.mask.now } in
    let marked : slice_index_or s.mask c.args.offset false ≡ true = sym c.get.ensures.mark ∙ c.if-get.true in
    let page = c.bytes-bytes.ensures.value in
    let whole = c.bytes-bytes.ensures.whole in
    rw (mask_is d s c.stored-stored.ensures.delta, marked, page) (sym (stored_at d s c.args.offset
    c.stored-stored.ensures.delta (omega arith) (omega arith) marked))
