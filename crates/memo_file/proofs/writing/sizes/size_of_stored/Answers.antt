-- The bytes at marked places are as many as the marks.
use Rattle.std.proofs.Common.{◌+◌, ◌≤◌, ℕ, length, sym, ap, ◌∙◌, arith}
use Rattle.thunk_spec.specs.Delta.{PageDelta}
use Rattle.memo_file.proofs.WritingMasks.{length_chosen}
use Rattle.memo_file.proofs.writing.sizes.size_of_stored.Goals as goal

pub returns-clause-size : goal.returns-clause-size
returns-clause-size c =
    let long : length c.stored-kept.result.mask.now ≤ length c.stored-kept.result.page.now =
    omega (arith, c.marked_count.ensures.whole, c.bytes.ensures.whole) in
    ap (λ (n : ℕ). 516 + n)
    (c.marked_count.ensures.count
    ∙ sym (length_chosen c.stored-kept.result.mask.now c.stored-kept.result.page.now long)
    ∙ sym (ap (λ (d : PageDelta). length d.bytes) c.stored-kept.ensures.delta))
