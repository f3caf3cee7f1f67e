-- Answers to the goals that the check of `push_part` leaves open.
use Rattle.std.proofs.Common.{◌≡◌, ℕ, List, ◌+◌, ◌-◌, ◌%◌, ◌++◌, take, drop, refl, ap, ◌∙◌, arith}
use Rattle.std.specs.Simd.Lanes.{chunk}
use Rattle.std.specs.List.{range_with_len}
use Rattle.thunk_spec.specs.Put.{bytes_at}
use Rattle.thunk_spec.specs.Delta.{masked}
use Rattle.release_core.proofs.Putting.{page_part}
use Rattle.release_core.proofs.put.push_part.Goals as goal

pub returns : goal.returns
returns c =
    let map = c.args.map.now in
    let memory = masked c.args.view.now c.args.rec.now.kept.delta in
    let start = c.args.part.start in
    let count = c.args.part.len in
    let offset = start % 4096 in
    let page = c.page_at-page.result in
    let size : offset + count - offset ≡ count = omega arith in
    let part : chunk offset count page ≡ bytes_at map memory (range_with_len start count) =
    page_part map memory page start start offset count c.page_at-page.ensures c.bytes.ensures.whole refl refl
    c.requires.within in
    c.in_ok-extend_from_slice.ensures.items
    ∙ ap (λ (p : List ℕ). c.args.bytes.now.items ++ take (offset + count - offset) (drop offset p)) c.bytes.ensures.value
    ∙ ap (λ (n : ℕ). c.args.bytes.now.items ++ take n (drop offset page)) size
    ∙ ap (λ (b : List ℕ). c.args.bytes.now.items ++ b) part
