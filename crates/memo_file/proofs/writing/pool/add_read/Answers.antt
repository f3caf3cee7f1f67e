-- If the page is at the place that was hinted at, nothing is added.
use Rattle.std.proofs.Common.{◌≡◌, refl, sym, rules}
use Rattle.memo_file.proofs.WritingPool.{stands_there, stands_for}
use Rattle.memo_file.proofs.writing.pool.add_read.Goals as goal

pub returns-then-stands_at-clause-pool : goal.returns-then-stands_at-clause-pool
returns-then-stands_at-clause-pool c =
    let same : c.as_slice-bytes.result.now ≡ c.args.read.now.bytes = search rules in
    let at = stands_for c.deref-2.result.now c.args.known.now.pool.items c.hint_at-hint.result
    c.as_slice-bytes.result.now c.args.read.now.bytes c.deref-2.ensures.value same (c.if-stands_at.ensures refl) in
    sym (stands_there _ _ _ _ c.requires.indexed at).0

pub returns-then-stands_at-clause-place : goal.returns-then-stands_at-clause-place
returns-then-stands_at-clause-place c =
    let same : c.as_slice-bytes.result.now ≡ c.args.read.now.bytes = search rules in
    let at = stands_for c.deref-2.result.now c.args.known.now.pool.items c.hint_at-hint.result
    c.as_slice-bytes.result.now c.args.read.now.bytes c.deref-2.ensures.value same (c.if-stands_at.ensures refl) in
    (stands_there _ _ _ _ c.requires.indexed at).1
