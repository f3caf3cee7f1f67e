-- What was written, and the remaining pages.
use Rattle.std.proofs.Common.{◌≡◌, ◌++◌, drop, length}
use Rattle.std.specs.List.{concat}
use Rattle.memo_spec.specs.Encoding.{word}
use Rattle.memo_file.specs.WritingPool.{pages_lent}
use Rattle.memo_file.proofs.writing.body.write_pool.Given as goal

abbrev pub invariant-loop-page : goal.invariant-loop-page
invariant-loop-page l = l.out.items ++ concat (pages_lent (drop l.page-index l.pages))
    ≡ l.fn.out.items ++ word (length (pages_lent l.pages)) ++ concat (pages_lent l.pages)
