-- One more page.
use Rattle.memo_file.proofs.WritingPool.{one_lent}
use Rattle.memo_file.proofs.writing.body.write_pool.Goals as goal

pub loop-page-preserved : goal.loop-page-preserved
loop-page-preserved c =
    one_lent c.args.pages.now c.loop-page.page-index _ c.loop-page.out.items c.extend_from_slice.new.self.items _
    c.loop-page-test.true c.in_ok-extend_from_slice.ensures.items c.loop-page.invariant
