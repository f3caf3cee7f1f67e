-- Answers to the goals that the check of `Board::next` leaves open.
use Rattle.std.proofs.Common.{arith}
use Rattle.rerun_workers.proofs.board.Board.next.Goals as goal

pub loop-preserved : goal.loop-preserved
loop-preserved g c =
    let before = c.loop.invariant in
    let told = c.in-Hold.ensures in
    (omega (arith, before.0, told.never_lower), omega (arith, before.1, told.asked), omega (arith, before.2, told.taken))
