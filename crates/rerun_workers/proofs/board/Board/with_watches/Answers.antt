-- Answers to the goals that the check of `Board::with_watches` leaves open.
use Rattle.rerun_workers.proofs.board.Board.with_watches.Goals as goal

pub returns-clause-nothing : goal.returns-clause-nothing
returns-clause-nothing g c = c.in_ok-board.ensures.nothing
