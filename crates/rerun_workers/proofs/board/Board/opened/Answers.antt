-- Answers to the goals that the check of `Board::opened` leaves open.
use Rattle.rerun_workers.proofs.board.Board.opened.Goals as goal

pub returns : goal.returns
returns g c =
    let made = c.in_ok-passes.ensures in
    record { count = made.count; nothing = made.nothing }
