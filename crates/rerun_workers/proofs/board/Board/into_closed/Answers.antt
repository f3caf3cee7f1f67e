-- Answers to the goals that the check of `Board::into_closed` leaves open.
use Rattle.std.proofs.Common.{sym, ◌∙◌}
use Rattle.rerun_workers.proofs.board.Board.into_closed.Goals as goal

pub returns-clause-closed : goal.returns-clause-closed
returns-clause-closed g c =
    let locked = c.into_inner-round.result in
    let gathered = c.gather-all.ensures in
    record {
      setup = locked.setup;
      past = locked.past;
      steps =
          sym gathered.amount ∙ c.audit.ensures.whole (gathered.parts ∙ c.requires.all) ∙ sym locked.counted;
      follows = locked.follows;
      idle = gathered.idle;
      spares = gathered.spares;
    }
