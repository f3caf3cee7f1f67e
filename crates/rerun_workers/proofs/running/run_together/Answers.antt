-- Answers to the goals that the check of `run_together` leaves open.
use Rattle.std.proofs.Common.{arith}
use Rattle.rerun_workers.proofs.running.run_together.Goals as goal

pub new-requires : goal.new-requires
new-requires g c =
    record {
      name = c.requires.name;
      parts = c.requires.parts;
      workers = c.requires.workers.0;
      unwatched = c.requires.unwatched;
      opening = c.requires.opening;
    }

pub close-requires : goal.close-requires
close-requires g c =
    let made = c.in_ok-board.ensures.count in
    record {
      all = omega (arith, made, c.requires.parts.1);
      workers = (omega (arith, made, c.requires.workers.0), omega (arith, made, c.requires.workers.1));
    }
