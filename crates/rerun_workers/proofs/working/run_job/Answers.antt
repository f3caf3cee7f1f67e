-- Answers to the goals that the check of `run_job` leaves open.
use Rattle.std.proofs.Common.{arith}
use Rattle.rerun_workers.proofs.working.run_job.Goals as goal

pub invariant_of-pass : goal.invariant_of-pass
invariant_of-pass g c =
    record {
      one = c.args.pass.now.one;
      counted = c.args.pass.now.counted;
      own = c.args.pass.now.own;
      named = c.args.pass.now.named;
      ticketed = c.args.pass.now.ticketed;
      edited = c.args.pass.now.edited;
      once = let ready = c.requires.ready in let one = c.raise.ensures in omega (arith, ready, one);
      idle = λ h past unedited. absurd (c.requires.edited h past unedited);
      spares = c.args.pass.now.spares;
    }
