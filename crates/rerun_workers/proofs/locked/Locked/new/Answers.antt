-- Answers to the goals that the check of `Locked::new` leaves open.
use Rattle.rerun_workers.proofs.Issued.{issued_opening}
use Rattle.rerun_workers.proofs.locked.Locked.new.Goals as goal

pub invariant_of-result-clause-issued : goal.invariant_of-result-clause-issued
invariant_of-result-clause-issued g c =
    issued_opening g.J.Naming.tickets c.args.round g.J.Naming.setup g.J.Naming.past c.args.issuer c.requires.opening
    c.requires.named
