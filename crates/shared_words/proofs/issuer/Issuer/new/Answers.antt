-- Answers to the goals that the check of `new` leaves open.
use Rattle.std.proofs.Common.{◌∙◌, ap, sym, subst, length, map}
use Rattle.shared_words.specs.TicketViews.{AreBelow, job_at}
use Rattle.shared_words.proofs.Issuing.{none_below, no_jobs}
use Rattle.shared_words.proofs.issuer.Issuer.new.Goals as goal

pub invariant_of-result : goal.invariant_of-result
invariant_of-result c =
    subst (AreBelow (length c.new.result.jobs)) (sym c.no_numbers.ensures) (none_below (length c.new.result.jobs))

pub returns : goal.returns
returns c = ap (map (job_at c.new.result.jobs)) c.no_numbers.ensures ∙ no_jobs c.new.result.jobs
