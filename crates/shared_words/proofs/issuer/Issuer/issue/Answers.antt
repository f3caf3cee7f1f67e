-- Answers to the goals that the check of `issue` leaves open.
use Rattle.std.proofs.Common.{◌∙◌, ap, subst, length, set, map, sym}
use Rattle.shared_words.specs.TicketViews.{AreBelow, job_at, job_of}
use Rattle.shared_words.proofs.Issuing.{issued_below, issued_jobs}
use Rattle.shared_words.proofs.issuer.Issuer.issue.Goals as goal

pub invariant_of-self : goal.invariant_of-self
invariant_of-self c =
    subst (AreBelow (length c.append-ticket.new.self.jobs))
    (sym (c.set.ensures ∙ ap (set c.self.inside.last c.args.job.now.thread) c.number_of.ensures))
    (issued_below c.self.inside.log c.append-ticket.new.self c.self.inside.last c.args.job.now.thread c.args.job.now
    c.append-ticket.result c.self.invariant c.append-ticket.ensures.appended)

pub returns-clause-last : goal.returns-clause-last
returns-clause-last c =
    ap (map (job_at c.append-ticket.new.self.jobs))
    (c.set.ensures ∙ ap (set c.self.inside.last c.args.job.now.thread) c.number_of.ensures)
    ∙ issued_jobs c.self.inside.log c.append-ticket.new.self c.self.inside.last c.args.job.now.thread c.args.job.now
    c.append-ticket.result c.self.invariant c.append-ticket.ensures.appended
    ∙ ap (λ v. set v.jobs c.args.job.now.thread (job_of c.append-ticket.result)) c.self.view_is
