-- Answers to the goals that the check of `audit` leaves open.
use Rattle.std.proofs.Common.{◌≡◌, ℕ, Option, subst, ◌∙◌, inl, inr}
use Rattle.std.proofs.lemmas.Result.{err_from_is_err_and}
use Rattle.ith_words.specs.Words.{Audits}
use Rattle.ith_words.specs.Said.{audit_said}
use Rattle.ith_commands.specs.Files.{files_named}
use Rattle.ith_commands.specs.Ends.{HasVerdict, Prints, IsAudited, AuditEnds, audit_of}
use Rattle.ith_commands.specs.Refusals.{WhyUnprinted}
use Rattle.ith_commands.proofs.Printing.{prints_then}
use Rattle.ith_commands.proofs.Ending.{cut_ends}
use Rattle.ith_commands.proofs.OneText.{reported, unstated, has_verdict}
use Rattle.ith_commands.proofs.auditing.audit.Goals as goal

pub returns-in_err-history : goal.returns-in_err-history
returns-in_err-history g c =
    let p = err_from_is_err_and c.from_residual.result c.from_residual.ensures.1 in
    rw (p.1, p.2) (inl c.in_err-history.ensures.refused)

pub returns-in_err-verdict : goal.returns-in_err-verdict
returns-in_err-verdict g c =
    let w = g.H.Host.world in
    let p = err_from_is_err_and c.from_residual-in_err-verdict.result c.from_residual-in_err-verdict.ensures.1 in
    rw (p.1, p.2)
    (inl (cut_ends (files_named (Audits (audit_said c.args.line.now))) (w c.args.host.now) (w c.remember.new.host)
    c.in_ok-history.ensures.reads))

pub returns-in_err-print_text : goal.returns-in_err-print_text
returns-in_err-print_text g c =
    let w = g.H.Host.world in let a = w c.args.host.now in let b = w c.remember.new.host in
    let d = w c.print_text.new.host in let line = audit_said c.args.line.now in
    let h = c.in_ok-history.history in let place = c.in_ok-verdict.verdict.first in
    let text : c.as_slice.result.now ≡ audit_of h place = c.as_slice.ensures.value ∙ c.in_ok-verdict.ensures.text in
    let why : WhyUnprinted (audit_of h place) b d c.in_err-print_text.field-0.0 = rw (← text) c.in_err-print_text.ensures.refused in
    let p = err_from_is_err_and c.from_residual-in_err-print_text.result c.from_residual-in_err-print_text.ensures.1 in
    rw (p.1, p.2)
    (unstated (Audits line) ((o : Option ℕ) × HasVerdict line.memo o a) (λ has. audit_of has.1.history has.0)
    (place, has_verdict line.memo place a h c.in_ok-history.ensures.history c.in_ok-verdict.ensures.verdict)
    (λ s. AuditEnds line a d s) a b d c.in_err-print_text.field-0.0
    c.in_ok-history.ensures.reads c.print_text.ensures.asked (λ part. part) why)

pub returns-in-None : goal.returns-in-None
returns-in-None g c =
    let w = g.H.Host.world in let a = w c.args.host.now in let b = w c.remember.new.host in
    let d = w c.print_text.new.host in let line = audit_said c.args.line.now in
    let h = c.in_ok-history.history in let place = c.in_ok-verdict.verdict.first in
    let text : c.as_slice.result.now ≡ audit_of h place = c.as_slice.ensures.value ∙ c.in_ok-verdict.ensures.text in
    let prints : Prints b d (audit_of h place) = rw (← text) c.in_ok-print_text.ensures.printed in
    inr
    (subst (λ (o : Option ℕ). IsAudited line o a d) c.in-None.is
    (reported (Audits line) (HasVerdict line.memo place a) (λ has. audit_of has.history place)
    (has_verdict line.memo place a h c.in_ok-history.ensures.history c.in_ok-verdict.ensures.verdict)
    a b d c.in_ok-history.ensures.reads c.print_text.ensures.asked prints))

pub returns : goal.returns
returns g c =
    let w = g.H.Host.world in let a = w c.args.host.now in let b = w c.remember.new.host in
    let d = w c.print_text.new.host in let e = w c.complain.new.self in let line = audit_said c.args.line.now in
    let h = c.in_ok-history.history in let place = c.in_ok-verdict.verdict.first in
    let text : c.as_slice.result.now ≡ audit_of h place = c.as_slice.ensures.value ∙ c.in_ok-verdict.ensures.text in
    let prints : Prints b d (audit_of h place) = rw (← text) c.in_ok-print_text.ensures.printed in
    inr (
      c.in-Some.place,
      subst (λ (o : Option ℕ). IsAudited line o a e) c.in-Some.is
          (reported (Audits line) (HasVerdict line.memo place a) (λ has. audit_of has.history place)
          (has_verdict line.memo place a h c.in_ok-history.ensures.history c.in_ok-verdict.ensures.verdict)
          a b e c.in_ok-history.ensures.reads (c.complain.ensures.asked ∙ c.print_text.ensures.asked)
          (prints_then b d e (audit_of h place) prints c.complain.ensures.stays)),
    )
