-- What was found in both parts of some claims was found in all of them.
use Rattle.std.proofs.Common.{◌≡◌, ℕ, List, length, take, drop, sym, ap, ◌∙◌, subst, Result, Ok, IfOk, arith}
use Rattle.std.proofs.lemmas.List.{length-take-le, length-drop, take-append-drop}
use Rattle.std.proofs.lemmas.Result.{IfOk-at_ok}
use Rattle.std.specs.declared.alloc.AllocError.{AllocError}
use Rattle.memo_reports.specs.declared.audit.claims.Claim.{Claim}
use Rattle.memo_reports.specs.declared.audit.verdict.Verdict.{Verdict}
use Rattle.memo_reports.specs.Claims.{IsFoundIn, first_of_both}
use Rattle.memo_reports.proofs.Finding.{found-append, places-fit}
use Rattle.memo_reports.proofs.audit.executing.+audit_together+fn-audit_together-join+arg2+fn-audit_together-join+arg3.Goals as goal

-- what a worker found in its part
found-part :
    (part claims : List Claim) (v : Verdict) (r : Result Verdict AllocError)
    → part ≡ claims → r ≡ Ok v → IfOk r (IsFoundIn part) → IsFoundIn claims v
found-part part claims v r is found ok = subst (λ (cs : List Claim). IsFoundIn cs v) is (IfOk-at_ok (IsFoundIn part) found ok)

pub and-requires-clause-places : goal.and-requires-clause-places
and-requires-clause-places g t c =
    let claims = c.args.claims.now in let cut = c.cut_of-cut.result in
    let back =
    found-part c.split_at.result.1.now (drop cut claims) c.in_ok-second.field-0 c.join-first.result.1
    c.split_at.ensures.back c.in_ok-second.was c.join-first.ensures.second in
    places-fit (drop cut claims) c.in_ok-second.field-0.first cut back.first
    (omega (arith, length-drop cut claims, c.requires.few, c.cut_of-cut.ensures.back))

pub returns : goal.returns
returns g t c =
    let claims = c.args.claims.now in let cut = c.cut_of-cut.result in
    let first = c.in_ok-first.field-0 in let second = c.in_ok-second.field-0 in
    let front =
    found-part c.split_at.result.0.now (take cut claims) first c.join-first.result.0 c.split_at.ensures.front
    c.in_ok-first.was c.join-first.ensures.first in
    let back =
    found-part c.split_at.result.1.now (drop cut claims) second c.join-first.result.1 c.split_at.ensures.back
    c.in_ok-second.was c.join-first.ensures.second in
    let long : length (take cut claims) ≡ cut = length-take-le cut claims (omega (arith, c.cut_of-cut.ensures.back)) in
    subst (λ (cs : List Claim). IsFoundIn cs c.and.result) (take-append-drop cut claims)
    (found-append (take cut claims) (drop cut claims) first second c.and.result front back c.and.ensures.instructions
    (c.and.ensures.first ∙ ap (λ (n : ℕ). first_of_both first.first n second.first) (sym long)))
