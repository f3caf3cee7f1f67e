-- Answers to the goals that the check of `claims_from` leaves open.
use Rattle.std.proofs.Common.{◌≡◌, ◌+◌, ◌++◌, true, List, [], ◌∷◌, length, drop, Some, sym, ap, ◌∙◌, arith, rules}
use Rattle.std.specs.Prelude.{slice_get}
use Rattle.std.specs.Arc.{arc_value}
use Rattle.std.proofs.lemmas.List.{length-append}
use Rattle.release_core.specs.Applying.{can_apply}
use Rattle.memo_reports.specs.declared.audit.claims.Claim.{Claim}
use Rattle.memo_reports.proofs.Following.{claims-more, get-drop, past-none}
use Rattle.memo_reports.proofs.audit.claims.claims_from.Goals as goal

pub loop-place-preserved : goal.loop-place-preserved
loop-place-preserved c =
    let rs = c.args.records.now in
    let r = arc_value c.at-rec.result.now in
    let claims = c.loop-place.claims.items in
    let claim = c.in_ok-claim_of.field-0 in
    let can : can_apply c.loop-place.core r ≡ true = search rules in
    let there : slice_get (drop c.args.from rs) (length claims) ≡ Some r =
    get-drop rs c.args.from (length claims) c.loop-place.place c.loop-place.invariant.0 ∙ c.at-rec.ensures in
    let more = claims-more c.args.core.now (drop c.args.from rs) claims c.loop-place.core r claim
    c.loop-place.invariant.1 there can c.in_ok-claim_of.ensures.claim in
    let long : length c.push.new.self.items ≡ length (claims ++ claim ∷ []) =
    ap (λ (l : List Claim). length l) c.in_ok-push.ensures.items in (
      omega (arith, long, length-append claims (claim ∷ []), c.loop-place.invariant.0),
      rw (c.in_ok-push.ensures.items, c.in_ok-claim_of.ensures.applied) more,
    )

pub returns-clause-none : goal.returns-clause-none
returns-clause-none c = λ empty r there.
    let e : c.args.from + 0 ≡ c.loop-place.place =
    ap (λ (l : List Claim). c.args.from + length l) (sym empty) ∙ c.loop-place.invariant.0 in
    absurd (past-none c.args.records.now c.args.from r (omega (arith, e)) there)
