-- Answers to the goals that the check of `audit_in_turn` leaves open.
use Rattle.std.proofs.Common.{◌≡◌, ◌+◌, ◌++◌, ℕ, List, [], ◌∷◌, length, take, get_or, sym, ap, ◌∙◌, subst, arith, rules}
use Rattle.std.proofs.lemmas.List.{take_more, length-take-le}
use Rattle.memo_reports.specs.declared.audit.claims.Claim.{Claim}
use Rattle.memo_reports.specs.Claims.{IsFoundIn, first_of_both}
use Rattle.memo_reports.proofs.Finding.{found-append}
use Rattle.memo_reports.proofs.audit.executing.audit_in_turn.Goals as goal

pub loop-place-preserved : goal.loop-place-preserved
loop-place-preserved g c =
    let claims = c.args.claims.now in
    let place = c.loop-place.place in
    let claim : Claim = c.index-claims-place.result in
    let is : get_or claims place claim ≡ claim = search rules in
    let next : take (place + 1) claims ≡ take place claims ++ claim ∷ [] =
    take_more claims place claim (omega arith) ∙ ap (λ (x : Claim). take place claims ++ x ∷ []) is in
    let long : length (take place claims) ≡ place = length-take-le place claims (omega arith) in
    subst (λ (cs : List Claim). IsFoundIn cs c.and-found.result) (sym next)
    (found-append (take place claims) (claim ∷ []) c.loop-place.found c.in_ok-one.one c.and-found.result
    c.loop-place.invariant c.in_ok-one.ensures c.and-found.ensures.instructions
    (c.and-found.ensures.first
    ∙ ap (λ (n : ℕ). first_of_both c.loop-place.found.first n c.in_ok-one.one.first) (sym long)))
