-- Answers to the goals that the check of `verdict_from` leaves open.
use Rattle.std.proofs.Common.{◌≡◌, ◌+◌, ◌==◌, ℕ, true, [], length, sym, ◌∙◌, subst, arith}
use Rattle.std.proofs.lemmas.Bool.{eqb-true}
use Rattle.memo_reports.specs.Claims.{IsFoundIn}
use Rattle.memo_reports.proofs.Finding.{places-fit}
use Rattle.memo_reports.proofs.Following.{nil-of-length}
use Rattle.memo_reports.proofs.Audited.{IsAuditedTo, audited-more, audited-stuck}
use Rattle.memo_reports.proofs.audit.auditing.verdict_from.Goals as goal

pub returns-then-is_empty-clause-first : goal.returns-then-is_empty-clause-first
returns-then-is_empty-clause-first g c =
    let claims = c.in_ok-claims.claims in
    let is : (claims.len == 0) ≡ true = sym c.is_empty.ensures ∙ c.if-is_empty.true in
    let none : claims.len ≡ 0 = eqb-true claims.len 0 is in
    let empty : claims.items ≡ [] = nil-of-length claims.items (omega (arith, none, claims.ok)) in
    (audited-stuck c.args.core.now c.args.records.now c.loop-place.place c.loop-place.core c.loop-place.found c.closed.result
    c.loop-place.invariant (omega arith) (c.in_ok-claims.ensures.none empty) c.closed.ensures.first
    c.closed.ensures.instructions).first

pub returns-then-is_empty-clause-instructions : goal.returns-then-is_empty-clause-instructions
returns-then-is_empty-clause-instructions g c =
    let claims = c.in_ok-claims.claims in
    let is : (claims.len == 0) ≡ true = sym c.is_empty.ensures ∙ c.if-is_empty.true in
    let none : claims.len ≡ 0 = eqb-true claims.len 0 is in
    let empty : claims.items ≡ [] = nil-of-length claims.items (omega (arith, none, claims.ok)) in
    (audited-stuck c.args.core.now c.args.records.now c.loop-place.place c.loop-place.core c.loop-place.found c.closed.result
    c.loop-place.invariant (omega arith) (c.in_ok-claims.ensures.none empty) c.closed.ensures.first
    c.closed.ensures.instructions).turns

pub and-found-requires-clause-places : goal.and-found-requires-clause-places
and-found-requires-clause-places g c =
    let found : IsFoundIn c.in_ok-claims.claims.items c.in_ok-more.more =
    rw (← c.as_slice.ensures.value) c.in_ok-more.ensures in
    places-fit c.in_ok-claims.claims.items c.in_ok-more.more.first c.loop-place.place found.first
    (omega (arith, c.in_ok-claims.ensures.few, c.len.ensures.of_run.few))

pub loop-place-preserved : goal.loop-place-preserved
loop-place-preserved g c =
    let found : IsFoundIn c.in_ok-claims.claims.items c.in_ok-more.more =
    rw (← c.as_slice.ensures.value) c.in_ok-more.ensures in
    let long : c.len-place.result ≡ length c.in_ok-claims.claims.items =
    omega (arith, c.len-place.ensures, c.in_ok-claims.claims.ok) in
    subst (λ (n : ℕ). IsAuditedTo c.args.core.now c.args.records.now (c.loop-place.place + n) c.claims_from.new.core
    c.and-found.result) (sym long)
    (audited-more c.args.core.now c.args.records.now c.loop-place.place c.loop-place.core c.claims_from.new.core
    c.loop-place.found c.in_ok-more.more c.and-found.result c.in_ok-claims.claims.items c.loop-place.invariant
    c.in_ok-claims.ensures.claims found c.in_ok-claims.ensures.few c.and-found.ensures.instructions
    c.and-found.ensures.first)
