-- Answers to the goals that the check of `refuse_incoherent` leaves open.
use Rattle.std.proofs.Common.{◌≡◌, ℕ, Option, Some, ap, sym, ◌∙◌, arith, rules}
use Rattle.std.specs.Prelude.{slice_get}
use Rattle.memo_spec.specs.Reading.{incoherent_from, coherent_or}
use Rattle.memo_file.proofs.Cohering.{applied_next, stale_at}
use Rattle.memo_file.proofs.coherence.refuse_incoherent.Goals as goal

pub returns-in-Err-Stale : goal.returns-in-Err-Stale
returns-in-Err-Stale c =
    let rs = c.records-records.result.now in
    let r = c.deref.result.now in
    let e : slice_get rs c.loop-i.i ≡ Some r = search rules in
    let f = stale_at rs c.loop-i.core c.loop-i.i r (incoherent_from 0 c.args.core.now rs) (omega arith) e
    (rw c.in-Err-Stale.field-0-is at c.in-Err-Stale.ensures.cause) c.loop-i.invariant in
    ap (λ (o : Option ℕ). coherent_or o c.args.history.now)
    (ap (incoherent_from 0 c.args.core.now) (sym c.records-records.ensures.records) ∙ f)

pub loop-i-preserved : goal.loop-i-preserved
loop-i-preserved c =
    let rs = c.records-records.result.now in
    let r = c.deref.result.now in
    let e : slice_get rs c.loop-i.i ≡ Some r = search rules in
    rw c.in-Ok.ensures.ok (applied_next rs c.loop-i.core c.loop-i.i r _ (omega arith) e c.in-Ok.ensures.fitting
    c.loop-i.invariant)
