-- Answers to the goals that the check of `take` leaves open.
use Rattle.std.proofs.Common.{subst, arith}
use Rattle.memory_spec.specs.Pages.{page_of, allows, read_right}
use Rattle.priv_space.specs.Changes.{IsWithin, TakesNumber}
use Rattle.priv_space.proofs.Held.{placed-held, placed-same, holds-slot, failed, put-touched, shared-put, outcome-put}
use Rattle.priv_space.proofs.slots.take.Goals as goal

pub place_for-requires : goal.place_for-requires
place_for-requires c = holds-slot c.slots.view_is c.slots.invariant c.requires.within.slot c.deref_mut.ensures.value

pub invariant_of-slots : goal.invariant_of-slots
invariant_of-slots c = placed-held c.slots.inside.places c.place_for.ensures (omega arith)

pub returns-in_err-place : goal.returns-in_err-place
returns-in_err-place c =
    failed c.from_residual.result _ _ c.from_residual.ensures.0
    (placed-same c.slots.inside.places c.slots.view_is c.deref_mut.ensures.value c.in_err-place.ensures (omega arith))

pub index_mut-requires : goal.index_mut-requires
index_mut-requires c =
    let placed = c.in_ok-place.ensures in
    omega (arith, placed.place, placed.each.inside c.args.access.slot)

pub take-requires-clause-within : goal.take-requires-clause-within
take-requires-clause-within c = subst (IsWithin c.args.access) c.requires.over.count c.requires.within

pub take-requires-clause-share : goal.take-requires-clause-share
take-requires-clause-share c =
    let p = put-touched c.index_mut.result.now c.slots.inside.places c.slots.view_is c.deref_mut.ensures.value
    c.in_ok-place.ensures c.requires.within.slot c.index_mut.ensures.value (omega arith) in
    shared-put c.args.view.now p c.requires.over

pub invariant_of-slots-2 : goal.invariant_of-slots-2
invariant_of-slots-2 c =
    let p = put-touched c.take.new.self c.slots.inside.places c.slots.view_is c.deref_mut.ensures.value
    c.in_ok-place.ensures c.requires.within.slot c.index_mut.ensures.value (omega arith) in
    p.each

pub returns : goal.returns
returns c =
    let p = put-touched c.take.new.self c.slots.inside.places c.slots.view_is c.deref_mut.ensures.value
    c.in_ok-place.ensures c.requires.within.slot c.index_mut.ensures.value (omega arith) in
    outcome-put (TakesNumber (allows read_right) (page_of c.args.view.now c.args.access.slot) c.args.access) c.take.result p c.take.ensures
