-- Answers to the goals that the check of `enter` leaves open.
use Rattle.std.proofs.Common.{arith}
use Rattle.priv_space.specs.Changes.{EntersPage}
use Rattle.priv_space.proofs.Held.{placed-held, placed-same, holds-slot, put-touched, change-put, stays-put}
use Rattle.priv_space.proofs.slots.enter.Goals as goal

pub place_for-requires : goal.place_for-requires
place_for-requires c = holds-slot c.slots.view_is c.slots.invariant c.requires c.deref_mut.ensures.value

pub invariant_of-slots : goal.invariant_of-slots
invariant_of-slots c = placed-held c.slots.inside.places c.place_for.ensures (omega arith)

pub returns-in_default-clause-stays : goal.returns-in_default-clause-stays
returns-in_default-clause-stays c stays =
    placed-same c.slots.inside.places c.slots.view_is c.deref_mut.ensures.value c.place_for.ensures (omega arith)

pub index_mut-requires : goal.index_mut-requires
index_mut-requires c =
    let placed = c.in-Ok.ensures in
    omega (arith, placed.place, placed.each.inside c.args.slot)

pub invariant_of-slots-2 : goal.invariant_of-slots-2
invariant_of-slots-2 c =
    let p = put-touched c.enter.new.self c.slots.inside.places c.slots.view_is c.deref_mut.ensures.value
    c.in-Ok.ensures c.requires c.index_mut.ensures.value (omega arith) in
    p.each

pub returns-clause-entered : goal.returns-clause-entered
returns-clause-entered c entered =
    let p = put-touched c.enter.new.self c.slots.inside.places c.slots.view_is c.deref_mut.ensures.value
    c.in-Ok.ensures c.requires c.index_mut.ensures.value (omega arith) in
    change-put EntersPage p (c.enter.ensures.entered entered)

pub returns-clause-stays : goal.returns-clause-stays
returns-clause-stays c stays =
    let p = put-touched c.enter.new.self c.slots.inside.places c.slots.view_is c.deref_mut.ensures.value
    c.in-Ok.ensures c.requires c.index_mut.ensures.value (omega arith) in
    stays-put p (c.enter.ensures.stays stays)
