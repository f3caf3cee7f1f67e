-- Answers to the goals that the check of `store_again` leaves open.
use Rattle.std.proofs.Common.{get_or, refl, ap, ◌∙◌}
use Rattle.priv_space.specs.Changes.{StoresAgain}
use Rattle.priv_space.proofs.Held.{put-slot, change-put, stays-put, still-untouched}
use Rattle.priv_space.proofs.slots.store_again.Goals as goal

pub invariant_of-slots : goal.invariant_of-slots
invariant_of-slots c =
    let done = c.store_again.ensures in
    let p =
    put-slot c.store_again.new.self c.slots.view_is c.slots.invariant c.requires.slot
    (c.place_of-place.ensures ∙ ap (λ p. get_or p c.args.access.slot 0) c.deref.ensures.value) c.index_mut.ensures.value
    refl (λ free none. still-untouched c.store_again.result none done.stored done.stays) in
    p.each

pub returns-clause-stored : goal.returns-clause-stored
returns-clause-stored c stored =
    let done = c.store_again.ensures in
    let p =
    put-slot c.store_again.new.self c.slots.view_is c.slots.invariant c.requires.slot
    (c.place_of-place.ensures ∙ ap (λ p. get_or p c.args.access.slot 0) c.deref.ensures.value) c.index_mut.ensures.value
    refl (λ free none. still-untouched c.store_again.result none done.stored done.stays) in
    change-put (StoresAgain c.args.access c.args.value) p (done.stored stored)

pub returns-clause-stays : goal.returns-clause-stays
returns-clause-stays c stays =
    let done = c.store_again.ensures in
    let p =
    put-slot c.store_again.new.self c.slots.view_is c.slots.invariant c.requires.slot
    (c.place_of-place.ensures ∙ ap (λ p. get_or p c.args.access.slot 0) c.deref.ensures.value) c.index_mut.ensures.value
    refl (λ free none. still-untouched c.store_again.result none done.stored done.stays) in
    stays-put p (done.stays stays)
