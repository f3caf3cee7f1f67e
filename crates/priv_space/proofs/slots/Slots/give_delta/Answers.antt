-- Answers to the goals that the check of `give_delta` leaves open.
use Rattle.std.proofs.Common.{◌≡◌, get_or, set, refl, ap, ◌∙◌}
use Rattle.priv_space.specs.Slots.{untouched}
use Rattle.priv_space.proofs.Held.{put-slot}
use Rattle.priv_space.proofs.slots.Slots.give_delta.Goals as goal

pub returns-clause-emptied : goal.returns-clause-emptied
returns-clause-emptied c =
    let slot = c.args.slot in
    let given : c.replace-given.new.dest ≡ untouched = c.replace-given.ensures.after ∙ c.new.ensures in
    let p = put-slot c.replace-given.new.dest c.self.view_is c.self.invariant c.requires
    (c.place_of-place.ensures ∙ ap (λ p. get_or p slot 0) c.deref.ensures.value) c.index_mut.ensures.value refl
    (λ zero_is was. given) in
    p.all ∙ ap (set c.args.self.now slot) given
