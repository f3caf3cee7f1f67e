-- Answers to the goals that the check of `make_place` leaves open.
use Rattle.std.proofs.Common.{◌≡◌, [], ◌∷◌, ◌++◌, length, ap, ◌∙◌, arith, rules}
use Rattle.priv_space.specs.Slots.{untouched}
use Rattle.priv_space.proofs.Held.{all_held-more, is_held-more}
use Rattle.priv_space.proofs.slots.make_place.Goals as goal

pub returns : goal.returns
returns c =
    let places = c.args.places.now in
    let held = c.args.held.now.items in
    let more : c.push.new.self.items ≡ held ++ untouched ∷ [] =
    c.in_ok-push.ensures.items ∙ ap (λ s. held ++ s ∷ []) c.new.ensures in
    let next : c.len-place.result ≡ length held = omega arith in
    rw (c.list.ensures, next, more) record {
      each = is_held-more c.args.listed.now places held c.args.slot c.requires.within.each c.requires.within.within c.requires.free;
      same = all_held-more places held c.args.slot c.requires.within.each c.requires.within.within c.requires.free;
      place = search rules;
    }
