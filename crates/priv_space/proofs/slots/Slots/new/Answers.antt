-- Answers to the goals that the check of `new` leaves open.
use Rattle.std.proofs.Common.{◌≡◌, [], ◌∷◌, ◌++◌, ap, ◌∙◌}
use Rattle.priv_space.specs.Slots.{untouched}
use Rattle.priv_space.specs.Held.{all_held, held_at}
use Rattle.priv_space.proofs.Held.{held-fresh}
use Rattle.priv_space.proofs.slots.Slots.new.Goals as goal

pub returns : goal.returns
returns c =
    let items : c.push.new.self.items ≡ untouched ∷ [] =
    c.in_ok-push.ensures.items
    ∙ ap (λ xs. xs ++ c.new.result ∷ []) c.in_ok-held.ensures.items
    ∙ ap (λ s. s ∷ []) c.new.ensures in
    ap (λ p. all_held p c.push.new.self.items) (c.in_ok-places.ensures.items_if_clones_equal (λ y same. same))
    ∙ held-fresh c.args.count c.push.new.self.items (ap (λ xs. held_at xs 0) items)
