-- Answers to the goals that the check of `next_touched` leaves open.
use Rattle.std.proofs.Common.{◌≡◌, length, get_or, ap, ◌∙◌, sym, arith}
use Rattle.priv_space.specs.Slots.{untouched}
use Rattle.priv_space.proofs.Held.{length-all_held, untouched-held, next-free, next-listed}
use Rattle.priv_space.proofs.slots.Slots.next_touched.Goals as goal

pub returns-then-count-le-LISTED : goal.returns-then-count-le-LISTED
returns-then-count-le-LISTED c =
    let places = c.self.inside.places.items in
    let held = c.self.inside.held.items in
    let count : length places ≡ length c.args.self.now =
    sym (length-all_held places held) ∙ ap length c.self.view_is in
    next-free c.args.from _ _ c.least_listed.result
    (λ k free. ap (λ slots. get_or slots k untouched) (sym c.self.view_is)
    ∙ untouched-held places held k c.self.invariant free)
    count
    (next-listed c.self.inside.listed places held c.args.from c.len-count.result c.least_listed.result c.self.invariant
    (omega arith) (omega arith) (omega (arith, c.self.inside.places.ok)) c.least_listed.ensures)

pub returns-else-count-le-LISTED : goal.returns-else-count-le-LISTED
returns-else-count-le-LISTED c =
    let places = c.self.inside.places.items in
    let held = c.self.inside.held.items in
    let count : length c.deref.result.now ≡ length c.args.self.now =
    ap length c.deref.ensures.value ∙ sym (length-all_held places held) ∙ ap length c.self.view_is in
    next-free c.args.from _ _ c.next_place.result
    (λ k free. ap (λ slots. get_or slots k untouched) (sym c.self.view_is)
    ∙ untouched-held places held k c.self.invariant (ap (λ p. get_or p k 0) (sym c.deref.ensures.value) ∙ free))
    count c.next_place.ensures
