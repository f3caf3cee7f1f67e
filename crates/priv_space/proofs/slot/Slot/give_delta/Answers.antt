-- Answers to the goals that the check of `give_delta` leaves open.
use Rattle.std.proofs.Common.{◌++◌, ap, sym, ◌∙◌}
use Rattle.std.proofs.lemmas.List.{append-nil}
use Rattle.priv_space.specs.Slots.{slot_marks}
use Rattle.priv_space.proofs.Collecting.{part_none}
use Rattle.priv_space.proofs.slot.Slot.give_delta.Goals as goal

pub returns-in-View : goal.returns-in-View
unfolding slot_marks
returns-in-View c page =
    let deltas = c.args.deltas.now.items in
    sym (append-nil deltas) ∙ ap (λ p. deltas ++ p) (sym (part_none c.args.slot _ _ (ap slot_marks c.in-View.is)))

pub returns-in-Shared : goal.returns-in-Shared
unfolding slot_marks
returns-in-Shared c page =
    let deltas = c.args.deltas.now.items in
    sym (append-nil deltas) ∙ ap (λ p. deltas ++ p) (sym (part_none c.args.slot _ _ (ap slot_marks c.in-Shared.is)))
