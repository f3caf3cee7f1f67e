-- Answers to the goals that the check of `Round::has_pick` leaves open.
use Rattle.std.proofs.Common.{◌≡◌, ℕ, Bool, false, not, ◌&&◌, Option, is_some, ap, sym, ◌∙◌}
use Rattle.round_spec.specs.Rounds.{is_finished}
use Rattle.round_spec.specs.Choice.{choice_by}
use Rattle.propagate.proofs.Choosing.{something_picked}
use Rattle.propagate.proofs.round.Round.has_pick.Goals as goal

pub returns-then-not-is_finished : goal.returns-then-not-is_finished
returns-then-not-is_finished c =
    let w = c.args.self.now in
    let going : is_finished w ≡ false = sym c.is_finished.ensures.over ∙ c.if-not-is_finished.true in
    c.is_some.ensures ∙ ap (λ (o : Option ℕ). is_some o) c.choice.ensures
    ∙ sym (ap (λ (b : Bool). not b && is_some (choice_by w.past w.machine w.in_flight)) going) ∙ something_picked w

pub returns-else-not-is_finished : goal.returns-else-not-is_finished
returns-else-not-is_finished c =
    let w = c.args.self.now in
    let over = sym c.is_finished.ensures.over ∙ c.if-not-is_finished.false in
    ap not c.if-not-is_finished.false
    ∙ sym (ap (λ (b : Bool). not b && is_some (choice_by w.past w.machine w.in_flight)) over) ∙ something_picked w
