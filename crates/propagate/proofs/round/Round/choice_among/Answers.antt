-- Answers to the goals that the check of `Round::choice_among` leaves open.
use Rattle.std.proofs.Common.{◌≡◌, ◌||◌, true, false, is_some, sym, ◌∙◌}
use Rattle.std.proofs.lemmas.Bool.{or_left, or_right, or_from}
use Rattle.round_spec.specs.Choice.{is_any_in_flight}
use Rattle.propagate.proofs.Choosing.{choice-of}
use Rattle.propagate.proofs.round.Round.choice_among.Goals as goal
use Rattle.propagate.proofs.round.Round.choice_among.Goals.{then-is_some-via-then-is_some, then-is_some-via-else-is_some+then-is_any_in_flight}

pub returns-then-is_some : goal.returns-then-is_some
returns-then-is_some c =
    let either : (is_some c.leaders-due.result.due || is_any_in_flight c.args.self.now.in_flight) ≡ true =
    elim c.then-is_some.branch [
      | then-is_some-via-then-is_some w ↦
          or_left (is_some c.leaders-due.result.due) (is_any_in_flight c.args.self.now.in_flight)
          (sym c.is_some.ensures ∙ w.if-is_some.true)
      | then-is_some-via-else-is_some+then-is_any_in_flight w ↦
          or_right (is_some c.leaders-due.result.due) (is_any_in_flight c.args.self.now.in_flight)
          (sym w.is_any_in_flight.ensures ∙ w.if-is_any_in_flight.true)
    ] in
    c.thread_of.ensures ∙ sym (choice-of c.args.self.now c.leaders-due.result true c.leaders-due.ensures either)

pub returns : goal.returns
returns c =
    c.thread_of-2.ensures
    ∙ sym (choice-of c.args.self.now c.leaders-due.result false c.leaders-due.ensures
    (or_from (is_some c.leaders-due.result.due) (is_any_in_flight c.args.self.now.in_flight)
    (sym c.is_some.ensures ∙ c.if-is_some.false)
    (sym c.is_any_in_flight.ensures ∙ c.if-is_any_in_flight.false)))
