-- Answers to the goals that the check of `Round::choice` leaves open.
use Rattle.std.proofs.Common.{◌≡◌, false, length, Some, None, option_map, sym, subst, ◌∙◌}
use Rattle.std.specs.Arc.{arc_value}
use Rattle.std.specs.List.{slice_get}
use Rattle.thunk_spec.specs.Record.{Record}
use Rattle.history_spec.specs.History.{past_records}
use Rattle.round_spec.specs.Rounds.{RoundState, is_finished}
use Rattle.round_spec.specs.Choice.{choice_by}
use Rattle.propagate.specs.declared.picking.Candidate.{Candidate}
use Rattle.propagate.specs.Choosing.{leader_of, free_below}
use Rattle.propagate.specs.Consistency.{IsInStep, KnowsEnough}
use Rattle.propagate.proofs.InStep.{in_step-next, in_step-over}
use Rattle.propagate.proofs.Keeping.{record_count}
use Rattle.propagate.proofs.round.Round.choice.Goals as goal

-- the round by its parts, which continues as its history did
abbrev next : goal.In-Some-next_in_history → RoundState
next c =
    record {
      setup = c.self.inside.setup;
      past = option_map arc_value c.self.inside.past;
      machine = c.self.inside.core;
      schedule = c.self.inside.schedule.items;
      records = c.self.inside.records;
      picked = c.self.inside.picked.items;
      in_flight = c.self.inside.in_flight;
      taken_at = c.self.inside.taken_at;
      discarded = c.self.inside.discarded;
      stopped = c.self.inside.stopped;
    }

pub returns-in-Some-next_in_history : goal.returns-in-Some-next_in_history
returns-in-Some-next_in_history c =
    let t = c.in-Some-next_in_history.t in
    let step : IsInStep (next c) c.self.inside.marks =
    subst (KnowsEnough (next c) c.self.inside.marks) c.in-None.is c.self.invariant.knows in
    sym
    (subst (λ (w : RoundState). choice_by w.past w.machine w.in_flight ≡ Some t) c.self.view_is
    (in_step-next (next c) c.self.inside.marks t c.self.invariant.as_before.marked step c.self.invariant.in_order.whole
    (subst (λ (w : RoundState). is_finished w ≡ false) (sym c.self.view_is) c.requires.going)
    (record_count (next c) c.self.invariant.counted)
    (subst
    (λ (w : RoundState).
    Some t ≡ option_map (λ (r : Record). r.thread) (slice_get (past_records w.past) (length w.schedule)))
    (sym c.self.view_is)
    (sym c.in-Some-next_in_history.is ∙ c.next_in_history.ensures))))

abbrev over : goal.After-thread_of → RoundState
over c =
    record {
      setup = c.self.inside.setup;
      past = option_map arc_value c.self.inside.past;
      machine = c.self.inside.core;
      schedule = c.self.inside.schedule.items;
      records = c.self.inside.records;
      picked = c.self.inside.picked.items;
      in_flight = c.self.inside.in_flight;
      taken_at = c.self.inside.taken_at;
      discarded = c.self.inside.discarded;
      stopped = c.self.inside.stopped;
    }

pub returns-in-None-next_in_history : goal.returns-in-None-next_in_history
returns-in-None-next_in_history c =
    let leader = c.first_free.result in
    let step : IsInStep (over c) c.self.inside.marks =
    subst (KnowsEnough (over c) c.self.inside.marks) c.in-None.is c.self.invariant.knows in
    c.thread_of.ensures
    ∙ sym
    (subst
    (λ (w : RoundState). choice_by w.past w.machine w.in_flight ≡ option_map (λ (x : Candidate). x.thread) leader)
    c.self.view_is
    (in_step-over (over c) c.self.inside.marks leader c.self.invariant.as_before.marked step
    (record_count (over c) c.self.invariant.counted)
    (subst
    (λ (w : RoundState).
    None ≡ option_map (λ (r : Record). r.thread) (slice_get (past_records w.past) (length w.schedule)))
    (sym c.self.view_is)
    (sym c.in-None-next_in_history.is ∙ c.next_in_history.ensures))
    (subst (λ (w : RoundState). leader ≡ leader_of w (free_below w (length w.machine.harts))) (sym c.self.view_is)
    c.first_free.ensures)))
