-- Answers to the goals that the check of `Driven::on_commit` leaves open.
use Rattle.std.proofs.Common.{◌≡◌, true, Result, OnOk, sym, ◌∙◌, subst, arith}
use Rattle.std.specs.declared.alloc.AllocError.{AllocError}
use Rattle.round_spec.specs.declared.events.Event.TheVariants.{GiveBack}
use Rattle.round_spec.proofs.Conditions.{happens-commit_not}
use Rattle.round_spec.specs.Rounds.{is_in_flight}
use Rattle.propagate.specs.Executing.{Costs}
use Rattle.round_driver.proofs.Jobs.{jobs-stay, jobs-commit, job-held, run-commits, run-counts, over-discards}
use Rattle.propagate.proofs.Executing.{costs-nothing}
use Rattle.round_driver.proofs.Driven.on_commit.Goals as goal
use Rattle.round_driver.proofs.Driven.on_commit.Goals.{in-Done, in-NoMemory}

pub returns-then-not-is_in_flight-clause-round : goal.returns-then-not-is_in_flight-clause-round
returns-then-not-is_in_flight-clause-round c =
    sym (happens-commit_not c.args.self.now.round c.args.t (sym c.is_in_flight.ensures.in_flight ∙ c.if-not-is_in_flight.true))

pub invariant_of-self : goal.invariant_of-self
invariant_of-self c =
    record {
      held = jobs-stay c.args.self.now.round c.give_back.new.self (GiveBack c.args.t) c.args.self.now.jobs tt
          c.is_in_flight.ensures.valid.in_order c.give_back.ensures.event c.args.self.now.held;
    }

pub returns-then-is_finished-clause-round : goal.returns-then-is_finished-clause-round
returns-then-is_finished-clause-round c =
    c.give_back.ensures.event
    ∙ over-discards c.args.self.now.round c.args.t (sym c.is_in_flight.ensures.in_flight ∙ c.if-not-is_in_flight.false)
    (sym c.is_finished.ensures.over ∙ c.if-is_finished.true)

pub invariant_of-self-2 : goal.invariant_of-self-2
invariant_of-self-2 c =
    record {
      held = jobs-commit c.args.self.now.round c.commit.new.self c.in_ok-run-in-Some.run' c.args.self.now.jobs
          c.commit.result c.is_in_flight.ensures.valid.in_order c.commit.ensures.does c.args.self.now.held;
    }

pub unreachable-requires-in-Stale : goal.unreachable-requires-in-Stale
unreachable-requires-in-Stale c =
    let in_flight : is_in_flight c.args.self.now.round c.args.t ≡ true = sym c.is_in_flight.ensures.in_flight ∙ c.if-not-is_in_flight.false in
    c.in-Stale.ensures.does.0
    (run-commits c.args.self.now.round c.args.t c.in-Some.job c.in_ok-run-in-Some.run' c.is_in_flight.ensures.valid.in_order in_flight
    (sym c.is_finished.ensures.over ∙ c.if-is_finished.false)
    (job-held c.args.self.now.round c.args.self.now.jobs c.args.t c.from.result c.index-self-from.result c.in-Some.job
    c.is_in_flight.ensures.valid.in_order c.args.self.now.held in_flight
    c.from.ensures c.index-self-from.is (c.index-self-from.is ∙ c.in-Some.is))
    c.in_ok-run-in-Some.ensures.run)

pub returns-then-is_finished-clause-cost : goal.returns-then-is_finished-clause-cost
returns-then-is_finished-clause-cost c =
    costs-nothing c.args.turns.now c.args.self.now.round c.give_back.new.self (GiveBack c.args.t)
    c.is_in_flight.ensures.valid.counted tt
    c.give_back.ensures.event

pub returns-clause-cost : goal.returns-clause-cost
returns-clause-cost c =
    elim c.match-commit.branch [
      | in-Done w ↦
          (let in_flight : is_in_flight c.args.self.now.round c.args.t ≡ true = sym c.is_in_flight.ensures.in_flight ∙ c.if-not-is_in_flight.false in
          let counts =
          run-counts c.args.self.now.round c.commit.new.self c.args.t c.in-Some.job c.in_ok-run-in-Some.run'
          c.is_in_flight.ensures.valid.in_order c.is_in_flight.ensures.valid.counted in_flight
          (sym c.is_finished.ensures.over ∙ c.if-is_finished.false)
          (job-held c.args.self.now.round c.args.self.now.jobs c.args.t c.from.result c.index-self-from.result
          c.in-Some.job c.is_in_flight.ensures.valid.in_order c.args.self.now.held in_flight
          c.from.ensures c.index-self-from.is (c.index-self-from.is ∙ c.in-Some.is))
          c.in_ok-run-in-Some.ensures.run w.in-Done.ensures.does.1 in
          let cost : Costs c.args.turns.now c.args.self.now.round c.execute.new.turns c.commit.new.self =
          omega (arith, counts, c.in_ok-run-in-Some.ensures.cost) in
          subst
          (λ (r : Result (Unit {0}) AllocError).
          OnOk r (Costs c.args.turns.now c.args.self.now.round c.execute.new.turns c.commit.new.self))
          (sym w.result-is) cost)
      | in-NoMemory w ↦
          subst
          (λ (r : Result (Unit {0}) AllocError).
          OnOk r (Costs c.args.turns.now c.args.self.now.round c.execute.new.turns c.commit.new.self))
          (sym w.result-is) tt
    ]
