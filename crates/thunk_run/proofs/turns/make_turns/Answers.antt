-- Answers to the goals that the check of `make_turns` leaves open.
use Rattle.std.proofs.Common.{◌≡◌, ℕ, ◌+◌, ◌-◌, ◌<◌, ◌≤◌, ◌⊎◌, Bool, true, false, ◌∙◌, sym, inl, inr, arith}
use Rattle.thunk_run.proofs.Leaving.{turns-next, turns-call, turns-trap}
use Rattle.thunk_run.proofs.Entering.{turn-view, outcome-more}
use Rattle.thunk_run.specs.TurnsOutcome.{outcome_after}
use Rattle.thunk_run.proofs.turns.make_turns.Goals as goal
use Rattle.thunk_run.proofs.turns.make_turns.Goals.{then-count-ge-LONG_TURNS+then-not-reported, else-count-ge-LONG_TURNS}
use Rattle.thunk_run.proofs.turns.make_turns.Goals.{else-count-ge-LONG_TURNS-via-then-count-ge-LONG_TURNS+else-not-reported}
use Rattle.thunk_run.proofs.turns.make_turns.Goals.{else-count-ge-LONG_TURNS-via-else-count-ge-LONG_TURNS}

-- there is room for one more turn, whether the watch was notified or few turns were made
one-more :
    (reported : Bool) (made before until fuel : ℕ)
    → made < fuel → until ≡ before → before ≤ fuel
    → (before ≡ fuel) ⊎ ((reported ≡ false) × (3072 ≤ before))
    → (reported ≡ true) ⊎ (made < 2048)
    → (made + 1 ≤ until) × (until ≤ fuel)
one-more reported made before until fuel few same most (inl all) seldom = (omega arith, omega arith)
one-more reported made before until fuel few same most (inr far) (inl long) =
    let both : false ≡ true = sym far.0 ∙ long in cc
one-more reported made before until fuel few same most (inr far) (inr short) = (omega arith, omega arith)

pub loop-count-preserved : goal.loop-count-preserved
loop-count-preserved g c =
    let fuel = c.fuel-fuel.result in
    let more = c.in_ok-count.field-0 in
    let made = c.loop-count.count + more in
    let w = g.M.Mem.workspace c.run_pages.new.mem in
    let after = g.M.Mem.workspace c.step.new.mem in
    let few : made < fuel = omega (arith, c.in_ok-count.ensures.few) in
    record {
      few = omega arith;
      room =
          elim c.if-count-ge-LONG_TURNS.branch [
            | then-count-ge-LONG_TURNS+then-not-reported w ↦ (omega arith, omega arith)
            | else-count-ge-LONG_TURNS w ↦
                one-more c.loop-count.reported made c.loop-count.until c.if-count-ge-LONG_TURNS.until fuel few w.until-is
                c.loop-count.invariant.room.1 c.loop-count.invariant.until
                (elim w.else-count-ge-LONG_TURNS.branch [
                  | else-count-ge-LONG_TURNS-via-then-count-ge-LONG_TURNS+else-not-reported v ↦ inl v.if-not-reported.false
                  | else-count-ge-LONG_TURNS-via-else-count-ge-LONG_TURNS v ↦ inr v.if-count-ge-LONG_TURNS.false
                ])
          ];
      until =
          elim c.if-count-ge-LONG_TURNS.branch [
            | then-count-ge-LONG_TURNS+then-not-reported w ↦ inl w.until-is
            | else-count-ge-LONG_TURNS w ↦ rw (w.until-is, w.reported-is) c.loop-count.invariant.until
          ];
      counter = omega (arith, c.in_ok-count.ensures.cost, c.step.ensures.count);
      seen = λ slot page same at.
          rw (turn-view w after c.in_ok-step.field-0 c.step.new.regs c.in_ok-step.ensures.ok)
          (c.in_ok-count.ensures.seen slot page same at);
      outcome =
          turns-next fuel made w after c.run_pages.new.regs c.step.new.regs c.in_ok-step.field-0 few
          c.in_ok-step.ensures.ok c.in-Next.is
          ∙ outcome-more fuel c.loop-count.count more (g.M.Mem.workspace c.loop-count.mem) w c.loop-count.regs
          c.run_pages.new.regs (outcome_after fuel (g.M.Mem.workspace c.args.mem.now) c.args.regs.now)
          (c.in_ok-count.ensures.outcome (fuel - c.loop-count.count) (omega arith)) c.loop-count.invariant.outcome;
    }

pub returns-in-Call-clause-outcome : goal.returns-in-Call-clause-outcome
returns-in-Call-clause-outcome g c =
    let fuel = c.fuel-fuel.result in
    let more = c.in_ok-count.field-0 in
    let made = c.loop-count.count + more in
    let w = g.M.Mem.workspace c.run_pages.new.mem in
    let few : made < fuel = omega (arith, c.in_ok-count.ensures.few) in
    rw (← c.fuel-fuel.ensures)
    (sym
    (turns-call fuel made w (g.M.Mem.workspace c.step.new.mem) c.run_pages.new.regs c.step.new.regs c.in_ok-step.field-0
    few c.in_ok-step.ensures.ok c.in-Call.is)
    ∙ outcome-more fuel c.loop-count.count more (g.M.Mem.workspace c.loop-count.mem) w c.loop-count.regs
    c.run_pages.new.regs (outcome_after fuel (g.M.Mem.workspace c.args.mem.now) c.args.regs.now)
    (c.in_ok-count.ensures.outcome (fuel - c.loop-count.count) (omega arith)) c.loop-count.invariant.outcome)

pub returns-in-Trap-clause-outcome : goal.returns-in-Trap-clause-outcome
returns-in-Trap-clause-outcome g c =
    let fuel = c.fuel-fuel.result in
    let more = c.in_ok-count.field-0 in
    let made = c.loop-count.count + more in
    let w = g.M.Mem.workspace c.run_pages.new.mem in
    let few : made < fuel = omega (arith, c.in_ok-count.ensures.few) in
    rw (← c.fuel-fuel.ensures)
    (sym
    (turns-trap fuel made w (g.M.Mem.workspace c.step.new.mem) c.run_pages.new.regs c.step.new.regs c.in_ok-step.field-0
    c.in-Trap.cause few c.in_ok-step.ensures.ok c.in-Trap.is)
    ∙ outcome-more fuel c.loop-count.count more (g.M.Mem.workspace c.loop-count.mem) w c.loop-count.regs
    c.run_pages.new.regs (outcome_after fuel (g.M.Mem.workspace c.args.mem.now) c.args.regs.now)
    (c.in_ok-count.ensures.outcome (fuel - c.loop-count.count) (omega arith)) c.loop-count.invariant.outcome)
