-- Answers to the goals that the check of `run_pages` leaves open.
use Rattle.std.proofs.Common.{◌+◌, ◌-◌, refl, ap, ◌∙◌, arith}
use Rattle.thunk_run.specs.TurnsOutcome.{counted}
use Rattle.thunk_run.proofs.Entering.{follow-outcome, follow-view}
use Rattle.thunk_run.proofs.pages.run_pages.Goals as goal

pub returns-then-eq-clause-seen : goal.returns-then-eq-clause-seen
returns-then-eq-clause-seen g c slot page same at =
    rw (follow-view c.in_ok-ran.ran.count (g.M.Mem.workspace c.enter_page.new.mem)
    (g.M.Mem.workspace c.run_page.new.mem) c.loop-count.regs c.run_page.new.regs c.in_ok-ran.ensures.turns)
    (c.in-Some.ensures.seen slot page same at)

pub returns-then-eq-clause-outcome : goal.returns-then-eq-clause-outcome
returns-then-eq-clause-outcome g c = λ fuel most.
    follow-outcome c.in_ok-ran.ran.count fuel c.loop-count.count (c.loop-count.count + c.in_ok-ran.ran.count)
    (g.M.Mem.workspace c.enter_page.new.mem) (g.M.Mem.workspace c.run_page.new.mem) c.loop-count.regs
    c.run_page.new.regs c.in_ok-ran.ensures.turns (omega (arith, most, c.in_ok-ran.ensures.few)) refl
    ∙ ap (counted c.loop-count.count) (c.in-Some.ensures.outcome (fuel - c.loop-count.count) (omega (arith, most)))
    ∙ c.loop-count.invariant.outcome fuel most

pub loop-count-preserved : goal.loop-count-preserved
loop-count-preserved g c =
    record {
      few = omega (arith, c.in_ok-ran.ensures.few);
      counter = omega (arith, c.in_ok-ran.ensures.cost);
      seen = λ slot page same at.
          rw (follow-view c.in_ok-ran.ran.count (g.M.Mem.workspace c.enter_page.new.mem)
          (g.M.Mem.workspace c.run_page.new.mem) c.loop-count.regs c.run_page.new.regs c.in_ok-ran.ensures.turns)
          (c.in-Some.ensures.seen slot page same at);
      outcome = λ fuel most.
          follow-outcome c.in_ok-ran.ran.count fuel c.loop-count.count (c.loop-count.count + c.in_ok-ran.ran.count)
          (g.M.Mem.workspace c.enter_page.new.mem) (g.M.Mem.workspace c.run_page.new.mem) c.loop-count.regs
          c.run_page.new.regs c.in_ok-ran.ensures.turns (omega (arith, most, c.in_ok-ran.ensures.few)) refl
          ∙ ap (counted c.loop-count.count) (c.in-Some.ensures.outcome (fuel - c.loop-count.count) (omega (arith, most)))
          ∙ c.loop-count.invariant.outcome fuel most;
    }
