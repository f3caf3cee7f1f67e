-- Answers to the goals that the check of `make_turns` leaves open.
use Rattle.std.proofs.Common.{ap, ◌∙◌, arith}
use Rattle.memory_spec.specs.Workspace.{Workspace}
use Rattle.plain_machine.proofs.Turning.{turns-next}
use Rattle.plain_machine.proofs.thunk.make_turns.Goals as goal

pub loop-count-preserved : goal.loop-count-preserved
loop-count-preserved c =
    record {
      few = omega arith;
      counter = omega (arith, c.step.ensures.count);
      map = ap (λ (w : Workspace). w.map) c.in_ok-step.ensures.ok.workspace_is ∙ c.loop-count.invariant.map;
      outcome =
          turns-next c.args.fuel c.loop-count.count c.loop-count.work c.step.new.mem c.loop-count.regs c.step.new.regs
          c.in_ok-step.field-0 (omega arith) c.in_ok-step.ensures.ok c.in-Next.is
          ∙ c.loop-count.invariant.outcome;
    }
