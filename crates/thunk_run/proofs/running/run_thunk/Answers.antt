-- Answers to the goals that the check of `run_thunk` leaves open.
use Rattle.std.proofs.Common.{◌∙◌, ap}
use Rattle.std.specs.Arc.{arc_value}
use Rattle.thunk_spec.specs.Thunk.{Frame}
use Rattle.thunk_run.proofs.Keeping.{kept-run}
use Rattle.thunk_run.proofs.running.run_thunk.Goals as goal

pub returns-clause-kept : goal.returns-clause-kept
returns-clause-kept g c =
    kept-run (arc_value c.args.job.now.frame) c.deref-2.result.now (arc_value c.args.job.now.view)
    (arc_value c.shared_map.result.now) c.args.job.now.regs c.in_ok-space.space
    (record {
      regs = c.make_thunk.new.regs;
      end = c.in_ok-turned.turned.end;
      count = c.in_ok-turned.turned.count;
      workspace = c.make_thunk.new.mem;
    })
    c.in_ok-reads.reads c.in_ok-delta.delta (record { count = c.args.job.now.sized; pages = c.in_ok-space.ensures.whole })
    c.deref-2.ensures
    (c.shared_map.ensures ∙ ap (λ (f : Frame). f.map) c.deref.ensures) c.in_ok-space.ensures.fresh
    c.in_ok-turned.ensures.outcome c.in_ok-reads.ensures
    c.in_ok-delta.ensures
