-- The invariants of the loops of `make_rounds`.
use Rattle.std.proofs.Common.{◌≡◌, ◌+◌, ◌^◌, ◌<◌, None, length}
use Rattle.std.specs.Prelude.{option_map}
use Rattle.std.specs.Arc.{arc_value}
use Rattle.propagate.specs.Consistency.{IsOfMap}
use Rattle.rerun_spec.specs.Inputs.{AreShort}
use Rattle.ith_commands.specs.Playing.{beginning_said, plan_said}
use Rattle.ith_top.proofs.Going.{IsGoing}
use Rattle.ith_top.proofs.rounds.make_rounds.Given as goal

-- the rounds so far were made and printed; each remaining input is that of a round to come, which can be made; after
-- the first round there is a history; and as many rounds were made as inputs were taken
abbrev pub invariant-loop-place : goal.invariant-loop-place
invariant-loop-place g l = record {
  going : IsGoing (plan_said l.fn.plan).beginning l.fn.crew.workers l.fn.plan.inputs
      (g.H.Host.world l.fn.host) (g.H.Host.world l.host) l.fn.crew.work.turns l.crew.work.turns
      (beginning_said l.beginning) l.inputs l.exits;
  left : l.place + length l.inputs ≡ l.place-end;
  short : AreShort l.inputs;
  few : l.beginning.number + length l.inputs < 2 ^ 64;
  map : IsOfMap (option_map arc_value l.beginning.past) l.beginning.setup;
  some : option_map arc_value l.beginning.past ≡ None → l.place ≡ 0;
  made : l.crew.work.rounds + length l.inputs ≡ l.fn.crew.work.rounds + length l.fn.plan.inputs;
  workers : l.crew.workers ≡ l.fn.crew.workers;
}
