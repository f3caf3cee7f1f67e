-- The invariant of the loop of `replay`.
use Rattle.std.proofs.Common.{◌≡◌, ◌+◌, ◌*◌, ◌≤◌, true, take}
use Rattle.machine_spec.specs.Schedule.{scratch_from, is_permitted_from}
use Rattle.machine_spec.specs.Setup.{first}
use Rattle.plain_machine.specs.Replaying.{turns_from}
use Rattle.plain_machine.proofs.replaying.replay.Given as goal

-- the machine is that of the entries so far, which are permitted, and has made their turns and as many steps
abbrev pub invariant-loop-i : goal.invariant-loop-i
invariant-loop-i l = record {
  machine : l.machine ≡ scratch_from (first l.setup) (take l.i l.schedule);
  permitted : is_permitted_from (first l.setup) (take l.i l.schedule) ≡ true;
  instructions : l.instructions ≡ turns_from (first l.setup) (take l.i l.schedule);
  counter : l.turns ≡ l.fn.turns + l.instructions;
  steps : l.machine.steps ≡ l.i;
  few : l.instructions ≤ 16777216 * l.machine.steps;
}
