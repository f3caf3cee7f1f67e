-- The invariant of the loop of `PlainMachine::memory`.
use Rattle.std.proofs.Common.{◌≡◌, take}
use Rattle.plain_machine.proofs.machine.PlainMachine.memory.Given as goal

-- the pages so far are those of shared memory
abbrev pub invariant-loop-slot : goal.invariant-loop-slot
invariant-loop-slot l = l.table ≡ take l.slot l.self.memory
