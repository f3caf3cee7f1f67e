-- The invariant of the loop of `run_page`.
use Rattle.std.proofs.Common.{◌≡◌, ◌+◌, ◌-◌, ◌≤◌}
use Rattle.isa_spec.specs.Registers.{register}
use Rattle.page_store.specs.Entering.{RunsFrom}
use Rattle.rv_step.specs.Step.{Follow}
use Rattle.rv_step.specs.Paging.{at_word}
use Rattle.rv_step.proofs.page.run_page.Given as goal

abbrev pub invariant-turns : goal.invariant-turns
invariant-turns g l = record {
  within : l.index ≤ 1024;
  some : 1024 ≤ l.ahead + l.index;
  few : l.ahead ≤ l.room;
  counted : l.turns ≡ l.fn.turns;
  zero : register l.regs 0 ≡ 0;
  runs : RunsFrom (g.M.Mem.workspace l.mem) l.page.number l.page.bytes;
  follow : Follow (l.ahead + l.index - 1024) (g.M.Mem.workspace l.fn.mem) l.fn.regs (g.M.Mem.workspace l.mem)
      (at_word l.page.number l.index l.regs);
}

abbrev pub decreases-turns : goal.decreases-turns
decreases-turns g l = l.room + 1025 - (l.ahead + l.index)
