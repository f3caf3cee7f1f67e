-- The invariant of the loop of `push_stacks`.
use Rattle.std.proofs.Common.{◌≡◌, ◌++◌, replicate}
use Rattle.std.specs.Arc.{arc_value}
use Rattle.memory_spec.specs.Pages.{zero_page}
use Rattle.run_history.proofs.start.push_stacks.Given as goal

abbrev pub invariant-loop : goal.invariant-loop
invariant-loop l = (l.table ≡ l.fn.table ++ replicate l.counter zero_page) × (arc_value l.zero ≡ zero_page)
