-- The invariant of the loop of `push_input`.
use Rattle.std.proofs.Common.{◌≡◌, ◌++◌, map}
use Rattle.std.specs.List.{range_with_len}
use Rattle.machine_spec.specs.Setup.{input_page}
use Rattle.run_history.proofs.start.push_input.Given as goal

abbrev pub invariant-loop-k : goal.invariant-loop-k
invariant-loop-k l = l.table ≡ l.fn.table ++ map (input_page l.input) (range_with_len 0 l.k)
