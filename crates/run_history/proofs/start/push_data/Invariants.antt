-- The invariant of the loop of `push_data`.
use Rattle.std.proofs.Common.{◌≡◌, ◌+◌, ◌-◌, ◌++◌}
use Rattle.machine_spec.specs.Setup.{data_pages}
use Rattle.run_history.proofs.start.push_data.Given as goal

-- what was pushed, with what the rest still gives, is all
abbrev pub invariant-loop-i : goal.invariant-loop-i
invariant-loop-i l = l.pages.items ++ data_pages (l.number + l.i) (l.count - l.i) ≡ l.fn.pages.items
    ++ data_pages l.number l.count
