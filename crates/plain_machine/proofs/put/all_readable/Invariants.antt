-- The invariant of the loop of `all_readable`.
use Rattle.std.proofs.Common.{◌≡◌, ◌+◌, ◌-◌}
use Rattle.std.specs.List.{range_with_len, list_all}
use Rattle.memory_spec.specs.Pages.{allows, read_right, permission_at}
use Rattle.thunk_spec.specs.Put.{is_readable}
use Rattle.plain_machine.proofs.put.all_readable.Given as goal

-- whether the rest may be read determines whether all may
abbrev pub invariant-loop-k : goal.invariant-loop-k
invariant-loop-k l =
    list_all (λ a. allows read_right (permission_at l.map a)) (range_with_len (l.start + l.k) (l.count - l.k))
    ≡ is_readable l.map l.start l.count
