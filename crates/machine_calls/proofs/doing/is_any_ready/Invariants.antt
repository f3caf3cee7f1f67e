-- The invariant of the loop of `is_any_ready`.
use Rattle.std.proofs.Common.{◌≡◌, drop}
use Rattle.std.specs.List.{list_any}
use Rattle.machine_spec.specs.Machine.{Hart, is_ready}
use Rattle.machine_calls.proofs.doing.is_any_ready.Given as goal

-- whether any of the rest is ready determines whether any thread is
abbrev pub invariant-loop-hart : goal.invariant-loop-hart
invariant-loop-hart g l =
    list_any (λ (h : Hart). is_ready h.status) (drop l.hart-index l.harts) ≡ list_any
    (λ (h : Hart). is_ready h.status) l.harts
