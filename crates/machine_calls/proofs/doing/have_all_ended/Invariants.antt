-- The invariant of the loop of `have_all_ended`.
use Rattle.std.proofs.Common.{◌≡◌, drop}
use Rattle.std.specs.List.{list_all}
use Rattle.machine_spec.specs.Machine.{Hart, is_ended}
use Rattle.machine_calls.proofs.doing.have_all_ended.Given as goal

-- whether the rest has ended determines whether all have
abbrev pub invariant-loop-hart : goal.invariant-loop-hart
invariant-loop-hart g l =
    list_all (λ (h : Hart). is_ended h.status) (drop l.hart-index l.harts) ≡ list_all
    (λ (h : Hart). is_ended h.status) l.harts
