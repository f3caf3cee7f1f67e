-- No thread waits at the start.
use Rattle.std.proofs.Common.{◌≡◌, subst, sym}
use Rattle.guest_call.specs.Objects.{Objects, waits_at}
use Rattle.guest_call.proofs.Kept.{opening_waits}
use Rattle.object_tests.proofs.objects.first.Goals as goal

pub act-requires-clause-free : goal.act-requires-clause-free
act-requires-clause-free c =
    subst (λ (o : Objects). waits_at o c.in-Some.thread ≡ 0) (sym c.in_ok-objects.ensures)
    (opening_waits c.in-Some.thread)
