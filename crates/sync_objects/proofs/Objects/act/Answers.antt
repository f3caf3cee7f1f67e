-- The objects after a call, by any of its rows.
use Rattle.std.proofs.Common.{◌<◌, ◌≡◌, false, length, ap, sym, subst}
use Rattle.guest_call.specs.Effect.{Effect}
use Rattle.guest_call.specs.Objects.{Objects, IsKept, waits_at}
use Rattle.guest_call.proofs.Kept.{act_kept}
use Rattle.sync_objects.specs.Pairs.{objects_of}
use Rattle.sync_objects.proofs.Objects.act.Goals as goal

pub invariant_of-self : goal.invariant_of-self
invariant_of-self c =
    let o : Objects = objects_of c.self.inside.tables in
    let exists : c.args.t < length o.threads =
    subst (λ (x : Objects). c.args.t < length x.threads) (sym c.self.view_is) c.requires.exists in
    let free : waits_at o c.args.t ≡ 0 =
    subst (λ (x : Objects). waits_at x c.args.t ≡ 0) (sym c.self.view_is) c.requires.free in
    subst IsKept (sym (ap (λ (r : Effect × Objects). r.1) (c.act_on.ensures (λ p n. false))))
    (act_kept (λ p n. false) o c.args.t c.args.call c.self.invariant exists free)
