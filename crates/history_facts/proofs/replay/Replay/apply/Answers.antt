-- Answers to the goals that the check of `Replay::apply` leaves open.
use Rattle.std.proofs.Common.{◌≡◌, true, sym, subst}
use Rattle.machine_spec.specs.Machine.{Machine}
use Rattle.release_core.specs.Applying.{can_apply}
use Rattle.history_facts.proofs.Applying.{can-make}
use Rattle.history_facts.proofs.replay.Replay.apply.Goals as goal

can : (c : goal.After-apply-arg-1) → can_apply c.self.inside.core c.args.rec.now ≡ true
can c = subst (λ (m : Machine). can_apply m c.args.rec.now ≡ true) (sym c.self.view_is) c.requires

pub apply-requires : goal.apply-requires
apply-requires c = can-make c.self.inside.core c.args.rec.now (can c)
