-- Answers to the goals that the check of `least_listed` leaves open.
use Rattle.std.proofs.Common.{◌≡◌, subst, arith}
use Rattle.priv_space.specs.Held.{FindsLeast}
use Rattle.priv_space.proofs.slots.least_listed.Goals as goal

pub returns : goal.returns
returns c =
    let all : c.loop-place.place ≡ c.args.count = omega arith in
    subst (λ count. FindsLeast c.args.listed.now count c.args.from c.loop-place.least) all c.loop-place.invariant
