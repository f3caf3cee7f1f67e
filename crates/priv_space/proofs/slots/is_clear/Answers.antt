-- Answers to the goals that the check of `is_clear` leaves open.
use Rattle.std.proofs.Common.{◌≡◌, ◌+◌, get_or, inl, inr, ap, arith}
use Rattle.std.proofs.lemmas.Bool.{cases_lt}
use Rattle.std.proofs.lemmas.Nat.{le_or_l, le_or_r}
use Rattle.priv_space.proofs.slots.is_clear.Goals as goal

pub loop-k-preserved : goal.loop-k-preserved
loop-k-preserved c k from below =
    let places = c.args.places.now in
    let all = c.loop-k.all in
    let here = get_or places (c.args.start + c.loop-k.k) 0 in
    elim (cases_lt k (c.args.start + c.loop-k.k)) [
      | inl lt ↦ omega (arith, c.loop-k.invariant k from lt, le_or_l all here)
      | inr le ↦
          let same : k ≡ c.args.start + c.loop-k.k = omega arith in
          omega (arith, le_or_r all here, ap (λ j. get_or places j 0) same)
    ]
