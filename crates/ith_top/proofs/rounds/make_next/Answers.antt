-- Answers to the goals that the check of `make_next` leaves open.
use Rattle.std.proofs.Common.{◌≡◌, ◌∷◌, length, ap, subst, arith}
use Rattle.rerun_spec.specs.Inputs.{AreShort}
use Rattle.ith_top.proofs.Going.{short_first}
use Rattle.ith_top.proofs.rounds.make_next.Goals as goal

pub make_round-requires-clause-short : goal.make_round-requires-clause-short
make_round-requires-clause-short g c = λ lifetimes bounds.
    short_first c.in_ok-input.input.items c.take_input.new.inputs
    (subst AreShort c.in_ok-input.ensures.taken c.requires.short)

pub make_round-requires-clause-few : goal.make_round-requires-clause-few
make_round-requires-clause-few g c = λ lifetimes bounds.
    let fewer : length c.args.inputs.now ≡ length (c.in_ok-input.input.items ∷ c.take_input.new.inputs) =
    ap length c.in_ok-input.ensures.taken in
    let few = c.requires.few in omega arith
