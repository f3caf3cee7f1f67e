-- Answers to the goals that the check of `follow_picks` leaves open.
use Rattle.std.proofs.Common.{◌-◌, ◌+◌, arith}
use Rattle.round_spec.specs.Alone.{after_picks}
use Rattle.propagate.proofs.Executing.{partway-pick, partway-over}
use Rattle.propagate.proofs.alone.follow_picks.Goals as goal

pub returns-then-not-branch-clause-followed : goal.returns-then-not-branch-clause-followed
returns-then-not-branch-clause-followed g c =
    (partway-over (c.args.most - c.loop-followed.followed) (after_picks c.args.most c.args.round.now) c.args.round.now
    c.loop-followed.round c.follow_pick.new.round
    c.args.turns.now c.loop-followed.turns c.follow_pick.new.turns
    c.args.compared.now c.loop-followed.compared c.follow_pick.new.compared
    c.loop-followed.invariant c.in_ok-follow_pick.ensures.followed
    (c.in_ok-follow_pick.ensures.over c.if-not-branch.true) c.in_ok-follow_pick.ensures.cost
    c.follow_pick.ensures.never_lower c.in_ok-follow_pick.ensures.spares c.follow_pick.ensures.compares).rest

pub returns-then-not-branch-clause-spares : goal.returns-then-not-branch-clause-spares
returns-then-not-branch-clause-spares g c =
    (partway-over (c.args.most - c.loop-followed.followed) (after_picks c.args.most c.args.round.now) c.args.round.now
    c.loop-followed.round c.follow_pick.new.round
    c.args.turns.now c.loop-followed.turns c.follow_pick.new.turns
    c.args.compared.now c.loop-followed.compared c.follow_pick.new.compared
    c.loop-followed.invariant c.in_ok-follow_pick.ensures.followed
    (c.in_ok-follow_pick.ensures.over c.if-not-branch.true) c.in_ok-follow_pick.ensures.cost
    c.follow_pick.ensures.never_lower c.in_ok-follow_pick.ensures.spares c.follow_pick.ensures.compares).spares

pub loop-followed-preserved : goal.loop-followed-preserved
loop-followed-preserved g c =
    partway-pick (c.args.most - c.loop-followed.followed) (c.args.most - (c.loop-followed.followed + 1))
    (after_picks c.args.most c.args.round.now) c.args.round.now
    c.loop-followed.round c.follow_pick.new.round c.args.turns.now c.loop-followed.turns c.follow_pick.new.turns
    c.args.compared.now c.loop-followed.compared c.follow_pick.new.compared
    c.loop-followed.invariant (omega (arith, c.loop-followed-test.true)) c.in_ok-follow_pick.ensures.followed
    c.in_ok-follow_pick.ensures.cost c.follow_pick.ensures.never_lower
    c.in_ok-follow_pick.ensures.spares c.follow_pick.ensures.compares
