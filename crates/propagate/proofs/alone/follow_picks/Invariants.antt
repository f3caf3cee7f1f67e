-- The invariant of the loop of `follow_picks`.
use Rattle.std.proofs.Common.{◌-◌}
use Rattle.round_spec.specs.Alone.{after_picks}
use Rattle.propagate.specs.Executing.{IsPartWay}
use Rattle.propagate.proofs.alone.follow_picks.Given as goal

-- this number of picks remains
abbrev pub invariant-loop-followed : goal.invariant-loop-followed
invariant-loop-followed g l =
    IsPartWay (l.most - l.followed) (after_picks l.most l.fn.round) l.fn.round l.round l.fn.turns l.turns
    l.fn.compared l.compared
