-- The invariant of the loop of `gather`.
use Rattle.std.specs.Prelude.{◌≡◌, ◌+◌, ◌≤◌, ◌++◌, map, sum, sum_by, vec_len, vec_capacity, Some}
use Rattle.history_spec.specs.History.{History}
use Rattle.round_spec.specs.Unedited.{IsUnedited}
use Rattle.rerun_workers.specs.Making.{ComparesNone}
use Rattle.rerun_workers.proofs.board.gather.Given as goal

-- the passes so far are merged, and their steps listed, and there is room for the others; without an edit they
-- made no turn and compared no page
abbrev pub invariant-loop-passes : goal.invariant-loop-passes
invariant-loop-passes g l =
    (l.all.parts + vec_len l.passes ≡ vec_len l.fn.passes)
    × (l.all.amount ≡ sum l.worker_steps.items)
    × (vec_len l.worker_steps + vec_len l.passes ≡ vec_len l.fn.passes)
    × (vec_len l.fn.passes ≤ vec_capacity l.worker_steps)
    × (l.worker_steps.items ++ map (λ pass. pass.steps) l.passes.items ≡ map (λ pass. pass.steps) l.fn.passes.items)
    × (l.effort.turns + sum_by (λ pass. pass.effort.turns) l.passes.items
    ≡ sum_by (λ pass. pass.effort.turns) l.fn.passes.items)
    × ((h : History) → g.J.Naming.past ≡ Some h → IsUnedited h g.J.Naming.setup → l.effort.turns ≡ 0)
    × ComparesNone g.J.Naming.setup g.J.Naming.past l.effort.compared

abbrev pub decreases-loop-passes : goal.decreases-loop-passes
decreases-loop-passes g l = vec_len l.passes
