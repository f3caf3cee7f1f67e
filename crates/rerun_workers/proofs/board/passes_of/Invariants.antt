-- The invariant of the loop of `passes_of`.
use Rattle.std.specs.Prelude.{◌≡◌, ◌+◌, All, vec_len}
use Rattle.rerun_workers.proofs.board.passes_of.Given as goal

-- a pass for each part so far, which has made no step
abbrev pub invariant-loop-made : goal.invariant-loop-made
invariant-loop-made g l =
    (l.all.parts + l.made ≡ l.workers) × (l.all.amount ≡ 0) × (vec_len l.passes ≡ l.made)
    × All (λ pass. pass.steps ≡ 0) l.passes.items
