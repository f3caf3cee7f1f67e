-- Answers to the goals that the check of `passes_of` leaves open.
use Rattle.std.proofs.Common.{◌≡◌, [], ◌∷◌, ◌++◌, arith}
use Rattle.std.proofs.lemmas.List.Elements.{All-push, All-same}
use Rattle.rerun_workers.proofs.board.passes_of.Goals as goal

pub loop-made-preserved : goal.loop-made-preserved
loop-made-preserved g c =
    let before = c.loop-made.invariant in
    let left = c.split_off-share.ensures in
    let pushed = c.in_ok-push.ensures in (
      omega (arith, before.0, left.parts_left),
      omega (arith, before.1, left.amount_left),
      omega (arith, before.2, pushed.len),
      All-same (λ pass. pass.steps ≡ 0) c.push.new.self.items (c.loop-made.passes.items ++ c.new-in-loop-made.result ∷ [])
          pushed.items
          (All-push (λ pass. pass.steps ≡ 0) c.loop-made.passes.items c.new-in-loop-made.result before.3
          c.new-in-loop-made.ensures),
    )
