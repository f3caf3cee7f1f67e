-- Answers to the goals that the check of `push_input` leaves open.
use Rattle.std.proofs.Common.{◌≡◌, ◌+◌, ◌++◌, [], ◌∷◌, ℕ, List, map, arith, append_assoc}
use Rattle.std.specs.List.{range_with_len}
use Rattle.std.proofs.lemmas.List.FromFn.{map-range_with_len_more}
use Rattle.std.proofs.lemmas.Grind.{common_steps}
use Rattle.machine_spec.specs.Setup.{input_page}
use Rattle.run_history.proofs.start.push_input.Goals as goal

pub loop-k-preserved : goal.loop-k-preserved
loop-k-preserved c =
    let f : ℕ → List ℕ = input_page c.args.input.now in
    let more : map (input_page c.args.input.now) (range_with_len 0 (c.loop-k.k + 1)) ≡ map (input_page c.args.input.now)
    (range_with_len 0 c.loop-k.k) ++ input_page c.args.input.now c.loop-k.k ∷ [] =
    map-range_with_len_more (input_page c.args.input.now) 0 c.loop-k.k c.loop-k.k (omega arith) in
    rw more (grind (arith, common_steps, append_assoc, c.in_ok-push_input_page.ensures, c.loop-k.invariant))
