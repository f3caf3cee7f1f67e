-- Answers to the goals that the check of `bytes_from` leaves open.
use Rattle.std.proofs.Common.{◌+◌, ◌++◌, [], ◌∷◌, ap, sym, ◌∙◌, arith}
use Rattle.std.specs.List.{range_with_len}
use Rattle.std.proofs.lemmas.List.FromFn.{map-range_with_len_more}
use Rattle.thunk_spec.specs.Put.{byte_at, bytes_at}
use Rattle.plain_machine.proofs.put.bytes_from.Goals as goal

pub loop-k-preserved : goal.loop-k-preserved
loop-k-preserved c =
    c.in_ok-push.ensures.items
    ∙ ap (λ front. front ++ c.byte_at.result ∷ []) c.loop-k.invariant
    ∙ ap (λ b. bytes_at c.args.map.now c.args.memory.now (range_with_len c.args.start c.loop-k.k) ++ b ∷ [])
    c.byte_at.ensures
    ∙ sym (map-range_with_len_more (byte_at c.args.map.now c.args.memory.now) c.args.start c.loop-k.k
    (c.args.start + c.loop-k.k) (omega arith))
