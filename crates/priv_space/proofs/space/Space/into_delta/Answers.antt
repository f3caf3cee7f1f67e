-- Answers to the goals that the check of `into_delta` leaves open.
use Rattle.std.proofs.Common.{◌+◌, ◌++◌, length, ap, ◌∙◌, arith}
use Rattle.std.proofs.lemmas.List.{length-set}
use Rattle.memory_spec.specs.Pages.{page_of}
use Rattle.thunk_spec.specs.Ascending.{deltas_ascend}
use Rattle.priv_space.specs.Slots.{untouched}
use Rattle.priv_space.proofs.Collecting.{collects-deltas, collected_next, collected_all, deltas_left, deltas_left-set, delta_from-ascend}
use Rattle.priv_space.proofs.space.Space.into_delta.Goals as goal

pub loop-slot-preserved : goal.loop-slot-preserved
loop-slot-preserved c =
    let view = c.args.self.view in
    let slots = c.loop-slot.slots in
    let kept = c.loop-slot.invariant in
    let slot = c.in-Some.slot in
    let deltas = c.give_delta.new.deltas.items in
    let left = c.give_delta.ensures.emptied in
    record {
      count = ap length left ∙ length-set slots slot untouched ∙ kept.count;
      deltas = ap (λ s. deltas ++ deltas_left view s (slot + 1)) left
          ∙ ap (λ rest. deltas ++ rest) (deltas_left-set view slots slot (slot + 1) untouched (omega arith))
          ∙ collected_next c.loop-slot.deltas.items (collects-deltas view slots kept.count) kept.deltas
          c.in-Some.ensures (c.in_ok-give_delta.ensures.given (page_of view slot));
    }

pub new-requires : goal.new-requires
new-requires c =
    let self = c.args.self in
    let kept = c.loop-slot.invariant in
    ap (deltas_ascend 0)
    (collected_all c.loop-slot.deltas.items (collects-deltas self.view c.loop-slot.slots kept.count) kept.deltas
    c.in_default.ensures)
    ∙ delta_from-ascend 0 0 self.stored self.memory (omega arith)

pub returns : goal.returns
returns c =
    let kept = c.loop-slot.invariant in
    c.new.ensures
    ∙ collected_all c.loop-slot.deltas.items (collects-deltas c.args.self.view c.loop-slot.slots kept.count) kept.deltas
    c.in_default.ensures
