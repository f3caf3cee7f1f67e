-- Answers to the goals that the check of `merge` leaves open.
use Rattle.std.proofs.Common.{◌≡◌, ◌+◌, ◌*◌, length, take, arith, sym, ap, subst, ◌∙◌}
use Rattle.thunk_spec.proofs.Merging.{merged}
use Rattle.page_store.proofs.Picking.{HasWord, merged-nil, merged-word, merged-all, no_word}
use Rattle.page_store.proofs.mask.Mask.merge.Goals as goal
use Rattle.page_store.proofs.mask.Mask.merge.Goals.{then-word-ne0, else-word-ne0}

pub loop-number-init : goal.loop-number-init
loop-number-init c = record {
  whole = λ none. absurd (omega (arith, none));
  so_far = sym (merged-nil c.args.page.now c.args.written.now);
}

pub loop-number-preserved : goal.loop-number-preserved
loop-number-preserved c =
    let next : 64 * c.loop-number.number + 64 ≡ 64 * (c.loop-number.number + 1) = omega arith in
    let has : HasWord c.args.written.now (64 * c.loop-number.number) c.word-word.result c.loop-number.page c.if-word-ne0.page =
    elim c.if-word-ne0.branch [
      | then-word-ne0 w ↦
          let known : HasWord c.args.written.now (64 * c.loop-number.number) c.word-word.result c.loop-number.page
          w.merge_word.new.page =
          record {
            count = w.merge_word.auto.page;
            each = w.merge_word.ensures.each;
            below = w.merge_word.ensures.before;
            behind = w.merge_word.ensures.behind;
          } in
          subst (HasWord c.args.written.now (64 * c.loop-number.number) c.word-word.result c.loop-number.page)
          (sym w.page-is) known
      | else-word-ne0 w ↦
          subst (HasWord c.args.written.now (64 * c.loop-number.number) c.word-word.result c.loop-number.page)
          (sym w.page-is) (no_word _ _ _ _ w.if-word-ne0.false)
    ] in
    record {
      whole = λ _. c.word-word.ensures.whole;
      so_far = merged-word c.args.page.now c.args.written.now c.loop-number.page c.if-word-ne0.page c.args.self.now
          (64 * c.loop-number.number) c.word-word.result c.loop-number.invariant.so_far
          (omega (arith, c.requires.page_is_whole, c.requires.written_is_whole)) c.word-word.ensures.marks has
          ∙ ap (λ k. merged c.args.page.now c.args.written.now (take k c.args.self.now)) next;
    }

pub returns : goal.returns
returns c =
    let end : 64 * c.loop-number.number ≡ 4096 = omega (arith, c.loop-number-test.false, c.loop-number.auto.number-end) in
    let long : length c.args.self.now ≡ 4096 = c.loop-number.invariant.whole (omega (arith, end)) in
    c.loop-number.invariant.so_far
    ∙ ap (λ k. merged c.args.page.now c.args.written.now (take k c.args.self.now)) end
    ∙ merged-all c.args.page.now c.args.written.now c.args.self.now
    (omega (arith, c.requires.page_is_whole, c.requires.written_is_whole))
    (omega (arith, c.requires.page_is_whole, long)) long
