-- The byte of the lowest mark, or all bytes of a word.
use Rattle.std.proofs.Common.{◌≡◌, ℕ, ◌+◌, ◌-◌, ◌*◌, ◌≤◌, ◌++◌, length, take, drop, ap, ◌∙◌, arith, refl}
use Rattle.page_store.proofs.Words.{IsLeft, mark_within, marks_behind}
use Rattle.memo_file.proofs.WritingMasks.{mark_step, marks_done, word_full}
use Rattle.memo_file.proofs.writing.stored.write_word.Goals as goal

pub bounds-page-place : goal.bounds-page-place
bounds-page-place c =
    let is : IsLeft c.args.mask.now (64 * (c.args.number + 1)) c.loop-left.place c.loop-left.left _ =
    record {
      marks = c.loop-left.invariant.marks;
      some = omega (arith, c.loop-left-test.true);
      small = omega arith;
      lowest = refl;
    } in
    let inside = mark_within _ _ _ _ _ is (omega (arith, c.word-left.ensures.whole, c.requires.within))
    c.loop-left.invariant.within in
    omega (arith, inside, c.requires.whole, c.requires.within)

pub loop-left-preserved : goal.loop-left-preserved
loop-left-preserved c =
    let long : 64 * (c.args.number + 1) ≤ length c.args.mask.now =
    omega (arith, c.word-left.ensures.whole, c.requires.within) in
    let room : 64 * (c.args.number + 1) ≤ length c.args.page.now =
    omega (arith, c.requires.whole, c.requires.within) in
    let is : IsLeft c.args.mask.now (64 * (c.args.number + 1)) c.loop-left.place c.loop-left.left _ =
    record {
      marks = c.loop-left.invariant.marks;
      some = omega (arith, c.loop-left-test.true);
      small = omega arith;
      lowest = refl;
    } in
    let inside = mark_within _ _ _ _ _ is long c.loop-left.invariant.within in
    record {
      so_far = mark_step c.args.mask.now c.args.page.now (64 * (c.args.number + 1)) c.loop-left.place c.loop-left.left
          _ c.loop-left.out.items c.push.new.self.items _ is long room inside c.in_ok-push.ensures.items
          c.loop-left.invariant.so_far;
      marks = marks_behind _ _ _ _ _ is inside;
      within = omega (arith, inside);
    }

pub returns-clause-marked : goal.returns-clause-marked
returns-clause-marked c =
    marks_done c.args.mask.now c.args.page.now (64 * (c.args.number + 1)) c.loop-left.place c.loop-left.left
    c.loop-left.out.items _ (omega (arith, c.word-left.ensures.whole, c.requires.within))
    (omega (arith, c.requires.whole, c.requires.within)) c.loop-left.invariant.within c.loop-left.invariant.marks
    c.loop-left-test.false c.loop-left.invariant.so_far

pub returns-then-left-clause-marked : goal.returns-then-left-clause-marked
returns-then-left-clause-marked c =
    let count : 64 * c.args.number + 64 - 64 * c.args.number ≡ 64 = omega arith in
    word_full c.args.mask.now c.args.page.now c.args.number c.word-left.result c.args.out.now.items
    c.extend_from_slice.new.self.items _ (omega (arith, c.word-left.ensures.whole, c.requires.within))
    (omega (arith, c.requires.whole, c.requires.within)) c.word-left.ensures.marks c.if-left.true
    (c.in_ok-extend_from_slice.ensures.items
    ∙ ap (λ (n : ℕ). c.args.out.now.items ++ take n (drop (64 * c.args.number) c.args.page.now)) count) refl
