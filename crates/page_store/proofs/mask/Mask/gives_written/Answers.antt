-- Answers to the goals that the check of `gives_written` leaves open.
use Rattle.std.proofs.Common.{◌≡◌, ◌+◌, ◌*◌, ◌≤◌, false, true, length, refl, sym, subst, arith}
use Rattle.page_store.proofs.Giving.{IsGiven, given_word, given_first, given_past, given_beyond, given_run, run_given, given_page, page_given}
use Rattle.page_store.proofs.mask.Mask.gives_written.Goals as goal
use Rattle.page_store.proofs.mask.Mask.gives_written.Goals.{then-word-ne0+else-not-same_between+else-not-gives_word, else-word-ne0}

pub loop-number-init : goal.loop-number-init
loop-number-init c = record {
  whole = λ none. absurd (omega (arith, none));
  given = given_first c.args.self.now c.args.page.now c.args.written.now;
}

pub same_between-requires-clause-ordered : goal.same_between-requires-clause-ordered
same_between-requires-clause-ordered c = c.loop-number.invariant.given.ordered

pub returns-then-not-same_between : goal.returns-then-not-same_between
returns-then-not-same_between c =
    let m = c.args.self.now in
    let page = c.args.page.now in
    let written = c.args.written.now in
    let n = c.loop-number.number in
    let same : length written ≡ length page = omega (arith, c.requires.page_is_whole, c.requires.written_is_whole) in
    let long : length m ≡ length page = omega (arith, c.requires.page_is_whole, c.word-word.ensures.whole) in (
      λ no. absurd (let e : false ≡ true = no in cc),
      λ is.
          c.if-not-same_between.ensures.1
          (run_given m page written c.loop-number.from (64 * n) 4096 c.loop-number.invariant.given
          (omega (arith, c.loop-number-test.true)) (page_given m page written 4096 same long is)),
    )

pub returns-then-not-gives_word : goal.returns-then-not-gives_word
returns-then-not-gives_word c =
    let m = c.args.self.now in
    let page = c.args.page.now in
    let written = c.args.written.now in
    let n = c.loop-number.number in
    let same : length written ≡ length page = omega (arith, c.requires.page_is_whole, c.requires.written_is_whole) in
    let long : length m ≡ length page = omega (arith, c.requires.page_is_whole, c.word-word.ensures.whole) in (
      λ no. absurd (let e : false ≡ true = no in cc),
      λ is.
          c.if-not-gives_word.ensures.1
          (given_word m page written (64 * n) c.word-word.result 4096 c.word-word.ensures.marks
          (omega (arith, c.loop-number-test.true)) (page_given m page written 4096 same long is)),
    )

pub loop-number-preserved : goal.loop-number-preserved
loop-number-preserved c =
    let m = c.args.self.now in
    let page = c.args.page.now in
    let written = c.args.written.now in
    let i = 64 * c.loop-number.number in
    let from = c.loop-number.from in
    let word = c.word-word.result in
    let given = c.loop-number.invariant.given in
    let next : i + 64 ≡ 64 * (c.loop-number.number + 1) = omega arith in
    let more : IsGiven m page written c.if-word-ne0.from (i + 64) =
    elim c.if-word-ne0.branch [
      | then-word-ne0+else-not-same_between+else-not-gives_word w ↦
          subst (λ p. IsGiven m page written p (i + 64)) (sym w.from-is)
          (given_beyond m page written from i word c.word-word.ensures.marks given (w.if-not-same_between.ensures.0 refl)
          (w.if-not-gives_word.ensures.0 refl))
      | else-word-ne0 w ↦
          subst (λ p. IsGiven m page written p (i + 64)) (sym w.from-is)
          (given_past m page written from i word c.word-word.ensures.marks w.if-word-ne0.false given)
    ] in
    record {
      whole = λ _. c.word-word.ensures.whole;
      given = subst (λ to. IsGiven m page written c.if-word-ne0.from to) next more;
    }

pub same_between-requires-2-clause-ordered : goal.same_between-requires-2-clause-ordered
same_between-requires-2-clause-ordered c =
    omega (arith, c.loop-number.invariant.given.ordered, c.loop-number.auto.number-end)

pub returns : goal.returns
returns c =
    let m = c.args.self.now in
    let page = c.args.page.now in
    let written = c.args.written.now in
    let from = c.loop-number.from in
    let given = c.loop-number.invariant.given in
    let end : 64 * c.loop-number.number ≡ 4096 = omega (arith, c.loop-number-test.false, c.loop-number.auto.number-end) in
    let none = subst (λ to. IsGiven m page written from to) end given in
    let same : length written ≡ length page = omega (arith, c.requires.page_is_whole, c.requires.written_is_whole) in
    let full : length m ≡ 4096 = c.loop-number.invariant.whole (omega (arith, c.loop-number-test.false)) in
    let long : length m ≡ length page = omega (arith, c.requires.page_is_whole, full) in
    let all : length page ≤ 4096 = omega (arith, c.requires.page_is_whole) in (
      λ yes.
          given_page m page written 4096 same long all
          (given_run m page written from 4096 none (c.same_between-2.ensures.0 yes)),
      λ is.
          c.same_between-2.ensures.1
          (run_given m page written from 4096 4096 none (omega arith) (page_given m page written 4096 same long is)),
    )
