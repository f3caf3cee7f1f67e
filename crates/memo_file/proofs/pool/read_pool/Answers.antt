-- Answers to the goals that the check of `read_pool` leaves open.
use Rattle.std.proofs.Common.{◌≡◌, ◌++◌, ◌∷◌, [], map, ap, ◌∙◌, rules}
use Rattle.std.specs.Arc.{arc_value}
use Rattle.std.proofs.lemmas.Result.{err_from_is_err_and}
use Rattle.std.proofs.lemmas.List.{map_push}
use Rattle.memo_spec.specs.Reading.{pool_page_at}
use Rattle.memo_file.proofs.Loops.{goes_on, ends}
use Rattle.memo_file.proofs.pool.read_pool.Goals as goal

pub returns-in_err-page : goal.returns-in_err-page
returns-in_err-page c =
    let p = err_from_is_err_and c.from_residual.result c.from_residual.ensures.1 in
    rw (p.1, p.2) (ends c.in_err-page.field-0.0 pool_page_at (map arc_value c.loop.pages.items) c.args.count
    c.loop.counter (map arc_value c.loop.pages.items) c.loop.cursor _ c.loop-test.true
    (rw c.deref.ensures.value at c.in_err-page.ensures.given) c.loop.invariant.1)

pub loop-preserved : goal.loop-preserved
loop-preserved c =
    let front = map arc_value c.loop.pages.items in
    let arc_is : arc_value c.in_ok-new.field-0 ≡ c.in_ok-page.page = search rules in
    let e : map arc_value c.push.new.self.items ≡ map arc_value c.loop.pages.items ++ c.in_ok-page.page ∷ [] =
    rw c.in_ok-push.ensures.items (map_push arc_value c.loop.pages.items c.in_ok-new.field-0
    ∙ ap (λ p. map arc_value c.loop.pages.items ++ p ∷ []) arc_is) in
    rw e (
      (rw c.deref.ensures.value at c.in_ok-page.ensures.knows),
      goes_on pool_page_at (map arc_value c.loop.pages.items) c.args.count c.loop.counter
          (map arc_value c.loop.pages.items) c.loop.cursor
          (c.in_ok-page.page, map arc_value c.loop.pages.items ++ c.in_ok-page.page ∷ []) c.pool_page.new.cursor _
          c.loop-test.true (rw c.deref.ensures.value at c.in_ok-page.ensures.given) c.loop.invariant.1,
    )
