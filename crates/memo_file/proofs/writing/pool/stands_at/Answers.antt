-- The page at the place was compared.
use Rattle.memo_file.proofs.WritingPool.{lent_stands}
use Rattle.memo_file.proofs.writing.pool.stands_at.Goals as goal

pub returns-in-Some : goal.returns-in-Some
returns-in-Some c = λ h. lent_stands c.args.pool.now c.args.place c.args.page.now c.in-Some.other.now _ c.eq.result
    c.in-Some.ensures.lookup.0 c.in-Some.ensures.lookup.1 c.eq.ensures h
