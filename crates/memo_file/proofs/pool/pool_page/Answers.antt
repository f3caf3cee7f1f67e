-- Answers to the goals that the check of `pool_page` leaves open.
use Rattle.std.specs.Arc.{arc_value}
use Rattle.std.proofs.Common.{map}
use Rattle.std.proofs.lemmas.Map.Text.{btree_map_updates_str}
use Rattle.memo_file.proofs.Seeing.{knows_more}
use Rattle.memo_file.proofs.pool.pool_page.Goals as goal

pub returns-in-None-clause-knows : goal.returns-in-None-clause-knows
returns-in-None-clause-knows c = λ q.
    rw c.page_of.ensures (knows_more (map arc_value c.args.pages.now) c.in_ok-piece.piece.now q _ _ _
    (c.requires.knows q) (btree_map_updates_str c.in_ok-piece.piece.now c.args.seen.now c.insert.new.self _
    c.in_ok-insert.ensures.updates q))
