-- Answers to the goals that the check of `all_readable` leaves open.
use Rattle.std.proofs.Common.{arith}
use Rattle.page_store.proofs.Ends.{readable_ends}
use Rattle.page_store.proofs.range.all_readable.Goals as goal

pub returns-then-first_is_readable : goal.returns-then-first_is_readable
returns-then-first_is_readable c =
    grind (
      arith,
      readable_ends c.args.map.now c.args.range.start c.args.range.len c.last-last.result c.requires.some
          c.requires.few
          c.last-last.ensures,
    )

pub returns-else-first_is_readable : goal.returns-else-first_is_readable
returns-else-first_is_readable c =
    grind (
      arith,
      readable_ends c.args.map.now c.args.range.start c.args.range.len c.last-last.result c.requires.some
          c.requires.few
          c.last-last.ensures,
    )
