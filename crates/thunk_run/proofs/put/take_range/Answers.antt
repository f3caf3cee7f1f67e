-- Answers to the goals that the check of `take_range` leaves open.
use Rattle.std.proofs.Common.{arith}
use Rattle.page_store.proofs.Ends.{readable_first}
use Rattle.thunk_run.proofs.put.take_range.Goals as goal

pub take_byte-requires : goal.take_byte-requires
take_byte-requires g c =
    readable_first (g.M.Mem.workspace c.args.mem.now).map c.args.range.start c.args.range.len c.last-last.result
    (omega arith)
    c.requires.few c.last-last.ensures c.requires.readable
