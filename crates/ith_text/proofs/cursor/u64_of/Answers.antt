-- Answers to the goals that the check of `u64_of` leaves open.
use Rattle.std.proofs.Common.{rules}
use Rattle.ith_text.proofs.Encoding.{encoded_eight}
use Rattle.ith_text.proofs.cursor.u64_of.Goals as goal

pub returns : goal.returns
returns c = encoded_eight c.args.piece.now c.read_u64.result c.requires (search rules) c.read_u64.ensures
