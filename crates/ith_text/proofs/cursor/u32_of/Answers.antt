-- Answers to the goals that the check of `u32_of` leaves open.
use Rattle.std.proofs.Common.{rules}
use Rattle.ith_text.proofs.Encoding.{encoded_four}
use Rattle.ith_text.proofs.cursor.u32_of.Goals as goal

pub returns : goal.returns
returns c = encoded_four c.args.piece.now c.read_u32.result c.requires (search rules) c.read_u32.ensures
