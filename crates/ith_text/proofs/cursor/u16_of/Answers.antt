-- Answers to the goals that the check of `u16_of` leaves open.
use Rattle.std.proofs.Common.{rules}
use Rattle.ith_text.proofs.Encoding.{encoded_two}
use Rattle.ith_text.proofs.cursor.u16_of.Goals as goal

pub returns : goal.returns
returns c = encoded_two c.args.piece.now c.read_u16.result c.requires (search rules) c.read_u16.ensures
