-- Answers to the goals that the check of `half_word_at` leaves open.
use Rattle.elf_load.proofs.Words.{half_from_bytes}
use Rattle.elf_load.proofs.fields.half_word_at.Goals as goal

pub returns : goal.returns
returns c =
    half_from_bytes c.args.bytes.now c.args.offset c.byte_at.result c.byte_at-2.result c.read_u16.result
    c.byte_at.ensures c.byte_at-2.ensures c.read_u16.ensures
