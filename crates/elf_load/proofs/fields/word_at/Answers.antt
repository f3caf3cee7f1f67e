-- Answers to the goals that the check of `word_at` leaves open.
use Rattle.elf_load.proofs.Words.{word_from_bytes}
use Rattle.elf_load.proofs.fields.word_at.Goals as goal

pub returns : goal.returns
returns c =
    word_from_bytes c.args.bytes.now c.args.offset c.byte_at.result c.byte_at-2.result c.byte_at-3.result
    c.byte_at-4.result c.read_u32.result c.byte_at.ensures c.byte_at-2.ensures c.byte_at-3.ensures c.byte_at-4.ensures
    c.read_u32.ensures
