-- The law is a lemma.
use Rattle.elf_spec.proofs.ImageMemory.{IsMemory-image}
use Rattle.elf_spec.proofs.memory_is_of_pages.Goals as goal

pub returns : goal.returns
returns c = IsMemory-image c.args.bytes.now
