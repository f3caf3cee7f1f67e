-- The law is a lemma.
use Rattle.elf_spec.proofs.Touched.{pages_touched}
use Rattle.elf_spec.proofs.pages_are_the_touched.Goals as goal

pub returns : goal.returns
returns c = pages_touched c.args.bytes.now
