-- The law is a lemma.
use Rattle.elf_spec.specs.Header.{segments}
use Rattle.elf_spec.proofs.Touched.{numbers-image_pages, page_numbers_ascend}
use Rattle.elf_spec.proofs.pages_ascend.Goals as goal

pub returns : goal.returns
returns c = rw numbers-image_pages (page_numbers_ascend (segments c.args.bytes.now))
