-- The laws are lemmas.
use Rattle.std.proofs.lemmas.List.{length-map}
use Rattle.elf_spec.specs.Image.{image_pages, entry_of}
use Rattle.elf_spec.proofs.Rows.{few_pages, sound_start}
use Rattle.elf_spec.proofs.Touched.{page_with_right}
use Rattle.elf_spec.proofs.accepted_is_small.Goals as goal

pub returns-clause-few : goal.returns-clause-few
unfolding image_pages
returns-clause-few c = rw length-map (few_pages c.args.bytes.now c.requires)

pub returns-clause-aligned : goal.returns-clause-aligned
unfolding entry_of
returns-clause-aligned c = (sound_start c.args.bytes.now c.requires).0

pub returns-clause-executable : goal.returns-clause-executable
unfolding entry_of
returns-clause-executable c = page_with_right c.args.bytes.now _ (sound_start c.args.bytes.now c.requires).1
