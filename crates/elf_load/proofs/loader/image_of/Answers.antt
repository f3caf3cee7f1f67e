-- Answers to the goals that the check of `image_of` leaves open.
use Rattle.std.proofs.Common.{◌∙◌}
use Rattle.elf_spec.specs.Image.{entry_of}
use Rattle.elf_load.proofs.loader.image_of.Goals as goal

pub returns : goal.returns
unfolding entry_of
returns c = record {
  accepted = c.requires.accepted;
  map = c.in_ok-new.ensures ∙ c.requires.mapped;
  pages = c.requires.table;
  start = c.word_at.ensures;
}
