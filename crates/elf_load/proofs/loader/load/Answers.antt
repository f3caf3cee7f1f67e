-- Answers to the goals that the check of `load` leaves open.
use Rattle.std.proofs.Common.{is_none, sym, ap, ◌∙◌}
use Rattle.elf_spec.specs.Image.{is_image}
use Rattle.elf_load.proofs.loader.load.Goals as goal

pub image_of-requires-clause-accepted : goal.image_of-requires-clause-accepted
unfolding is_image
image_of-requires-clause-accepted c = ap is_none (sym c.in_ok-refusal.ensures ∙ c.in-None.is)
