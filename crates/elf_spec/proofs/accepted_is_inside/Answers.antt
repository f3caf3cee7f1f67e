-- The laws are lemmas.
use Rattle.elf_spec.proofs.Touched.{pages_inside, image_ascends}
use Rattle.elf_spec.proofs.accepted_is_inside.Goals as goal

pub returns : goal.returns
returns c =
    record { map = image_ascends c.args.bytes.now c.requires; inside = pages_inside c.args.bytes.now c.requires }
