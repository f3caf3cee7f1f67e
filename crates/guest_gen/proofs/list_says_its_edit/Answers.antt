-- The law is a lemma.
use Rattle.guest_gen.proofs.Lists.{list-says}
use Rattle.guest_gen.proofs.list_says_its_edit.Goals as goal

pub returns : goal.returns
returns c = list-says
