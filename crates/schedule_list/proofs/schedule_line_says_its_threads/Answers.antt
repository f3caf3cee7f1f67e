-- The law is a lemma.
use Rattle.schedule_list.proofs.Lines.{line-says}
use Rattle.schedule_list.proofs.schedule_line_says_its_threads.Goals as goal

pub returns : goal.returns
returns c = line-says
