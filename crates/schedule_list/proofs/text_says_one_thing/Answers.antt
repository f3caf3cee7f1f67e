-- The law is a lemma.
use Rattle.schedule_list.specs.Schedule.{tokens}
use Rattle.schedule_list.proofs.Saying.{one_thing}
use Rattle.schedule_list.proofs.text_says_one_thing.Goals as goal

pub returns : goal.returns
returns c = λ text. one_thing (tokens text)
