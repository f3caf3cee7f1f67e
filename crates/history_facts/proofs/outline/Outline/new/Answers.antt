-- Answers to the goals that the check of `Outline::new` leaves open.
use Rattle.history_facts.proofs.Outlining.{outline-first}
use Rattle.history_facts.proofs.outline.Outline.new.Goals as goal

pub returns-clause-outline : goal.returns-clause-outline
returns-clause-outline c = outline-first c.args.setup.now _ _ c.in_ok-page_map.ensures.map c.in_ok-new.ensures
