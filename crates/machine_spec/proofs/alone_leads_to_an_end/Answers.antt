-- The laws are lemmas.
use Rattle.machine_spec.proofs.Alone.{alone-permitted, alone-complete}
use Rattle.machine_spec.proofs.alone_leads_to_an_end.Goals as goal

pub returns-clause-permitted : goal.returns-clause-permitted
returns-clause-permitted c = alone-permitted

pub returns-clause-complete : goal.returns-clause-complete
returns-clause-complete c = alone-complete
