-- Answers to the goals that the check of `records_are_mapped` leaves open.
use Rattle.history_spec.proofs.Mapped.{record-mapped, setup-mapped, honest-mapped}
use Rattle.history_spec.proofs.records_are_mapped.Goals as goal

pub returns-clause-step : goal.returns-clause-step
returns-clause-step c = record-mapped

pub returns-clause-scratch : goal.returns-clause-scratch
returns-clause-scratch c = setup-mapped

pub returns-clause-honest : goal.returns-clause-honest
returns-clause-honest c = honest-mapped
