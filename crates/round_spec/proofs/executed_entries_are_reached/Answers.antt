-- Answers to the goals that the check of `executed_entries_are_reached` leaves open.
use Rattle.round_spec.proofs.InRounds.{reexecutes-after, reexecutes-by}
use Rattle.round_spec.proofs.executed_entries_are_reached.Goals as goal

pub returns-clause-events : goal.returns-clause-events
returns-clause-events c = λ setup past events points valid picked.
    reexecutes-after setup past events points valid picked

pub returns-clause-schedule : goal.returns-clause-schedule
returns-clause-schedule c = λ w points valid along picked. reexecutes-by w points valid along picked
