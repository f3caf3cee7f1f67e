-- Answers to the goals that the check of `rounds_stay_of_their_setup` leaves open.
use Rattle.round_spec.proofs.Leaving.{round-setup, round-past}
use Rattle.round_spec.proofs.rounds_stay_of_their_setup.Goals as goal

pub returns-clause-setup : goal.returns-clause-setup
returns-clause-setup c = round-setup

pub returns-clause-past : goal.returns-clause-past
returns-clause-past c = round-past
