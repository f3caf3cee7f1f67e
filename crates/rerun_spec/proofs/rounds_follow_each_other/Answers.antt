-- Answers to the goals that the check of `rounds_follow_each_other` leaves open.
use Rattle.rerun_spec.specs.Rounds.{from_scratch}
use Rattle.rerun_spec.proofs.Rounds.{numbers-after, setups-after, founds-after, asked-after, at-after, first-past, first-setup, next-after}
use Rattle.rerun_spec.proofs.rounds_follow_each_other.Goals as goal

pub returns-clause-numbers : goal.returns-clause-numbers
returns-clause-numbers c = numbers-after

pub returns-clause-setups : goal.returns-clause-setups
returns-clause-setups c = setups-after

pub returns-clause-found : goal.returns-clause-found
returns-clause-found c = founds-after

pub returns-clause-asked : goal.returns-clause-asked
returns-clause-asked c = asked-after

pub returns-clause-at : goal.returns-clause-at
returns-clause-at c = at-after

pub returns-clause-start : goal.returns-clause-start
returns-clause-start c = first-setup

pub returns-clause-past : goal.returns-clause-past
returns-clause-past c = first-past

pub returns-clause-resulting : goal.returns-clause-resulting
returns-clause-resulting c = λ b inputs found place before after one next.
    (next-after b inputs found place before after one next).left

pub returns-clause-none : goal.returns-clause-none
returns-clause-none c = λ setup asked. first-past (from_scratch setup asked)
