-- Answers to the goals that the check of `fewer_premises_suffice` leaves open.
use Rattle.std.proofs.Common.{Some}
use Rattle.round_spec.specs.Rounds.{round_after}
use Rattle.round_spec.proofs.Leaving.{round-past}
use Rattle.round_spec.proofs.Entries.{are_in_time}
use Rattle.round_spec.proofs.InRounds.{work-within, works-within, executes-after}
use Rattle.round_spec.proofs.fewer_premises_suffice.Goals as goal

pub returns-clause-work : goal.returns-clause-work
returns-clause-work c = λ old new same. work-within old new same

pub returns-clause-works : goal.returns-clause-works
returns-clause-works c = λ h setup past events works. works-within h (round_after setup past events) works

pub returns-clause-picked : goal.returns-clause-picked
returns-clause-picked c = λ setup h events points picked.
    are_in_time setup (Some h) (round_after setup (Some h) events).schedule points picked

pub returns-clause-executed : goal.returns-clause-executed
returns-clause-executed c = λ h setup events points valid works timely.
    executes-after setup (Some h) events points valid h (round-past setup (Some h) events) works timely
