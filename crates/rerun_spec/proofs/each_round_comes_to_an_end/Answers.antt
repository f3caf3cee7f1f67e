-- Answers to the goals that the check of `each_round_comes_to_an_end` leaves open.
use Rattle.std.proofs.Common.{◌≡◌, slice_index_or}
use Rattle.history_spec.specs.History.{schedule_of}
use Rattle.round_spec.specs.Keeping.{IsCounted}
use Rattle.rerun_spec.specs.Rounds.{made, resulting_history, schedule_in, rounds_after}
use Rattle.rerun_spec.specs.Making.{ComesToAnEnd}
use Rattle.rerun_spec.proofs.Ending.{all-valid, valid-holds, made-holds, valid-made-holds, round-stops, round-stands, round-steps, round-counts, resulting-own, resulting-found, same-program, same-past, later-past}
use Rattle.rerun_spec.proofs.each_round_comes_to_an_end.Goals as goal

pub returns-clause-runs : goal.returns-clause-runs
returns-clause-runs c = all-valid

pub returns-clause-ends : goal.returns-clause-ends
returns-clause-ends c = made-holds ComesToAnEnd
    (λ workers r is.
    record { ends = round-stops workers r is; steps = round-steps workers r is; entries = round-stands workers r is })

pub returns-clause-records : goal.returns-clause-records
returns-clause-records c = valid-holds (λ r. IsCounted (made r)) round-counts

pub returns-clause-schedule : goal.returns-clause-schedule
returns-clause-schedule c = valid-made-holds (λ r. schedule_of (resulting_history r) ≡ schedule_in r) resulting-found

pub returns-clause-setup : goal.returns-clause-setup
returns-clause-setup c = λ b inputs found k d below. resulting-own (slice_index_or (rounds_after b inputs found) k d)

pub returns-clause-program : goal.returns-clause-program
returns-clause-program c = same-program

pub returns-clause-past : goal.returns-clause-past
returns-clause-past c = same-past

pub returns-clause-later : goal.returns-clause-later
returns-clause-later c = later-past
