-- Answers to the goals that the check of `no_edit_replays_the_history` leaves open.
use Rattle.std.proofs.Common.{Some, subst}
use Rattle.machine_spec.specs.Setup.{Setup}
use Rattle.round_spec.specs.Rounds.{opening}
use Rattle.round_spec.specs.Replaying.{IsReplaying}
use Rattle.round_spec.proofs.Replay.{replays-start, replays-on, replays-next, replays-end, replays-instructions}
use Rattle.round_spec.proofs.no_edit_replays_the_history.Goals as goal

pub returns-clause-start : goal.returns-clause-start
returns-clause-start c =
    λ h setup repeats. subst (λ (s : Setup). IsReplaying h (opening s (Some h))) repeats.same (replays-start h)

pub returns-clause-event : goal.returns-clause-event
returns-clause-event c = replays-on

pub returns-clause-next : goal.returns-clause-next
returns-clause-next c = replays-next

pub returns-clause-instructions : goal.returns-clause-instructions
returns-clause-instructions c = replays-instructions

pub returns-clause-reuses : goal.returns-clause-reuses
returns-clause-reuses c = replays-end
