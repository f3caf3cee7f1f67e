-- What the calls of a worker do to the round under the lock.
use Rattle.std.specs.Prelude.{◌≡◌, ◌+◌, ◌<◌, ℕ, zero, suc, ⊤, length}
use Rattle.std.specs.Arc.{arc_value}
use Rattle.thunk_spec.specs.Thunk.{Frame}
use Rattle.release_core.specs.Jobs.{IsJobOf}
use Rattle.thunk_run.specs.declared.run.Run.{Run}
use Rattle.round_spec.specs.declared.events.Event.TheVariants.{Take, Reuse, Commit, GiveBack, Stop}
use Rattle.round_spec.specs.declared.events.Pick.{Pick}
use Rattle.round_spec.specs.declared.events.Pick.TheVariants as pick
use Rattle.round_spec.specs.Rounds.{RoundState, happens}
use Rattle.round_spec.specs.Choice.{pick_of}
use Rattle.propagate.specs.Committing.{CanCommit}
use Rattle.rerun_workers.specs.declared.locked.Task.{Task}
use Rattle.rerun_workers.specs.declared.locked.Task.TheVariants as task
use Rattle.rerun_workers.specs.declared.locked.CommitOutcome.{CommitOutcome}
use Rattle.rerun_workers.specs.declared.locked.CommitOutcome.TheVariants as outcome

-- A round after a pick to reuse a record was followed. Any other pick changes nothing.
abbrev pub with_reuse : RoundState → Pick → RoundState
with_reuse w (pick.Reuse t) = happens w (Reuse t)
with_reuse w (pick.Run t) = w
with_reuse w pick.Hold = w
with_reuse w pick.Over = w

-- A round after so many picks, of which those to reuse a record were followed.
abbrev pub settled : ℕ → RoundState → RoundState
settled zero w = w
settled (suc n) w = with_reuse (settled n w) (pick_of (settled n w))

-- The task of a worker on a settled round, and the round then. A step to execute is the one that is picked, and was
-- taken. A worker has to wait, or the round is finished, if that is picked. If memory ran out, the round was stopped.
abbrev pub AssignsAfter : RoundState → Task → RoundState → Type 0
AssignsAfter w (task.Begin job) new =
    (pick_of w ≡ pick.Run job.thread) × IsJobOf w.machine job.thread job × (new ≡ happens w (Take job.thread))
AssignsAfter w task.Hold new = (pick_of w ≡ pick.Hold) × (new ≡ w)
AssignsAfter w task.Over new = (pick_of w ≡ pick.Over) × (new ≡ w)
AssignsAfter w task.NoMemory new = new ≡ happens w Stop

-- The task of a worker: records are reused as long as that is picked, and then comes what is picked.
abbrev pub Assigns : RoundState → Task → RoundState → Type 0
Assigns old assigned new = (n : ℕ) × AssignsAfter (settled n old) assigned new

-- The task isn't to execute a step.
abbrev pub BeginsNothing : Task → Type 0
BeginsNothing (task.Begin job) = ⊥
BeginsNothing task.Hold = ⊤
BeginsNothing task.Over = ⊤
BeginsNothing task.NoMemory = ⊤

-- How many steps a task assigns.
abbrev pub begun_by : Task → ℕ
begun_by (task.Begin job) = 1
begun_by task.Hold = 0
begun_by task.Over = 0
begun_by task.NoMemory = 0

-- A worker that is assigned a step has executed, or holds, fewer steps than it was assigned.
abbrev pub IsReady : Task → ℕ → ℕ → Type 0
IsReady (task.Begin job) ran taken = ran < taken
IsReady task.Hold ran taken = ⊤
IsReady task.Over ran taken = ⊤
IsReady task.NoMemory ran taken = ⊤

-- A step to execute has this page map and this fuel.
abbrev pub BeginsIn : Frame → Task → Type 0
BeginsIn f (task.Begin job) = arc_value job.frame ≡ f
BeginsIn f task.Hold = ⊤
BeginsIn f task.Over = ⊤
BeginsIn f task.NoMemory = ⊤

-- A round after a taken step was discarded and the round was stopped.
abbrev pub given_up : RoundState → ℕ → RoundState
given_up w t = happens (happens w (GiveBack t)) Stop

-- What comes of a run that a worker submits. If it can be committed, it is an entry. If it can't, it is returned, and
-- its thread is no longer in flight. If it can be but memory ran out, the same holds, and the round was stopped.
abbrev pub Lands : RoundState → Run → CommitOutcome → RoundState → Type 0
Lands old run outcome.Done new =
    CanCommit old (arc_value run.frame) (arc_value run.rec) × (new ≡ happens old (Commit (arc_value run.rec).thread))
Lands old run (outcome.Stale back) new =
    (CanCommit old (arc_value run.frame) (arc_value run.rec) → ⊥) × (back ≡ run)
    × (new ≡ happens old (GiveBack (arc_value run.rec).thread))
Lands old run (outcome.NoMemory back) new =
    CanCommit old (arc_value run.frame) (arc_value run.rec) × (back ≡ run)
    × (new ≡ given_up old (arc_value run.rec).thread)

-- How many steps a worker has made by a run that it submitted.
abbrev pub steps_by : CommitOutcome → ℕ
steps_by outcome.Done = 1
steps_by (outcome.Stale back) = 0
steps_by (outcome.NoMemory back) = 0

-- A run that doesn't become an entry is returned unchanged.
abbrev pub ReturnsRun : Run → CommitOutcome → Type 0
ReturnsRun run outcome.Done = ⊤
ReturnsRun run (outcome.Stale back) = back ≡ run
ReturnsRun run (outcome.NoMemory back) = back ≡ run

-- A worker's steps rose by as many as the round's entries.
abbrev pub Counts : ℕ → RoundState → ℕ → RoundState → Type 0
Counts before old now new = now + length old.schedule ≡ before + length new.schedule
