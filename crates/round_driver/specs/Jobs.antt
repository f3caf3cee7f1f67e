-- The steps that were taken.
use Rattle.std.specs.Prelude.{◌≡◌, ℕ, true, List, Option, Some, None, is_some, length, slice_index_or}
use Rattle.machine_spec.specs.Machine.{Machine}
use Rattle.thunk_record.specs.declared.job.Job.{Job}
use Rattle.release_core.specs.Jobs.{IsJobOf}
use Rattle.round_spec.specs.Rounds.{RoundState, is_in_flight}

-- There is a job, and it is the next step of a thread of a machine.
pub record IsHeldFor (m : Machine) (t : ℕ) (held : Option Job) : Type 0 where
  pub there : is_some held ≡ true
  pub own : (job : Job) → held ≡ Some job → IsJobOf m t job

-- For each thread of a round that is in flight there is the job of its next step.
pub record HaveJobs (w : RoundState) (jobs : List (Option Job)) : Type 0 where
  pub count : length jobs ≡ 32
  pub held : (t : ℕ) → is_in_flight w t ≡ true → IsHeldFor w.machine t (slice_index_or jobs t None)
