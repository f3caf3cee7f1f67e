-- The result of running a thunk, and how many turns it makes.
use Rattle.std.specs.Prelude.{◌≡◌, ◌≤◌, ℕ}
use Rattle.std.specs.Arc.{arc_value}
use Rattle.thunk_spec.specs.Record.{kept_thunk}
use Rattle.thunk_record.specs.declared.job.Job.{Job}
use Rattle.thunk_run.specs.declared.run.Run.{Run}

-- The result of running a job.
pub record IsRunOf (job : Job) (run : Run) : Type 0 where
  pub frame : arc_value run.frame ≡ arc_value job.frame
  pub thread : (arc_value run.rec).thread ≡ job.thread
  pub number : (arc_value run.rec).number ≡ job.number
  pub start : (arc_value run.rec).start ≡ job.regs
  pub kept : (arc_value run.rec).kept ≡ kept_thunk (arc_value job.frame) (arc_value job.view) job.regs

-- A number of turns is from 1 to the fuel, or 0 if there is no fuel.
pub record IsWithinFuel (fuel count : ℕ) : Type 0 where
  pub some : 1 ≤ fuel → 1 ≤ count
  pub most : count ≤ fuel
