-- The next thunk of a thread.
use Rattle.std.specs.Prelude.{◌≡◌, ℕ}
use Rattle.std.specs.Arc.{arc_value}
use Rattle.machine_spec.specs.Machine.{Machine, hart_of}
use Rattle.thunk_record.specs.declared.job.Job.{Job}

-- A job is the next step of a thread of a machine.
pub record IsJobOf (m : Machine) (t : ℕ) (job : Job) : Type 0 where
  pub frame : arc_value job.frame ≡ m.frame
  pub thread : job.thread ≡ t
  pub number : job.number ≡ (hart_of m t).number
  pub regs : job.regs ≡ (hart_of m t).regs
  pub view : arc_value job.view ≡ (hart_of m t).view
