-- What holds of every machine that a setup's schedules reach.
use Rattle.std.specs.Prelude.{◌≡◌, ℕ, ◌<◌, ◌≤◌, true, List, length, Option, Some, None, if◌then◌else◌}
use Rattle.std.specs.List.{AllByRecursion, list_any}
use Rattle.memory_spec.specs.Pages.{Mapped, IsMemory}
use Rattle.guest_call.specs.Objects.{Objects, IsKept, waits_at, ended_at}
use Rattle.machine_spec.specs.declared.states.Status.{Status}
use Rattle.machine_spec.specs.declared.states.Status.TheVariants.{Ready, Blocked, Ended}
use Rattle.machine_spec.specs.Limits.{AreLimits}
use Rattle.machine_spec.specs.Machine.{Hart, Machine, hart_in, is_ready, is_blocked}

-- 1 for a thread that is blocked, and else 0.
abbrev pub blocked_count : Status → ℕ
blocked_count status = if is_blocked status then 1 else 0

-- The value that a thread has ended with. (POSIX.1-2017, pthread_exit)
abbrev pub ended_value : Status → Option ℕ
ended_value Ready = None
ended_value Blocked = None
ended_value (Ended value) = Some value

-- Objects and harts agree: they are of as many threads; exactly the threads that wait in a queue are Blocked; and a
-- thread has ended, and with the same value, in both or in neither.
pub record IsTied (o : Objects) (harts : List Hart) : Type 0 where
  pub threads : length o.threads ≡ length harts
  pub kept : IsKept o
  pub blocked : (u : ℕ) → waits_at o u ≡ blocked_count (hart_in harts u).status
  pub ended : (u : ℕ) → u < length harts → ended_at o u ≡ ended_value (hart_in harts u).status

-- A hart of a run: its view is a memory of the map, and it has made no more steps than the run.
pub record IsHartOf (map : List Mapped) (steps : ℕ) (h : Hart) : Type 0 where
  pub view : IsMemory map h.view
  pub number : h.number ≤ steps

-- Memory and harts are of the map and the run; objects and harts agree; fuel and limit are in range; the machine has
-- made no more steps than the limit; and if there is no end, a thread is ready and there is a step more to make.
pub record IsWhole (m : Machine) : Type 0 where
  pub memory : IsMemory m.frame.map m.memory
  pub harts : AllByRecursion (IsHartOf m.frame.map m.steps) m.harts
  pub tied : IsTied m.objects m.harts
  pub limits : AreLimits m.frame.fuel m.limit
  pub few_steps : m.steps ≤ m.limit
  pub some_ready : m.ending ≡ None → list_any (λ (h : Hart). is_ready h.status) m.harts ≡ true
  pub steps_left : m.ending ≡ None → m.steps < m.limit
