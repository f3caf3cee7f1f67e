-- A schedule over an honest history of the same program, each entry of which was in time and stays within the work of
-- an old step.
--
use Rattle.std.proofs.Common.{◌≡◌, ◌<◌, ◌≤◌, ℕ, true, false, List, length, take, get_or, slice_index, Some}
use Rattle.thunk_spec.specs.Record.{Record}
use Rattle.machine_spec.specs.Machine.{Machine, hart_of, is_ready}
use Rattle.machine_spec.specs.Schedule.{record_of}
use Rattle.machine_spec.specs.Setup.{Setup, IsSetup, scratch, is_permitted}
use Rattle.history_spec.specs.History.{History, IsHonest, IsSameProgram, found}
use Rattle.history_spec.specs.Facts.{facts}
use Rattle.round_spec.specs.Due.{is_due_by}
use Rattle.round_spec.specs.Marks.{fits_next}
use Rattle.round_spec.proofs.Placed.{no_record}
use Rattle.round_spec.specs.Working.{IsWithinWork}

-- the record of a place
abbrev pub record_at : List Record → ℕ → Record
record_at records i = get_or records i no_record

-- the machine of a round before entry i of its schedule
abbrev pub machine_at : Setup → List ℕ → ℕ → Machine
machine_at setup schedule i = scratch setup (take i schedule)

-- entry i's thread was in time when there were p entries
pub record IsTimely (h : History) (setup : Setup) (schedule : List ℕ) (i p : ℕ) : Type 0 where
  pub early : p ≤ i
  pub number :
      (hart_of (machine_at setup schedule p) (slice_index schedule i)).number
      ≡ (hart_of (machine_at setup schedule i) (slice_index schedule i)).number
  pub due :
      (u : ℕ) → is_ready (hart_of (machine_at setup schedule p) u).status ≡ true
      → is_due_by (facts h) (machine_at setup schedule p) u ≡ true
      → is_due_by (facts h) (machine_at setup schedule p) (slice_index schedule i) ≡ true

-- the history has a record of the same thread and number, and this one stays within its work
pub record IsWorkOfOld (h : History) (q : Record) : Type 0 where
  pub old : Record
  pub there : found (Some h) q.thread q.number ≡ Some old
  pub work : IsWithinWork old q

-- such a schedule, with the point at which each entry was picked
pub record IsLikeOld (h : History) (setup : Setup) (schedule : List ℕ) (point : ℕ → ℕ) : Type 0 where
  pub honest : IsHonest h
  pub valid : IsSetup setup
  pub program : IsSameProgram h.setup setup
  pub fuel : h.setup.fuel ≡ setup.fuel
  pub permitted : is_permitted setup schedule ≡ true
  pub picked : (i : ℕ) → i < length schedule → IsTimely h setup schedule i (point i)
  pub works :
      (i : ℕ) → i < length schedule
      → fits_next (Some h) (machine_at setup schedule i) (slice_index schedule i) ≡ false
      → IsWorkOfOld h (record_of (machine_at setup schedule i) (slice_index schedule i))
