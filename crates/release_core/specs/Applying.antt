-- When a record may be applied to a machine, why it wasn't, and what is compared to find that.
use Rattle.std.specs.Prelude.{◌≡◌, ℕ, Bool, true, false, ◌&&◌, if◌then◌else◌, is_none, take}
use Rattle.thunk_spec.specs.Record.{Record}
use Rattle.machine_spec.specs.Machine.{Machine, hart_of, is_ready}
use Rattle.machine_spec.specs.Setup.{first}
use Rattle.machine_spec.specs.Step.{fits}
use Rattle.history_spec.specs.History.{History, applied_from}
use Rattle.thunk_record.specs.Comparing.{compared_for}
use Rattle.release_core.specs.declared.core_machine.ApplyError.{ApplyError}
use Rattle.release_core.specs.declared.core_machine.ApplyError.TheVariants.{Stale, NoMemory}

-- Whether a record may be applied: there is no end yet, and it fits.
abbrev pub can_apply : Machine → Record → Bool
can_apply m r = is_none m.ending && fits m r

-- The causes of a refusal: a stale record may not be applied; memory runs out only for one that may.
abbrev pub IsCauseOf : Machine → Record → ApplyError → Type 0
IsCauseOf m r Stale = can_apply m r ≡ false
IsCauseOf m r NoMemory = can_apply m r ≡ true

-- How many read pages are compared to find whether a record fits: none if its thread isn't ready.
abbrev pub compared_on : Machine → Record → ℕ
compared_on m r =
    if is_ready (hart_of m r.thread).status
    then compared_for r (hart_of m r.thread).number (hart_of m r.thread).regs (hart_of m r.thread).view
    else 0

-- The machine after the records of a history before a place.
abbrev pub machine_at : History → ℕ → Machine
machine_at h place = applied_from (first h.setup) (take place h.records)
