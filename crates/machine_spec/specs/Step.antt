-- One step of a thread: its thunk, the call that ends it, and the end that is looked for after it.
use Rattle.std.specs.Prelude.{ℕ, suc, Bool, not, ◌&&◌, nat_le, if◌then◌else◌, List, ◌++◌, slice_set, Option, Some, None, is_none}
use Rattle.std.specs.List.{list_all, list_any}
use Rattle.isa_spec.specs.declared.Cause.TheVariants.{BadCall}
use Rattle.isa_spec.specs.Registers.{Registers}
use Rattle.memory_spec.specs.Pages.{Memory}
use Rattle.memory_spec.specs.Stores.{with_stores}
use Rattle.guest_call.specs.declared.Call.{Call}
use Rattle.guest_call.specs.declared.Fate.{Fate}
use Rattle.guest_call.specs.declared.Fate.TheVariants.{Returns, Blocks, Ends, Exits}
use Rattle.guest_call.specs.Effect.{Effect}
use Rattle.guest_call.specs.Objects.{Objects, act}
use Rattle.thunk_spec.specs.declared.ends.ThunkEnd.{ThunkEnd}
use Rattle.thunk_spec.specs.declared.ends.ThunkEnd.TheVariants as thunk_end
use Rattle.thunk_spec.specs.Put.{call_at, is_readable}
use Rattle.thunk_spec.specs.Thunk.{thunk}
use Rattle.thunk_spec.specs.Delta.{masked}
use Rattle.thunk_spec.specs.Record.{Record, put_of, fits_at}
pub use Rattle.machine_spec.specs.declared.states.Asked.{Asked}
pub use Rattle.machine_spec.specs.declared.states.Asked.TheVariants.{Asks, Stops}
use Rattle.machine_spec.specs.declared.states.End.{End}
use Rattle.machine_spec.specs.declared.states.End.TheVariants as end
use Rattle.machine_spec.specs.Machine.{Hart, Machine, hart_of, is_ready, is_ended}
use Rattle.machine_spec.specs.Performing.{settled}

-- A hart after its thunk was written: it has the thunk's last registers, and has made one step more.
abbrev pub advanced : Hart → Registers → Hart
advanced h regs = record { view = h.view; regs = regs; number = suc h.number; status = h.status }

-- The machine after thread t's thunk was written: shared memory, the thread's last registers, one step more, and on the
-- output the bytes of the put that ends it, if one does. Each call releases.
abbrev pub written : Machine → ℕ → Memory → Registers → List ℕ → Machine
written m t memory regs put =
    record m {
      memory = memory;
      harts =
          slice_set m.harts t (advanced (hart_of m t) regs);
      output = m.output ++ put;
      steps = suc m.steps;
    }

-- An ECALL requests its call; one whose number is in no row of the table is a trap, at the ECALL.
abbrev pub asked_call : ℕ → Registers → Option Call → Asked
asked_call t r (Some call) = Asks call
asked_call t r None = Stops (end.Trap t r.pc BadCall)

-- What thread t's thunk with this end and these last registers requests.
abbrev pub asked : ℕ → ThunkEnd → Registers → Asked
asked t thunk_end.Call r = asked_call t r (call_at r)
asked t (thunk_end.Trap cause) r = Stops (end.Trap t r.pc cause)
asked t thunk_end.Fuel r = Stops end.Spent

-- The end that the caller's fate makes. (POSIX.1-2017, exit)
abbrev pub fate_end : Fate → Option End
fate_end (Returns a0 a1) = None
fate_end Blocks = None
fate_end (Ends value) = None
fate_end (Exits code) = Some (end.Exit code)

-- The end that the state makes: all threads have ended; none is ready; the schedule is as long as the limit.
abbrev pub state_end : List Hart → ℕ → ℕ → Option End
state_end harts limit steps =
    if list_all (λ (h : Hart). is_ended h.status) harts then Some (end.Exit 0)
    else if not (list_any (λ (h : Hart). is_ready h.status) harts) then Some end.Deadlock
    else if nat_le limit steps then Some end.Spent
    else None

-- The end after a call: that of the caller's fate comes before that of the state.
abbrev pub end_after : Option End → List Hart → ℕ → ℕ → Option End
end_after (Some e) harts limit steps = Some e
end_after None harts limit steps = state_end harts limit steps

-- The machine after an effect and the new objects of a call of thread t, with the end looked for.
abbrev pub performed : Machine → ℕ → Effect × Objects → Machine
performed m t r =
    record m {
      harts = settled r.0 m.memory t m.harts;
      objects = r.1;
      ending = end_after (fate_end r.0.fate) (settled r.0 m.memory t m.harts) m.limit m.steps;
    }

-- The machine after what a thunk requested was done.
abbrev pub done_as_asked : Machine → ℕ → Asked → Machine
done_as_asked m t (Asks call) = performed m t (act (is_readable m.frame.map) m.objects t call)
done_as_asked m t (Stops e) = record m { ending = Some e }

-- All that follows the writing of thread t's thunk into shared memory: its registers and number, the call, the answers,
-- the views, the end.
unfoldable pub finished : Machine → ℕ → Memory → Registers → ThunkEnd → List ℕ → Machine
finished m t memory regs e put = done_as_asked (written m t memory regs put) t (asked t e regs)

-- One step of thread t: its thunk is run on its view, and its stores are applied to shared memory in order.
unfoldable pub step : Machine → ℕ → Machine
step m t =
    let done = thunk m.frame (hart_of m t).view (hart_of m t).regs in
    finished m t (with_stores m.frame.map m.memory done.stores) done.regs done.end done.put

-- One record in a step's place: its masked bytes are written into shared memory.
unfoldable pub apply : Machine → Record → Machine
apply m r =
    finished m r.thread (masked m.memory r.kept.delta) r.kept.finish r.kept.end
    (put_of m.frame.map (hart_of m r.thread).view r.kept)

-- Whether a record fits: its thread is ready, at its number, with its start registers and the bytes of its read pages,
-- and its thunk may have ended so under the fuel.
unfoldable pub fits : Machine → Record → Bool
fits m r =
    is_ready (hart_of m r.thread).status
    && fits_at r (hart_of m r.thread).number (hart_of m r.thread).regs (hart_of m r.thread).view m.frame.fuel

-- Whether a thread may make the next step: the machine hasn't ended, and the thread is ready.
abbrev pub can_step : Machine → ℕ → Bool
can_step m t = is_none m.ending && is_ready (hart_of m t).status
