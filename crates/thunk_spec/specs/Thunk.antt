-- A thunk: what a thread executes between two environment calls.
use Rattle.std.specs.Prelude.{ℕ, zero, suc, List, [], ◌++◌}
use Rattle.isa_spec.specs.Registers.{Registers}
use Rattle.memory_spec.specs.Pages.{Mapped, Memory}
use Rattle.memory_spec.specs.Stores.{StoredByte, with_stores}
use Rattle.thunk_spec.specs.declared.ends.Outcome.{Outcome}
use Rattle.thunk_spec.specs.declared.ends.Outcome.TheVariants as outcome
use Rattle.thunk_spec.specs.declared.ends.ThunkEnd.{ThunkEnd}
use Rattle.thunk_spec.specs.declared.ends.ThunkEnd.TheVariants as thunk_end
use Rattle.thunk_spec.specs.Turn.{Turn, turn}
use Rattle.thunk_spec.specs.Put.{put_addresses, bytes_at}

-- What every thunk of a run depends on, besides its registers and its view: the page map, and the most turns of one
-- thunk.
pub record Frame : Type 0 where
  pub map : List Mapped
  pub fuel : ℕ

-- What a thunk does: its last registers, how it ends, how many turns it made, an address in each page that it took a
-- byte from, its stores in order, and the bytes that the put which ends it appends.
pub record Thunk : Type 0 where
  pub regs : Registers
  pub end : ThunkEnd
  pub count : ℕ
  pub taken : List ℕ
  pub stores : List StoredByte
  pub put : List ℕ

-- A thunk of no turn.
abbrev pub no_turn : Registers → Thunk
no_turn r = record { regs = r; end = thunk_end.Fuel; count = 0; taken = []; stores = []; put = [] }

-- A thunk of one turn that ended it.
abbrev pub last_turn : ThunkEnd → Turn → Thunk
last_turn end t = record { regs = t.regs; end = end; count = 1; taken = t.taken; stores = t.stores; put = [] }

-- A turn and then the rest of its thunk.
abbrev pub after_turn : Turn → Thunk → Thunk
after_turn t rest =
    record rest { count = suc rest.count; taken = t.taken ++ rest.taken; stores = t.stores ++ rest.stores }

-- A turn with this outcome and, if the next turn follows, the rest of the thunk, from the turn's registers on and with
-- its stores applied.
abbrev pub followed : Outcome → List Mapped → Memory → Turn → (Memory → Registers → Thunk) → Thunk
followed outcome.Next map memory t rest = after_turn t (rest (with_stores map memory t.stores) t.regs)
followed outcome.Call map memory t rest = last_turn thunk_end.Call t
followed (outcome.Trap cause) map memory t rest = last_turn (thunk_end.Trap cause) t

-- Turns up to the first that calls or traps, or as many as the fuel allows.
abbrev pub turns : List Mapped → ℕ → Memory → Registers → Thunk
turns map zero memory r = no_turn r
turns map (suc fuel) memory r = followed (turn map memory r).outcome map memory (turn map memory r) (turns map fuel)

-- Turns and the put that ends them, which takes its bytes as the thread's own loads would: with its stores applied.
abbrev pub with_put : List Mapped → Memory → Thunk → Thunk
with_put map view t =
    record t {
      taken = t.taken ++ put_addresses map t.end t.regs;
      put = bytes_at map (with_stores map view t.stores) (put_addresses map t.end t.regs);
    }

-- The thunk of these registers on this view.
unfoldable pub thunk : Frame → Memory → Registers → Thunk
thunk f view r = with_put f.map view (turns f.map f.fuel view r)
