-- A record of a finished thunk: what is kept of it, when it is true, and when it fits.
use Rattle.std.specs.Prelude.{◌≡◌, ℕ, Bool, true, nat_le, ◌&&◌, ◌==◌, List}
use Rattle.isa_spec.specs.Registers.{Registers, same_registers}
use Rattle.memory_spec.specs.Pages.{Mapped, Memory, IsMemory}
use Rattle.memory_spec.specs.Stores.{with_stores}
use Rattle.thunk_spec.specs.declared.ends.ThunkEnd.{ThunkEnd}
use Rattle.thunk_spec.specs.declared.ends.ThunkEnd.TheVariants as thunk_end
use Rattle.thunk_spec.specs.Put.{put_addresses, bytes_at}
use Rattle.thunk_spec.specs.Thunk.{Frame, Thunk, thunk}
use Rattle.thunk_spec.specs.Delta.{PageDelta, delta_of, masked}
use Rattle.thunk_spec.specs.Reads.{ReadPage, reads_of, has}

-- What a record keeps of a thunk: its read pages, its stored bytes, its last registers, its end and its count of turns.
pub record Kept : Type 0 where
  pub reads : List ReadPage
  pub delta : List PageDelta
  pub finish : Registers
  pub end : ThunkEnd
  pub count : ℕ

-- What is kept of a thunk that ran on a view.
abbrev pub kept : List Mapped → Memory → Thunk → Kept
kept map view t =
    record {
      reads = reads_of map view t.taken;
      delta = delta_of map t.stores;
      finish = t.regs;
      end = t.end;
      count = t.count;
    }

-- What is kept of the thunk of these registers on this view.
unfoldable pub kept_thunk : Frame → Memory → Registers → Kept
kept_thunk f view r = kept f.map view (thunk f view r)

-- The bytes that the put which ends a kept thunk appends. They aren't kept: they follow from the view and the stored
-- bytes.
unfoldable pub put_of : List Mapped → Memory → Kept → List ℕ
put_of map view k = bytes_at map (masked view k.delta) (put_addresses map k.end k.finish)

-- A record: the thunk of a thread's step of this number, from its start registers on.
pub record Record : Type 0 where
  pub thread : ℕ
  pub number : ℕ
  pub start : Registers
  pub kept : Kept

-- What is kept is true of these start registers: on every view that has the bytes of the read pages, exactly this is
-- kept of the thunk.
pub record IsTrue (f : Frame) (start : Registers) (k : Kept) : Type 0 where
  pub same : (view : Memory) → IsMemory f.map view → has view k.reads ≡ true → kept_thunk f view start ≡ k

-- Whether a thunk of this fuel may end so after so many turns: they are no more than the fuel, and just as many if the
-- fuel ended it.
unfoldable pub may_end : ℕ → ThunkEnd → ℕ → Bool
may_end fuel thunk_end.Call count = nat_le count fuel
may_end fuel (thunk_end.Trap cause) count = nat_le count fuel
may_end fuel thunk_end.Fuel count = count == fuel

-- Whether a record fits a thread that has made so many steps, with these registers and this view, in a run of this
-- fuel.
unfoldable pub fits_at : Record → ℕ → Registers → Memory → ℕ → Bool
fits_at r number regs view fuel =
    (r.number == number) && same_registers r.start regs && has view r.kept.reads
    && may_end fuel r.kept.end r.kept.count

-- What is kept can replace the thunk of these registers on this view: writing its stored bytes into a memory is
-- applying the thunk's stores to it; registers, end and count are the thunk's; and so are the bytes of its put.
pub record StandsFor (f : Frame) (view memory : Memory) (start : Registers) (k : Kept) : Type 0 where
  pub memory_is : masked memory k.delta ≡ with_stores f.map memory (thunk f view start).stores
  pub finish_is : k.finish ≡ (thunk f view start).regs
  pub end_is : k.end ≡ (thunk f view start).end
  pub count_is : k.count ≡ (thunk f view start).count
  pub put_is : put_of f.map view k ≡ (thunk f view start).put
