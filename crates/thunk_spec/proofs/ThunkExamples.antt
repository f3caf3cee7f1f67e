-- Worked examples of thunks, each computed by the checker. The values were worked out by hand.
use Rattle.std.proofs.Common.{◌≡◌, ℕ, true, false, [], ◌∷◌, refl}
use Rattle.isa_spec.specs.declared.Cause.TheVariants.{LoadMisaligned}
use Rattle.isa_spec.specs.Fields.{i_immediate, s_immediate, u_immediate}
use Rattle.isa_spec.specs.Registers.{Registers, with_register}
use Rattle.isa_spec.specs.Operations.{immediate_result}
use Rattle.isa_spec.specs.Table.{decoded, reading_of}
use Rattle.memory_spec.specs.Pages.{permission_at}
use Rattle.memory_spec.specs.Stores.{with_byte}
use Rattle.memory_spec.specs.Access.{number_in, number_at, loaded, fetched, may_store, bytes_stored}
use Rattle.memory_spec.specs.Workspace.{taken_at}
use Rattle.thunk_spec.specs.declared.ends.ThunkEnd.TheVariants.{Call, Trap, Fuel}
use Rattle.thunk_spec.specs.Put.{is_readable, put_addresses}
use Rattle.thunk_spec.specs.Turn.{turn}
use Rattle.thunk_spec.specs.Thunk.{thunk}
use Rattle.thunk_spec.proofs.Guests.{map, frame_of, start, hi, self, trap}

-- the registers with a value in each of three, and the pc somewhere
abbrev pub at : ℕ → ℕ → ℕ → ℕ → ℕ → Registers
at pc t0 t1 a0 a7 =
    record {
      pc = pc;
      x = 0 ∷ 0 ∷ 0 ∷ 0 ∷ 0 ∷ t0 ∷ t1 ∷ 0 ∷ 0 ∷ 0 ∷ a0 ∷ 0 ∷ 0 ∷ 0 ∷ 0 ∷ 0 ∷ 0 ∷ a7 ∷ 0 ∷ 0 ∷ 0 ∷ 0 ∷ 0 ∷ 0 ∷ 0 ∷ 0
          ∷ 0 ∷ 0 ∷ 0 ∷ 0 ∷ 0 ∷ 0 ∷ [];
    }

-- The first thunk of the guest that prints makes five turns, of which the last is the ECALL, where the pc stays. Its
-- put appends "hi\n", whose addresses count as taken.
pub hi-thunk :
    thunk (frame_of 5) hi (start 0 0)
    ≡ record {
      regs = with_register (at 0x10010 0 0 0x10020 1) 11 3;
      end = Call;
      count = 5;
      taken = 0x10000 ∷ 0x10004 ∷ 0x10008 ∷ 0x1000C ∷ 0x10010 ∷ 0x10020 ∷ 0x10021 ∷ 0x10022 ∷ [];
      stores = [];
      put = 0x68 ∷ 0x69 ∷ 0x0A ∷ [];
    }
unfolding thunk turn fetched number_at number_in permission_at decoded reading_of u_immediate i_immediate
    immediate_result with_register is_readable put_addresses
hi-thunk = refl

-- With one turn less it ends by the fuel before the ECALL, and nothing is put.
pub hi-fuel :
    thunk (frame_of 4) hi (start 0 0)
    ≡ record {
      regs = with_register (at 0x10010 0 0 0x10020 1) 11 3;
      end = Fuel;
      count = 4;
      taken = 0x10000 ∷ 0x10004 ∷ 0x10008 ∷ 0x1000C ∷ [];
      stores = [];
      put = [];
    }
unfolding thunk turn fetched number_at number_in permission_at decoded reading_of u_immediate i_immediate
    immediate_result with_register is_readable put_addresses
hi-fuel = refl

-- A guest that stores over its own code sees its store at once: a0 is 9 and not 1.
pub self-thunk :
    thunk (frame_of 9) self (start 0 0)
    ≡ record {
      regs = at 0x10014 0x10000 0x00900513 9 0;
      end = Call;
      count = 6;
      taken = 0x10000 ∷ 0x10004 ∷ 0x10018 ∷ 0x10008 ∷ 0x1000C ∷ 0x10010 ∷ 0x10014 ∷ [];
      stores =
          record { address = 0x10010; byte = 0x13 } ∷ record { address = 0x10011; byte = 0x05 }
          ∷ record { address = 0x10012; byte = 0x90 }
          ∷ record { address = 0x10013; byte = 0x00 } ∷ [];
      put = [];
    }
unfolding thunk turn fetched number_at number_in permission_at decoded reading_of u_immediate i_immediate s_immediate
    immediate_result with_register is_readable put_addresses loaded may_store bytes_stored with_byte
self-thunk = refl

-- A load at a misaligned address ends the thunk by a trap, with the pc at the load; the store before it is kept, and
-- the page that is only stored to isn't one that a byte was taken from.
pub trap-thunk :
    thunk (frame_of 9) trap (start 0 0)
    ≡ record {
      regs = at 0x1000C 0x11000 7 0 0;
      end = Trap LoadMisaligned;
      count = 4;
      taken = 0x10000 ∷ 0x10004 ∷ 0x10008 ∷ 0x1000C ∷ [];
      stores = record { address = 0x11000; byte = 7 } ∷ [];
      put = [];
    }
unfolding thunk turn fetched number_at number_in permission_at decoded reading_of u_immediate i_immediate s_immediate
    immediate_result with_register is_readable put_addresses loaded may_store bytes_stored with_byte
trap-thunk = refl

pub trap-pages : taken_at map (false ∷ false ∷ []) (0x10000 ∷ 0x10004 ∷ 0x10008 ∷ 0x1000C ∷ []) ≡ true ∷ false ∷ []
trap-pages = refl
