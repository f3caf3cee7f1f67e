-- The bytes that a put appends to the output: read in the view with the thunk's own stores applied.
use Rattle.std.specs.Prelude.{ℕ, ◌%◌, Bool, if◌then◌else◌, List, [], Option, Some, map, slice_index_or}
use Rattle.std.specs.List.{list_all, range_with_len}
use Rattle.isa_spec.specs.Registers.{Registers, register}
use Rattle.memory_spec.specs.Pages.{Mapped, Memory, allows, read_right, permission_at, slot_of, page_of}
use Rattle.guest_call.specs.declared.Call.{Call}
use Rattle.guest_call.specs.declared.Call.TheVariants.{Put}
use Rattle.guest_call.specs.Numbers.{call_of}
use Rattle.guest_call.specs.Objects.{appends}
use Rattle.thunk_spec.specs.declared.ends.ThunkEnd.{ThunkEnd}
use Rattle.thunk_spec.specs.declared.ends.ThunkEnd.TheVariants as thunk_end

-- The call that an ECALL at these registers requests: its number is in a7, its arguments in a0 and a1.
abbrev pub call_at : Registers → Option Call
call_at r = call_of (register r 17) (register r 10) (register r 11)

-- Whether each of so many bytes from an address on may be read.
unfoldable pub is_readable : List Mapped → ℕ → ℕ → Bool
is_readable pages address count =
    list_all (λ a. allows read_right (permission_at pages a)) (range_with_len address count)

-- The addresses of the bytes that a call appends to the output: all of a put that appends its bytes, else none.
-- (POSIX.1-2017, write)
abbrev pub appended_by : List Mapped → Option Call → List ℕ
appended_by pages (Some (Put address count)) =
    if appends (is_readable pages) address count then range_with_len address count else []
appended_by pages _ = []

-- The addresses of the bytes that a thunk with this end and these registers appends.
unfoldable pub put_addresses : List Mapped → ThunkEnd → Registers → List ℕ
put_addresses pages thunk_end.Call r = appended_by pages (call_at r)
put_addresses pages (thunk_end.Trap cause) r = []
put_addresses pages thunk_end.Fuel r = []

-- The byte at an address.
abbrev pub byte_at : List Mapped → Memory → ℕ → ℕ
byte_at pages memory address = slice_index_or (page_of memory (slot_of pages address)) (address % 4096) 0

-- The bytes at addresses.
abbrev pub bytes_at : List Mapped → Memory → List ℕ → List ℕ
bytes_at pages memory addresses = map (byte_at pages memory) addresses
