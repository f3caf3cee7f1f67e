-- Worked examples of the bytes that a put takes, each computed by the checker. The values were worked out by hand.
use Rattle.std.proofs.Common.{◌≡◌, true, false, List, [], ◌∷◌, Some, refl}
use Rattle.isa_spec.specs.Fields.{i_immediate, s_immediate, u_immediate}
use Rattle.isa_spec.specs.Registers.{with_register}
use Rattle.isa_spec.specs.Operations.{immediate_result}
use Rattle.isa_spec.specs.Table.{decoded, reading_of}
use Rattle.guest_call.specs.declared.Call.TheVariants.{Put}
use Rattle.memory_spec.specs.Pages.{Mapped, Memory, permission_at}
use Rattle.memory_spec.specs.Stores.{with_byte}
use Rattle.memory_spec.specs.Access.{number_in, number_at, fetched, may_store, bytes_stored}
use Rattle.thunk_spec.specs.Put.{appended_by, is_readable, put_addresses}
use Rattle.thunk_spec.specs.Turn.{turn}
use Rattle.thunk_spec.specs.Thunk.{thunk}
use Rattle.thunk_spec.proofs.Guests.{map, frame_of, start, scratch_page}

-- lui a0,0x11; addi t0,x0,65; sb t0,0(a0); addi a1,x0,2; addi a7,x0,1; ecall
abbrev pub stores_and_puts : Memory
stores_and_puts =
    (0x37 ∷ 0x15 ∷ 0x01 ∷ 0x00 ∷ 0x93 ∷ 0x02 ∷ 0x10 ∷ 0x04 ∷ 0x23 ∷ 0x00 ∷ 0x55 ∷ 0x00 ∷ 0x93 ∷ 0x05 ∷ 0x20 ∷ 0x00
    ∷ 0x93 ∷ 0x08 ∷ 0x10 ∷ 0x00 ∷ 0x73 ∷ 0x00 ∷ 0x00 ∷ 0x00 ∷ [])
    ∷ scratch_page ∷ []

-- A put takes the thread's own store if there is one, and else the view's byte; both addresses count as taken.
pub put-own_store : (thunk (frame_of 9) stores_and_puts (start 0 0)).put ≡ 65 ∷ 0xFF ∷ []
unfolding thunk turn fetched number_at number_in permission_at decoded reading_of u_immediate i_immediate s_immediate
    immediate_result with_register is_readable put_addresses may_store bytes_stored with_byte
put-own_store = refl

pub put-own_store_taken :
    (thunk (frame_of 9) stores_and_puts (start 0 0)).taken ≡ 0x10000 ∷ 0x10004 ∷ 0x10008 ∷ 0x1000C ∷ 0x10010 ∷ 0x10014
    ∷ 0x11000 ∷ 0x11001 ∷ []
unfolding thunk turn fetched number_at number_in permission_at decoded reading_of u_immediate i_immediate s_immediate
    immediate_result with_register is_readable put_addresses may_store bytes_stored with_byte
put-own_store_taken = refl

-- Four bytes that lie on two pages are all taken.
pub put-two_pages : appended_by map (Some (Put 0x10FFE 4)) ≡ 0x10FFE ∷ 0x10FFF ∷ 0x11000 ∷ 0x11001 ∷ []
unfolding is_readable permission_at
put-two_pages = refl

-- If the last byte may not be read, none is taken; nor if there are none.
pub put-past_the_map : appended_by map (Some (Put 0x11FFF 2)) ≡ []
unfolding is_readable permission_at
put-past_the_map = refl

pub put-none : appended_by map (Some (Put 0x11000 0)) ≡ []
unfolding is_readable permission_at
put-none = refl

-- a page to read and execute, and one to write and execute
abbrev pub half_readable : List Mapped
half_readable = record { number = 0x10; permission = 5 } ∷ record { number = 0x11; permission = 3 } ∷ []

-- A put needs R, on the page of each of its bytes.
pub put-needs_read : is_readable half_readable 0x10FFE 2 ≡ true
unfolding is_readable permission_at
put-needs_read = refl

pub put-no_read : is_readable half_readable 0x10FFF 2 ≡ false
unfolding is_readable permission_at
put-no_read = refl

-- lui a0,0x11; addi t0,x0,65; sb t0,0(a0); addi t0,x0,66; sb t0,0(a0)
abbrev pub stores_twice : Memory
stores_twice =
    (0x37 ∷ 0x15 ∷ 0x01 ∷ 0x00 ∷ 0x93 ∷ 0x02 ∷ 0x10 ∷ 0x04 ∷ 0x23 ∷ 0x00 ∷ 0x55 ∷ 0x00 ∷ 0x93 ∷ 0x02 ∷ 0x20 ∷ 0x04
    ∷ 0x23 ∷ 0x00 ∷ 0x55 ∷ 0x00 ∷ [])
    ∷ scratch_page ∷ []

-- The stores of a thunk are in the order in which they were made.
pub stores-in_order :
    (thunk (frame_of 5) stores_twice (start 0 0)).stores ≡ record { address = 0x11000; byte = 65 }
    ∷ record { address = 0x11000; byte = 66 } ∷ []
unfolding thunk turn fetched number_at number_in permission_at decoded reading_of u_immediate i_immediate s_immediate
    immediate_result with_register is_readable put_addresses may_store bytes_stored with_byte
stores-in_order = refl
