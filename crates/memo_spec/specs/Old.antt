-- Memos from before the standard extension M, or from before reader-writer locks: their last record may have ended by
-- an illegal instruction that is one of M now, or by a call that was none.
use Rattle.std.specs.Prelude.{ℕ, ◌+◌, ◌*◌, ◌-◌, ◌%◌, ◌^◌, ◌==◌, nat_le, Bool, true, false, ◌&&◌, ◌||◌, if◌then◌else◌, List, [], ◌∷◌, length, take, slice_get, slice_index_or, Option, Some, None}
use Rattle.std.specs.List.{count_by}
use Rattle.isa_spec.specs.declared.Cause.TheVariants.{IllegalInstruction}
use Rattle.isa_spec.specs.Fields.{opcode_of, funct7_of}
use Rattle.isa_spec.specs.Registers.{register}
use Rattle.memory_spec.specs.Pages.{Mapped, slot_of}
use Rattle.memory_spec.specs.declared.TheConstants.{PAGE_SIZE}
use Rattle.thunk_spec.specs.declared.ends.ThunkEnd.{ThunkEnd}
use Rattle.thunk_spec.specs.declared.ends.ThunkEnd.TheVariants.{Call, Trap}
use Rattle.thunk_spec.specs.Delta.{PageDelta}
use Rattle.thunk_spec.specs.Reads.{ReadPage}
use Rattle.thunk_spec.specs.Record.{Kept, Record}
use Rattle.machine_spec.specs.Setup.{map_of}
use Rattle.history_spec.specs.History.{History}

-- Whether a word is an instruction of M, which has all of its opcode and funct7 (RISC-V unprivileged ISA 20191213,
-- chapter 24, RV32M Standard Extension).
abbrev pub is_of_m : ℕ → Bool
is_of_m w = opcode_of w == 0b0110011 && funct7_of w == 0b0000001

-- The byte that was stored at a place of a page, if one was.
abbrev pub stored_byte : List PageDelta → ℕ → ℕ → Option ℕ
stored_byte [] slot offset = None
stored_byte (d ∷ delta) slot offset =
    if d.slot == slot
    then (if slice_index_or d.mask offset false
    then slice_get d.bytes (count_by (λ mark. mark) (take offset d.mask))
    else None)
    else stored_byte delta slot offset

-- The byte at a place of a page that was read, if it was.
abbrev pub read_byte : List ReadPage → ℕ → ℕ → Option ℕ
read_byte [] slot offset = None
read_byte (p ∷ reads) slot offset = if p.slot == slot then slice_get p.bytes offset else read_byte reads slot offset

-- The first of two that is there.
abbrev pub first_there : Option ℕ → Option ℕ → Option ℕ
first_there (Some a) other = Some a
first_there None other = other

-- The byte that a record has of an address, as it was after its thunk: one that was stored, or else one that was read.
abbrev pub known_byte : List Mapped → Kept → ℕ → Option ℕ
known_byte map kept address =
    first_there
    (stored_byte kept.delta (slot_of map address) (address % PAGE_SIZE))
    (read_byte kept.reads (slot_of map address) (address % PAGE_SIZE))

-- The word of four bytes, the lowest first, if all are there.
abbrev pub whole_word : Option ℕ → Option ℕ → Option ℕ → Option ℕ → Option ℕ
whole_word (Some a) (Some b) (Some c) (Some d) = Some (a + b * 2 ^ 8 + c * 2 ^ 16 + d * 2 ^ 24)
whole_word _ _ _ _ = None

-- The word that a record has of an address, if it has each of its bytes.
abbrev pub known_word : List Mapped → Kept → ℕ → Option ℕ
known_word map kept address =
    whole_word (known_byte map kept address) (known_byte map kept (address + 1)) (known_byte map kept (address + 2))
    (known_byte map kept (address + 3))

-- Whether an end is that by an illegal instruction.
abbrev pub is_illegal : ThunkEnd → Bool
is_illegal (Trap IllegalInstruction) = true
is_illegal _ = false

-- Whether a word is there, and is an instruction of M.
abbrev pub is_known_of_m : Option ℕ → Bool
is_known_of_m None = false
is_known_of_m (Some w) = is_of_m w

-- Whether a record ended by an illegal instruction, and the word that it has there is one of M.
abbrev pub ends_at_m : List Mapped → Record → Bool
ends_at_m map r = is_illegal r.kept.end && is_known_of_m (known_word map r.kept r.kept.finish.pc)

-- Whether the last of some records is such a record.
abbrev pub last_ends_at_m : List Mapped → List Record → Bool
last_ends_at_m map [] = false
last_ends_at_m map (r ∷ []) = ends_at_m map r
last_ends_at_m map (r ∷ q ∷ rs) = last_ends_at_m map (q ∷ rs)

-- Whether an end is that by a call.
abbrev pub is_call : ThunkEnd → Bool
is_call Call = true
is_call _ = false

-- Whether a record ended by a call of a reader-writer lock: those of the numbers 18 to 21, which were no calls before.
abbrev pub ends_at_lock : Record → Bool
ends_at_lock r =
    is_call r.kept.end && nat_le 18 (register r.kept.finish 17) && nat_le (register r.kept.finish 17) 21

-- Whether the last of some records is such a record.
abbrev pub last_ends_at_lock : List Record → Bool
last_ends_at_lock [] = false
last_ends_at_lock (r ∷ []) = ends_at_lock r
last_ends_at_lock (r ∷ q ∷ rs) = last_ends_at_lock (q ∷ rs)

-- Whether a history is from before M: its last record ended by an illegal instruction that is one of M now.
unfoldable pub is_before_m : History → Bool
is_before_m h = last_ends_at_m (map_of h.setup) h.records

-- Whether a history of version 1 may be from before reader-writer locks: its last record ended by a call of one.
unfoldable pub is_before_locks : History → Bool
is_before_locks h = last_ends_at_lock h.records

-- Whether a history of version 1 is refused as an old one.
abbrev pub is_old : History → Bool
is_old h = is_before_m h || is_before_locks h

-- The number of a history's last record.
abbrev pub last_number : History → ℕ
last_number h = length h.records - 1
