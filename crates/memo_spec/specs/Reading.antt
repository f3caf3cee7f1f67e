-- Reading a memo from its first byte on, with the first refusal that is met.
use Rattle.std.specs.Prelude.{◌≡◌, ℕ, ◌+◌, ◌-◌, ◌==◌, suc, Bool, true, false, not, ◌&&◌, nat_lt, nat_le, if◌then◌else◌, List, [], ◌∷◌, ◌++◌, length, take, drop, slice_index_or, bytes_eq, Option, Some, None, is_none, is_some, Result, Ok, Err}
use Rattle.std.specs.List.{list_any, position_or_len, count_by}
use Rattle.std.specs.Int.{w8, w16, w32, from_le_bytes, bit_at}
use Rattle.sha2.specs.Sha256.{sha256}
use Rattle.isa_spec.specs.declared.Cause.TheVariants as cause
use Rattle.isa_spec.specs.Registers.{Registers}
use Rattle.memory_spec.specs.Pages.{Mapped}
use Rattle.memory_spec.specs.declared.TheConstants.{PAGE_SIZE}
use Rattle.thunk_spec.specs.declared.ends.ThunkEnd.{ThunkEnd}
use Rattle.thunk_spec.specs.declared.ends.ThunkEnd.TheVariants as ends
use Rattle.thunk_spec.specs.Delta.{PageDelta}
use Rattle.thunk_spec.specs.Reads.{ReadPage}
use Rattle.thunk_spec.specs.Record.{Kept, Record}
use Rattle.elf_spec.specs.declared.Refusal as elf
use Rattle.elf_spec.specs.Refusals.{refusal_of}
use Rattle.elf_spec.specs.declared.TheConstants.{MOST_ELF_BYTES}
use Rattle.guest_call.specs.declared.thread_number.TheConstants.{THREADS}
use Rattle.machine_spec.specs.declared.TheConstants.{MOST_FUEL, MOST_INPUT_BYTES, MOST_STEPS}
use Rattle.machine_spec.specs.Machine.{Machine}
use Rattle.machine_spec.specs.Step.{apply, fits}
use Rattle.machine_spec.specs.Setup.{Setup, map_of, first}
use Rattle.history_spec.specs.History.{History, is_coherent}
use Rattle.ith_text.specs.Place.{Place}
use Rattle.memo_spec.specs.declared.Format.{Format}
use Rattle.memo_spec.specs.declared.Format.TheVariants.{Version1, Version2}
use Rattle.memo_spec.specs.declared.Limit.TheVariants as limit
use Rattle.memo_spec.specs.declared.Refusal.{Refusal}
use Rattle.memo_spec.specs.declared.Refusal.TheVariants.{Short, Magic, Version, Digest, Limit, Image, Field, Old, Incoherent}
use Rattle.memo_spec.specs.Encoding.{magic, profile, has_page, EncodesIn}
use Rattle.memo_spec.specs.Old.{is_old, last_number}
use Rattle.memo_spec.specs.Reader.{Reader, ◌>>=◌, done, bytes_at, number_at, ruled, limited, each, chain}

-- Whether a number lies in a range.
abbrev pub is_within : ℕ → ℕ → ℕ → Bool
is_within low high n = nat_le low n && nat_le n high

-- The ends of thunks, by their numbers.
abbrev pub all_ends : List ThunkEnd
all_ends =
    ends.Trap cause.InstructionMisaligned ∷ ends.Trap cause.InstructionAccess ∷ ends.Trap cause.IllegalInstruction
    ∷ ends.Trap cause.Breakpoint ∷ ends.Trap cause.LoadMisaligned ∷ ends.Trap cause.LoadAccess
    ∷ ends.Trap cause.StoreMisaligned ∷ ends.Trap cause.StoreAccess ∷ ends.Call ∷ ends.Fuel ∷ []

-- The end of a number.
abbrev pub end_of : ℕ → ThunkEnd
end_of n = slice_index_or all_ends n ends.Fuel

-- pc, and x1 to x31.
unfoldable pub registers_at : Reader Registers
registers_at = do
  pc ← number_at w32
  x ← each 31 (number_at w32)
  done (record { pc = pc; x = 0 ∷ x })

-- The slot of the page of a number: its place in the map, or the map's length.
abbrev pub slot_of_number : List Mapped → ℕ → ℕ
slot_of_number pages number = position_or_len (λ (m : Mapped). m.number == number) pages

-- The slot of a page number, which is mapped and whose slot is not below this one.
unfoldable pub slot_at : List Mapped → ℕ → Reader ℕ
slot_at pages low = do
  number ←
      ruled (number_at w32)
      (λ n. nat_le low (slot_of_number pages n) && nat_lt (slot_of_number pages n) (length pages))
  done (slot_of_number pages number)

-- How many pages of the pool are used, after that of an index was.
abbrev pub used_after : ℕ → ℕ → ℕ
used_after used index = if index == used then used + 1 else used

-- The state in which the read pages of a record are read: the least slot that the next one may have, and how many pages
-- of the pool are used.
pub record ReadState : Type 0 where
  pub low : ℕ
  pub used : ℕ

-- A read page: its number, and the index of its bytes, which are of the pages used before or of the next.
unfoldable pub read_page_at : List Mapped → List (List ℕ) → ReadState → Reader (ReadPage × ReadState)
read_page_at pages pool s = do
  slot ← slot_at pages s.low
  index ← ruled (number_at w32) (λ i. nat_le i s.used && nat_lt i (length pool))
  let page : ReadPage = record { slot = slot; bytes = slice_index_or pool index [] }
  done (page, record { low = suc slot; used = used_after s.used index })

-- The bits of bytes, the lowest of a byte first.
abbrev pub marks_of : List ℕ → List Bool
marks_of [] = []
marks_of (b ∷ bytes) =
    (bit_at b 0 == 1) ∷ (bit_at b 1 == 1) ∷ (bit_at b 2 == 1) ∷ (bit_at b 3 == 1)
    ∷ (bit_at b 4 == 1) ∷ (bit_at b 5 == 1) ∷ (bit_at b 6 == 1) ∷ (bit_at b 7 == 1) ∷ marks_of bytes

-- A mask that isn't zero.
unfoldable pub mask_at : Reader (List Bool)
mask_at = do
  bytes ← ruled (bytes_at 512) (λ bs. list_any (λ b. not (b == 0)) bs)
  done (marks_of bytes)

-- A stored page, from a slot on.
unfoldable pub stored_page_at : List Mapped → ℕ → Reader (PageDelta × ℕ)
stored_page_at pages low = do
  slot ← slot_at pages low
  mask ← mask_at
  bytes ← bytes_at (count_by (λ mark. mark) mask)
  done (record { slot = slot; mask = mask; bytes = bytes }, suc slot)

-- The state in which a record is read: the threads of those before it, and how many pages of the pool are used.
pub record RecordState : Type 0 where
  pub earlier : List ℕ
  pub used : ℕ

-- A record. Its number is how many of its thread come before it.
unfoldable pub record_at : List Mapped → ℕ → List (List ℕ) → RecordState → Reader (Record × RecordState)
record_at pages fuel pool s = do
  thread ← ruled (number_at w8) (λ t. nat_lt t THREADS)
  end ← ruled (number_at w8) (λ e. nat_lt e 10)
  count ← ruled (number_at w32) (is_within 1 fuel)
  start ← registers_at
  finish ← registers_at
  read_count ← number_at w16
  reads ← chain (read_page_at pages pool) read_count (record { low = 0; used = s.used })
  delta_count ← number_at w16
  delta ← chain (stored_page_at pages) delta_count 0
  let kept : Kept = record { reads = reads.0; delta = delta.0; finish = finish; end = end_of end; count = count }
  let number = count_by (λ t. t == thread) s.earlier
  let r : Record = record { thread = thread; number = number; start = start; kept = kept }
  done (r, record { earlier = s.earlier ++ thread ∷ []; used = reads.1.used })

-- A page of the pool, which none of these is equal to.
unfoldable pub pool_page_at : List (List ℕ) → Reader (List ℕ × List (List ℕ))
pool_page_at pool = do
  page ← ruled (bytes_at PAGE_SIZE) (λ page. not (has_page pool page))
  done (page, pool ++ page ∷ [])

-- An executable that is accepted, or its refusal.
abbrev pub accepted : Option elf.Refusal → List ℕ → Reader (List ℕ)
accepted None bytes = done bytes
accepted (Some refusal) bytes = λ p. Err (Image refusal)

-- A setup.
unfoldable pub setup_at : Reader Setup
setup_at = do
  elf_length ← limited (number_at w32) (is_within 0 MOST_ELF_BYTES) (Limit limit.Elf)
  elf ← bytes_at elf_length >>= λ bytes. accepted (refusal_of bytes) bytes
  input_length ← limited (number_at w32) (is_within 0 MOST_INPUT_BYTES) (Limit limit.Input)
  input ← bytes_at input_length
  fuel ← limited (number_at w32) (is_within 1 MOST_FUEL) (Limit limit.Fuel)
  steps ← limited (number_at w32) (is_within 1 MOST_STEPS) (Limit limit.Steps)
  done (record { elf = elf; input = input; fuel = fuel; limit = steps })

-- The pool, and so many records after it.
unfoldable pub pool_and_records_at : Setup → ℕ → Reader (List (List ℕ) × List Record × RecordState)
pool_and_records_at setup entries = do
  count ← number_at w32
  pool ← chain pool_page_at count []
  records ← chain (record_at (map_of setup) setup.fuel pool.0) entries (record { earlier = []; used = 0 })
  done (pool.0, records.0, records.1)

-- All between head and digest. All of the pool has to be used: else its count is against its rule.
unfoldable pub history_at : Reader History
history_at = do
  setup ← setup_at
  entries ← limited (number_at w32) (is_within 1 setup.limit) (Limit limit.Entries)
  x ←
      ruled (pool_and_records_at setup entries)
      (λ (x : List (List ℕ) × List Record × RecordState). x.2.used == length x.0)
  done (record { setup = setup; records = x.1 })

-- All between version and digest.
unfoldable pub behind_version : Format → Reader History
behind_version Version1 = history_at
behind_version Version2 = do
  _ ← ruled (number_at w32) (λ n. n == profile)
  history_at

-- The first record, counted from a number on, that doesn't fit, or the number past the last if no end comes.
abbrev pub incoherent_from : ℕ → Machine → List Record → Option ℕ
incoherent_from i m [] = if is_some m.ending then None else Some i
incoherent_from i m (r ∷ rs) = if is_none m.ending && fits m r then incoherent_from (i + 1) (apply m r) rs else Some i

-- A history that is coherent, or the refusal.
abbrev pub coherent_or : Option ℕ → History → Result History Refusal
coherent_or None h = Ok h
coherent_or (Some i) h = Err (Incoherent i)

-- Whether a history is old in a format. In version 2 none is.
abbrev pub is_old_in : Format → History → Bool
is_old_in Version1 h = is_old h
is_old_in Version2 h = false

-- A history, if it isn't old in a format and is coherent, or the refusal.
abbrev pub todays : Format → History → Result History Refusal
todays format h =
    if is_old_in format h then Err (Old (last_number h))
    else coherent_or (incoherent_from 0 (first h.setup) h.records) h

-- A history that was read to the last byte, if it isn't old and is coherent, or the refusal.
abbrev pub ended : Format → Result (History × Place) Refusal → Result History Refusal
ended format (Ok x) = if length x.1.left == 0 then todays format x.0 else Err (Field x.1.taken)
ended format (Err refusal) = Err refusal

-- What all bytes but the digest are taken as.
unfoldable pub taken_as : Format → List ℕ → Result History Refusal
taken_as format text = ended format (behind_version format (record { taken = 8; left = drop 8 text }))

-- The version of a memo.
abbrev pub version_of : List ℕ → ℕ
version_of bytes = from_le_bytes w32 (drop 4 bytes)

-- The format of a version, if there is one.
abbrev pub format_of : ℕ → Option Format
format_of version = if version == 1 then Some Version1 else if version == 2 then Some Version2 else None

-- What bytes of a format are taken as, if the last 32 are the digest of those before.
abbrev pub reading_in : Option Format → List ℕ → Result History Refusal
reading_in None bytes = Err (Version (version_of bytes))
reading_in (Some format) bytes =
    if not (bytes_eq (drop (length bytes - 32) bytes) (sha256 (take (length bytes - 32) bytes))) then Err Digest
    else taken_as format (take (length bytes - 32) bytes)

-- What bytes are taken as: a history, or the first refusal.
unfoldable pub reading : List ℕ → Result History Refusal
reading bytes =
    if nat_lt (length bytes) 40 then Err Short
    else if not (bytes_eq (take 4 bytes) magic) then Err Magic
    else reading_in (format_of (version_of bytes)) bytes

-- Bytes that are to be taken as a history: they encode it, it isn't old in their format, and it is coherent.
pub record IsTaken (bytes : List ℕ) (h : History) : Type 0 where
  pub format : Format
  pub encodes : EncodesIn format bytes h
  pub of_today : is_old_in format h ≡ false
  pub coherent : is_coherent h ≡ true
