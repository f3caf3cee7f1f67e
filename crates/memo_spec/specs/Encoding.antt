-- The encoding of a history as the bytes of a memo file, one in each version, and which histories have one.
use Rattle.std.specs.Prelude.{◌≡◌, ℕ, ◌+◌, ◌*◌, ◌<◌, ◌≤◌, ◌^◌, ⊤, Bool, true, if◌then◌else◌, List, [], ◌∷◌, ◌++◌, length, map, drop, slice_index_or, bytes_eq}
use Rattle.std.specs.List.{flat_map, fold, concat, list_any, position_or_len, count_by, AllByRecursion}
use Rattle.std.specs.Int.{w8, w16, w32, to_le_bytes}
use Rattle.sha2.specs.Sha256.{sha256}
use Rattle.isa_spec.specs.Registers.{Registers, register}
use Rattle.isa_spec.specs.Causes.{number_of}
use Rattle.memory_spec.specs.Pages.{Mapped, unmapped}
use Rattle.memory_spec.specs.declared.TheConstants.{PAGE_SIZE}
use Rattle.thunk_spec.specs.declared.ends.ThunkEnd.{ThunkEnd}
use Rattle.thunk_spec.specs.declared.ends.ThunkEnd.TheVariants.{Call, Trap, Fuel}
use Rattle.thunk_spec.specs.Delta.{PageDelta, is_stored}
use Rattle.thunk_spec.specs.Reads.{ReadPage}
use Rattle.thunk_spec.specs.Record.{Record}
use Rattle.thunk_spec.specs.Ascending.{reads_ascend, deltas_ascend}
use Rattle.guest_call.specs.declared.thread_number.TheConstants.{THREADS}
use Rattle.machine_spec.specs.Setup.{IsSetup, map_of}
use Rattle.history_spec.specs.History.{History, is_numbered}
use Rattle.memo_spec.specs.declared.Format.{Format}
use Rattle.memo_spec.specs.declared.Format.TheVariants.{Version1, Version2}

-- A number as one byte.
abbrev pub byte : ℕ → List ℕ
byte n = to_le_bytes w8 n

-- A number as two bytes, the lower first.
abbrev pub half : ℕ → List ℕ
half n = to_le_bytes w16 n

-- A number as four bytes, the lowest first.
abbrev pub word : ℕ → List ℕ
word n = to_le_bytes w32 n

-- ITHM: the first bytes of a memo.
abbrev pub magic : List ℕ
magic = 0x49 ∷ 0x54 ∷ 0x48 ∷ 0x4d ∷ []

-- Which machine the history is of, from version 2 on.
abbrev pub profile : ℕ
profile = 3

-- The head of a memo: magic number and version, and from version 2 on the profile.
abbrev pub head : Format → List ℕ
head Version1 = magic ++ word 1
head Version2 = magic ++ word 2 ++ word profile

-- Whether a page is among others.
abbrev pub has_page : List (List ℕ) → List ℕ → Bool
has_page pool page = list_any (bytes_eq page) pool

-- A pool of pages with a page, which comes last if it is new.
abbrev pub with_page : List (List ℕ) → List ℕ → List (List ℕ)
with_page pool page = if has_page pool page then pool else pool ++ page ∷ []

-- The different ones of some pages, in the order in which they come first.
abbrev pub distinct : List (List ℕ) → List (List ℕ)
distinct pages = fold with_page [] pages

-- All read pages of some records, in order.
abbrev pub pages_read : List Record → List (List ℕ)
pages_read rs = flat_map (λ (r : Record). map (λ (p : ReadPage). p.bytes) r.kept.reads) rs

-- The pool of a history.
abbrev pub pool_of : History → List (List ℕ)
pool_of h = distinct (pages_read h.records)

-- How a thunk ended, as a number.
abbrev pub end_number : ThunkEnd → ℕ
end_number (Trap cause) = number_of cause
end_number Call = 8
end_number Fuel = 9

-- The program counter, and the registers from x1 on.
abbrev pub registers : Registers → List ℕ
registers r = flat_map word (r.pc ∷ drop 1 r.x)

-- The number of the page in a slot.
abbrev pub page_number : List Mapped → ℕ → ℕ
page_number map slot = (slice_index_or map slot unmapped).number

-- The place of a page in the pool.
abbrev pub index_in : List (List ℕ) → List ℕ → ℕ
index_in pool page = position_or_len (bytes_eq page) pool

-- A read page: its number, and the place of its bytes in the pool.
abbrev pub read_page : List Mapped → List (List ℕ) → ReadPage → List ℕ
read_page map pool p = word (page_number map p.slot) ++ word (index_in pool p.bytes)

-- A mark as a bit.
abbrev pub bit : Bool → ℕ
bit mark = if mark then 1 else 0

-- Marks as bytes, eight in each, the first one lowest.
abbrev pub mask : List Bool → List ℕ
mask (a ∷ b ∷ c ∷ d ∷ e ∷ f ∷ g ∷ h ∷ marks) =
    (bit a + 2 * bit b + 4 * bit c + 8 * bit d + 16 * bit e + 32 * bit f + 64 * bit g + 128 * bit h) ∷ mask marks
mask marks = []

-- A stored page: its number, its mask, and the bytes at the marked places.
abbrev pub stored_page : List Mapped → PageDelta → List ℕ
stored_page map d = word (page_number map d.slot) ++ mask d.mask ++ d.bytes

-- A record.
abbrev pub record_bytes : List Mapped → List (List ℕ) → Record → List ℕ
record_bytes map pool r =
    byte r.thread ++ byte (end_number r.kept.end) ++ word r.kept.count
    ++ registers r.start ++ registers r.kept.finish
    ++ half (length r.kept.reads) ++ flat_map (read_page map pool) r.kept.reads
    ++ half (length r.kept.delta) ++ flat_map (stored_page map) r.kept.delta

-- All but the digest.
abbrev pub body : Format → History → List ℕ
body format h =
    head format
    ++ word (length h.setup.elf) ++ h.setup.elf
    ++ word (length h.setup.input) ++ h.setup.input
    ++ word h.setup.fuel ++ word h.setup.limit ++ word (length h.records)
    ++ word (length (pool_of h)) ++ concat (pool_of h)
    ++ flat_map (record_bytes (map_of h.setup) (pool_of h)) h.records

-- The memo of a history in a format.
unfoldable pub memo_in : Format → History → List ℕ
memo_in format h = body format h ++ sha256 (body format h)

-- The memo of a history, as it is written.
unfoldable pub memo : History → List ℕ
memo h = memo_in Version2 h

-- Numbers that are bytes.
abbrev pub AreBytes : List ℕ → Type 0
AreBytes bytes = AllByRecursion (λ b. b < 256) bytes

-- Registers: the pc and 32 registers, all words, of which x0 is 0.
pub record AreRegisters (r : Registers) : Type 0 where
  pub pc : r.pc < 2 ^ 32
  pub count : length r.x ≡ 32
  pub zero : register r 0 ≡ 0
  pub words : AllByRecursion (λ w. w < 2 ^ 32) r.x

-- An end of a thunk: a trap has one of the eight causes of a turn.
abbrev pub IsEnd : ThunkEnd → Type 0
IsEnd (Trap cause) = number_of cause < 8
IsEnd Call = ⊤
IsEnd Fuel = ⊤

-- A read page lies in the map and has the bytes of a page.
pub record IsReadPage (map : List Mapped) (p : ReadPage) : Type 0 where
  pub mapped : p.slot < length map
  pub size : length p.bytes ≡ PAGE_SIZE
  pub bytes : AreBytes p.bytes

-- A stored page lies in the map, and has a mark for each place, at least one of them set, and a byte for each that is
-- set.
pub record IsStoredPage (map : List Mapped) (d : PageDelta) : Type 0 where
  pub mapped : d.slot < length map
  pub places : length d.mask ≡ PAGE_SIZE
  pub any : is_stored d.mask ≡ true
  pub count : length d.bytes ≡ count_by (λ mark. mark) d.mask
  pub bytes : AreBytes d.bytes

-- A record that has an encoding: its thread and end are in range, its turns are 1 to the fuel, its registers are words,
-- and its read pages and its stored pages ascend and lie in the map.
pub record IsRecord (map : List Mapped) (fuel : ℕ) (r : Record) : Type 0 where
  pub thread : r.thread < THREADS
  pub end : IsEnd r.kept.end
  pub some_turns : 1 ≤ r.kept.count
  pub most_turns : r.kept.count ≤ fuel
  pub start : AreRegisters r.start
  pub finish : AreRegisters r.kept.finish
  pub reads_ascend : reads_ascend 0 r.kept.reads ≡ true
  pub reads : AllByRecursion (IsReadPage map) r.kept.reads
  pub delta_ascends : deltas_ascend 0 r.kept.delta ≡ true
  pub delta : AllByRecursion (IsStoredPage map) r.kept.delta

-- A history that has an encoding: its setup may be run and is of bytes, it has records but no more than the limit, and
-- these are numbered and have encodings.
pub record IsEncodable (h : History) : Type 0 where
  pub setup : IsSetup h.setup
  pub elf_bytes : AreBytes h.setup.elf
  pub input_bytes : AreBytes h.setup.input
  pub some_records : 1 ≤ length h.records
  pub most_records : length h.records ≤ h.setup.limit
  pub numbered : is_numbered h.records ≡ true
  pub records : AllByRecursion (IsRecord (map_of h.setup) h.setup.fuel) h.records

-- These bytes encode this history in a format.
pub record EncodesIn (format : Format) (bytes : List ℕ) (h : History) : Type 0 where
  pub fits : IsEncodable h
  pub is : bytes ≡ memo_in format h

-- These bytes encode this history.
abbrev pub Encodes : List ℕ → History → Type 0
Encodes bytes h = (format : Format) × EncodesIn format bytes h
