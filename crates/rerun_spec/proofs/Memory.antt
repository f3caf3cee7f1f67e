-- Memories of bytes: what they are after stores, and what is read from them.
use Rattle.std.proofs.Common.{ℕ, ◌+◌, ◌%◌, ◌^◌, ◌<◌, Bool, true, false, cond, List, [], ◌∷◌, get_or, set, Option, Some, None, arith}
use Rattle.std.specs.List.{AllByRecursion}
use Rattle.memory_spec.specs.declared.Size.{Size}
use Rattle.memory_spec.specs.declared.Size.TheVariants.{One, Two, Four}
use Rattle.memory_spec.specs.Pages.{Mapped, Memory, page_of, slot_of, allows, read_right, execute_right, permission_at}
use Rattle.memory_spec.specs.Stores.{StoredByte, with_byte, with_stores}
use Rattle.memory_spec.specs.Access.{number_in, number_at, bytes_stored, loaded, fetched}
use Rattle.thunk_spec.specs.Delta.{PageDelta, spread, masked}
use Rattle.memo_spec.specs.Encoding.{AreBytes, IsStoredPage}
use Rattle.rerun_spec.proofs.Lists.{every-at, every-set}

-- a byte
abbrev pub IsByte : ℕ → Type 0
IsByte b = b < 256

-- a memory whose pages have bytes
abbrev pub HasBytes : Memory → Type 0
HasBytes memory = AllByRecursion AreBytes memory

-- stored bytes are bytes
abbrev pub IsStore : StoredByte → Type 0
IsStore s = s.byte < 256

abbrev pub AreStores : List StoredByte → Type 0
AreStores stores = AllByRecursion IsStore stores

pub page-bytes : (memory : Memory) (slot : ℕ) → HasBytes memory → AreBytes (page_of memory slot)
page-bytes memory slot all = every-at AreBytes memory slot [] tt all

byte-in : (page : List ℕ) (i : ℕ) → AreBytes page → get_or page i 0 < 256
byte-in page i all = every-at IsByte page i 0 (omega arith) all

-- stores

with_byte-bytes :
    (map : List Mapped) (memory : Memory) (s : StoredByte)
    → HasBytes memory → IsStore s → HasBytes (with_byte map memory s)
unfolding with_byte
with_byte-bytes map memory s all new =
    every-set AreBytes memory (slot_of map s.address) _
    (every-set IsByte (page_of memory (slot_of map s.address)) (s.address % 4096) s.byte new
    (page-bytes memory (slot_of map s.address) all)) all

pub with_stores-bytes :
    (map : List Mapped) (memory : Memory) (stores : List StoredByte)
    → HasBytes memory → AreStores stores → HasBytes (with_stores map memory stores)
with_stores-bytes map memory [] all new = all
with_stores-bytes map memory (s ∷ stores) all new =
    with_stores-bytes map (with_byte map memory s) stores (with_byte-bytes map memory s all new.0) new.1

pub stored-bytes : (address : ℕ) (size : Size) (value : ℕ) → AreStores (bytes_stored address size value)
unfolding bytes_stored
stored-bytes address One value = (omega arith, tt)
stored-bytes address Two value = (omega arith, (omega arith, tt))
stored-bytes address Four value = (omega arith, (omega arith, (omega arith, (omega arith, tt))))

-- masked bytes

spread-bytes :
    (mask : List Bool) (bytes page : List ℕ)
    → AreBytes bytes → AreBytes page → AreBytes (spread mask bytes page)
spread-bytes [] bytes page new all = all
spread-bytes (mark ∷ mask) bytes [] new all = tt
spread-bytes (false ∷ mask) bytes (b ∷ page) new all = (all.0, spread-bytes mask bytes page new all.1)
spread-bytes (true ∷ mask) [] (b ∷ page) new all = all
spread-bytes (true ∷ mask) (w ∷ bytes) (b ∷ page) new all = (new.0, spread-bytes mask bytes page new.1 all.1)

pub masked-bytes :
    (map : List Mapped) (memory : Memory) (delta : List PageDelta)
    → AllByRecursion (IsStoredPage map) delta → HasBytes memory → HasBytes (masked memory delta)
masked-bytes map memory [] new all = all
masked-bytes map memory (d ∷ delta) new all =
    masked-bytes map (set memory d.slot (spread d.mask d.bytes (page_of memory d.slot))) delta new.1
    (every-set AreBytes memory d.slot _
    (spread-bytes d.mask d.bytes (page_of memory d.slot) new.0.bytes (page-bytes memory d.slot all)) all)

-- what is read

-- the numbers of an access of a size
abbrev pub number_limit : Size → ℕ
number_limit One = 2 ^ 8
number_limit Two = 2 ^ 16
number_limit Four = 2 ^ 32

number_in-small :
    (page : List ℕ) (offset : ℕ) (size : Size) → AreBytes page → number_in page offset size < number_limit size
unfolding number_in
number_in-small page offset One all = byte-in page offset all
number_in-small page offset Two all =
    let first = byte-in page offset all in
    let second = byte-in page (offset + 1) all in
    omega arith
number_in-small page offset Four all =
    let first = byte-in page offset all in
    let second = byte-in page (offset + 1) all in
    let third = byte-in page (offset + 2) all in
    let fourth = byte-in page (offset + 3) all in
    omega arith

number_at-small :
    (map : List Mapped) (memory : Memory) (address : ℕ) (size : Size)
    → HasBytes memory → number_at map memory address size < number_limit size
unfolding number_at
number_at-small map memory address size all =
    number_in-small (page_of memory (slot_of map address)) (address % 4096) size
    (page-bytes memory (slot_of map address) all)

-- what an access finds, if it is permitted
abbrev pub FindsSmall : Size → Option ℕ → Type 0
FindsSmall size (Some value) = value < number_limit size
FindsSmall size None = Unit {0}

finds-if : (size : Size) (b : Bool) (value : ℕ) → value < number_limit size → FindsSmall size (cond b (Some value) None)
finds-if size true value small = small
finds-if size false value small = tt

pub loaded-small :
    (map : List Mapped) (memory : Memory) (address : ℕ) (size : Size)
    → HasBytes memory → FindsSmall size (loaded map memory address size)
unfolding loaded
loaded-small map memory address size all =
    finds-if size (allows read_right (permission_at map address)) (number_at map memory address size)
    (number_at-small map memory address size all)

pub fetched-small :
    (map : List Mapped) (memory : Memory) (address : ℕ)
    → HasBytes memory → FindsSmall Four (fetched map memory address)
unfolding fetched
fetched-small map memory address all =
    finds-if Four (allows execute_right (permission_at map address)) (number_at map memory address Four)
    (number_at-small map memory address Four all)
