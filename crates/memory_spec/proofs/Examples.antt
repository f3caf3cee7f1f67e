-- Worked examples, each computed by the checker. Pages are cut to their first bytes: a definition reads no others.
use Rattle.std.proofs.Common.{◌≡◌, true, false, List, [], ◌∷◌, Some, None, refl}
use Rattle.memory_spec.specs.declared.Size.TheVariants.{One, Two, Four}
use Rattle.memory_spec.specs.Pages.{Mapped, Memory, slot_of, permission_at, allows, read_right, write_right, execute_right, ascends_above}
use Rattle.memory_spec.specs.Stores.{StoredByte, with_byte, with_stores}
use Rattle.memory_spec.specs.Access.{loaded, fetched, may_store, bytes_stored, number_in, number_at}
use Rattle.memory_spec.specs.Workspace.{Masks, with_mark, marked, taken_at}

-- code at 0x10000 to read and execute, a page at 0x11000 to read and write, and one at 0x20000 to read
abbrev pub map : List Mapped
map =
    record { number = 0x10; permission = 5 } ∷ record { number = 0x11; permission = 6 }
    ∷ record { number = 0x20; permission = 4 } ∷ []

abbrev pub memory : Memory
memory =
    (0x37 ∷ 0x05 ∷ 0x01 ∷ 0x00 ∷ 0x13 ∷ 0x05 ∷ 0x05 ∷ 0x02 ∷ []) ∷ (0x80 ∷ 0x81 ∷ 0x82 ∷ 0x83 ∷ 0x84 ∷ [])
    ∷ (9 ∷ 8 ∷ 7 ∷ 6 ∷ []) ∷ []

-- an address belongs to the page that its upper twenty bits number
pub slot_of-first : slot_of map 0x10FFF ≡ 0
slot_of-first = refl

pub slot_of-last : slot_of map 0x20000 ≡ 2
slot_of-last = refl

-- if no page has it, the slot is past the map, and nothing is permitted
pub slot_of-unmapped : slot_of map 0x12000 ≡ 3
slot_of-unmapped = refl

pub permission_at-unmapped : permission_at map 0x12000 ≡ 0
unfolding permission_at
permission_at-unmapped = refl

-- R 4, W 2, X 1
pub allows-read_write : allows read_right 6 ≡ true
allows-read_write = refl

pub allows-no_execute : allows execute_right 6 ≡ false
allows-no_execute = refl

pub allows-no_write : allows write_right 5 ≡ false
allows-no_write = refl

pub ascends-map : ascends_above 0 map ≡ true
ascends-map = refl

-- a word is little-endian
pub fetched-word : fetched map memory 0x10004 ≡ Some 0x02050513
unfolding fetched number_at number_in permission_at
fetched-word = refl

pub loaded-half : loaded map memory 0x11002 Two ≡ Some 0x8382
unfolding loaded number_at number_in permission_at
loaded-half = refl

pub loaded-byte : loaded map memory 0x20003 One ≡ Some 6
unfolding loaded number_at number_in permission_at
loaded-byte = refl

-- a fetch needs X, a load R, a store W; nothing is found if no page is mapped
pub fetched-no_right : fetched map memory 0x11000 ≡ None
unfolding fetched number_at number_in permission_at
fetched-no_right = refl

pub loaded-unmapped : loaded map memory 0xFFC Four ≡ None
unfolding loaded number_at number_in permission_at
loaded-unmapped = refl

pub may_store-no_right : may_store map 0x20000 ≡ false
unfolding may_store permission_at
may_store-no_right = refl

pub may_store-right : may_store map 0x11000 ≡ true
unfolding may_store permission_at
may_store-right = refl

-- a store of a word writes four bytes, the least at the address
pub bytes_stored-word :
    bytes_stored 0x11000 Four 0xA1B2C3D4
    ≡ record { address = 0x11000; byte = 0xD4 } ∷ record { address = 0x11001; byte = 0xC3 }
    ∷ record { address = 0x11002; byte = 0xB2 } ∷ record { address = 0x11003; byte = 0xA1 } ∷ []
unfolding bytes_stored
bytes_stored-word = refl

-- a store of a byte keeps the lowest eight bits of the value
pub bytes_stored-byte : bytes_stored 0x11000 One 0x1FF ≡ record { address = 0x11000; byte = 0xFF } ∷ []
unfolding bytes_stored
bytes_stored-byte = refl

-- two stores to one place: the later one is kept, and no other byte changes
abbrev pub two_stores : List StoredByte
two_stores = record { address = 0x11001; byte = 1 } ∷ record { address = 0x11001; byte = 2 } ∷ []

pub with_stores-in_order :
    with_stores map memory two_stores
    ≡ (0x37 ∷ 0x05 ∷ 0x01 ∷ 0x00 ∷ 0x13 ∷ 0x05 ∷ 0x05 ∷ 0x02 ∷ []) ∷ (0x80 ∷ 2 ∷ 0x82 ∷ 0x83 ∷ 0x84 ∷ [])
    ∷ (9 ∷ 8 ∷ 7 ∷ 6 ∷ []) ∷ []
unfolding with_byte
with_stores-in_order = refl

-- a store changes nothing if no page is mapped at its address
pub with_stores-unmapped : with_stores map memory (record { address = 0x12001; byte = 1 } ∷ []) ≡ memory
unfolding with_byte
with_stores-unmapped = refl

abbrev pub clear : Masks
clear = (false ∷ false ∷ []) ∷ (false ∷ false ∷ []) ∷ (false ∷ false ∷ []) ∷ []

-- the mask has each place that was stored to, and no other
pub marked-place : marked map clear two_stores ≡ (false ∷ false ∷ []) ∷ (false ∷ true ∷ []) ∷ (false ∷ false ∷ []) ∷ []
unfolding with_mark
marked-place = refl

-- a page from which a byte was taken is noted, whichever byte it was
pub taken_at-pages : taken_at map (false ∷ false ∷ false ∷ []) (0x10FFF ∷ 0x20000 ∷ []) ≡ true ∷ false ∷ true ∷ []
taken_at-pages = refl
