-- Worked examples, each computed by the checker. Pages are cut to their first bytes.
use Rattle.std.proofs.Common.{◌≡◌, true, false, List, [], ◌∷◌, refl}
use Rattle.isa_spec.specs.Registers.{with_pc}
use Rattle.memory_spec.specs.Pages.{Memory}
use Rattle.memory_spec.specs.Stores.{StoredByte, with_byte, with_stores}
use Rattle.memory_spec.specs.Workspace.{Masks, with_mark, marked}
use Rattle.thunk_spec.specs.declared.ends.ThunkEnd.TheVariants.{Call, Fuel}
use Rattle.thunk_spec.proofs.Guests.{map, start}
use Rattle.thunk_spec.specs.Delta.{PageDelta, delta_from, masked}
use Rattle.thunk_spec.specs.Reads.{ReadPage, reads_of, has}
use Rattle.thunk_spec.specs.Record.{Record, may_end, fits_at}

-- two stores at 0x11001, one at 0x11003, in this order
abbrev pub stores : List StoredByte
stores =
    record { address = 0x11001; byte = 5 } ∷ record { address = 0x11003; byte = 6 }
    ∷ record { address = 0x11001; byte = 7 } ∷ []

abbrev pub clear : Masks
clear = (false ∷ false ∷ false ∷ false ∷ []) ∷ (false ∷ false ∷ false ∷ false ∷ []) ∷ []

abbrev pub zeros : Memory
zeros = (0 ∷ 0 ∷ 0 ∷ 0 ∷ []) ∷ (0 ∷ 0 ∷ 0 ∷ 0 ∷ []) ∷ []

abbrev pub delta : List PageDelta
delta = record { slot = 1; mask = false ∷ true ∷ false ∷ true ∷ []; bytes = 7 ∷ 6 ∷ [] } ∷ []

-- The delta of them: slot 1 alone, the places 1 and 3, and there the last byte of each.
pub delta-stores : delta_from 0 (marked map clear stores) (with_stores map zeros stores) ≡ delta
unfolding with_byte with_mark
delta-stores = refl

abbrev pub memory : Memory
memory = (1 ∷ 2 ∷ 3 ∷ 4 ∷ []) ∷ (10 ∷ 11 ∷ 12 ∷ 13 ∷ []) ∷ []

-- Written by its mask into another memory it changes these two bytes and no other, as the stores do in order.
pub masked-memory : masked memory delta ≡ (1 ∷ 2 ∷ 3 ∷ 4 ∷ []) ∷ (10 ∷ 7 ∷ 12 ∷ 6 ∷ []) ∷ []
masked-memory = refl

pub with_stores-memory : with_stores map memory stores ≡ (1 ∷ 2 ∷ 3 ∷ 4 ∷ []) ∷ (10 ∷ 7 ∷ 12 ∷ 6 ∷ []) ∷ []
unfolding with_byte
with_stores-memory = refl

-- A stored byte that equals the one before is kept all the same.
pub masked-equal : masked memory (record { slot = 0; mask = true ∷ []; bytes = 1 ∷ [] } ∷ []) ≡ memory
masked-equal = refl

-- Bytes taken from both pages, from one of them twice: each is one read page with the view's bytes, in ascending order.
pub reads-two :
    reads_of map memory (0x11002 ∷ 0x10001 ∷ 0x11000 ∷ [])
    ≡ record { slot = 0; bytes = 1 ∷ 2 ∷ 3 ∷ 4 ∷ [] } ∷ record { slot = 1; bytes = 10 ∷ 11 ∷ 12 ∷ 13 ∷ [] } ∷ []
unfolding reads_of
reads-two = refl

-- A page that no byte was taken from isn't kept, and bytes of it don't matter.
abbrev pub first_page : List ReadPage
first_page = record { slot = 0; bytes = 1 ∷ 2 ∷ 3 ∷ 4 ∷ [] } ∷ []

pub reads-one : reads_of map memory (0x10003 ∷ []) ≡ first_page
unfolding reads_of
reads-one = refl

pub has-other_page : has ((1 ∷ 2 ∷ 3 ∷ 4 ∷ []) ∷ (0 ∷ 0 ∷ 0 ∷ 0 ∷ []) ∷ []) first_page ≡ true
has-other_page = refl

-- One differing byte of a read page suffices.
pub has-differs : has ((1 ∷ 2 ∷ 3 ∷ 5 ∷ []) ∷ (10 ∷ 11 ∷ 12 ∷ 13 ∷ []) ∷ []) first_page ≡ false
has-differs = refl

-- the record of a thunk that took bytes of the first page, and called in its fifth turn
abbrev pub sample : Record
sample =
    record {
      thread = 3;
      number = 2;
      start = start 5 6;
      kept = record { reads = first_page; delta = delta; finish = start 5 7; end = Call; count = 5 };
    }

pub fits-same : fits_at sample 2 (start 5 6) memory 5 ≡ true
unfolding fits_at may_end
fits-same = refl

-- It doesn't fit at another number of steps, with another register, or if a read page differs.
pub fits-number : fits_at sample 3 (start 5 6) memory 5 ≡ false
unfolding fits_at may_end
fits-number = refl

pub fits-register : fits_at sample 2 (start 5 7) memory 5 ≡ false
unfolding fits_at may_end
fits-register = refl

pub fits-page : fits_at sample 2 (start 5 6) ((1 ∷ 2 ∷ 9 ∷ 4 ∷ []) ∷ (10 ∷ 11 ∷ 12 ∷ 13 ∷ []) ∷ []) 5 ≡ false
unfolding fits_at may_end
fits-page = refl

pub fits-pc : fits_at sample 2 (with_pc (start 5 6) 0x10004) memory 5 ≡ false
unfolding fits_at may_end
fits-pc = refl

-- It fits under a larger fuel, and not under one below its count.
pub fits-more_fuel : fits_at sample 2 (start 5 6) memory 6 ≡ true
unfolding fits_at may_end
fits-more_fuel = refl

pub fits-less_fuel : fits_at sample 2 (start 5 6) memory 4 ≡ false
unfolding fits_at may_end
fits-less_fuel = refl

-- the record of a thunk that ended by the fuel after five turns
abbrev pub out_of_fuel : Record
out_of_fuel = record sample { kept = record sample.kept { end = Fuel } }

-- It fits under the fuel that is its count, and under no larger or smaller one.
pub fits-out_of_fuel : fits_at out_of_fuel 2 (start 5 6) memory 5 ≡ true
unfolding fits_at may_end
fits-out_of_fuel = refl

pub fits-count_below : fits_at out_of_fuel 2 (start 5 6) memory 6 ≡ false
unfolding fits_at may_end
fits-count_below = refl

pub fits-count_above : fits_at out_of_fuel 2 (start 5 6) memory 4 ≡ false
unfolding fits_at may_end
fits-count_above = refl
