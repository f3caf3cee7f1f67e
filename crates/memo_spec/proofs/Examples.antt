-- Worked examples, each computed by the checker: the bytes of a record, the fields before the records, which refusal
-- comes first, and which memos come from before M. Pages are cut to their first bytes.
use Rattle.std.proofs.Common.{◌≡◌, true, false, Bool, ℕ, List, [], ◌∷◌, ◌++◌, ◌&&◌, cond, replicate, is_none, refl, Some, None, Err}
use Rattle.isa_spec.specs.Registers.{Registers}
use Rattle.isa_spec.specs.declared.Cause.TheVariants as cause
use Rattle.memory_spec.specs.Pages.{Mapped}
use Rattle.thunk_spec.specs.declared.ends.ThunkEnd.TheVariants.{Call, Trap, Fuel}
use Rattle.thunk_spec.specs.declared.ends.ThunkEnd.{ThunkEnd}
use Rattle.thunk_spec.specs.Delta.{PageDelta}
use Rattle.thunk_spec.specs.Reads.{ReadPage}
use Rattle.thunk_spec.specs.Record.{Record}
use Rattle.machine_spec.specs.Setup.{first}
use Rattle.machine_spec.specs.Step.{apply}
use Rattle.history_spec.specs.History.{History}
use Rattle.history_spec.proofs.Examples.{longer, early, early-fits}
use Rattle.memo_spec.specs.declared.Format.TheVariants.{Version1, Version2}
use Rattle.memo_spec.specs.declared.Refusal.TheVariants as refusal
use Rattle.memo_spec.specs.Encoding.{distinct, end_number, mask, record_bytes, body, magic}
use Rattle.memo_spec.specs.Reading.{behind_version, incoherent_from, taken_as, reading}
use Rattle.memo_spec.specs.Old.{is_of_m, known_word, last_ends_at_m}

-- A page that occurs twice among the read pages is once in the pool, where it came first.
pub distinct-two :
    distinct ((5 ∷ []) ∷ (7 ∷ []) ∷ (5 ∷ []) ∷ (6 ∷ []) ∷ []) ≡ (5 ∷ []) ∷ (7 ∷ []) ∷ (6 ∷ []) ∷ []
distinct-two = refl

-- An end by a trap is its cause's number; a call and the end of the fuel come after these.
pub end-trap : end_number (Trap cause.StoreAccess) ≡ 7
end-trap = refl

pub end-call : end_number Call ≡ 8
end-call = refl

pub end-fuel : end_number Fuel ≡ 9
end-fuel = refl

-- The first mark is the lowest bit.
pub mask-eight :
    mask (true ∷ false ∷ false ∷ true ∷ false ∷ false ∷ false ∷ true ∷ []) ≡ 0b10001001 ∷ []
mask-eight = refl

-- Two pages of a map, and a record of thread 1: five turns up to a call; it read the second page, which is the second
-- of the pool, and stored three bytes of the first.
abbrev pub pages : List Mapped
pages = record { number = 0x10; permission = 5 } ∷ record { number = 0xC0001; permission = 6 } ∷ []

abbrev pub start : Registers
start = record { pc = 0x10000; x = 0 ∷ 0x01020304 ∷ replicate 30 0 }

abbrev pub finish : Registers
finish = record { pc = 0x10010; x = replicate 31 0 ++ 0xfffffffe ∷ [] }

abbrev pub one : Record
one = record {
  thread = 1;
  number = 0;
  start = start;
  kept = record {
    end = Call;
    count = 5;
    finish = finish;
    reads = record { slot = 1; bytes = 7 ∷ [] } ∷ [];
    delta = record {
      slot = 0;
      mask = true ∷ false ∷ false ∷ true ∷ false ∷ false ∷ false ∷ true ∷ [];
      bytes = 0xaa ∷ 0xbb ∷ 0xcc ∷ [];
    } ∷ [];
  };
}

-- Thread, end and turns; the registers at the start and at the end, each the pc and x1 to x31; the read pages; the
-- stored pages.
pub record-one :
    record_bytes pages ((5 ∷ []) ∷ (7 ∷ []) ∷ []) one
    ≡ (1 ∷ 8 ∷ 5 ∷ 0 ∷ 0 ∷ 0 ∷ [])
    ++ (0x00 ∷ 0x00 ∷ 0x01 ∷ 0x00 ∷ 0x04 ∷ 0x03 ∷ 0x02 ∷ 0x01 ∷ []) ++ replicate 120 0
    ++ (0x10 ∷ 0x00 ∷ 0x01 ∷ 0x00 ∷ []) ++ replicate 120 0 ++ (0xfe ∷ 0xff ∷ 0xff ∷ 0xff ∷ [])
    ++ (1 ∷ 0 ∷ []) ++ (0x01 ∷ 0x00 ∷ 0x0c ∷ 0x00 ∷ 1 ∷ 0 ∷ 0 ∷ 0 ∷ [])
    ++ (1 ∷ 0 ∷ []) ++ (0x10 ∷ 0x00 ∷ 0x00 ∷ 0x00 ∷ 0b10001001 ∷ 0xaa ∷ 0xbb ∷ 0xcc ∷ [])
record-one = refl

-- A history of no record: what comes before the records. It can't be encoded, for it has no end; its fields can.
abbrev pub bare : History
bare = record {
  setup = record { elf = 0x7f ∷ 0x45 ∷ []; input = 1 ∷ 2 ∷ 3 ∷ []; fuel = 0x0302; limit = 6 };
  records = [];
}

-- The executable and the input, each after its length; fuel, step limit, and how many records and pages of the pool
-- come.
abbrev bare-behind : List ℕ
bare-behind =
    (2 ∷ 0 ∷ 0 ∷ 0 ∷ 0x7f ∷ 0x45 ∷ []) ++ (3 ∷ 0 ∷ 0 ∷ 0 ∷ 1 ∷ 2 ∷ 3 ∷ [])
    ++ (0x02 ∷ 0x03 ∷ 0 ∷ 0 ∷ []) ++ (6 ∷ 0 ∷ 0 ∷ 0 ∷ []) ++ (0 ∷ 0 ∷ 0 ∷ 0 ∷ []) ++ (0 ∷ 0 ∷ 0 ∷ 0 ∷ [])

-- Before them magic number and version, and in version 2 the profile.
pub body-first : body Version1 bare ≡ (0x49 ∷ 0x54 ∷ 0x48 ∷ 0x4d ∷ 1 ∷ 0 ∷ 0 ∷ 0 ∷ []) ++ bare-behind
body-first = refl

pub body-second :
    body Version2 bare ≡ (0x49 ∷ 0x54 ∷ 0x48 ∷ 0x4d ∷ 2 ∷ 0 ∷ 0 ∷ 0 ∷ []) ++ (3 ∷ 0 ∷ 0 ∷ 0 ∷ []) ++ bare-behind
body-second = refl

-- Less than a head and a digest; another magic number; another version. Each is refused before what comes after it.
pub short : reading (replicate 39 0) ≡ Err refusal.Short
unfolding reading
short = refl

pub no-magic : reading (replicate 40 0) ≡ Err refusal.Magic
unfolding reading
no-magic = refl

pub no-version : reading (magic ++ (0 ∷ 0 ∷ 0 ∷ 0 ∷ []) ++ replicate 32 0) ≡ Err (refusal.Version 0)
unfolding reading
no-version = refl

pub later-version : reading (magic ++ (3 ∷ 0 ∷ 0 ∷ 0 ∷ []) ++ replicate 32 0) ≡ Err (refusal.Version 3)
unfolding reading
later-version = refl

-- Version 2 has a profile, which is 3: one that is cut off or another one is the field at 8.
pub no-profile : taken_as Version2 (magic ++ (2 ∷ 0 ∷ 0 ∷ 0 ∷ [])) ≡ Err (refusal.Field 8)
unfolding taken_as behind_version
no-profile = refl

pub other-profile : taken_as Version2 (magic ++ (2 ∷ 0 ∷ 0 ∷ 0 ∷ []) ++ (2 ∷ 0 ∷ 0 ∷ 0 ∷ [])) ≡ Err (refusal.Field 8)
unfolding taken_as behind_version
other-profile = refl

-- The fuel is two, so a record that ended by it after one turn doesn't fit.
pub fuel-incoherent : incoherent_from 0 (first longer) (early ∷ []) ≡ Some 0
fuel-incoherent = rw early-fits (never (is_none (first longer).ending))
  where
    never : (b : Bool) → cond (b && false) (incoherent_from 1 (apply (first longer) early) []) (Some 0) ≡ Some 0
    never true = refl
    never false = refl

-- MUL a0, a0, a1 and DIVU a0, a0, a1 are instructions of M. ADD a0, a0, a1 has another funct7, and ADDI a0, a0, 43
-- another opcode.
pub mul-of-m : is_of_m 0x02B50533 ≡ true
mul-of-m = refl

pub divu-of-m : is_of_m 0x02B55533 ≡ true
divu-of-m = refl

pub add-not-of-m : is_of_m 0x00B50533 ≡ false
add-not-of-m = refl

pub addi-not-of-m : is_of_m 0x02B50513 ≡ false
addi-not-of-m = refl

-- A thunk that ended so at address 0x10000, where a page was read, or bytes were stored, or both.
abbrev pub left : ThunkEnd → List ReadPage → List PageDelta → Record
left end reads delta = record {
  thread = 0;
  number = 0;
  start = start;
  kept = record { end = end; count = 1; finish = start; reads = reads; delta = delta };
}

abbrev pub illegal : List ReadPage → List PageDelta → Record
illegal reads delta = left (Trap cause.IllegalInstruction) reads delta

abbrev pub read : List ℕ → List ReadPage
read bytes = record { slot = 0; bytes = bytes } ∷ []

abbrev pub stored : List Bool → List ℕ → List PageDelta
stored mask bytes = record { slot = 0; mask = mask; bytes = bytes } ∷ []

-- MUL a0, a0, a1 in the page that was read.
abbrev pub mul : List ℕ
mul = 0x33 ∷ 0x05 ∷ 0xB5 ∷ 0x02 ∷ []

-- Another page was read, and bytes of it were stored, before the relevant one.
abbrev pub elsewhere : List ReadPage
elsewhere = record { slot = 1; bytes = 7 ∷ 7 ∷ 7 ∷ 7 ∷ [] } ∷ []

-- The word follows from what was read, from stored bytes over what was read, and from stored bytes alone.
pub reported-read : known_word pages (illegal (read mul) []).kept 0x10000 ≡ Some 0x02B50533
reported-read = refl

pub reported-both :
    known_word pages
    (illegal (read (0x33 ∷ 0x05 ∷ 0xB5 ∷ 0x00 ∷ []))
    (stored (false ∷ true ∷ false ∷ true ∷ []) (0x55 ∷ 0x02 ∷ []))).kept
    0x10000
    ≡ Some 0x02B55533
reported-both = refl

pub reported-stored :
    known_word pages (illegal elsewhere (stored (true ∷ true ∷ true ∷ true ∷ []) mul)).kept 0x10000 ≡ Some 0x02B50533
reported-stored = refl

-- It is unknown if a byte of it was neither read nor stored, or if it crosses into a page that isn't mapped.
pub reported-none :
    known_word pages (illegal elsewhere (stored (true ∷ true ∷ false ∷ true ∷ []) (0x33 ∷ 0x05 ∷ 0x02 ∷ []))).kept
    0x10000
    ≡ None
reported-none = refl

pub reported-past : known_word pages (illegal (read (replicate 4094 0 ++ 0x33 ∷ 0x05 ∷ [])) []).kept 0x10FFE ≡ None
reported-past = refl

-- An end by an illegal instruction at a word of M comes from before M.
pub old-read : last_ends_at_m pages (illegal (read mul) [] ∷ []) ≡ true
old-read = refl

pub old-last : last_ends_at_m pages (one ∷ illegal (read mul) [] ∷ []) ≡ true
old-last = refl

-- Not so if a byte of the word is missing, at another word, by another end, or before the last record.
pub missing-not-old :
    last_ends_at_m pages
    (illegal elsewhere (stored (true ∷ true ∷ false ∷ true ∷ []) (0x33 ∷ 0x05 ∷ 0x02 ∷ [])) ∷ [])
    ≡ false
missing-not-old = refl

pub stored-over-not-old :
    last_ends_at_m pages (illegal (read mul) (stored (false ∷ false ∷ false ∷ true ∷ []) (0x04 ∷ [])) ∷ []) ≡ false
stored-over-not-old = refl

pub breakpoint-not-old : last_ends_at_m pages (left (Trap cause.Breakpoint) (read mul) [] ∷ []) ≡ false
breakpoint-not-old = refl

pub call-not-old : last_ends_at_m pages (left Call (read mul) [] ∷ []) ≡ false
call-not-old = refl

pub earlier-not-old : last_ends_at_m pages (illegal (read mul) [] ∷ one ∷ []) ≡ false
earlier-not-old = refl

pub none-not-old : last_ends_at_m pages [] ≡ false
none-not-old = refl
