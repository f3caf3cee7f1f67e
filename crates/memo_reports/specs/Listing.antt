-- The listing of a history: a line for each number of its setup, the count of its records, and a line for each of them.
use Rattle.std.specs.Prelude.{ℕ, suc, ◌*◌, List, [], ◌∷◌, ◌++◌, length, map, codes, slice_index}
use Rattle.std.specs.List.{flat_map}
use Rattle.std.specs.Fmt.{decimal}
use Rattle.isa_spec.specs.Causes.{number_of}
use Rattle.isa_spec.specs.Registers.{register}
use Rattle.memory_spec.specs.declared.TheConstants.{PAGE_SIZE}
use Rattle.memory_spec.specs.Pages.{Mapped}
use Rattle.thunk_spec.specs.declared.ends.ThunkEnd.{ThunkEnd}
use Rattle.thunk_spec.specs.declared.ends.ThunkEnd.TheVariants.{Call, Trap, Fuel}
use Rattle.thunk_spec.specs.Delta.{PageDelta}
use Rattle.thunk_spec.specs.Reads.{ReadPage}
use Rattle.thunk_spec.specs.Record.{Record}
use Rattle.machine_spec.specs.Setup.{Setup, map_of}
use Rattle.history_spec.specs.History.{History}
use Rattle.report_spec.specs.Text.{newline, line, hex8}

-- The addresses of the pages of a setup, each at its slot.
abbrev pub addresses_of : Setup → List ℕ
addresses_of s = map (λ (page : Mapped). page.number * PAGE_SIZE) (map_of s)

-- How a thunk ended; a call is given by its number, which is in a7.
abbrev pub end_text : ThunkEnd → ℕ → List ℕ
end_text Call a7 = codes "call " ++ decimal a7
end_text (Trap cause) a7 = codes "trap " ++ decimal (number_of cause)
end_text Fuel a7 = codes "fuel"

-- The address of the page in a slot, as eight hexadecimal digits.
abbrev pub address_text : List ℕ → ℕ → List ℕ
address_text addresses slot = hex8 (slice_index addresses slot)

-- The addresses of the pages of some things, each of which has a slot, with commas between them; a dash if there is
-- none.
abbrev pub pages_text : {A : Type 0} → List ℕ → (A → ℕ) → List A → List ℕ
pages_text addresses slot [] = codes "-"
pages_text addresses slot (thing ∷ things) =
    address_text addresses (slot thing)
    ++ flat_map (λ other. codes "," ++ address_text addresses (slot other)) things

-- The pages that a record read, and those that it stored to.
abbrev pub reads_text : List ℕ → List ReadPage → List ℕ
reads_text addresses reads = pages_text addresses (λ (p : ReadPage). p.slot) reads

abbrev pub writes_text : List ℕ → List PageDelta → List ℕ
writes_text addresses delta = pages_text addresses (λ (d : PageDelta). d.slot) delta

-- The line of the record at place i. (a7 is x17: RISC-V unprivileged ISA 20191213, ch. 25)
abbrev pub entry_line : List ℕ → ℕ → Record → List ℕ
entry_line addresses i r =
    codes "entry " ++ decimal i
    ++ codes " thread " ++ decimal r.thread
    ++ codes " number " ++ decimal r.number
    ++ codes " end " ++ end_text r.kept.end (register r.kept.finish 17)
    ++ codes " count " ++ decimal r.kept.count
    ++ codes " reads " ++ reads_text addresses r.kept.reads
    ++ codes " writes " ++ writes_text addresses r.kept.delta
    ++ newline

-- The lines of some records, the first of which is at place i.
abbrev pub entry_lines : List ℕ → ℕ → List Record → List ℕ
entry_lines addresses i [] = []
entry_lines addresses i (r ∷ rs) = entry_line addresses i r ++ entry_lines addresses (suc i) rs

-- The lines of a setup, and of how many records there are.
abbrev pub setup_lines : Setup → ℕ → List ℕ
setup_lines s entries =
    line (codes "elf") (decimal (length s.elf))
    ++ line (codes "input") (decimal (length s.input))
    ++ line (codes "fuel") (decimal s.fuel)
    ++ line (codes "limit") (decimal s.limit)
    ++ line (codes "entries") (decimal entries)

-- The listing of a history.
unfoldable pub listing : History → List ℕ
listing h = setup_lines h.setup (length h.records) ++ entry_lines (addresses_of h.setup) 0 h.records
