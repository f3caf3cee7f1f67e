-- How many read pages are compared with a view to find whether a record fits.
use Rattle.std.specs.Prelude.{◌+◌, ◌&&◌, ◌==◌, ℕ, if◌then◌else◌, List, [], ◌∷◌}
use Rattle.std.specs.Str.{bytes_eq}
use Rattle.isa_spec.specs.Registers.{Registers, same_registers}
use Rattle.memory_spec.specs.Pages.{Memory, page_of}
use Rattle.thunk_spec.specs.Reads.{ReadPage}
use Rattle.thunk_spec.specs.Record.{Record}

-- How many of some read pages: those up to the first that differs, with it.
abbrev pub compared_in : Memory → List ReadPage → ℕ
compared_in view [] = 0
compared_in view (r ∷ reads) = 1 + (if bytes_eq (page_of view r.slot) r.bytes then compared_in view reads else 0)

-- How many of a record, for a thread that has made so many steps, with these registers and this view: none if the
-- number or the registers differ.
abbrev pub compared_for : Record → ℕ → Registers → Memory → ℕ
compared_for r number regs view =
    if (r.number == number) && same_registers r.start regs then compared_in view r.kept.reads else 0
