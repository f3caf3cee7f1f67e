-- The questions about each program header in turn, for the refusals that name one.
use Rattle.std.specs.Prelude.{ℕ, ◌+◌, Bool, ◌&&◌, nat_lt, List, length}
use Rattle.elf_load.specs.declared.refusals.Question.{Question}
use Rattle.elf_load.specs.declared.refusals.Question.TheVariants.{ShortTable, Dynamic, ShortSegment, Outside}
use Rattle.elf_spec.specs.Header.{program_header, program_header_offset, is_load, is_dynamic, is_segment}
use Rattle.elf_spec.specs.Refusals.{is_short, is_outside}

-- The answer to a question about the program header of a number. (System V gABI, ch. 5, Program Header)
abbrev pub test_of : Question → List ℕ → ℕ → Bool
test_of ShortTable bytes i = nat_lt (length bytes) (program_header_offset bytes (i + 1))
test_of Dynamic bytes i = is_dynamic (program_header bytes i)
test_of ShortSegment bytes i = is_load (program_header bytes i) && is_short bytes (program_header bytes i)
test_of Outside bytes i = is_segment (program_header bytes i) && is_outside (program_header bytes i)
