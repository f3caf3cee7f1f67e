-- The rows of refusals in three parts: those of the header, those of the program headers, and those of the pages.
use Rattle.std.specs.Prelude.{ℕ, List, [], ◌∷◌, Option}
use Rattle.elf_spec.specs.declared.Refusal.{Refusal}
use Rattle.elf_spec.specs.Refusals.{not_elf, not_elf32, not_exec, not_riscv, compressed, entry_size, short_table, dynamic, short_segment, outside, overlap, too_many_pages, entry_refusal}

-- The results of the rows of the header. (System V gABI, ch. 4, ELF Header)
abbrev pub header_rows : List ℕ → List (Option Refusal)
header_rows bytes =
    not_elf bytes ∷ not_elf32 bytes ∷ not_exec bytes ∷ not_riscv bytes ∷ compressed bytes ∷ entry_size bytes ∷ []

-- The results of the rows of the program headers. (System V gABI, ch. 5, Program Header)
abbrev pub table_rows : List ℕ → List (Option Refusal)
table_rows bytes = short_table bytes ∷ dynamic bytes ∷ short_segment bytes ∷ outside bytes ∷ overlap bytes ∷ []

-- The results of the rows of the pages.
abbrev pub page_rows : List ℕ → List (Option Refusal)
page_rows bytes = too_many_pages bytes ∷ entry_refusal bytes ∷ []
