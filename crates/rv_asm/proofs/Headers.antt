-- How the fields of a guest's file are read.
use Rattle.std.proofs.Common.{cond, filter, ◌≡◌, ℕ, ◌+◌, ◌<◌, ◌^◌, List, [], ◌∷◌, ◌++◌, length, slice_index, ap, ◌∙◌, length-append}
use Rattle.std.proofs.lemmas.List.{get_or-append-add}
use Rattle.std.proofs.lemmas.Bool.{lt-ltb}
use Rattle.std.proofs.lemmas.Nat.{from_le_bytes-to_le_bytes_4}
use Rattle.elf_spec.specs.Fields.{u16_at, u32_at}
use Rattle.elf_spec.specs.Header.{ProgramHeader, is_segment, e_entry, program_header, segments}
use Rattle.rv_asm.specs.File.{file_header, segment_header}

-- both headers of a guest's file
abbrev pub headers : ℕ → ℕ → ℕ → List ℕ
headers base filesz memsz = file_header base ++ segment_header base filesz memsz

-- the program header of a guest's file
abbrev pub guest_segment : ℕ → ℕ → ℕ → ProgramHeader
guest_segment base filesz memsz =
    record { kind = 1; offset = 84; vaddr = base; filesz = filesz; memsz = memsz; flags = 7 }

pub length-file :
    (base filesz memsz : ℕ) (bytes : List ℕ)
    → length (headers base filesz memsz ++ bytes) ≡ 84 + length bytes
length-file base filesz memsz bytes = length-append (headers base filesz memsz) bytes

pub byte-file :
    (base filesz memsz : ℕ) (bytes : List ℕ) (k : ℕ)
    → slice_index (headers base filesz memsz ++ bytes) (84 + k) ≡ slice_index bytes k
byte-file base filesz memsz bytes k = get_or-append-add (headers base filesz memsz) bytes k 0

pub entry-file :
    (base filesz memsz : ℕ) (bytes : List ℕ) → base < 2 ^ 32
    → e_entry (headers base filesz memsz ++ bytes) ≡ base
unfolding u32_at
entry-file base filesz memsz bytes fits = from_le_bytes-to_le_bytes_4 base fits

pub header-file :
    (base filesz memsz : ℕ) (bytes : List ℕ) → base < 2 ^ 32 → filesz < 2 ^ 32 → memsz < 2 ^ 32
    → program_header (headers base filesz memsz ++ bytes) 0 ≡ guest_segment base filesz memsz
unfolding u32_at
header-file base filesz memsz bytes base_fits filesz_fits memsz_fits =
    let at_base = from_le_bytes-to_le_bytes_4 base base_fits in
    let at_filesz = from_le_bytes-to_le_bytes_4 filesz filesz_fits in
    let at_memsz = from_le_bytes-to_le_bytes_4 memsz memsz_fits in
    λ i. record { kind = 1; offset = 84; vaddr = at_base i; filesz = at_filesz i; memsz = at_memsz i; flags = 7 }

-- the one segment of a guest's file
pub segments-file :
    (base filesz memsz : ℕ) (bytes : List ℕ) → base < 2 ^ 32 → filesz < 2 ^ 32 → memsz < 2 ^ 32 → 0 < memsz
    → segments (headers base filesz memsz ++ bytes) ≡ guest_segment base filesz memsz ∷ []
unfolding u16_at
segments-file base filesz memsz bytes base_fits filesz_fits memsz_fits some =
    ap (λ h. filter is_segment (h ∷ [])) (header-file base filesz memsz bytes base_fits filesz_fits memsz_fits)
    ∙ ap (λ b. cond b (guest_segment base filesz memsz ∷ []) []) (lt-ltb 0 memsz some)
