-- A guest's file is accepted.
use Rattle.std.proofs.Common.{◌≡◌, ℕ, ◌+◌, ◌/◌, ◌%◌, ◌<◌, ◌≤◌, ◌^◌, ◌==◌, true, false, not, cond, ◌&&◌, ◌||◌, nat_lt, List, [], ◌∷◌, ◌++◌, length, Option, Some, None, option_map, is_none, refl, ap, ◌∙◌, arith}
use Rattle.std.specs.Int.{bit_at}
use Rattle.std.proofs.lemmas.Bool.{le-ltb, or_from, and_right}
use Rattle.std.proofs.lemmas.List.FromFn.{length-range_with_len}
use Rattle.elf_spec.specs.declared.Refusal.{Refusal}
use Rattle.elf_spec.specs.declared.Refusal.TheVariants.{NotElf, ShortTable, Dynamic, ShortSegment, Outside, TooManyPages, Entry}
use Rattle.elf_spec.specs.Fields.{u16_at, u32_at}
use Rattle.elf_spec.specs.Header.{ProgramHeader, e_entry, is_load, is_dynamic, is_segment, program_header, segments}
use Rattle.elf_spec.specs.Segments.{page_numbers, page_permission}
use Rattle.elf_spec.specs.Refusals.{refuse_if, first_given, not_elf, not_elf32, not_exec, not_riscv, compressed, entry_size, short_table, dynamic, is_short, short_segment, is_outside, outside, overlap, too_many_pages, entry_refusal, refusal_of}
use Rattle.elf_spec.specs.Image.{is_image}
use Rattle.rv_asm.specs.Guest.{pages_taken}
use Rattle.rv_asm.proofs.Headers.{headers, guest_segment, length-file, entry-file, header-file, segments-file}
use Rattle.rv_asm.proofs.Pages.{page_numbers-one, permission-one}

-- the sizes and the place of a guest that is accepted
pub record Fits (base filesz memsz : ℕ) : Type 0 where
  pub page : base % 4096 ≡ 0
  pub low : 0x1000 ≤ base
  pub high : base + memsz ≤ 0xC0000000
  pub some : 0 < memsz
  pub few : memsz ≤ 0x400000
  pub within : filesz ≤ memsz

-- what follows from the sizes of the numbers
pub base_fits : (base filesz memsz : ℕ) → Fits base filesz memsz → base < 2 ^ 32
base_fits base filesz memsz fits = let high = fits.high in omega arith

pub filesz_fits : (base filesz memsz : ℕ) → Fits base filesz memsz → filesz < 2 ^ 32
filesz_fits base filesz memsz fits = let few = fits.few in let within = fits.within in omega arith

pub memsz_fits : (base filesz memsz : ℕ) → Fits base filesz memsz → memsz < 2 ^ 32
memsz_fits base filesz memsz fits = let few = fits.few in omega arith

none_first :
    (row : Option Refusal) (rest : List (Option Refusal)) → row ≡ None → first_given rest ≡ None
    → first_given (row ∷ rest) ≡ None
none_first row rest e r = ap (λ o. first_given (o ∷ rest)) e ∙ r

module _ (base filesz memsz : ℕ) (bytes : List ℕ) where
  abbrev pub file : List ℕ
  file = headers base filesz memsz ++ bytes

  elf_row : not_elf file ≡ None
  elf_row =
      let long = length-file base filesz memsz bytes in
      ap (λ b. refuse_if (b || false) NotElf) (le-ltb (length file) 52 (omega arith))

  elf32_row : not_elf32 file ≡ None
  elf32_row = refl

  exec_row : not_exec file ≡ None
  unfolding u16_at
  exec_row = refl

  riscv_row : not_riscv file ≡ None
  unfolding u16_at
  riscv_row = refl

  compressed_row : compressed file ≡ None
  unfolding u32_at
  compressed_row = refl

  entry_size_row : entry_size file ≡ None
  unfolding u16_at
  entry_size_row = refl

  table_row : short_table file ≡ None
  unfolding u16_at u32_at
  table_row =
      let long = length-file base filesz memsz bytes in
      ap (λ b. option_map ShortTable (cond b (Some 0) None)) (le-ltb (length file) 84 (omega arith))

  overlap_row : overlap file ≡ None
  unfolding u16_at
  overlap_row = refl

  module _ (fits : Fits base filesz memsz) where
    header : program_header file 0 ≡ guest_segment base filesz memsz
    header =
        header-file base filesz memsz bytes (base_fits base filesz memsz fits) (filesz_fits base filesz memsz fits)
        (memsz_fits base filesz memsz fits)

    pub one_segment : segments file ≡ guest_segment base filesz memsz ∷ []
    one_segment =
        segments-file base filesz memsz bytes (base_fits base filesz memsz fits) (filesz_fits base filesz memsz fits)
        (memsz_fits base filesz memsz fits) fits.some

    dynamic_row : dynamic file ≡ None
    unfolding u16_at
    dynamic_row = ap (λ h. option_map Dynamic (cond (is_dynamic h) (Some 0) None)) header

    short_row : length bytes ≡ filesz → short_segment file ≡ None
    unfolding u16_at
    short_row size =
        let long = length-file base filesz memsz bytes in
        let within = fits.within in
        let here : is_short file (guest_segment base filesz memsz) ≡ false =
        or_from _ _ (le-ltb (length file) (84 + filesz) (omega arith)) (le-ltb memsz filesz within) in
        ap (λ h. option_map ShortSegment (cond (is_load h && is_short file h) (Some 0) None)) header
        ∙ ap (λ b. option_map ShortSegment (cond b (Some 0) None)) here

    outside_row : outside file ≡ None
    unfolding u16_at
    outside_row =
        let segment = guest_segment base filesz memsz in
        let here : is_outside segment ≡ false =
        or_from _ _ (le-ltb base 0x1000 fits.low) (le-ltb 0xC0000000 (base + memsz) fits.high) in
        ap (λ h. option_map Outside (cond (is_segment h && is_outside h) (Some 0) None)) header
        ∙ ap (λ b. option_map Outside (cond b (Some 0) None)) (and_right (is_segment segment) (is_outside segment) here)

    pages_row : too_many_pages file ≡ None
    pages_row =
        let few = fits.few in
        let count : length (page_numbers (segments file)) ≡ pages_taken memsz =
        ap (λ list. length (page_numbers list)) one_segment
        ∙ ap length (page_numbers-one base filesz memsz fits.page fits.some)
        ∙ length-range_with_len (base / 4096) (pages_taken memsz) in
        ap (λ n. refuse_if (nat_lt 1024 n) (TooManyPages n)) count
        ∙ ap (λ b. refuse_if b (TooManyPages (pages_taken memsz))) (le-ltb 1024 (pages_taken memsz) (omega arith))

    entry_row : entry_refusal file ≡ None
    entry_row =
        let page = fits.page in
        let some = fits.some in
        let test : List ProgramHeader → ℕ → Option Refusal =
        λ list start. refuse_if (not (start % 4 == 0 && (bit_at (page_permission list (start / 4096)) 0 == 1))) Entry in
        let start : e_entry file ≡ base = entry-file base filesz memsz bytes (base_fits base filesz memsz fits) in
        let aligned : base % 4 ≡ 0 = omega arith in
        let rights : page_permission (guest_segment base filesz memsz ∷ []) (base / 4096) ≡ 7 =
        permission-one base filesz memsz (base / 4096) page some (omega arith) (omega arith) in
        (λ i. test (one_segment i) (start i))
        ∙ (λ i. refuse_if (not (aligned i == 0 && (bit_at (rights i) 0 == 1))) Entry)

    pub none_refuses : length bytes ≡ filesz → refusal_of file ≡ None
    unfolding refusal_of
    none_refuses size =
        let l13 = entry_refusal file ∷ [] in
        let l12 = too_many_pages file ∷ l13 in
        let l11 = overlap file ∷ l12 in
        let l10 = outside file ∷ l11 in
        let l9 = short_segment file ∷ l10 in
        let l8 = dynamic file ∷ l9 in
        let l7 = short_table file ∷ l8 in
        let l6 = entry_size file ∷ l7 in
        let l5 = compressed file ∷ l6 in
        let l4 = not_riscv file ∷ l5 in
        let l3 = not_exec file ∷ l4 in
        let l2 = not_elf32 file ∷ l3 in
        let r13 : first_given l13 ≡ None = none_first (entry_refusal file) [] entry_row refl in
        let r12 : first_given l12 ≡ None = none_first (too_many_pages file) l13 pages_row r13 in
        let r11 : first_given l11 ≡ None = none_first (overlap file) l12 overlap_row r12 in
        let r10 : first_given l10 ≡ None = none_first (outside file) l11 outside_row r11 in
        let r9 : first_given l9 ≡ None = none_first (short_segment file) l10 (short_row size) r10 in
        let r8 : first_given l8 ≡ None = none_first (dynamic file) l9 dynamic_row r9 in
        let r7 : first_given l7 ≡ None = none_first (short_table file) l8 table_row r8 in
        let r6 : first_given l6 ≡ None = none_first (entry_size file) l7 entry_size_row r7 in
        let r5 : first_given l5 ≡ None = none_first (compressed file) l6 compressed_row r6 in
        let r4 : first_given l4 ≡ None = none_first (not_riscv file) l5 riscv_row r5 in
        let r3 : first_given l3 ≡ None = none_first (not_exec file) l4 exec_row r4 in
        let r2 : first_given l2 ≡ None = none_first (not_elf32 file) l3 elf32_row r3 in
        none_first (not_elf file) l2 elf_row r2

    pub accepted : length bytes ≡ filesz → is_image file ≡ true
    unfolding is_image
    accepted size = ap is_none (none_refuses size)
