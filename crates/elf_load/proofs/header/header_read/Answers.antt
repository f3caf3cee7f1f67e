-- Answers to the goals that the check of `header_read` leaves open.
use Rattle.std.proofs.Common.{◌≡◌, ◌<◌, ℕ, List, length, map, get_or, sym, ap, ◌∙◌, subst, zero-add}
use Rattle.std.proofs.lemmas.List.{get_or-map, length-map}
use Rattle.std.proofs.lemmas.List.FromFn.{length-map-range_with_len, get_or-map-range_with_len}
use Rattle.elf_spec.specs.Header.{ProgramHeader, e_phnum, program_header, program_headers}
use Rattle.elf_load.specs.declared.header.Header.{Header}
use Rattle.elf_load.specs.Header.{header_of}
use Rattle.elf_load.proofs.header.header_read.Goals as goal

-- there are as many headers as the file states
count_read :
    (bytes : List ℕ) (headers : List Header) → map header_of headers ≡ program_headers bytes
    → length headers ≡ e_phnum bytes
count_read bytes headers same =
    sym (length-map headers header_of) ∙ ap length same
    ∙ length-map-range_with_len (program_header bytes) 0 (e_phnum bytes)

-- the header of a number is the file's
nth_read :
    (bytes : List ℕ) (headers : List Header) (number : ℕ) (other : Header)
    → map header_of headers ≡ program_headers bytes → number < e_phnum bytes
    → header_of (get_or headers number other) ≡ program_header bytes number
nth_read bytes headers number other same below =
    let inside : number < length headers = subst (λ n. number < n) (sym (count_read bytes headers same)) below in
    let none : ProgramHeader = header_of other in
    sym (get_or-map header_of headers number other none inside) ∙ ap (λ list. get_or list number none) same
    ∙ get_or-map-range_with_len (program_header bytes) 0 (e_phnum bytes) number number none below (zero-add number)

pub bounds-headers-number : goal.bounds-headers-number
bounds-headers-number c =
    subst (λ n. c.args.number < n) (sym (count_read c.args.bytes.now c.args.headers.now c.requires.headers))
    c.requires.number

pub returns : goal.returns
returns c = nth_read c.args.bytes.now c.args.headers.now c.args.number _ c.requires.headers c.requires.number
