-- Answers to the goals that the check of `add_page` leaves open.
use Rattle.std.proofs.Common.{◌≡◌, ℕ, List, arith, map, filter, fold, bit_or, ap, ◌∙◌}
use Rattle.elf_spec.specs.Header.{ProgramHeader, segments}
use Rattle.elf_spec.specs.Segments.{touches, page_permission, segment_permission}
use Rattle.elf_load.specs.declared.header.Header.{Header}
use Rattle.elf_load.specs.Header.{header_of}
use Rattle.elf_load.proofs.Searches.{map-filter}
use Rattle.elf_load.proofs.loader.add_page.Goals as goal

-- the segments on a page, from those that were read
on_page :
    (bytes : List ℕ) (number : ℕ) (near headers : List Header)
    → near ≡ filter (λ header. touches number (header_of header)) headers → map header_of headers ≡ segments bytes
    → map header_of near ≡ filter (touches number) (segments bytes)
on_page bytes number near headers kept same =
    ap (map header_of) kept ∙ map-filter header_of (touches number) headers ∙ ap (filter (touches number)) same

pub push_bytes-requires-clause-near : goal.push_bytes-requires-clause-near
push_bytes-requires-clause-near c =
    ap (map header_of) c.as_slice-then-touched.ensures.value
    ∙ on_page c.args.bytes.now c.args.number c.in_ok-near.near.items c.args.headers.now c.in_ok-near.ensures
    c.requires.headers

pub returns-in_ok-push_bytes-clause-mapped : goal.returns-in_ok-push_bytes-clause-mapped
returns-in_ok-push_bytes-clause-mapped c =
    let near =
    ap (map header_of) c.as_slice.ensures.value
    ∙ on_page c.args.bytes.now c.args.number c.in_ok-near.near.items c.args.headers.now c.in_ok-near.ensures
    c.requires.headers in
    let rights : c.rights_of.result ≡ page_permission (segments c.args.bytes.now) c.args.number =
    c.rights_of.ensures ∙ ap (λ (list : List ProgramHeader). fold bit_or 0 (map segment_permission list)) near in
    grind (arith, rights)
