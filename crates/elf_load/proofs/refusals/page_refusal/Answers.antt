-- Answers to the goals that the check of `page_refusal` leaves open.
use Rattle.std.proofs.Common.{◌≡◌, ℕ, List, map, filter, ap, ◌∙◌}
use Rattle.elf_spec.specs.Header.{segments}
use Rattle.elf_spec.specs.Segments.{touches}
use Rattle.elf_load.specs.declared.header.Header.{Header}
use Rattle.elf_load.specs.Header.{header_of}
use Rattle.elf_load.proofs.Searches.{map-filter}
use Rattle.elf_load.proofs.refusals.page_refusal.Goals as goal

-- the segments on a page, from those that were read
on_page :
    (bytes : List ℕ) (number : ℕ) (near headers : List Header)
    → near ≡ filter (λ header. touches number (header_of header)) headers → map header_of headers ≡ segments bytes
    → map header_of near ≡ filter (touches number) (segments bytes)
on_page bytes number near headers kept same =
    ap (map header_of) kept ∙ map-filter header_of (touches number) headers ∙ ap (filter (touches number)) same

pub entry_refusal-requires : goal.entry_refusal-requires
entry_refusal-requires c =
    let headers = ap (map header_of) c.as_slice-2.ensures.value ∙ c.in_ok-segments.ensures in
    ap (map header_of) c.as_slice-3.ensures.value
    ∙ on_page c.args.bytes.now _ c.in_ok-near.near.items _ c.in_ok-near.ensures headers
    ∙ ap (λ page. filter (touches page) (segments c.args.bytes.now)) c.entry_page-page.ensures
