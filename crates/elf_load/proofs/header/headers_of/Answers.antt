-- Answers to the goals that the check of `headers_of` leaves open.
use Rattle.std.proofs.Common.{List, [], ◌∷◌, ◌++◌, map, sym, ap, ap₂, ◌∙◌, zero-add}
use Rattle.std.proofs.lemmas.List.{map-append}
use Rattle.std.proofs.lemmas.List.FromFn.{map-range_with_len_more}
use Rattle.elf_spec.specs.Header.{ProgramHeader, program_header}
use Rattle.elf_load.specs.Header.{header_of}
use Rattle.elf_load.proofs.header.headers_of.Goals as goal

pub loop-number-preserved : goal.loop-number-preserved
loop-number-preserved c =
    let header = c.header_at.result in
    let next : List ProgramHeader → ProgramHeader → List ProgramHeader = λ before one. before ++ one ∷ [] in
    ap (map header_of) c.in_ok-push.ensures.items ∙ map-append header_of c.loop-number.headers.items (header ∷ [])
    ∙ ap₂ next c.loop-number.invariant c.header_at.ensures
    ∙ sym (map-range_with_len_more (program_header c.args.bytes.now) 0 c.loop-number.number c.loop-number.number
    (zero-add c.loop-number.number))
