-- Answers to the goals that the check of `segments_of` leaves open.
use Rattle.std.proofs.Common.{◌≡◌, Bool, true, false, cond, List, [], ◌∷◌, ◌++◌, map, sym, ap, ap₂, ◌∙◌, append-nil}
use Rattle.std.proofs.lemmas.List.{map-append}
use Rattle.elf_spec.specs.Header.{ProgramHeader, is_segment}
use Rattle.elf_load.specs.declared.header.Header.{Header}
use Rattle.elf_load.specs.Header.{header_of}
use Rattle.elf_load.proofs.Along.{segments_more}
use Rattle.elf_load.proofs.image.segments_of.Goals as goal

-- what a list of headers is read as, with one more if a test holds
map-pushed :
    (b : Bool) (headers : List Header) (header : Header)
    → map header_of (cond b (headers ++ header ∷ []) headers)
    ≡ map header_of headers ++ cond b (header_of header ∷ []) []
map-pushed true headers header = map-append header_of headers (header ∷ [])
map-pushed false headers header = sym (append-nil (map header_of headers))

pub loop-i-preserved : goal.loop-i-preserved
loop-i-preserved c =
    let header = c.header_at.result in
    let headers = c.loop-i.found.items in
    let next : List ProgramHeader → ProgramHeader → List ProgramHeader =
    λ before one. before ++ cond (is_segment one) (one ∷ []) [] in
    let pushed : c.push_segment.new.found.items ≡ cond (is_segment (header_of header)) (headers ++ header ∷ [])
    headers =
    c.in_ok-push_segment.ensures in
    ap (map header_of) pushed ∙ map-pushed (is_segment (header_of header)) headers header
    ∙ ap₂ next c.loop-i.invariant c.header_at.ensures ∙ sym (segments_more c.args.bytes.now c.loop-i.i)
