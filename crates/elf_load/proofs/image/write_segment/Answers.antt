-- Answers to the goals that the check of `write_segment` leaves open.
use Rattle.std.proofs.Common.{◌≡◌, ◌<◌, ◌+◌, ◌-◌, ◌*◌, ℕ, Some, true, get_or, ap, ◌∙◌, arith}
use Rattle.elf_spec.specs.Segments.{has_address}
use Rattle.elf_spec.specs.Image.{segment_byte}
use Rattle.elf_load.specs.Header.{header_of}
use Rattle.elf_load.specs.Place.{offset_on}
use Rattle.elf_load.proofs.Parts.{written_segment}
use Rattle.elf_load.proofs.image.write_segment.Goals as goal

pub returns : goal.returns
returns c = λ k inside.
    let start : c.offset_on-start.result ≡ offset_on c.args.number c.args.header.vaddr = omega arith in
    let end : c.offset_on-end.result ≡ offset_on c.args.number (c.args.header.vaddr + c.args.header.memsz) =
    omega arith in
    let part = c.part_on-part.result.now in
    let each : (k : ℕ) → k < 4096 → has_address (header_of c.args.header) (4096 * c.args.number + k) ≡ true
    → get_or part (k - c.offset_on-start.result) 0
    ≡ segment_byte c.args.bytes.now (Some (header_of c.args.header)) (4096 * c.args.number + k) =
    λ k inside has.
    ap (λ (s : ℕ). get_or part (k - s) 0) start ∙ c.part_on-part.ensures.each k inside has in
    written_segment c.args.bytes.now c.args.page.now part c.copy_from_slice.new.self c.fill.new.self
    (header_of c.args.header) c.args.number c.offset_on-start.result c.offset_on-end.result k start end
    (omega (arith, start, end, c.part_on-part.ensures.within)) each c.told-page c.copy_from_slice.ensures.after
    (c.fill.ensures.after (λ y same. same)) inside
