-- Answers to the goals that the check of `page_bytes` leaves open.
use Rattle.std.proofs.Common.{◌+◌, ◌*◌, List, reverse, refl, ap, ◌∙◌}
use Rattle.std.proofs.lemmas.Iterator.Adapters.{YieldsList-from_rev_slice}
use Rattle.std.proofs.lemmas.Iterator.Consumers.{YieldsList-end}
use Rattle.std.proofs.lemmas.List.{get_or-replicate, reverse-reverse}
use Rattle.elf_load.specs.declared.header.Header.{Header}
use Rattle.elf_load.proofs.Parts.{first_byte, page_is}
use Rattle.elf_load.proofs.image.page_bytes.Goals as goal

pub loop-header-init : goal.loop-header-init
loop-header-init c = (refl, λ k inside. get_or-replicate 4096 k 0 0 inside)

pub returns : goal.returns
returns c =
    let bytes = c.args.bytes.now in
    let near = c.args.near.now in
    let all = YieldsList-end (YieldsList-from_rev_slice near (cc)) c.loop-header.yielded _ c.loop-header.yielded_by _ _
    c.in-None.is c.next.ensures.steps in
    page_is bytes near c.args.number c.loop-header.page c.requires c.loop-header.invariant.0 (λ k inside.
    c.loop-header.invariant.1 k inside
    ∙ ap (λ (headers : List Header). first_byte bytes headers (4096 * c.args.number + k))
    (ap reverse all.0 ∙ reverse-reverse near))
