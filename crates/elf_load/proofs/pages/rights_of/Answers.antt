-- Answers to the goals that the check of `rights_of` leaves open.
use Rattle.std.proofs.Common.{◌≡◌, ℕ, List, [], ◌∷◌, fold, take, map, bit_or, refl, ap, ◌∙◌, arith}
use Rattle.std.proofs.lemmas.List.{take_all}
use Rattle.elf_spec.specs.Segments.{segment_permission}
use Rattle.elf_load.specs.declared.header.Header.{Header}
use Rattle.elf_load.specs.Header.{header_of}
use Rattle.elf_load.proofs.pages.rights_of.Goals as goal

-- the union of the rights, from each header at once or from the segment that it is read as
fold_meant :
    (rights : ℕ) (headers : List Header)
    → fold (λ (rights : ℕ) header. bit_or rights (segment_permission (header_of header))) rights headers
    ≡ fold bit_or rights (map segment_permission (map header_of headers))
fold_meant rights [] = refl
fold_meant rights (header ∷ headers) = fold_meant (bit_or rights (segment_permission (header_of header))) headers

pub returns : goal.returns
returns c =
    let all : take c.loop-header.header-index c.args.headers.now ≡ c.args.headers.now = take_all _ _ (omega arith) in
    c.loop-header.invariant ∙ fold_meant 0 (take c.loop-header.header-index c.args.headers.now)
    ∙ ap (λ (list : List Header). fold bit_or 0 (map segment_permission (map header_of list))) all
