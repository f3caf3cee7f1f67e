-- Answers to the goals that the check of `is_blank` leaves open.
use Rattle.std.proofs.Common.{rules, tests}
use Rattle.std.proofs.lemmas.Bool.{MatchBool-at_true}
use Rattle.std.proofs.lemmas.Iterator.{YieldsList-from_slice, cases_from_all}
use Rattle.std.proofs.lemmas.List.Elements.{All-from_all_within}
use Rattle.elf_load.specs.declared.header.Header.{Header}
use Rattle.elf_load.proofs.Parts.{HasNoPart, page_blank}
use Rattle.elf_load.proofs.image.is_blank.Goals as goal

pub returns : goal.returns
returns c = λ yes.
    let bytes = c.args.bytes.now in
    let near = c.args.near.now in
    let number = c.args.number in
    let cases = cases_from_all _ _ c.all.result (HasNoPart bytes number) (λ (_ : Header). Unit {0}) c.all.ensures.ran
    (YieldsList-from_slice near (cc)) (λ x q called. search (rules, tests)) (λ x q called. tt) in
    page_blank bytes near number c.requires
    (All-from_all_within (HasNoPart bytes number) near (MatchBool-at_true _ _ yes cases))
