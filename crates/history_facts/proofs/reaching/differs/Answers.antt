-- A page that isn't there has no bytes.
use Rattle.std.proofs.Common.{◌≡◌, ℕ, true, leb, not, List, [], ◌∷◌, length, refl, sym, ap, ◌∙◌, arith}
use Rattle.std.specs.Str.{bytes_eq}
use Rattle.std.proofs.lemmas.List.{get_or_past}
use Rattle.std.proofs.lemmas.Bool.Decides.{nat_tests}
use Rattle.memory_spec.specs.Pages.{page_of}
use Rattle.history_facts.proofs.reaching.differs.Goals as goal

unlike-none : (page : List ℕ) → length page ≡ 4096 → true ≡ not (bytes_eq page [])
unlike-none [] full = absurd (let no : 0 ≡ 4096 = full in omega arith)
unlike-none (b ∷ page) full = refl

pub returns-then-slot-len : goal.returns-then-slot-len
returns-then-slot-len c =
    let old = c.args.old.now in
    let new = c.args.new.now in
    let full : length (page_of old c.args.slot) ≡ 4096 = c.page-page.ensures.whole c.args.slot [] c.requires in
    let none : page_of new c.args.slot ≡ [] = get_or_past new c.args.slot [] (omega arith) in
    let past : leb c.len.result c.args.slot ≡ true = grind (arith, nat_tests) in
    past
    ∙ unlike-none (page_of old c.args.slot) full
    ∙ ap (λ (p : List ℕ). not (bytes_eq (page_of old c.args.slot) p)) (sym none)
