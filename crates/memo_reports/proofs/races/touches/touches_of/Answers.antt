-- The slots of a record's pages ascend.
use Rattle.std.proofs.Common.{◌≡◌, ◌<◌, List, [], ◌∷◌, ℕ, zero, suc, All, true, map, ap, ap₂, sym, ◌∙◌, subst, arith}
use Rattle.thunk_spec.specs.Delta.{PageDelta}
use Rattle.thunk_spec.specs.Reads.{ReadPage}
use Rattle.memo_reports.specs.Touches.{ascends, touches_in}
use Rattle.memo_reports.proofs.Merging.{reads-ascend, deltas-ascend}
use Rattle.memo_reports.proofs.races.touches.touches_of.Goals as goal

mapped-slots :
    {A : Type 0} (slot : A → ℕ) (pages : ℕ) (xs : List A) → All (λ (x : A). slot x < pages) xs
    → All (λ (p : ℕ). p < pages) (map slot xs)
mapped-slots slot pages [] all k d less = absurd (omega arith)
mapped-slots slot pages (x ∷ xs) all zero d less = all 0 x (omega arith)
mapped-slots slot pages (x ∷ xs) all (suc k) d less =
    mapped-slots slot pages xs (λ j e below. all (suc j) e (omega arith)) k d (omega arith)

pub merged-requires-clause-reads : goal.merged-requires-clause-reads
merged-requires-clause-reads c =
    subst (λ (ps : List ℕ). ascends 0 ps ≡ true)
    (sym (c.deref.ensures.value ∙ c.in_ok-reads.ensures ∙ ap (map (λ (p : ReadPage). p.slot)) c.pages.ensures.pages))
    (reads-ascend 0 c.reads.result.now c.pages.ensures.ascending)

pub merged-requires-clause-written : goal.merged-requires-clause-written
merged-requires-clause-written c =
    subst (λ (ps : List ℕ). ascends 0 ps ≡ true)
    (sym (c.deref-2.ensures.value ∙ c.in_ok-written.ensures ∙ ap (map (λ (d : PageDelta). d.slot)) c.pages-2.ensures.pages))
    (deltas-ascend 0 c.delta.result.now c.pages-2.ensures.ascending)

pub merged-requires-clause-reads_mapped : goal.merged-requires-clause-reads_mapped
merged-requires-clause-reads_mapped c =
    subst (All (λ (p : ℕ). p < c.args.pages))
    (sym (c.deref.ensures.value ∙ c.in_ok-reads.ensures
    ∙ ap (map (λ (p : ReadPage). p.slot)) (c.pages.ensures.pages ∙ c.reads.ensures)))
    (mapped-slots (λ (p : ReadPage). p.slot) c.args.pages c.args.rec.now.kept.reads c.requires.reads)

pub merged-requires-clause-written_mapped : goal.merged-requires-clause-written_mapped
merged-requires-clause-written_mapped c =
    subst (All (λ (p : ℕ). p < c.args.pages))
    (sym (c.deref-2.ensures.value ∙ c.in_ok-written.ensures
    ∙ ap (map (λ (d : PageDelta). d.slot)) (c.pages-2.ensures.pages ∙ c.delta.ensures)))
    (mapped-slots (λ (d : PageDelta). d.slot) c.args.pages c.args.rec.now.kept.delta c.requires.delta)

pub returns : goal.returns
returns c =
    c.in_ok-touches.ensures
    ∙ ap₂ (λ (rs ws : List ℕ). touches_in c.args.pages rs ws)
    (c.deref.ensures.value ∙ c.in_ok-reads.ensures
    ∙ ap (map (λ (p : ReadPage). p.slot)) (c.pages.ensures.pages ∙ c.reads.ensures))
    (c.deref-2.ensures.value ∙ c.in_ok-written.ensures
    ∙ ap (map (λ (d : PageDelta). d.slot)) (c.pages-2.ensures.pages ∙ c.delta.ensures))
