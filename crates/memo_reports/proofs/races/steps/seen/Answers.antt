-- The clock is that of the step that gave the view, or counts nothing.
use Rattle.std.proofs.Common.{◌≡◌, ◌-◌, ℕ, suc, List, ap, sym, ◌∙◌, arith}
use Rattle.history_spec.specs.Facts.{Fact}
use Rattle.history_spec.specs.Ancestors.{clock_at}
use Rattle.round_spec.specs.Reach.{giver_end}
use Rattle.round_spec.specs.Sync.{sync_facts, count_within, seen_at}
use Rattle.memo_reports.proofs.races.steps.seen.Goals as goal

none-seen : (fs : List Fact) (i t : ℕ) → giver_end fs i ≡ 0 → 0 ≡ seen_at fs i t
unfolding seen_at
none-seen fs i t none = sym (ap (λ (n : ℕ). count_within fs n t) none)

giver-seen : (fs : List Fact) (i t e : ℕ) → giver_end fs i ≡ suc e → clock_at (sync_facts fs) e t ≡ seen_at fs i t
unfolding seen_at
giver-seen fs i t e is = sym (ap (λ (n : ℕ). count_within fs n t) is)

pub returns-then-end-eq0 : goal.returns-then-end-eq0
returns-then-end-eq0 c = λ t known.
    let none : giver_end c.args.facts.now c.args.i ≡ 0 = sym c.giver_end-end.ensures.end ∙ c.if-end-eq0.true in
    c.zero.ensures t ∙ none-seen c.args.facts.now c.args.i t none

pub returns-else-end-eq0 : goal.returns-else-end-eq0
returns-else-end-eq0 c = λ t known.
    let e = c.giver_end-end.result - 1 in
    let is : giver_end c.args.facts.now c.args.i ≡ suc e =
    sym c.giver_end-end.ensures.end ∙ (let some = c.if-end-eq0.false in omega arith) in
    c.clock.ensures t known
    ∙ ap (λ (fs : List Fact). clock_at fs e t) c.requires.graph
    ∙ giver-seen c.args.facts.now c.args.i t e is
