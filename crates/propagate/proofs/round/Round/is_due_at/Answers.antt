-- Answers to the goals that the check of `Round::is_due_at` leaves open.
use Rattle.std.proofs.Common.{◌≡◌, ℕ, List, length, ap, sym, subst, ◌∙◌, arith}
use Rattle.std.specs.Bool.{Decides}
use Rattle.history_spec.specs.Facts.{Fact}
use Rattle.history_spec.specs.Ancestors.{clock_at}
use Rattle.round_spec.specs.Rounds.{RoundState}
use Rattle.round_spec.specs.Due.{past_facts}
use Rattle.propagate.specs.Choosing.{HaveMade}
use Rattle.propagate.proofs.Due.{absent-is_due, placed-is_due}
use Rattle.propagate.proofs.round.Round.is_due_at.Goals as goal

pub returns-then-place-len : goal.returns-then-place-len
returns-then-place-len c =
    let many : length c.args.graph.now ≡ length (past_facts c.args.self.now.past) =
    ap (λ (fs : List Fact). length fs) c.requires.facts.same in
    sym
    (absent-is_due c.args.self.now.past c.args.self.now.machine c.args.t c.requires.facts.of_run
    (omega (arith, c.requires.place, c.if-place-len.true, c.len.ensures, many)))

pub returns : goal.returns
returns c =
    let many : length c.args.graph.now ≡ length (past_facts c.args.self.now.past) =
    ap (λ (fs : List Fact). length fs) c.requires.facts.same in
    sym
    (placed-is_due c.args.self.now.past c.args.self.now.machine c.args.t c.clock.result.now c.have_made.result
    c.requires.facts.of_run
    (omega (arith, c.requires.place, c.if-place-len.false, c.len.ensures, many))
    (λ u below.
    c.clock.ensures u below
    ∙ ap (λ (fs : List Fact). clock_at fs c.args.place u) c.requires.facts.same
    ∙ ap (λ (j : ℕ). clock_at (past_facts c.args.self.now.past) j u) c.requires.place)
    (subst (λ (w : RoundState). Decides c.have_made.result (HaveMade w.machine c.args.t c.clock.result.now))
    c.self.view_is c.have_made.ensures))
