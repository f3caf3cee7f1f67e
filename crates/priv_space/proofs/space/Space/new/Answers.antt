-- Answers to the goals that the check of `new` leaves open.
use Rattle.std.proofs.Common.{◌≡◌, List, ℕ, All, ap, subst, arith, length}
use Rattle.std.specs.Arc.{arc_value}
use Rattle.priv_space.proofs.Spaces.{fresh_space, fresh_fits}
use Rattle.priv_space.proofs.space.Space.new.Goals as goal

pub invariant_of-result : goal.invariant_of-result
invariant_of-result c =
    rw (c.in_ok-try_clone-2.ensures, c.in_ok-try_clone.ensures)
    (fresh_fits (arc_value c.args.pages.now) (arc_value c.args.view.now) c.in_ok-slots.ensures
    (omega (arith, ap (λ v. length v) c.deref.ensures)) c.requires)

pub returns-clause-fresh : goal.returns-clause-fresh
returns-clause-fresh c =
    rw (c.in_ok-try_clone-2.ensures, c.in_ok-try_clone.ensures)
    (fresh_space (arc_value c.args.pages.now) (arc_value c.args.view.now) c.in_ok-slots.ensures
    (omega (arith, ap (λ v. length v) c.deref.ensures)) c.requires)

pub returns-clause-whole : goal.returns-clause-whole
returns-clause-whole c = subst (All (λ (page : List ℕ). length page ≡ 4096)) c.deref.ensures c.len.ensures.whole
