-- The threads that leave the condition, and the table without them.
use Rattle.std.proofs.Common.{rules}
use Rattle.guest_call.specs.Conditions.{unawaited, signal_leaving}
use Rattle.guest_call.proofs.Rows.{signal_leaves}
use Rattle.sync_objects.specs.Leaving.{leaving_of}
use Rattle.sync_objects.proofs.TableOfConditions.{leaving_kept, leaving-waited, leaving-mutex, signal-named}
use Rattle.sync_objects.proofs.conditions.Conditions.signal.Goals as goal

pub returns-clause-does : goal.returns-clause-does
returns-clause-does c =
    rw (← c.self.view_is) (c.row_at.ensures unawaited (leaving_of signal_leaving)
    (λ x y l k. search (rules, k.met, k.shows, k.leaves)))

pub returns-clause-mutex : goal.returns-clause-mutex
returns-clause-mutex c =
    leaving-mutex signal_leaving c.self.inside.cells c.row_at.new.cells c.row_at.result c.args.c
    (c.row_at.ensures unawaited (leaving_of signal_leaving) (λ x y l k. search (rules, k.met, k.shows, k.leaves)))
    c.self.invariant

pub returns-clause-waited : goal.returns-clause-waited
returns-clause-waited c =
    rw (← c.self.view_is)
    (leaving-waited signal_leaving signal_leaves c.self.inside.cells c.row_at.new.cells c.row_at.result c.args.c
    (c.row_at.ensures unawaited (leaving_of signal_leaving) (λ x y l k. search (rules, k.met, k.shows, k.leaves)))
    c.self.invariant)

pub invariant_of-self : goal.invariant_of-self
invariant_of-self c =
    leaving_kept signal_leaving signal_leaves signal-named c.self.inside.cells c.row_at.new.cells c.row_at.result
    c.args.c
    (c.row_at.ensures unawaited (leaving_of signal_leaving) (λ x y l k. search (rules, k.met, k.shows, k.leaves)))
    c.self.invariant
