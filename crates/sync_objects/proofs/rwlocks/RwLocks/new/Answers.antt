-- Each lock is as it is at the start.
use Rattle.std.proofs.Common.{rules, refl, subst, sym}
use Rattle.guest_call.specs.Tables.{IsTable}
use Rattle.guest_call.specs.RwLocks.{unheld, rwlock_queue}
use Rattle.guest_call.specs.Objects.{all_unheld}
use Rattle.sync_objects.proofs.TableKept.{replicate_table}
use Rattle.sync_objects.proofs.rwlocks.RwLocks.new.Goals as goal

pub returns : goal.returns
unfolding all_unheld
returns c = c.all_of.ensures unheld (λ f x k. search (rules, k))

pub invariant_of-result : goal.invariant_of-result
invariant_of-result c =
    subst (IsTable rwlock_queue) (sym (c.all_of.ensures unheld (λ f x k. search (rules, k))))
    (replicate_table rwlock_queue unheld refl)
