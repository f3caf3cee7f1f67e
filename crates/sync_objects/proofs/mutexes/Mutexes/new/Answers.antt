-- Each object is as it is at the start.
use Rattle.std.proofs.Common.{rules, refl, subst, sym}
use Rattle.guest_call.specs.Tables.{IsTable}
use Rattle.guest_call.specs.Mutexes.{unlocked, mutex_queue}
use Rattle.guest_call.specs.Objects.{all_unlocked}
use Rattle.sync_objects.proofs.TableKept.{replicate_table}
use Rattle.sync_objects.proofs.mutexes.Mutexes.new.Goals as goal

pub returns : goal.returns
unfolding all_unlocked
returns c = c.all_of.ensures unlocked (λ f x k. search (rules, k))

pub invariant_of-result : goal.invariant_of-result
invariant_of-result c =
    subst (IsTable mutex_queue) (sym (c.all_of.ensures unlocked (λ f x k. search (rules, k))))
    (replicate_table mutex_queue unlocked refl)
