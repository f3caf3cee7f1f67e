-- Each object is as it is at the start.
use Rattle.std.proofs.Common.{rules, refl, subst, sym}
use Rattle.guest_call.specs.Tables.{IsTable}
use Rattle.guest_call.specs.Barriers.{uninitialised, barrier_queue}
use Rattle.guest_call.specs.Objects.{all_uninitialised}
use Rattle.sync_objects.proofs.TableKept.{replicate_table}
use Rattle.sync_objects.proofs.barriers.Barriers.new.Goals as goal

pub returns : goal.returns
unfolding all_uninitialised
returns c = c.all_of.ensures uninitialised (λ f x k. search (rules, k))

pub invariant_of-result : goal.invariant_of-result
invariant_of-result c =
    subst (IsTable barrier_queue) (sym (c.all_of.ensures uninitialised (λ f x k. search (rules, k))))
    (replicate_table barrier_queue uninitialised refl)
