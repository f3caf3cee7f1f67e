-- Each condition is as it is at the start.
use Rattle.std.proofs.Common.{rules, subst, sym}
use Rattle.guest_call.specs.Conditions.{unawaited}
use Rattle.guest_call.specs.Objects.{all_unawaited}
use Rattle.sync_objects.specs.ConditionTable.{IsConditionTable}
use Rattle.sync_objects.proofs.TableOfConditions.{unawaited_table}
use Rattle.sync_objects.proofs.conditions.Conditions.new.Goals as goal

pub returns : goal.returns
unfolding all_unawaited
returns c = c.all_of.ensures unawaited (λ f x k. search (rules, k))

pub invariant_of-result : goal.invariant_of-result
unfolding all_unawaited
invariant_of-result c =
    subst IsConditionTable (sym (c.all_of.ensures unawaited (λ f x k. search (rules, k)))) unawaited_table
