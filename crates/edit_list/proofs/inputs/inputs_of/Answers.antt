-- Answers to the goals that the check of `inputs_of` leaves open.
use Rattle.std.proofs.Common.{◌≤◌, length, take}
use Rattle.std.proofs.lemmas.Result.{err_from_is_err_and}
use Rattle.std.proofs.lemmas.List.Elements.{All-from_recursion}
use Rattle.machine_spec.specs.declared.TheConstants.{MOST_INPUT_BYTES}
use Rattle.rerun_spec.proofs.Inputs.{inputs-short}
use Rattle.edit_list.specs.Pending.{inputs_from}
use Rattle.edit_list.specs.Lists.{bytes_of_each}
use Rattle.edit_list.proofs.Leading.{leads-done}
use Rattle.edit_list.proofs.GoingOn.{one-more, refused-there}
use Rattle.edit_list.proofs.inputs.inputs_of.Goals as goal

pub returns-in_err-edits-clause-refused : goal.returns-in_err-edits-clause-refused
returns-in_err-edits-clause-refused c =
    let p = err_from_is_err_and c.from_residual-in_err-edits.result c.from_residual-in_err-edits.ensures.1 in
    rw (p.1, p.2)
    (refused-there c.args.first.items c.args.lists.now c.loop-place.place c.loop-place.later.items
    c.loop-place.last.items c.index-lists-place.result c.in_err-edits.field-0.0
    c.loop-place-test.true c.index-lists-place.is c.loop-place.invariant
    (rw (← c.deref-in-loop-place.ensures.value) c.in_err-edits.ensures.refused))

pub loop-place-preserved : goal.loop-place-preserved
loop-place-preserved c =
    rw c.in_ok-push_back.ensures.items
    (one-more c.args.first.items c.args.lists.now c.loop-place.place c.loop-place.later.items c.loop-place.last.items
    c.done_to.new.input.items
    c.index-lists-place.result c.in_ok-edits.edits c.loop-place-test.true c.index-lists-place.is
    c.loop-place.invariant
    (rw (← c.deref-in-loop-place.ensures.value) c.in_ok-edits.ensures.said) c.in_ok-edits.ensures.done)

pub invariant_of-result : goal.invariant_of-result
invariant_of-result c =
    leads-done c.loop-place.later.items c.args.first.items c.loop-place.last.items c.loop-place.invariant.leads

pub returns-clause-short : goal.returns-clause-short
returns-clause-short c = λ short.
    All-from_recursion (λ i. length i ≤ MOST_INPUT_BYTES) (inputs_from c.loop-place.later.items c.args.first.items)
    (inputs-short c.args.first.items (bytes_of_each (take c.loop-place.place c.args.lists.now))
    (inputs_from c.loop-place.later.items c.args.first.items) short
    c.loop-place.invariant.made)
