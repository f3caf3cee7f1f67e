-- The invariant of the loop of `inputs_of`.
use Rattle.edit_list.proofs.GoingOn.{IsGoing}
use Rattle.edit_list.proofs.inputs.inputs_of.Given as goal

-- the lists so far were applied to the copy, and their edits are kept
abbrev pub invariant-loop-place : goal.invariant-loop-place
invariant-loop-place l = IsGoing l.fn.first.items l.lists l.place l.later.items l.last.items
