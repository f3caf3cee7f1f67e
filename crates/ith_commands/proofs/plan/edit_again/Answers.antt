-- Which inputs a rerun has, and why it has none.
use Rattle.std.proofs.Common.{rules, ◌≡◌, ◌==◌, false, length, sym, subst}
use Rattle.std.proofs.lemmas.Result.{err_from_is_err_and}
use Rattle.edit_list.specs.Lists.{bytes_of_each}
use Rattle.rerun_spec.specs.Inputs.{AreRerunInputs}
use Rattle.ith_commands.proofs.Planning.{rerun_edited, rerun_unedited}
use Rattle.ith_commands.proofs.plan.edit_again.Goals.{then-not-is_empty+in_ok-take_input, else-not-is_empty}
use Rattle.ith_commands.proofs.plan.edit_again.Goals as goal

pub returns-in_err-inputs-clause-refused : goal.returns-in_err-inputs-clause-refused
returns-in_err-inputs-clause-refused g c =
    let p = err_from_is_err_and c.from_residual.result c.from_residual.ensures.1 in
    rw (p.1, p.2) c.in_err-inputs.ensures.refused

pub returns-clause-inputs : goal.returns-clause-inputs
returns-clause-inputs g c =
    let first = c.args.first.now in let lists = c.args.lists.now in let made = c.in_ok-inputs.ensures.inputs in
    elim c.if-not-is_empty.branch [
      | then-not-is_empty+in_ok-take_input w ↦
          let some : (length lists == 0) ≡ false = search rules in
          subst (AreRerunInputs first (bytes_of_each lists)) (sym w.inputs-is)
          (rerun_edited first lists c.in_ok-inputs.inputs _ _ made w.in_ok-take_input.ensures.taken some)
      | else-not-is_empty w ↦
          let none : length lists ≡ 0 = search rules in
          subst (AreRerunInputs first (bytes_of_each lists)) (sym w.inputs-is)
          (rerun_unedited first lists c.in_ok-inputs.inputs made none)
    ]
