-- Answers to the goals that the check of `Inputs::len` leaves open.
use Rattle.std.proofs.Common.{◌≡◌, suc, length, ap, sym, ◌∙◌, arith}
use Rattle.edit_list.specs.Pending.{inputs_to_come}
use Rattle.edit_list.proofs.Leading.{inputs-count}
use Rattle.edit_list.proofs.pending.Inputs.len.Goals as goal

pub returns-in-Some : goal.returns-in-Some
returns-in-Some c =
    let later = c.self.inside.later.items in
    let all : inputs_to_come c.self.inside.input later ≡ c.args.self.now = c.self.view_is in
    let count : length (inputs_to_come c.self.inside.input later) ≡ suc (length later) =
    rw (c.in-Some.is) (inputs-count later c.in-Some.field-0.items) in
    let seen : length c.args.self.now ≡ suc (length later) = ap length (sym all) ∙ count in
    let kept : c.len.result ≡ length later = c.len.ensures ∙ c.self.inside.later.ok.0 in
    rw (seen, kept) (omega arith)
