-- Both rounds of the generated guest, the second based on the history of the first.
use Rattle.std.proofs.Common.{rules, ◌≡◌, ◌∷◌, ◌∙◌, ◌&&◌, ap, length, subst, arith}
use Rattle.rerun_spec.specs.Inputs.{AreShort}
use Rattle.rerun_spec.specs.Rounds.{Beginning}
use Rattle.ith_commands.specs.Contents.{Plan}
use Rattle.ith_commands.specs.Playing.{beginning_said, plan_said}
use Rattle.ith_top.specs.declared.report.Form.TheVariants as form
use Rattle.ith_top.proofs.Going.{short_rest}
use Rattle.ith_top.proofs.Making.{left_map}
use Rattle.ith_top.proofs.Generated.{both_generated}
use Rattle.ith_top.proofs.generating.make_both.Goals as goal
use Rattle.ith_top.proofs.generating.make_both.Goals.{then-first, else-first}

pub make_next-requires-2-clause-short : goal.make_next-requires-2-clause-short
make_next-requires-2-clause-short g c = λ lifetimes bounds.
    let first = c.in_ok-first.ensures.played in
    short_rest first.input c.make_next.new.inputs
    (subst AreShort first.taken c.in_ok-beginning.ensures.playable.short)

pub make_next-requires-2-clause-same : goal.make_next-requires-2-clause-same
make_next-requires-2-clause-same g c = λ lifetimes bounds.
    let first = c.in_ok-first.ensures.played in
    left_map c.args.crew.now.workers form.Line (beginning_said c.in_ok-beginning.field-0.beginning)
    first.input c.args.crew.now.work.turns c.make_next.new.crew.work.turns
    c.in_ok-first.first.text.items c.in_ok-first.first.exited (beginning_said c.in_ok-first.first.next) first.made

pub make_next-requires-2-clause-few : goal.make_next-requires-2-clause-few
make_next-requires-2-clause-few g c = λ lifetimes bounds.
    let first = c.in_ok-first.ensures.played in
    let count = ap length first.taken in
    let next = ap (λ (b : Beginning). b.number) first.made.is_next in
    let few = c.in_ok-beginning.ensures.playable.few in
    omega arith

pub returns-clause-lines : goal.returns-clause-lines
returns-clause-lines g c =
    let p : Plan = plan_said c.in_ok-beginning.field-0 in
    let first = c.in_ok-first.ensures.played in
    let second = c.in_ok-second.ensures.played in
    let inputs : p.inputs ≡ first.input ∷ second.input ∷ c.make_next-2.new.inputs =
    first.taken ∙ ap (λ l. first.input ∷ l) second.taken in
    let ends : c.if-first.result ≡ (c.in_ok-first.first.exited && c.in_ok-second.second.exited) =
    elim c.if-first.branch [ then-first w ↦ search rules | else-first w ↦ search rules ] in
    both_generated c.args.crew.now.workers c.args.number p first.input second.input
    c.make_next-2.new.inputs c.in_ok-first.first.text.items c.in_ok-second.second.text.items c.in_ok-text.text.items
    c.in_ok-first.first.exited c.in_ok-second.second.exited c.if-first.result (beginning_said c.in_ok-first.first.next)
    (beginning_said c.in_ok-second.second.next) c.args.crew.now.work c.make_next.new.crew.work c.make_next-2.new.crew.work
    (let one = c.in_ok-first.ensures.made in let other = c.in_ok-second.ensures.made in omega arith)
    c.in_ok-beginning.ensures.plan c.in_ok-beginning.ensures.playable c.in_ok-beginning.ensures.encoded inputs
    first.made (rw c.make_next.ensures.workers at second.made)
    (rw (← c.as_slice.ensures.value, ← c.as_slice-2.ensures.value) c.in_ok-text.ensures)
    ends
