-- Answers to the goals that the check of `make_rounds` leaves open.
use Rattle.std.proofs.Common.{◌≡◌, ◌+◌, length, refl, ap, subst, ◌∙◌, arith}
use Rattle.std.specs.Prelude.{option_map}
use Rattle.std.proofs.lemmas.Result.{err_from_is_err_and}
use Rattle.std.specs.Arc.{arc_value}
use Rattle.rerun_spec.specs.Inputs.{AreShort}
use Rattle.rerun_spec.specs.Rounds.{Beginning}
use Rattle.ith_commands.specs.Playing.{beginning_said}
use Rattle.ith_top.specs.declared.report.Form.TheVariants as form
use Rattle.ith_commands.proofs.Worlds.{none_fell_same}
use Rattle.ith_top.proofs.Making.{left_map}
use Rattle.ith_top.proofs.Going.{going_start, going_next, going_played, going_cut, going_unprinted, none_left, short_rest}
use Rattle.ith_top.proofs.rounds.make_rounds.Goals as goal

pub loop-place-init : goal.loop-place-init
loop-place-init g c =
    let w = g.H.Host.world in let b : Beginning = beginning_said c.args.plan.beginning in
    record {
      going = going_start b b c.args.crew.now.workers c.args.plan.inputs (w c.args.host.now) c.args.crew.now.work.turns
          refl (none_fell_same (w c.args.host.now));
      left = omega (arith, c.len-place-end.ensures);
      short = c.requires.short;
      few = c.requires.few;
      map = c.requires.map;
      some = λ none. refl;
      made = refl {a = c.args.crew.now.work.rounds + length c.args.plan.inputs};
      workers = refl;
    }

pub returns-in_err-text-clause-refused : goal.returns-in_err-text-clause-refused
returns-in_err-text-clause-refused g c =
    let w = g.H.Host.world in
    let made = c.loop-place.invariant.made in let one = c.make_next.ensures.one in
    let left = c.loop-place.invariant.left in let more = c.loop-place-test.true in
    let p = err_from_is_err_and c.from_residual.result c.from_residual.ensures.1 in
    rw (p.1, p.2)
    (going_cut (beginning_said c.args.plan.beginning) c.args.crew.now.workers c.args.plan.inputs (w c.args.host.now)
    (w c.loop-place.host) c.args.crew.now.work.turns c.loop-place.crew.work.turns
    (beginning_said c.loop-place.beginning) c.loop-place.inputs c.loop-place.exits c.args.crew.now.work
    c.make_next.new.crew.work c.loop-place.invariant.going (omega arith) (omega arith))

pub returns-in_err-print_text-clause-refused : goal.returns-in_err-print_text-clause-refused
returns-in_err-print_text-clause-refused g c =
    let w = g.H.Host.world in let made = c.loop-place.invariant.made in let one = c.make_next.ensures.one in
    let next = c.in_ok-text.ensures.played in
    let fewer = ap length next.taken in
    let p = err_from_is_err_and c.from_residual-in_err-print_text.result c.from_residual-in_err-print_text.ensures.1 in
    rw (p.1, p.2)
    (going_unprinted (beginning_said c.args.plan.beginning) c.args.crew.now.workers c.args.plan.inputs
    (w c.args.host.now) (w c.loop-place.host) (w c.print_text.new.host)
    c.args.crew.now.work.turns c.loop-place.crew.work.turns c.make_next.new.crew.work.turns
    (beginning_said c.loop-place.beginning) next.input c.make_next.new.inputs c.loop-place.exits
    c.in_ok-text.field-0.text.items c.in_ok-text.field-0.exited (beginning_said c.in_ok-text.field-0.next)
    c.args.crew.now.work c.make_next.new.crew.work c.in_err-print_text.field-0.0
    (rw next.taken at c.loop-place.invariant.going)
    (rw c.loop-place.invariant.workers at next.made) (omega arith) (omega arith)
    (rw (← c.as_slice.ensures.value) c.in_err-print_text.ensures.refused))

pub loop-place-preserved : goal.loop-place-preserved
loop-place-preserved g c =
    let w = g.H.Host.world in
    let played = c.in_ok-text.ensures.played in
    let fewer = ap length played.taken in
    let left : c.loop-place.place + length c.loop-place.inputs ≡ c.len-place-end.result = c.loop-place.invariant.left in
    let now : Beginning = beginning_said c.loop-place.beginning in
    let next : Beginning = beginning_said c.in_ok-text.field-0.next in
    let is_next = played.made.is_next in
    record {
      going = going_next (beginning_said c.args.plan.beginning) c.args.crew.now.workers c.args.plan.inputs
          (w c.args.host.now) (w c.loop-place.host) (w c.print_text.new.host)
          c.args.crew.now.work.turns c.loop-place.crew.work.turns c.make_next.new.crew.work.turns now next
          played.input c.make_next.new.inputs c.loop-place.exits
          c.in_ok-text.field-0.text.items c.in_ok-text.field-0.exited
          (rw played.taken at c.loop-place.invariant.going)
          (rw c.loop-place.invariant.workers at played.made)
          (rw (← c.as_slice.ensures.value) c.in_ok-print_text.ensures.printed) c.in_ok-print_text.ensures.counts
          c.in_ok-print_text.ensures.asked;
      left = omega arith;
      short = short_rest played.input c.make_next.new.inputs (subst AreShort played.taken c.loop-place.invariant.short);
      few = let number : next.number ≡ now.number + 1 = ap (λ (b : Beginning). b.number) is_next in
          let few = c.loop-place.invariant.few in omega arith;
      map = left_map c.loop-place.crew.workers form.Report now played.input
          c.loop-place.crew.work.turns c.make_next.new.crew.work.turns c.in_ok-text.field-0.text.items
          c.in_ok-text.field-0.exited next played.made;
      some = λ none. absurd (let no = ap (λ (b : Beginning). b.past) is_next in cc);
      made = let made = c.loop-place.invariant.made in let one = c.in_ok-text.ensures.made in omega arith;
      workers = c.make_next.ensures.workers ∙ c.loop-place.invariant.workers;
    }

pub returns-clause-played : goal.returns-clause-played
returns-clause-played g c =
    let w = g.H.Host.world in
    going_played (beginning_said c.args.plan.beginning) c.args.crew.now.workers c.args.plan.inputs (w c.args.host.now)
    (w c.loop-place.host) (beginning_said c.loop-place.beginning) c.loop-place.inputs c.loop-place.exits
    (arc_value c.in-Some.history) c.args.crew.now.work c.loop-place.crew.work
    (none_left c.loop-place.inputs c.loop-place.place c.len-place-end.result c.loop-place.invariant.left
    c.loop-place-test.false)
    (ap (option_map arc_value) c.in-Some.is)
    c.loop-place.invariant.going c.loop-place.invariant.made

pub unreachable-requires : goal.unreachable-requires
unreachable-requires g c =
    let none = ap (option_map arc_value) c.in-None.is in
    let start = c.loop-place.invariant.some none in
    let left = c.loop-place.invariant.left in
    let over = c.loop-place-test.false in
    let all = c.len-place-end.ensures in
    let some = c.requires.some in
    omega arith
