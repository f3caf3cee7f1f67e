-- Answers to the goals that the check of `parse` leaves open.
use Rattle.std.proofs.Common.{◌+◌, ◌==◌, [], map, arith}
use Rattle.std.specs.List.{slice_split}
use Rattle.std.proofs.lemmas.Result.{err_from_is_err_and}
use Rattle.edit_list.specs.Said.{line_said}
use Rattle.edit_list.proofs.Parsing.{no_line_yet, one_line_more, all_lines, cut_leads, last_leads, refused_there, after_is_shorter}
use Rattle.edit_list.proofs.parser.parse.Goals as goal

pub loop-text-init : goal.loop-text-init
loop-text-init c =
    record {
      leads = λ answer said. rw c.new-lines.ensures.items (no_line_yet c.args.bytes.now answer said);
      count = omega arith;
    }

pub returns-in_err-add_line-clause-refused : goal.returns-in_err-add_line-clause-refused
returns-in_err-add_line-clause-refused c =
    let leads =
    cut_leads c.args.bytes.now c.loop-text.number c.loop-text.rest.now c.in-Some.text.now c.in-Some.after.now
    (map line_said c.loop-text.lines.items)
    c.in-Some.ensures c.loop-text.invariant.leads in
    let p = err_from_is_err_and c.from_residual.result c.from_residual.ensures.1 in
    rw (p.1, p.2)
    (refused_there c.args.bytes.now c.loop-text.number c.in-Some.text.now
    (slice_split (λ byte. byte == 10) c.in-Some.after.now) (map line_said c.loop-text.lines.items)
    c.in_err-add_line.field-0.0 c.in_err-add_line.ensures.refused leads)

pub overflow_add-number : goal.overflow_add-number
overflow_add-number c =
    let shorter = after_is_shorter c.loop-text.rest.now c.in-Some.text.now c.in-Some.after.now c.in-Some.ensures.1 in
    omega (arith, c.loop-text.invariant.count)

pub loop-text-preserved : goal.loop-text-preserved
loop-text-preserved c =
    let shorter = after_is_shorter c.loop-text.rest.now c.in-Some.text.now c.in-Some.after.now c.in-Some.ensures.1 in
    let leads =
    cut_leads c.args.bytes.now c.loop-text.number c.loop-text.rest.now c.in-Some.text.now c.in-Some.after.now
    (map line_said c.loop-text.lines.items)
    c.in-Some.ensures c.loop-text.invariant.leads in
    record {
      leads =
          one_line_more c.args.bytes.now c.loop-text.number c.in-Some.text.now
          (slice_split (λ byte. byte == 10) c.in-Some.after.now)
          (map line_said c.loop-text.lines.items) (map line_said c.add_line.new.lines.items)
          c.in_ok-add_line.ensures.added leads;
      count = omega (arith, c.loop-text.invariant.count);
    }

pub returns-clause-encoded : goal.returns-clause-encoded
returns-clause-encoded c =
    let leads =
    last_leads c.args.bytes.now c.loop-text.number c.loop-text.rest.now (map line_said c.loop-text.lines.items)
    c.in_default.ensures c.loop-text.invariant.leads in
    all_lines c.args.bytes.now (c.loop-text.number + 1) (map line_said c.add_line-2.new.lines.items)
    (one_line_more c.args.bytes.now c.loop-text.number c.loop-text.rest.now [] (map line_said c.loop-text.lines.items)
    (map line_said c.add_line-2.new.lines.items)
    c.in_ok-add_line-2.ensures.added leads)

pub returns-in_err-add_line-2-clause-refused : goal.returns-in_err-add_line-2-clause-refused
returns-in_err-add_line-2-clause-refused c =
    let leads =
    last_leads c.args.bytes.now c.loop-text.number c.loop-text.rest.now (map line_said c.loop-text.lines.items)
    c.in_default.ensures c.loop-text.invariant.leads in
    let p =
    err_from_is_err_and c.from_residual-in_err-add_line-2.result c.from_residual-in_err-add_line-2.ensures.1 in
    rw (p.1, p.2)
    (refused_there c.args.bytes.now c.loop-text.number c.loop-text.rest.now [] (map line_said c.loop-text.lines.items)
    c.in_err-add_line-2.field-0.0
    c.in_err-add_line-2.ensures.refused leads)
