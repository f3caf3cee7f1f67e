-- How a `gen` command ends, from how its parts did.
use Rattle.std.proofs.Common.{refl}
use Rattle.std.proofs.lemmas.Result.{err_from_is_err_and}
use Rattle.ith_words.specs.Said.{generate_said}
use Rattle.ith_commands.specs.Refusals.{WhyUnprinted}
use Rattle.ith_commands.proofs.Worlds.{stays_same}
use Rattle.ith_top.proofs.Generated.{generate_spent, generate_ends, generate_made, generate_cut, generate_unprinted, unprinted_made}
use Rattle.ith_commands.proofs.Spent.{unprinted_unspent}
use Rattle.ith_top.proofs.generating.generate.Goals as goal

pub returns-in_err-text-clause-ends : goal.returns-in_err-text-clause-ends
returns-in_err-text-clause-ends g c =
    let w = g.H.Host.world in
    let p = err_from_is_err_and c.from_residual.result c.from_residual.ensures.1 in
    rw (p.1, p.2)
    (generate_cut (generate_said c.args.line.now) (w c.args.host.now) (w c.args.host.now) refl
    (stays_same (w c.args.host.now)))

pub returns-in_err-text-clause-made : goal.returns-in_err-text-clause-made
returns-in_err-text-clause-made g c =
    let p = err_from_is_err_and c.from_residual.result c.from_residual.ensures.1 in
    rw (p.1, p.2) c.make_both.ensures.both

pub returns-in_err-text-clause-turns : goal.returns-in_err-text-clause-turns
returns-in_err-text-clause-turns g c =
    let p = err_from_is_err_and c.from_residual.result c.from_residual.ensures.1 in
    rw (p.1, p.2) tt

pub returns-in_err-print_text-clause-ends : goal.returns-in_err-print_text-clause-ends
returns-in_err-print_text-clause-ends g c =
    let w = g.H.Host.world in
    let why : WhyUnprinted c.in_ok-text.field-0.text.items (w c.args.host.now) (w c.print_text.new.host)
    c.in_err-print_text.field-0.0 = rw (← c.as_slice.ensures.value) c.in_err-print_text.ensures.refused in
    let p = err_from_is_err_and c.from_residual-in_err-print_text.result c.from_residual-in_err-print_text.ensures.1 in
    rw (p.1, p.2)
    (generate_unprinted (generate_said c.args.line.now) (w c.args.host.now) (w c.print_text.new.host)
    c.args.crew.now.work c.make_both.new.crew.work c.in_ok-text.field-0.text.items c.in_ok-text.field-0.exits
    c.in_err-print_text.field-0.0 c.print_text.ensures.asked (rw c.requires at c.in_ok-text.ensures.lines) why)

pub returns-in_err-print_text-clause-made : goal.returns-in_err-print_text-clause-made
returns-in_err-print_text-clause-made g c =
    let w = g.H.Host.world in
    let p = err_from_is_err_and c.from_residual-in_err-print_text.result c.from_residual-in_err-print_text.ensures.1 in
    rw (p.1, p.2)
    (unprinted_made (generate_said c.args.line.now) c.as_slice.result.now (w c.args.host.now) (w c.print_text.new.host)
    c.args.crew.now.work c.make_both.new.crew.work c.in_err-print_text.field-0.0 c.make_both.ensures.both c.in_err-print_text.ensures.refused)

pub returns-in_err-print_text-clause-turns : goal.returns-in_err-print_text-clause-turns
returns-in_err-print_text-clause-turns g c =
    let w = g.H.Host.world in
    let p = err_from_is_err_and c.from_residual-in_err-print_text.result c.from_residual-in_err-print_text.ensures.1 in
    rw (p.1, p.2)
    (unprinted_unspent c.as_slice.result.now (w c.args.host.now) (w c.print_text.new.host) c.in_err-print_text.field-0.0 _
    c.in_err-print_text.ensures.refused)

pub returns-clause-ends : goal.returns-clause-ends
returns-clause-ends g c =
    let w = g.H.Host.world in let a = w c.args.host.now in let b = w c.print_text.new.host in
    let lines = c.in_ok-text.field-0 in let line = generate_said c.args.line.now in
    generate_ends line a b c.args.crew.now.work c.make_both.new.crew.work lines.exits
    (generate_spent line a b c.args.crew.now.work c.make_both.new.crew.work lines.text.items lines.exits
    c.print_text.ensures.asked (rw c.requires at c.in_ok-text.ensures.lines)
    (rw (← c.as_slice.ensures.value) c.in_ok-print_text.ensures.printed))

pub returns-clause-made : goal.returns-clause-made
returns-clause-made g c =
    let lines = c.in_ok-text.field-0 in
    generate_made (generate_said c.args.line.now) c.args.crew.now.work c.make_both.new.crew.work lines.text.items
    lines.exits (rw c.requires at c.in_ok-text.ensures.lines)

pub returns-clause-turns : goal.returns-clause-turns
returns-clause-turns g c =
    let w = g.H.Host.world in let lines = c.in_ok-text.field-0 in
    generate_spent (generate_said c.args.line.now) (w c.args.host.now) (w c.print_text.new.host)
    c.args.crew.now.work c.make_both.new.crew.work lines.text.items lines.exits
    c.print_text.ensures.asked (rw c.requires at c.in_ok-text.ensures.lines)
    (rw (← c.as_slice.ensures.value) c.in_ok-print_text.ensures.printed)
