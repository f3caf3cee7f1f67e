-- Answers to the goals that the check of `read_setup` leaves open: the setup is read part by part.
use Rattle.std.proofs.Common.{sym, ap, ◌∙◌}
use Rattle.std.proofs.lemmas.Result.{err_from_is_err_and}
use Rattle.memo_file.proofs.Setting.{elf_fails, input_fails, limits_fail, all_read, found}
use Rattle.memo_file.proofs.setup.read_setup.Goals as goal

pub returns-in_err-program : goal.returns-in_err-program
returns-in_err-program c =
    let p = err_from_is_err_and c.from_residual.result c.from_residual.ensures.1 in
    rw (p.1, p.2) (elf_fails c.in_err-program.field-0.0 c.args.cursor.now c.in_err-program.ensures)

pub returns-in_err-input : goal.returns-in_err-input
returns-in_err-input c =
    let p = err_from_is_err_and c.from_residual-in_err-input.result c.from_residual-in_err-input.ensures.1 in
    rw (p.1, p.2) (input_fails c.in_err-input.field-0.0 c.args.cursor.now c.read_program.new.cursor
    c.in_ok-program.program.elf c.in_ok-program.ensures c.in_err-input.ensures.given)

pub returns-in_err-limits : goal.returns-in_err-limits
returns-in_err-limits c =
    let p = err_from_is_err_and c.from_residual-in_err-limits.result c.from_residual-in_err-limits.ensures.1 in
    rw (p.1, p.2) (limits_fail c.in_err-limits.field-0.0 c.args.cursor.now c.read_program.new.cursor
    c.read_input.new.cursor c.in_ok-program.program.elf c.in_ok-input.input.items c.in_ok-program.ensures
    c.in_ok-input.ensures.given c.in_err-limits.ensures)

pub returns-in_err-with : goal.returns-in_err-with
returns-in_err-with c =
    let p = err_from_is_err_and c.from_residual-in_err-with.result c.from_residual-in_err-with.ensures.1 in
    rw (p.1, p.2) tt

pub returns : goal.returns
returns c =
    all_read c.args.cursor.now c.read_program.new.cursor c.read_input.new.cursor c.read_limits.new.cursor
    c.in_ok-program.program.elf c.in_ok-input.input.items c.in_ok-limits.limits c.in_ok-program.ensures
    c.in_ok-input.ensures.given c.in_ok-limits.ensures
    ∙ ap (found c.read_limits.new.cursor) (sym c.in_ok-with.ensures)
