-- Answers to the goals that the check of `input_page` leaves open.
use Rattle.std.proofs.Common.{◌-◌, refl}
use Rattle.run_history.proofs.Zeros.{page_of_part}
use Rattle.run_history.proofs.start.input_page.Goals as goal

pub returns : goal.returns
returns c =
    page_of_part c.args.input.now _ c.copy_from_slice.new.self c.args.k c.min-start.result c.min-end.result
    (c.min-end.result - c.min-start.result) c.min-start.ensures c.min-end.ensures refl c.copy_from_slice.ensures.after refl
