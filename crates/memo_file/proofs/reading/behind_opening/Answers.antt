-- Answers to the goals that the check of `behind_opening` leaves open.
use Rattle.memo_file.proofs.Ending.{opened}
use Rattle.memo_file.proofs.reading.behind_opening.Goals as goal

pub returns : goal.returns
returns c = opened c.args.text.now c.in-Ok.field-0.now c.new-cursor.result c.bytes.new.self c.new-cursor.ensures
    c.in-Ok.ensures.taken c.in-Ok.ensures.count
