-- Answers to the goals that the check of `read_behind_version` leaves open.
use Rattle.memo_file.proofs.Ending.{first_version}
use Rattle.memo_file.proofs.reading.read_behind_version.Goals as goal

pub returns-in-Version1-clause-given : goal.returns-in-Version1-clause-given
returns-in-Version1-clause-given c =
    rw (first_version c.args.format c.args.cursor.now c.in-Version1.is) c.read_history.ensures.given
