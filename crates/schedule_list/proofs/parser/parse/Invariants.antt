-- The invariant of the loop of `parse`.
use Rattle.std.proofs.Common.{length}
use Rattle.schedule_list.specs.Schedule.{tokens}
use Rattle.schedule_list.proofs.Reading.{HasRead}
use Rattle.schedule_list.proofs.parser.parse.Given as goal

-- the tokens of the rest are still to be read
abbrev pub invariant-loop-piece : goal.invariant-loop-piece
invariant-loop-piece l = HasRead l.fn.text (tokens l.rest) l.threads.items

abbrev pub decreases-loop-piece : goal.decreases-loop-piece
decreases-loop-piece l = length l.rest
