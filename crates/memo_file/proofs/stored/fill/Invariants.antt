-- The page is filled at the places so far.
use Rattle.std.proofs.Common.{◌*◌}
use Rattle.memo_spec.specs.Reading.{marks_of}
use Rattle.memo_file.specs.Filling.{Filled}
use Rattle.memo_file.proofs.stored.fill.Given as goal

abbrev pub invariant-loop-group : goal.invariant-loop-group
invariant-loop-group l = Filled (marks_of l.marks) l.bytes (8 * l.group) l.stored.mask l.stored.page l.next
