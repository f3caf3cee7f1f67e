-- The marks so far are counted.
use Rattle.std.proofs.Common.{◌≡◌, take}
use Rattle.std.specs.List.{count_by}
use Rattle.memo_spec.specs.Reading.{marks_of}
use Rattle.memo_file.proofs.stored.count_marks.Given as goal

abbrev pub invariant-loop-byte : goal.invariant-loop-byte
invariant-loop-byte l = l.count ≡ count_by (λ mark. mark) (marks_of (take l.byte-index l.marks))
