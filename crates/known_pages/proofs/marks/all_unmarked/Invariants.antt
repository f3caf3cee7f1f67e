-- The invariant of the loop of `all_unmarked`.
use Rattle.std.proofs.Common.{◌≡◌, drop}
use Rattle.known_pages.specs.Alike.{all_unmarked}
use Rattle.known_pages.proofs.marks.all_unmarked.Given as goal

abbrev pub invariant-loop-read : goal.invariant-loop-read
invariant-loop-read l =
    all_unmarked l.marks (drop l.read-index l.reads) ≡ all_unmarked l.marks l.reads
