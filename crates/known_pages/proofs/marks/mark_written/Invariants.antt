-- The invariant of the loop of `mark_written`.
use Rattle.std.proofs.Common.{◌≡◌, drop, map}
use Rattle.thunk_spec.specs.Delta.{PageDelta}
use Rattle.known_pages.specs.Alike.{marked}
use Rattle.known_pages.proofs.marks.mark_written.Given as goal

abbrev pub invariant-loop-page : goal.invariant-loop-page
invariant-loop-page l =
    marked l.marks (map (λ (d : PageDelta). d.slot) (drop l.page-index l.pages))
    ≡ marked l.initial.marks (map (λ (d : PageDelta). d.slot) l.pages)
