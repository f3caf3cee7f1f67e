-- The invariant of the loop of `forget`.
use Rattle.std.proofs.Common.{◌≡◌, drop, map, None}
use Rattle.thunk_spec.specs.Delta.{PageDelta}
use Rattle.known_pages.specs.Versions.{with_each}
use Rattle.known_pages.proofs.versions.forget.Given as goal

abbrev pub invariant-loop-page : goal.invariant-loop-page
invariant-loop-page l =
    with_each l.pages (map (λ (d : PageDelta). d.slot) (drop l.page-index l.written)) None
    ≡ with_each l.initial.pages (map (λ (d : PageDelta). d.slot) l.written) None
