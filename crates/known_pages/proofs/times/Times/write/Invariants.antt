-- The invariant of the loop of `Times::write`.
use Rattle.std.proofs.Common.{◌≡◌, drop, map}
use Rattle.thunk_spec.specs.Delta.{PageDelta}
use Rattle.known_pages.specs.Versions.{with_each}
use Rattle.known_pages.proofs.times.Times.write.Given as goal

-- the remaining pages are still to be written
abbrev pub invariant-loop-page : goal.invariant-loop-page
invariant-loop-page l = record {
  written :
      with_each l.self.written.items (map (λ (d : PageDelta). d.slot) (drop l.page-index l.pages)) l.now
      ≡ with_each l.initial.self.written.items (map (λ (d : PageDelta). d.slot) l.pages) l.now;
  viewed : l.self.viewed ≡ l.initial.self.viewed;
}
