-- The invariant of the loop of `learn`.
use Rattle.std.proofs.Common.{◌≡◌, drop}
use Rattle.known_pages.specs.Versions.{learned}
use Rattle.known_pages.proofs.versions.learn.Given as goal

abbrev pub invariant-loop-page : goal.invariant-loop-page
invariant-loop-page l =
    learned l.times.written.items l.times.viewed l.pages l.t (drop l.page-index l.read)
    ≡ learned l.times.written.items l.times.viewed l.initial.pages l.t l.read
