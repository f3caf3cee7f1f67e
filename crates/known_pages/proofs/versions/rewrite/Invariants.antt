-- The invariant of the loop of `rewrite`.
use Rattle.std.proofs.Common.{◌≡◌, drop}
use Rattle.known_pages.specs.Versions.{rewritten}
use Rattle.known_pages.proofs.versions.rewrite.Given as goal

abbrev pub invariant-loop-page : goal.invariant-loop-page
invariant-loop-page l =
    rewritten l.pages l.after (drop l.page-index l.written) ≡ rewritten l.initial.pages l.after l.written
