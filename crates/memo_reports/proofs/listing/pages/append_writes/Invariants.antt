-- The addresses so far, each after a comma, come after what was there.
use Rattle.std.proofs.Common.{◌≡◌, ◌++◌, take, flat_map}
use Rattle.std.specs.Prelude.{codes}
use Rattle.thunk_spec.specs.Delta.{PageDelta}
use Rattle.memo_reports.specs.Listing.{address_text}
use Rattle.memo_reports.proofs.listing.pages.append_writes.Given as goal

abbrev pub invariant-loop-page : goal.invariant-loop-page
invariant-loop-page l =
    l.into.items
    ≡ l.initial.into.items
    ++ flat_map (λ (other : PageDelta). codes "," ++ address_text l.addresses other.slot) (take l.page-index l.others)
