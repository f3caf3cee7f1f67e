-- The deltas so far are of other pages.
use Rattle.std.proofs.Common.{◌≡◌, drop}
use Rattle.memory_spec.specs.Pages.{page_of}
use Rattle.thunk_spec.specs.Delta.{masked}
use Rattle.page_store.proofs.committing.committed_page.Given as goal

abbrev pub invariant-loop-stored : goal.invariant-loop-stored
invariant-loop-stored l =
    page_of (masked l.table l.stored-items) l.slot ≡ page_of (masked l.table (drop l.stored-index l.stored-items)) l.slot
