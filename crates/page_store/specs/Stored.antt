-- What a thread's own copy of a page keeps of its stores.
use Rattle.std.specs.Prelude.{ℕ}
use Rattle.thunk_spec.specs.Delta.{PageDelta, chosen}
use Rattle.page_store.specs.declared.stored.StoredPage.{StoredPage}

-- The stored bytes of the page in a slot.
abbrev pub delta_in : ℕ → StoredPage → PageDelta
delta_in slot stored = record { slot = slot; mask = stored.mask; bytes = chosen stored.mask stored.page }
