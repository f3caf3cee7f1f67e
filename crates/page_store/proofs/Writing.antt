-- The bytes at the marked places are those after the stores.
use Rattle.std.proofs.Common.{◌≡◌, List, ap, ◌∙◌}
use Rattle.memory_spec.specs.Pages.{Memory}
use Rattle.thunk_spec.specs.Delta.{PageDelta, masked}
use Rattle.thunk_spec.proofs.Merging.{masked-delta_of}
use Rattle.page_store.specs.Stores.{WritesStores}

pub writes_stores :
    (before : Memory) (delta : List PageDelta) (after : Memory) → after ≡ masked before delta
    → WritesStores before delta after
writes_stores before delta after is = record {
  with_stores_is = λ map stores shape from. is ∙ ap (masked before) from ∙ masked-delta_of map before stores shape;
}
