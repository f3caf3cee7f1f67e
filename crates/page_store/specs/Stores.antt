-- What writing a delta does, by the stores from which it came.
use Rattle.std.specs.Prelude.{◌≡◌, List}
use Rattle.memory_spec.specs.Pages.{Mapped, Memory, IsMemory}
use Rattle.memory_spec.specs.Stores.{StoredByte, with_stores}
use Rattle.thunk_spec.specs.Delta.{PageDelta, delta_of}

-- For all stores from which the delta came, the memory after is the one before with these stores applied in order.
pub record WritesStores (before : Memory) (delta : List PageDelta) (after : Memory) : Type 0 where
  pub with_stores_is :
      (map : List Mapped) (stores : List StoredByte) → IsMemory map before → delta ≡ delta_of map stores
      → after ≡ with_stores map before stores
