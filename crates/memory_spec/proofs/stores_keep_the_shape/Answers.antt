-- The law is a lemma.
use Rattle.memory_spec.proofs.WithStores.{IsMemory-with_stores}
use Rattle.memory_spec.proofs.stores_keep_the_shape.Goals as goal

pub returns : goal.returns
returns c = IsMemory-with_stores
