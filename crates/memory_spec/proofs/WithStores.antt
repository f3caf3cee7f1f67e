-- Stores keep the shape of a memory.
use Rattle.std.proofs.Common.{◌≡◌, ℕ, ◌%◌, zero, suc, List, [], ◌∷◌, length, set, ◌∙◌}
use Rattle.std.proofs.lemmas.List.{length-set}
use Rattle.std.proofs.lemmas.List.Elements.{recursion_from_All, All-from_recursion}
use Rattle.std.specs.List.{AllByRecursion}
use Rattle.memory_spec.specs.Pages.{Mapped, Memory, page_of, slot_of, IsMemory}
use Rattle.memory_spec.specs.Stores.{StoredByte, with_byte, with_stores}

abbrev IsPage : List ℕ → Type 0
IsPage bytes = length bytes ≡ 4096

pages-set : (m : Memory) (k a b : ℕ) → AllByRecursion IsPage m → AllByRecursion IsPage (set m k (set (page_of m k) a b))
pages-set [] k a b all = tt
pages-set (p ∷ m) zero a b all = (length-set p a b ∙ all.0, all.1)
pages-set (p ∷ m) (suc k) a b all = (all.0, pages-set m k a b all.1)

pub IsMemory-with_byte :
    (map : List Mapped) (m : Memory) (s : StoredByte) → IsMemory map m → IsMemory map (with_byte map m s)
unfolding with_byte
IsMemory-with_byte map m s whole =
    record {
      count = length-set m (slot_of map s.address) (set (page_of m (slot_of map s.address)) (s.address % 4096) s.byte)
          ∙ whole.count;
      pages =
          All-from_recursion IsPage
          (set m (slot_of map s.address) (set (page_of m (slot_of map s.address)) (s.address % 4096) s.byte))
          (pages-set m (slot_of map s.address) (s.address % 4096) s.byte (recursion_from_All IsPage m whole.pages));
    }

-- a memory is one after any stores
pub IsMemory-with_stores :
    (map : List Mapped) (m : Memory) (stores : List StoredByte) → IsMemory map m → IsMemory map (with_stores map m stores)
IsMemory-with_stores map m [] whole = whole
IsMemory-with_stores map m (s ∷ stores) whole = IsMemory-with_stores map (with_byte map m s) stores (IsMemory-with_byte map m s whole)
