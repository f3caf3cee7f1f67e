-- The bytes that a put takes, one after the other.
use Rattle.std.proofs.Common.{◌≡◌, ℕ, suc, ◌+◌, ◌-◌, ◌<◌, ◌&&◌, Bool, List, [], length, refl, arith}
use Rattle.std.proofs.lemmas.List.{get_or_past}
use Rattle.std.specs.List.{range_with_len, list_all}
use Rattle.memory_spec.specs.Pages.{Mapped, Memory, slot_of, page_of}
use Rattle.thunk_spec.specs.Put.{byte_at}

-- an address that no page has has no byte
pub no_byte :
    (map : List Mapped) (memory : Memory) (address : ℕ)
    → length memory ≡ length map → slot_of map address ≡ length map → byte_at map memory address ≡ 0
no_byte map memory address count past =
    let none : page_of memory (slot_of map address) ≡ [] = get_or_past memory (slot_of map address) [] (omega arith) in
    rw none refl

-- whether all of some bytes may be read, from the first of them on
pub all-first :
    (f : ℕ → Bool) (start n k : ℕ) → k < n
    → list_all f (range_with_len (start + k) (n - k))
    ≡ (f (start + k) && list_all f (range_with_len (start + (k + 1)) (n - (k + 1))))
all-first f start n k below =
    let more : n - k ≡ suc (n - (k + 1)) = omega arith in
    let next : start + (k + 1) ≡ (start + k) + 1 = omega arith in
    rw (more, next) refl
