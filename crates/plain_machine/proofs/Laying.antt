-- Stores are applied byte by byte.
use Rattle.std.proofs.Common.{◌≡◌, ◌≤◌, List, [], ◌∷◌, ◌++◌, length, refl, ap, ◌∙◌}
use Rattle.std.proofs.lemmas.List.{set_past, length-set}
use Rattle.memory_spec.specs.Pages.{Mapped, Memory, slot_of}
use Rattle.memory_spec.specs.Stores.{StoredByte, with_byte, with_stores}
use Rattle.memory_spec.specs.Access.{bytes_stored}
use Rattle.memory_spec.specs.Workspace.{Masks, with_mark, marked}
use Rattle.plain_machine.specs.Stored.{StoredNumber, bytes_of}

-- a byte at an address that isn't mapped changes nothing
pub unmapped_byte :
    (map : List Mapped) (memory : Memory) (s : StoredByte) → length memory ≤ slot_of map s.address
    → with_byte map memory s ≡ memory
unfolding with_byte
unmapped_byte map memory s past = set_past memory (slot_of map s.address) _ past

-- as many pages as before
pub count_kept :
    (map : List Mapped) (memory : Memory) (s : StoredByte) → length (with_byte map memory s) ≡ length memory
unfolding with_byte
count_kept map memory s = length-set memory (slot_of map s.address) _

pub with_stores_count :
    (map : List Mapped) (memory : Memory) (stores : List StoredByte) → length (with_stores map memory stores) ≡ length memory
with_stores_count map memory [] = refl
with_stores_count map memory (s ∷ stores) = with_stores_count map (with_byte map memory s) stores ∙ count_kept map memory s

pub with_stores-append :
    (map : List Mapped) (memory : Memory) (xs ys : List StoredByte)
    → with_stores map memory (xs ++ ys) ≡ with_stores map (with_stores map memory xs) ys
with_stores-append map memory [] ys = refl
with_stores-append map memory (x ∷ xs) ys = with_stores-append map (with_byte map memory x) xs ys

pub marked-append :
    (map : List Mapped) (masks : Masks) (xs ys : List StoredByte)
    → marked map masks (xs ++ ys) ≡ marked map (marked map masks xs) ys
marked-append map masks [] ys = refl
marked-append map masks (x ∷ xs) ys = marked-append map (with_mark map masks x) xs ys

append-assoc : (xs ys zs : List StoredByte) → xs ++ (ys ++ zs) ≡ (xs ++ ys) ++ zs
append-assoc [] ys zs = refl
append-assoc (x ∷ xs) ys zs = ap (λ rest. x ∷ rest) (append-assoc xs ys zs)

append-nil : (xs : List StoredByte) → xs ++ [] ≡ xs
append-nil [] = refl
append-nil (x ∷ xs) = ap (λ rest. x ∷ rest) (append-nil xs)

-- one more store has its bytes after the others'
pub bytes_of-more :
    (stores : List StoredNumber) (s : StoredNumber)
    → bytes_of (stores ++ s ∷ []) ≡ bytes_of stores ++ bytes_stored s.address s.size s.value
bytes_of-more [] s = append-nil (bytes_stored s.address s.size s.value)
bytes_of-more (x ∷ stores) s =
    ap (λ rest. bytes_stored x.address x.size x.value ++ rest) (bytes_of-more stores s)
    ∙ append-assoc (bytes_stored x.address x.size x.value) (bytes_of stores) (bytes_stored s.address s.size s.value)
