-- Stores to a memory follow from the same stores to another one of the same map, and from their places.
use Rattle.std.proofs.Common.{◌≡◌, ℕ, zero, suc, ◌%◌, Bool, true, false, cond, List, [], ◌∷◌, ◌++◌, length, set, replicate, refl, ap, sym, ◌∙◌, arith}
use Rattle.std.specs.List.{AllByRecursion}
use Rattle.std.proofs.lemmas.List.Elements.{recursion_from_All}
use Rattle.memory_spec.specs.Pages.{Mapped, Memory, IsMemory, slot_of, page_of, on_each}
use Rattle.memory_spec.specs.Stores.{StoredByte, with_byte, with_stores}
use Rattle.memory_spec.specs.Workspace.{Masks, no_marks, mask_of, with_mark, marked}
use Rattle.memory_spec.specs.Access.{bytes_stored}
use Rattle.plain_machine.specs.Stored.{StoredNumber, bytes_of}
use Rattle.plain_machine.specs.Merging.{merged_page, merged}
use Rattle.plain_machine.proofs.Laying.{with_stores-append, marked-append, bytes_of-more}

-- a byte stored and marked is a byte stored
merged_page-set :
    (mask : List Bool) (page other : List ℕ) (k b : ℕ)
    → merged_page (set mask k true) (set page k b) other ≡ set (merged_page mask page other) k b
merged_page-set [] page other k b = refl
merged_page-set (m ∷ mask) [] other zero b = refl
merged_page-set (m ∷ mask) [] other (suc k) b = refl
merged_page-set (m ∷ mask) (x ∷ page) [] zero b = refl
merged_page-set (m ∷ mask) (x ∷ page) [] (suc k) b = refl
merged_page-set (m ∷ mask) (x ∷ page) (y ∷ other) zero b = refl
merged_page-set (m ∷ mask) (x ∷ page) (y ∷ other) (suc k) b =
    ap (λ rest. cond m x y ∷ rest) (merged_page-set mask page other k b)

none-page : (mask : List Bool) (other : List ℕ) → [] ≡ merged_page mask [] other
none-page [] other = refl
none-page (m ∷ mask) other = refl

none-other : (mask : List Bool) (page : List ℕ) → [] ≡ merged_page mask page []
none-other [] page = refl
none-other (m ∷ mask) [] = refl
none-other (m ∷ mask) (x ∷ page) = refl

-- the page in a slot
merged-page_of :
    (masks : Masks) (memory other : Memory) (s : ℕ)
    → page_of (merged masks memory other) s ≡ merged_page (mask_of masks s) (page_of memory s) (page_of other s)
merged-page_of [] memory other s = refl
merged-page_of (mask ∷ masks) [] other zero = none-page mask _
merged-page_of (mask ∷ masks) [] other (suc s) = none-page _ _
merged-page_of (mask ∷ masks) (page ∷ memory) [] zero = none-other mask page
merged-page_of (mask ∷ masks) (page ∷ memory) [] (suc s) = none-other _ _
merged-page_of (mask ∷ masks) (page ∷ memory) (below ∷ other) zero = refl
merged-page_of (mask ∷ masks) (page ∷ memory) (below ∷ other) (suc s) = merged-page_of masks memory other s

-- a page put in the place of another, on both
merged-set :
    (masks : Masks) (memory other : Memory) (s : ℕ) (mask : List Bool) (page : List ℕ)
    → merged (set masks s mask) (set memory s page) other
    ≡ set (merged masks memory other) s (merged_page mask page (page_of other s))
merged-set [] memory other s mask page = refl
merged-set (m ∷ masks) [] other zero mask page = refl
merged-set (m ∷ masks) [] other (suc s) mask page = refl
merged-set (m ∷ masks) (p ∷ memory) [] zero mask page = refl
merged-set (m ∷ masks) (p ∷ memory) [] (suc s) mask page = refl
merged-set (m ∷ masks) (p ∷ memory) (q ∷ other) zero mask page = refl
merged-set (m ∷ masks) (p ∷ memory) (q ∷ other) (suc s) mask page =
    ap (λ rest. merged_page m p q ∷ rest) (merged-set masks memory other s mask page)

merged-byte :
    (map : List Mapped) (masks : Masks) (memory other : Memory) (s : StoredByte)
    → merged (with_mark map masks s) (with_byte map memory s) other ≡ with_byte map (merged masks memory other) s
unfolding with_mark with_byte
merged-byte map masks memory other s =
    let k = slot_of map s.address in
    let o = s.address % 4096 in
    merged-set masks memory other k (set (mask_of masks k) o true) (set (page_of memory k) o s.byte)
    ∙ ap (λ (page : List ℕ). set (merged masks memory other) k page)
    (merged_page-set (mask_of masks k) (page_of memory k) (page_of other k) o s.byte
    ∙ ap (λ (page : List ℕ). set page o s.byte) (sym (merged-page_of masks memory other k)))

-- storing to a merged memory is storing to the memory that is merged into it, and marking
pub merged-with_stores :
    (map : List Mapped) (stores : List StoredByte) (masks : Masks) (memory other : Memory)
    → merged (marked map masks stores) (with_stores map memory stores) other ≡ with_stores map (merged masks memory other) stores
merged-with_stores map [] masks memory other = refl
merged-with_stores map (s ∷ stores) masks memory other =
    merged-with_stores map stores (with_mark map masks s) (with_byte map memory s) other
    ∙ ap (λ (m : Memory). with_stores map m stores) (merged-byte map masks memory other s)

merged_page-none :
    (n : ℕ) (page other : List ℕ) → length page ≡ n → length other ≡ n
    → merged_page (replicate n false) page other ≡ other
merged_page-none zero page [] a b = refl
merged_page-none zero page (y ∷ other) a b = absurd (omega (arith, b))
merged_page-none (suc n) [] other a b = absurd (omega (arith, a))
merged_page-none (suc n) (x ∷ page) [] a b = absurd (omega (arith, b))
merged_page-none (suc n) (x ∷ page) (y ∷ other) a b =
    ap (λ rest. y ∷ rest) (merged_page-none n page other (omega (arith, a)) (omega (arith, b)))

abbrev IsPage : List ℕ → Type 0
IsPage bytes = length bytes ≡ 4096

merged-none-each :
    (map : List Mapped) (memory other : Memory) → length memory ≡ length map → length other ≡ length map
    → AllByRecursion IsPage memory → AllByRecursion IsPage other
    → merged (on_each no_marks map) memory other ≡ other
unfolding no_marks
merged-none-each [] memory [] a b p q = refl
merged-none-each [] memory (y ∷ other) a b p q = absurd (omega (arith, b))
merged-none-each (m ∷ map) [] other a b p q = absurd (omega (arith, a))
merged-none-each (m ∷ map) (x ∷ memory) [] a b p q = absurd (omega (arith, b))
merged-none-each (m ∷ map) (x ∷ memory) (y ∷ other) a b p q =
    ap (λ page. page ∷ merged (on_each (replicate 4096 false) map) memory other)
    (merged_page-none 4096 x y p.0 q.0)
    ∙ ap (λ rest. y ∷ rest)
    (merged-none-each map memory other (omega (arith, a)) (omega (arith, b)) p.1 q.1)

-- if nothing is marked, the other memory stays
pub merged-none :
    (map : List Mapped) (memory other : Memory) → IsMemory map memory → IsMemory map other
    → merged (on_each no_marks map) memory other ≡ other
merged-none map memory other a b =
    merged-none-each map memory other a.count b.count
    (recursion_from_All IsPage memory a.pages) (recursion_from_All IsPage other b.pages)

-- a memory after stores, from another memory after them and from their marks
pub with_stores-merged :
    (map : List Mapped) (stores : List StoredByte) (memory other : Memory) → IsMemory map memory → IsMemory map other
    → merged (marked map (on_each no_marks map) stores) (with_stores map memory stores) other ≡ with_stores map other stores
with_stores-merged map stores memory other a b =
    merged-with_stores map stores (on_each no_marks map) memory other
    ∙ ap (λ (m : Memory). with_stores map m stores) (merged-none map memory other a b)

-- one more store keeps what holds of the stores so far
pub kept-more :
    (map : List Mapped) (stores : List StoredNumber) (s : StoredNumber) (memory shared : Memory)
    → with_stores map shared (bytes_of stores) ≡ merged (marked map (on_each no_marks map) (bytes_of stores)) memory shared
    → with_stores map shared (bytes_of (stores ++ s ∷ []))
    ≡ merged (marked map (on_each no_marks map) (bytes_of (stores ++ s ∷ [])))
    (with_stores map memory (bytes_stored s.address s.size s.value)) shared
kept-more map stores s memory shared kept =
    let b = bytes_stored s.address s.size s.value in
    let marks = on_each no_marks map in
    ap (λ (all : List StoredByte). with_stores map shared all) (bytes_of-more stores s)
    ∙ with_stores-append map shared (bytes_of stores) b
    ∙ ap (λ (m : Memory). with_stores map m b) kept
    ∙ sym (merged-with_stores map b (marked map marks (bytes_of stores)) memory shared)
    ∙ ap (λ (masks : Masks). merged masks (with_stores map memory b) shared)
    (sym (marked-append map marks (bytes_of stores) b))
    ∙ ap (λ (all : List StoredByte). merged (marked map marks all) (with_stores map memory b) shared)
    (sym (bytes_of-more stores s))

-- and its places are marked after theirs
pub marked-more :
    (map : List Mapped) (stores : List StoredNumber) (s : StoredNumber)
    → marked map (on_each no_marks map) (bytes_of (stores ++ s ∷ []))
    ≡ marked map (marked map (on_each no_marks map) (bytes_of stores)) (bytes_stored s.address s.size s.value)
marked-more map stores s =
    ap (marked map (on_each no_marks map)) (bytes_of-more stores s)
    ∙ marked-append map (on_each no_marks map) (bytes_of stores) (bytes_stored s.address s.size s.value)

-- without a store, it holds
pub kept-none :
    (map : List Mapped) (memory : Memory) (stores : List StoredNumber) (shared : Memory)
    → IsMemory map memory → stores ≡ [] → IsMemory map shared
    → with_stores map shared (bytes_of stores) ≡ merged (marked map (on_each no_marks map) (bytes_of stores)) memory shared
kept-none map memory stores shared whole none also = rw none (sym (merged-none map memory shared whole also))
