-- Writing the masked last bytes of stores is writing the stores in order.
use Rattle.std.proofs.Common.{◌≡◌, ℕ, ◌%◌, zero, suc, Bool, true, false, cond, List, [], ◌∷◌, length, set, replicate, refl, ap, sym, ◌∙◌, arith}
use Rattle.std.specs.List.{AllByRecursion}
use Rattle.std.proofs.lemmas.List.{length-set, length-replicate}
use Rattle.std.proofs.lemmas.List.Elements.{recursion_from_All}
use Rattle.memory_spec.specs.Pages.{Mapped, Memory, on_each, zero_page, page_of, slot_of, IsMemory}
use Rattle.memory_spec.specs.Stores.{StoredByte, with_byte, with_stores}
use Rattle.memory_spec.specs.Workspace.{Masks, no_marks, mask_of, with_mark, marked}
use Rattle.thunk_spec.specs.Delta.{chosen, spread, is_stored, delta_from, delta_of, masked}

-- a page where the bytes at the places of a mask are those of another one
abbrev pub merged : List ℕ → List ℕ → List Bool → List ℕ
merged [] written mask = []
merged (o ∷ os) [] mask = o ∷ os
merged (o ∷ os) (n ∷ ns) [] = o ∷ os
merged (o ∷ os) (n ∷ ns) (m ∷ ms) = cond m n o ∷ merged os ns ms

-- the same for each page of a memory
abbrev pub merged_all : Memory → Memory → Masks → Memory
merged_all [] written masks = []
merged_all (o ∷ os) [] masks = o ∷ os
merged_all (o ∷ os) (n ∷ ns) [] = o ∷ os
merged_all (o ∷ os) (n ∷ ns) (m ∷ ms) = merged o n m ∷ merged_all os ns ms

-- two memories and the masks have one shape
abbrev pub Shaped : Memory → Memory → Masks → Type 0
Shaped [] [] [] = Unit {0}
Shaped (o ∷ os) (n ∷ ns) (m ∷ ms) = (length n ≡ length o) × (length m ≡ length o) × Shaped os ns ms
Shaped _ _ _ = ⊥

-- a byte stored into the copy, with its mark, is a byte stored into what is merged
pub merged-set :
    (o n : List ℕ) (m : List Bool) (a b : ℕ)
    → length n ≡ length o → length m ≡ length o
    → merged o (set n a b) (set m a true) ≡ set (merged o n m) a b
merged-set [] n m a b p q = refl
merged-set (o ∷ os) [] m a b p q = absurd (omega arith)
merged-set (o ∷ os) (n ∷ ns) [] a b p q = absurd (omega arith)
merged-set (o ∷ os) (n ∷ ns) (m ∷ ms) zero b p q = refl
merged-set (o ∷ os) (n ∷ ns) (m ∷ ms) (suc a) b p q =
    ap (λ rest. cond m n o ∷ rest) (merged-set os ns ms a b (omega arith) (omega arith))

-- the same at a page of a memory
pub merged_all-set :
    (os ns : Memory) (ms : Masks) (s a b : ℕ)
    → Shaped os ns ms
    → merged_all os (set ns s (set (page_of ns s) a b)) (set ms s (set (mask_of ms s) a true))
    ≡ set (merged_all os ns ms) s (set (page_of (merged_all os ns ms) s) a b)
merged_all-set [] [] [] s a b h = refl
merged_all-set [] [] (m ∷ ms) s a b h = absurd h
merged_all-set [] (n ∷ ns) ms s a b h = absurd h
merged_all-set (o ∷ os) [] ms s a b h = absurd h
merged_all-set (o ∷ os) (n ∷ ns) [] s a b h = absurd h
merged_all-set (o ∷ os) (n ∷ ns) (m ∷ ms) zero a b h =
    ap (λ page. page ∷ merged_all os ns ms) (merged-set o n m a b h.0 h.1)
merged_all-set (o ∷ os) (n ∷ ns) (m ∷ ms) (suc s) a b h =
    ap (λ rest. merged o n m ∷ rest) (merged_all-set os ns ms s a b h.2)

shaped-set :
    (os ns : Memory) (ms : Masks) (s a b : ℕ)
    → Shaped os ns ms
    → Shaped os (set ns s (set (page_of ns s) a b)) (set ms s (set (mask_of ms s) a true))
shaped-set [] [] [] s a b h = tt
shaped-set [] [] (m ∷ ms) s a b h = absurd h
shaped-set [] (n ∷ ns) ms s a b h = absurd h
shaped-set (o ∷ os) [] ms s a b h = absurd h
shaped-set (o ∷ os) (n ∷ ns) [] s a b h = absurd h
shaped-set (o ∷ os) (n ∷ ns) (m ∷ ms) zero a b h = (length-set n a b ∙ h.0, length-set m a true ∙ h.1, h.2)
shaped-set (o ∷ os) (n ∷ ns) (m ∷ ms) (suc s) a b h = (h.0, h.1, shaped-set os ns ms s a b h.2)

pub shaped-with_stores :
    (map : List Mapped) (os ns : Memory) (ms : Masks) (stores : List StoredByte)
    → Shaped os ns ms → Shaped os (with_stores map ns stores) (marked map ms stores)
unfolding with_byte with_mark
shaped-with_stores map os ns ms [] h = h
shaped-with_stores map os ns ms (s ∷ stores) h =
    shaped-with_stores map os (with_byte map ns s) (with_mark map ms s) stores
    (shaped-set os ns ms (slot_of map s.address) (s.address % 4096) s.byte h)

pub merged_all-with_stores :
    (map : List Mapped) (os ns : Memory) (ms : Masks) (stores : List StoredByte)
    → Shaped os ns ms
    → merged_all os (with_stores map ns stores) (marked map ms stores) ≡ with_stores map (merged_all os ns ms) stores
unfolding with_byte with_mark
merged_all-with_stores map os ns ms [] h = refl
merged_all-with_stores map os ns ms (s ∷ stores) h =
    merged_all-with_stores map os (with_byte map ns s) (with_mark map ms s) stores
    (shaped-set os ns ms (slot_of map s.address) (s.address % 4096) s.byte h)
    ∙ ap (λ memory. with_stores map memory stores)
    (merged_all-set os ns ms (slot_of map s.address) (s.address % 4096) s.byte h)

-- without a mark, the merged page is the old one
merged-none : (o n : List ℕ) (k : ℕ) → merged o n (replicate k false) ≡ o
merged-none [] n k = refl
merged-none (o ∷ os) [] k = refl
merged-none (o ∷ os) (n ∷ ns) zero = refl
merged-none (o ∷ os) (n ∷ ns) (suc k) = ap (λ rest. o ∷ rest) (merged-none os ns k)

merged-no_marks : (o n : List ℕ) → merged o n no_marks ≡ o
unfolding no_marks
merged-no_marks o n = merged-none o n 4096

pub merged_all-no_marks :
    (map : List Mapped) (os : Memory) → merged_all os (on_each zero_page map) (on_each no_marks map) ≡ os
merged_all-no_marks [] [] = refl
merged_all-no_marks [] (o ∷ os) = refl
merged_all-no_marks (page ∷ map) [] = refl
merged_all-no_marks (page ∷ map) (o ∷ os) =
    rw (merged-no_marks o zero_page) (ap (λ rest. o ∷ rest) (merged_all-no_marks map os))

length-zero_page : length zero_page ≡ 4096
unfolding zero_page
length-zero_page = length-replicate {A = ℕ} 4096 0

length-no_marks : length no_marks ≡ 4096
unfolding no_marks
length-no_marks = length-replicate {A = Bool} 4096 false

shaped-fresh_pages :
    (map : List Mapped) (os : Memory)
    → length os ≡ length map
    → AllByRecursion (λ (bytes : List ℕ). length bytes ≡ 4096) os
    → Shaped os (on_each zero_page map) (on_each no_marks map)
shaped-fresh_pages [] [] count whole = tt
shaped-fresh_pages [] (o ∷ os) count whole = absurd (omega arith)
shaped-fresh_pages (page ∷ map) [] count whole = absurd (omega arith)
shaped-fresh_pages (page ∷ map) (o ∷ os) count whole =
    (length-zero_page ∙ sym whole.0, length-no_marks ∙ sym whole.0, shaped-fresh_pages map os (omega arith) whole.1)

pub shaped-fresh :
    (map :
    List Mapped) (memory : Memory) → IsMemory map memory
    → Shaped memory (on_each zero_page map) (on_each no_marks map)
shaped-fresh map memory h =
    shaped-fresh_pages map memory h.count (recursion_from_All (λ (bytes : List ℕ). length bytes ≡ 4096) memory h.pages)

-- writing the chosen bytes of another page at their places is merging that page
pub spread-chosen :
    (m : List Bool) (n o : List ℕ)
    → length n ≡ length o → length m ≡ length o
    → spread m (chosen m n) o ≡ merged o n m
spread-chosen [] n [] p q = refl
spread-chosen [] n (o ∷ os) p q = absurd (omega arith)
spread-chosen (m ∷ ms) n [] p q = absurd (omega arith)
spread-chosen (m ∷ ms) [] (o ∷ os) p q = absurd (omega arith)
spread-chosen (true ∷ ms) (n ∷ ns) (o ∷ os) p q =
    ap (λ rest. n ∷ rest) (spread-chosen ms ns os (omega arith) (omega arith))
spread-chosen (false ∷ ms) (n ∷ ns) (o ∷ os) p q =
    ap (λ rest. o ∷ rest) (spread-chosen ms ns os (omega arith) (omega arith))

-- without a place in the mask, nothing is merged
merged-unstored : (o n : List ℕ) (m : List Bool) → is_stored m ≡ false → merged o n m ≡ o
merged-unstored [] n m h = refl
merged-unstored (o ∷ os) [] m h = refl
merged-unstored (o ∷ os) (n ∷ ns) [] h = refl
merged-unstored (o ∷ os) (n ∷ ns) (true ∷ ms) h = cc
merged-unstored (o ∷ os) (n ∷ ns) (false ∷ ms) h = ap (λ rest. o ∷ rest) (merged-unstored os ns ms h)

-- the deltas from one slot further on don't change the first page
masked-cons :
    (ms : Masks) (ns : Memory) (k : ℕ) (o : List ℕ) (os : Memory)
    → masked (o ∷ os) (delta_from (suc k) ms ns) ≡ o ∷ masked os (delta_from k ms ns)
masked-cons [] ns k o os = refl
masked-cons (m ∷ ms) [] k o os = refl
masked-cons (m ∷ ms) (n ∷ ns) k o os =
    elim (is_stored m)
    as (λ b.
    masked (o ∷ os)
    (cond b (record { slot = suc k; mask = m; bytes = chosen m n } ∷ delta_from (suc (suc k)) ms ns)
    (delta_from (suc (suc k)) ms ns))
    ≡ o ∷ masked os
    (cond b (record { slot = k; mask = m; bytes = chosen m n } ∷ delta_from (suc k) ms ns)
    (delta_from (suc k) ms ns))) [
      | true ↦ masked-cons ms ns (suc k) o (set os k (spread m (chosen m n) (page_of os k)))
      | false ↦ masked-cons ms ns
          (suc k) o os
    ]

pub masked-delta_from :
    (os ns : Memory) (ms : Masks) → Shaped os ns ms → masked os (delta_from 0 ms ns) ≡ merged_all os ns ms
masked-delta_from [] [] [] h = refl
masked-delta_from [] [] (m ∷ ms) h = absurd h
masked-delta_from [] (n ∷ ns) ms h = absurd h
masked-delta_from (o ∷ os) [] ms h = absurd h
masked-delta_from (o ∷ os) (n ∷ ns) [] h = absurd h
masked-delta_from (o ∷ os) (n ∷ ns) (m ∷ ms) h =
    elim (is_stored m)
    as (λ b.
    is_stored m ≡ b
    → masked (o ∷ os)
    (cond b (record { slot = 0; mask = m; bytes = chosen m n } ∷ delta_from 1 ms ns) (delta_from 1 ms ns))
    ≡ merged o n m ∷ merged_all os ns ms) [
      | true ↦ λ stored.
          masked-cons ms ns 0 (spread m (chosen m n) o) os
          ∙ ap (λ rest. spread m (chosen m n) o ∷ rest) (masked-delta_from os ns ms h.2)
          ∙ ap (λ page. page ∷ merged_all os ns ms) (spread-chosen m n o h.0 h.1)
      | false ↦ λ none.
          masked-cons ms ns 0 o os
          ∙ ap (λ rest. o ∷ rest) (masked-delta_from os ns ms h.2)
          ∙ ap (λ page. page ∷ merged_all os ns ms) (sym (merged-unstored o n m none))
    ]
    refl

-- memory after stores, written by masks, is memory after the stores in order
pub masked-delta_of :
    (map : List Mapped) (memory : Memory) (stores : List StoredByte)
    → IsMemory map memory
    → masked memory (delta_of map stores) ≡ with_stores map memory stores
unfolding delta_of
masked-delta_of map memory stores h =
    masked-delta_from memory (with_stores map (on_each zero_page map) stores) (marked map (on_each no_marks map) stores)
    (shaped-with_stores map memory (on_each zero_page map) (on_each no_marks map) stores (shaped-fresh map memory h))
    ∙ merged_all-with_stores map memory (on_each zero_page map) (on_each no_marks map) stores (shaped-fresh map memory h)
    ∙ ap (λ start. with_stores map start stores) (merged_all-no_marks map memory)
