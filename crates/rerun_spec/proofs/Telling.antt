-- What a record determines of a byte, stored or read, is that byte after its thunk.
use Rattle.std.proofs.Common.{◌≡◌, ℕ, ◌+◌, ◌*◌, ◌/◌, ◌%◌, ◌^◌, ◌<◌, zero, suc, Bool, true, false, eqb, cond, List, [], ◌∷◌, Option, Some, None, length, take, get_or, refl, ap, sym, subst, ◌∙◌, arith}
use Rattle.std.specs.Prelude.{⊤, slice_get}
use Rattle.std.proofs.lemmas.Bool.{eqb-true}
use Rattle.std.proofs.lemmas.Bool.Decides.{nat_tests}
use Rattle.std.proofs.lemmas.List.Sums.{sum_by-cons}
use Rattle.std.specs.List.{count_by}
use Rattle.memory_spec.specs.declared.Size.TheVariants.{Four}
use Rattle.memory_spec.specs.Pages.{Mapped, Memory, IsMemory, on_each, zero_page, slot_of, page_of}
use Rattle.memory_spec.specs.Stores.{StoredByte, with_stores}
use Rattle.memory_spec.specs.Workspace.{Masks, no_marks, mask_of, marked, taken_at}
use Rattle.memory_spec.specs.Access.{number_in, number_at}
use Rattle.thunk_spec.specs.Put.{byte_at}
use Rattle.thunk_spec.specs.Delta.{chosen, is_stored, delta_from, delta_of}
use Rattle.thunk_spec.specs.Reads.{reads_from, reads_of}
use Rattle.thunk_spec.proofs.Merging.{merged, merged_all, Shaped, shaped-with_stores, shaped-fresh, merged_all-with_stores, merged_all-no_marks}
use Rattle.memo_spec.specs.Old.{stored_byte, read_byte, first_there, whole_word}

-- a byte or a word that is determined, if one is
abbrev pub Tells : Option ℕ → ℕ → Type 0
Tells None n = ⊤
Tells (Some reported) n = reported ≡ n

-- ---- stored bytes

-- the bytes at the marked places, counted by the marks before them
chosen-at :
    (mask : List Bool) (page : List ℕ) (i : ℕ) → length mask ≡ length page → get_or mask i false ≡ true
    → slice_get (chosen mask page) (count_by (λ (mark : Bool). mark) (take i mask)) ≡ Some (get_or page i 0)
chosen-at [] page i same at = cc
chosen-at (mark ∷ mask) [] i same at = absurd (omega arith)
chosen-at (true ∷ mask) (b ∷ page) zero same at = refl
chosen-at (false ∷ mask) (b ∷ page) zero same at = cc
chosen-at (true ∷ mask) (b ∷ page) (suc i) same at =
    let more : count_by (λ (mark : Bool). mark) (true ∷ take i mask)
    ≡ suc (count_by (λ (mark : Bool). mark) (take i mask)) =
    omega (arith, sum_by-cons (λ (mark : Bool). cond mark 1 0) true (take i mask)) in
    rw more (chosen-at mask page i (omega arith) at)
chosen-at (false ∷ mask) (b ∷ page) (suc i) same at =
    let more : count_by (λ (mark : Bool). mark) (false ∷ take i mask)
    ≡ count_by (λ (mark : Bool). mark) (take i mask) =
    omega (arith, sum_by-cons (λ (mark : Bool). cond mark 1 0) false (take i mask)) in
    rw more (chosen-at mask page i (omega arith) at)

-- a mask of no store marks no place
unmarked : (mask : List Bool) (i : ℕ) → is_stored mask ≡ false → get_or mask i false ≡ false
unmarked [] i none = refl
unmarked (true ∷ mask) i none = cc
unmarked (false ∷ mask) zero none = refl
unmarked (false ∷ mask) (suc i) none = unmarked mask i none

-- the byte at a place of a page, if it is marked
abbrev marked_byte : List Bool → List ℕ → ℕ → Option ℕ
marked_byte mask page i = cond (get_or mask i false) (Some (get_or page i 0)) None

marked-chosen :
    (mask : List Bool) (page : List ℕ) (i : ℕ) → length mask ≡ length page
    → cond (get_or mask i false)
    (slice_get (chosen mask page) (count_by (λ (mark : Bool). mark) (take i mask))) None
    ≡ marked_byte mask page i
marked-chosen mask page i same = here (get_or mask i false) refl
  where
    here :
        (b : Bool) → get_or mask i false ≡ b
        → cond b (slice_get (chosen mask page) (count_by (λ (mark : Bool). mark) (take i mask))) None
        ≡ cond b (Some (get_or page i 0)) None
    here true at = chosen-at mask page i same at
    here false at = refl

-- deltas of later slots determine nothing of an earlier one
stored-before :
    (ms : Masks) (ns : Memory) (k slot i : ℕ) → slot < k → stored_byte (delta_from k ms ns) slot i ≡ None
stored-before [] ns k slot i before = refl
stored-before (m ∷ ms) [] k slot i before = refl
stored-before (m ∷ ms) (n ∷ ns) k slot i before =
    let later = stored-before ms ns (suc k) slot i (omega arith) in
    let other : eqb k slot ≡ false = grind (arith, nat_tests) in
    elim (is_stored m)
    as (λ b.
    stored_byte
    (cond b (record { slot = k; mask = m; bytes = chosen m n } ∷ delta_from (suc k) ms ns) (delta_from (suc k) ms ns))
    slot i ≡ None)
    [ true ↦ rw other later | false ↦ later ]

-- the stored byte at a place is the one that the marks determine there
stored-at :
    (os ns : Memory) (ms : Masks) (k j slot i : ℕ) → Shaped os ns ms → slot ≡ k + j
    → stored_byte (delta_from k ms ns) slot i ≡ marked_byte (mask_of ms j) (page_of ns j) i
stored-at [] [] [] k j slot i h is = refl
stored-at [] [] (m ∷ ms) k j slot i h is = absurd h
stored-at [] (n ∷ ns) ms k j slot i h is = absurd h
stored-at (o ∷ os) [] ms k j slot i h is = absurd h
stored-at (o ∷ os) (n ∷ ns) [] k j slot i h is = absurd h
stored-at (o ∷ os) (n ∷ ns) (m ∷ ms) k zero slot i h is =
    let here : eqb k slot ≡ true = grind (arith, nat_tests) in
    elim (is_stored m)
    as (λ b.
    is_stored m ≡ b
    → stored_byte
    (cond b (record { slot = k; mask = m; bytes = chosen m n } ∷ delta_from (suc k) ms ns) (delta_from (suc k) ms ns))
    slot i ≡ marked_byte m n i) [
      | true ↦ λ any. rw here (marked-chosen m n i (h.1 ∙ sym h.0))
      | false ↦ λ none. rw (unmarked m i none) (stored-before ms ns (suc k) slot i (omega arith))
    ]
    refl
stored-at (o ∷ os) (n ∷ ns) (m ∷ ms) k (suc j) slot i h is =
    let other : eqb k slot ≡ false = grind (arith, nat_tests) in
    let later = stored-at os ns ms (suc k) j slot i h.2 (omega arith) in
    elim (is_stored m)
    as (λ b.
    stored_byte
    (cond b (record { slot = k; mask = m; bytes = chosen m n } ∷ delta_from (suc k) ms ns) (delta_from (suc k) ms ns))
    slot i ≡ marked_byte (mask_of ms j) (page_of ns j) i)
    [ true ↦ rw other later | false ↦ later ]

-- ---- merged pages

merged-at :
    (o n : List ℕ) (m : List Bool) (i : ℕ) → length n ≡ length o → length m ≡ length o
    → get_or (merged o n m) i 0 ≡ cond (get_or m i false) (get_or n i 0) (get_or o i 0)
merged-at [] [] [] i p q = refl
merged-at [] [] (m ∷ ms) i p q = absurd (omega arith)
merged-at [] (n ∷ ns) ms i p q = absurd (omega arith)
merged-at (o ∷ os) [] ms i p q = absurd (omega arith)
merged-at (o ∷ os) (n ∷ ns) [] i p q = absurd (omega arith)
merged-at (o ∷ os) (n ∷ ns) (m ∷ ms) zero p q = refl
merged-at (o ∷ os) (n ∷ ns) (m ∷ ms) (suc i) p q = merged-at os ns ms i (omega arith) (omega arith)

merged_all-at :
    (os ns : Memory) (ms : Masks) (j i : ℕ) → Shaped os ns ms
    → get_or (page_of (merged_all os ns ms) j) i 0
    ≡ cond (get_or (mask_of ms j) i false) (get_or (page_of ns j) i 0) (get_or (page_of os j) i 0)
merged_all-at [] [] [] j i h = refl
merged_all-at [] [] (m ∷ ms) j i h = absurd h
merged_all-at [] (n ∷ ns) ms j i h = absurd h
merged_all-at (o ∷ os) [] ms j i h = absurd h
merged_all-at (o ∷ os) (n ∷ ns) [] j i h = absurd h
merged_all-at (o ∷ os) (n ∷ ns) (m ∷ ms) zero i h = merged-at o n m i h.0 h.1
merged_all-at (o ∷ os) (n ∷ ns) (m ∷ ms) (suc j) i h = merged_all-at os ns ms j i h.2

-- ---- read bytes

got-tells : (xs : List ℕ) (i : ℕ) → Tells (slice_get xs i) (get_or xs i 0)
got-tells [] i = tt
got-tells (x ∷ xs) zero = refl
got-tells (x ∷ xs) (suc i) = got-tells xs i

read-tells :
    (k : ℕ) (flags : List Bool) (view : Memory) (slot i : ℕ)
    → Tells (read_byte (reads_from k flags view) slot i) (get_or (page_of view slot) i 0)
read-tells k [] view slot i = tt
read-tells k (false ∷ flags) view slot i = read-tells (suc k) flags view slot i
read-tells k (true ∷ flags) view slot i = here (eqb k slot) refl (read-tells (suc k) flags view slot i)
  where
    here :
        (b : Bool) → eqb k slot ≡ b
        → Tells (read_byte (reads_from (suc k) flags view) slot i) (get_or (page_of view slot) i 0)
        → Tells
        (cond b (slice_get (page_of view k) i) (read_byte (reads_from (suc k) flags view) slot i))
        (get_or (page_of view slot) i 0)
    here true is later = let same : k ≡ slot = eqb-true k slot is in rw (← same) (got-tells (page_of view k) i)
    here false is later = later

-- ---- both

first-tells :
    (mark : Bool) (new old : ℕ) (read : Option ℕ) → Tells read old
    → Tells (first_there (cond mark (Some new) None) read) (cond mark new old)
first-tells true new old read tells = refl
first-tells false new old read tells = tells

-- the stored bytes over the read ones determine the bytes of the view after the stores
pub with_stores-tells :
    (map : List Mapped) (view : Memory) (stores : List StoredByte) (taken : List ℕ) (slot i : ℕ)
    → IsMemory map view
    → Tells (first_there (stored_byte (delta_of map stores) slot i) (read_byte (reads_of map view taken) slot i))
    (get_or (page_of (with_stores map view stores) slot) i 0)
unfolding delta_of reads_of
with_stores-tells map view stores taken slot i whole =
    let ns : Memory = with_stores map (on_each zero_page map) stores in
    let ms : Masks = marked map (on_each no_marks map) stores in
    let fresh : Shaped view (on_each zero_page map) (on_each no_marks map) = shaped-fresh map view whole in
    let shaped : Shaped view ns ms =
    shaped-with_stores map view (on_each zero_page map) (on_each no_marks map) stores fresh in
    let is : merged_all view ns ms ≡ with_stores map view stores =
    merged_all-with_stores map view (on_each zero_page map) (on_each no_marks map) stores fresh
    ∙ ap (λ start. with_stores map start stores) (merged_all-no_marks map view) in
    rw (stored-at view ns ms 0 slot slot i shaped (omega arith), ← is, merged_all-at view ns ms slot i shaped)
    (first-tells (get_or (mask_of ms slot) i false) (get_or (page_of ns slot) i 0) (get_or (page_of view slot) i 0)
    (read_byte (reads_from 0 (taken_at map (on_each false map) taken) view) slot i)
    (read-tells 0 (taken_at map (on_each false map) taken) view slot i))

-- ---- words

whole-tells :
    (a b c d : Option ℕ) (x y z u : ℕ) → Tells a x → Tells b y → Tells c z → Tells d u
    → Tells (whole_word a b c d) (x + y * 2 ^ 8 + z * 2 ^ 16 + u * 2 ^ 24)
whole-tells None b c d x y z u p q r s = tt
whole-tells (Some a) None c d x y z u p q r s = tt
whole-tells (Some a) (Some b) None d x y z u p q r s = tt
whole-tells (Some a) (Some b) (Some c) None x y z u p q r s = tt
whole-tells (Some a) (Some b) (Some c) (Some d) x y z u p q r s = rw (p, q, r, s) refl

slot-same : (map : List Mapped) (a b : ℕ) → a / 4096 ≡ b / 4096 → slot_of map a ≡ slot_of map b
slot-same [] a b same = refl
slot-same (page ∷ map) a b same = rw (same, slot-same map a b same) refl

-- the bytes of an aligned word lie on one page
next-byte :
    (map : List Mapped) (memory : Memory) (a k : ℕ) → a % 4 ≡ 0 → k < 4
    → byte_at map memory (a + k) ≡ get_or (page_of memory (slot_of map a)) (a % 4096 + k) 0
next-byte map memory a k aligned below =
    let page : (a + k) / 4096 ≡ a / 4096 = omega arith in
    let place : (a + k) % 4096 ≡ a % 4096 + k = omega arith in
    rw (slot-same map (a + k) a page, place) refl

-- what determines each byte of an aligned word determines the word
pub word-tells :
    (map : List Mapped) (memory : Memory) (a : ℕ) (reported : ℕ → Option ℕ)
    → a % 4 ≡ 0 → ((address : ℕ) → Tells (reported address) (byte_at map memory address))
    → Tells (whole_word (reported a) (reported (a + 1)) (reported (a + 2)) (reported (a + 3))) (number_at map memory a Four)
unfolding number_at number_in
word-tells map memory a reported aligned tells =
    whole-tells (reported a) (reported (a + 1)) (reported (a + 2)) (reported (a + 3)) _ _ _ _ (tells a)
    (subst (Tells (reported (a + 1))) (next-byte map memory a 1 aligned (omega arith)) (tells (a + 1)))
    (subst (Tells (reported (a + 2))) (next-byte map memory a 2 aligned (omega arith)) (tells (a + 2)))
    (subst (Tells (reported (a + 3))) (next-byte map memory a 3 aligned (omega arith)) (tells (a + 3)))
