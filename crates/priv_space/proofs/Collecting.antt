-- Read pages and stored bytes, collected slot by slot.
use Rattle.std.proofs.Common.{◌≡◌, ℕ, ◌+◌, ◌-◌, ◌<◌, ◌≤◌, zero, suc, Bool, true, false, cond, nat_le, List, [], ◌∷◌, ◌++◌, length, get_or, set, drop, map, replicate, refl, ap, sym, ◌∙◌, arith, append_assoc}
use Rattle.std.proofs.lemmas.Bool.{and_from}
use Rattle.std.proofs.lemmas.Bool.Decides.{nat_tests}
use Rattle.std.proofs.lemmas.List.{drop_all, append-nil, length-map, map-set, drop-set-lt}
use Rattle.memory_spec.specs.Pages.{Mapped, Memory, page_of, on_each, zero_page, IsMemory}
use Rattle.memory_spec.specs.Stores.{StoredByte, with_stores}
use Rattle.memory_spec.specs.Workspace.{Masks, no_marks, marked}
use Rattle.thunk_spec.specs.Delta.{PageDelta, chosen, is_stored, delta_from, delta_of}
use Rattle.thunk_spec.specs.Reads.{ReadPage, reads_from}
use Rattle.thunk_spec.proofs.Merging.{merged, merged_all, Shaped, shaped-with_stores, shaped-fresh, merged_all-with_stores, merged_all-no_marks}
use Rattle.thunk_spec.specs.Ascending.{deltas_ascend, reads_ascend}
use Rattle.priv_space.specs.declared.slot.Slot.{Slot}
use Rattle.priv_space.specs.Slots.{on_view, untouched, slot_bytes, slot_marks, slot_taken}
use Rattle.priv_space.specs.Parts.{read_part, delta_part}
use Rattle.priv_space.specs.Held.{IsNext}
use Rattle.priv_space.proofs.Views.{on_view-set}

-- The rest from each place on is its part and the rest from the next one on; free places have no part, and past the
-- last place there is no rest.
pub record Collects {A : Type 0} (IsFree : ℕ → Type 0) (count : ℕ) (part rest : ℕ → List A) : Type 0 where
  pub next : (i : ℕ) → rest i ≡ part i ++ rest (suc i)
  pub none : (i : ℕ) → IsFree i → part i ≡ []
  pub last : (i : ℕ) → count ≤ i → rest i ≡ []

skipped :
    {A : Type 0} {IsFree : ℕ → Type 0} {count : ℕ} {part rest : ℕ → List A} → Collects IsFree count part rest
    → (i n : ℕ) → ((k : ℕ) → i ≤ k → k < i + n → IsFree k) → rest i ≡ rest (i + n)
skipped {rest = rest} c i zero free = ap rest (let same : i ≡ i + 0 = omega arith in same)
skipped {rest = rest} c i (suc n) free =
    c.next i
    ∙ ap (λ p. p ++ rest (suc i)) (c.none i (free i (omega arith) (omega arith)))
    ∙ skipped c (suc i) n (λ k from below. free k (omega arith) (omega arith))
    ∙ ap rest (let more : suc i + n ≡ i + suc n = omega arith in more)

-- what was collected and the rest stay the whole, up to the next place that isn't free
pub collected_next :
    {A : Type 0} {IsFree : ℕ → Type 0} {part rest : ℕ → List A} {from count slot : ℕ} (items : List A)
    {items' all : List A} → Collects IsFree count part rest → items ++ rest from ≡ all
    → IsNext IsFree from count slot → items' ≡ items ++ part slot → items' ++ rest (slot + 1) ≡ all
collected_next {part = part} {rest = rest} {from} {slot = slot} items c before found is =
    let there : from + (slot - from) ≡ slot = omega (arith, found.above) in
    let next : suc slot ≡ slot + 1 = omega arith in
    ap (λ front. front ++ rest (slot + 1)) is
    ∙ append_assoc items (part slot) (rest (slot + 1))
    ∙ ap (λ more. items ++ more) (sym
    (skipped c from (slot - from) (λ k above below. found.before k above (omega arith))
    ∙ ap rest there
    ∙ c.next slot
    ∙ ap (λ k. part slot ++ rest k) next))
    ∙ before

-- if the remaining places are free, all was collected
pub collected_all :
    {A : Type 0} {IsFree : ℕ → Type 0} {part rest : ℕ → List A} {from count : ℕ} (items : List A) {all : List A}
    → Collects IsFree count part rest → items ++ rest from ≡ all → ((k : ℕ) → from ≤ k → IsFree k) → items ≡ all
collected_all {from = from} {count} items c before free =
    sym (append-nil items)
    ∙ ap (λ more. items ++ more)
    (sym (skipped c from count (λ k above below. free k above) ∙ c.last (from + count) (omega arith)))
    ∙ before

-- no place of an unmarked page is stored to
unstored : (n : ℕ) → is_stored (replicate n false) ≡ false
unstored zero = refl
unstored (suc n) = unstored n

-- a slot to which nothing was stored gives nothing
pub part_none : (slot : ℕ) (mask : List Bool) (page : List ℕ) → mask ≡ no_marks → delta_part slot mask page ≡ []
unfolding no_marks
part_none slot mask page h =
    ap (λ b. cond b ((let d : PageDelta = record { slot = slot; mask = mask; bytes = chosen mask page } in d) ∷ []) [])
    (ap is_stored h ∙ unstored 4096)

get_or-map_all :
    {A B : Type 0} (f : A → B) (xs : List A) (i : ℕ) (d : A) → get_or (map f xs) i (f d) ≡ f (get_or xs i d)
get_or-map_all f [] i d = refl
get_or-map_all f (x ∷ xs) zero d = refl
get_or-map_all f (x ∷ xs) (suc i) d = get_or-map_all f xs i d

-- The read pages from a slot on, and the one of a slot.
abbrev pub reads_left : Memory → List Slot → ℕ → List ReadPage
reads_left view slots i = reads_from i (drop i (map slot_taken slots)) view

abbrev read_at : Memory → List Slot → ℕ → List ReadPage
read_at view slots i = read_part i (slot_taken (get_or slots i untouched)) (page_of view i)

reads_next :
    (flags : List Bool) (view : Memory) (k i : ℕ)
    → reads_from k (drop i flags) view
    ≡ read_part k (get_or flags i false) (page_of view k) ++ reads_from (suc k) (drop (suc i) flags) view
reads_next [] view k zero = refl
reads_next [] view k (suc i) = refl
reads_next (true ∷ flags) view k zero = refl
reads_next (false ∷ flags) view k zero = refl
reads_next (flag ∷ flags) view k (suc i) = reads_next flags view k i

pub collects-reads :
    (view : Memory) (slots : List Slot)
    → Collects (λ k. get_or slots k untouched ≡ untouched) (length slots) (read_at view slots) (reads_left view slots)
unfolding slot_taken untouched
collects-reads view slots = record {
  next = λ i.
      reads_next (map slot_taken slots) view i i
      ∙ ap (λ flag. read_part i flag (page_of view i) ++ reads_left view slots (suc i))
      (get_or-map_all slot_taken slots i untouched);
  none = λ i free. ap (λ s. read_part i (slot_taken s) (page_of view i)) free;
  last = λ i past.
      ap (λ r. reads_from i r view) (drop_all i (map slot_taken slots) (omega (arith, length-map slots slot_taken)));
}

pub reads_from-ascend :
    (low k : ℕ) (flags : List Bool) (view : Memory) → low ≤ k
    → reads_ascend low (reads_from k flags view) ≡ true
reads_from-ascend low k [] view le = refl
reads_from-ascend low k (true ∷ flags) view le =
    and_from (nat_le low k) (reads_ascend (suc k) (reads_from (suc k) flags view)) (grind (arith, nat_tests))
    (reads_from-ascend (suc k) (suc k) flags view (omega arith))
reads_from-ascend low k (false ∷ flags) view le = reads_from-ascend low (suc k) flags view (omega arith)

-- The stored bytes from a slot on, and those of a slot.
abbrev pub deltas_left : Memory → List Slot → ℕ → List PageDelta
deltas_left view slots i = delta_from i (drop i (map slot_marks slots)) (drop i (on_view slot_bytes view slots))

abbrev delta_at : Memory → List Slot → ℕ → List PageDelta
delta_at view slots i =
    delta_part i (slot_marks (get_or slots i untouched)) (slot_bytes (page_of view i) (get_or slots i untouched))

deltas_next :
    (view : Memory) (slots : List Slot) (k i : ℕ) → length slots ≡ length view
    → delta_from k (drop i (map slot_marks slots)) (drop i (on_view slot_bytes view slots))
    ≡ delta_part k (slot_marks (get_or slots i untouched)) (slot_bytes (page_of view i) (get_or slots i untouched))
    ++ delta_from (suc k) (drop (suc i) (map slot_marks slots)) (drop (suc i) (on_view slot_bytes view slots))
unfolding slot_marks untouched
deltas_next [] [] k zero same = sym (ap (λ p. p ++ []) (part_none k no_marks _ refl))
deltas_next [] [] k (suc i) same = sym (ap (λ p. p ++ []) (part_none k no_marks _ refl))
deltas_next [] (s ∷ slots) k i same = absurd (omega arith)
deltas_next (page ∷ view) [] k i same = absurd (omega arith)
deltas_next (page ∷ view) (s ∷ slots) k zero same =
    let rest = delta_from (suc k) (map slot_marks slots) (on_view slot_bytes view slots) in
    let d : PageDelta =
    record { slot = k; mask = slot_marks s; bytes = chosen (slot_marks s) (slot_bytes page s) } in
    elim (is_stored (slot_marks s)) as (λ b. cond b (d ∷ rest) rest ≡ cond b (d ∷ []) [] ++ rest)
    [ true ↦ refl | false ↦ refl ]
deltas_next (page ∷ view) (s ∷ slots) k (suc i) same = deltas_next view slots k i (omega arith)

pub collects-deltas :
    (view : Memory) (slots : List Slot) → length slots ≡ length view
    → Collects (λ k. get_or slots k untouched ≡ untouched) (length slots) (delta_at view slots) (deltas_left view slots)
unfolding slot_marks untouched
collects-deltas view slots same = record {
  next = λ i. deltas_next view slots i i same;
  none = λ i free. part_none i _ _ (ap slot_marks free);
  last = λ i past.
      ap (λ r. delta_from i r (drop i (on_view slot_bytes view slots)))
      (drop_all i (map slot_marks slots) (omega (arith, length-map slots slot_marks)));
}

-- the stored bytes after a slot don't depend on the slots up to it
pub deltas_left-set :
    (view : Memory) (slots : List Slot) (i n : ℕ) (s : Slot) → i < n
    → deltas_left view (set slots i s) n ≡ deltas_left view slots n
deltas_left-set view slots i n s lt =
    rw (
      map-set slot_marks slots i s,
      on_view-set slot_bytes view slots i s,
      drop-set-lt n (map slot_marks slots) i (slot_marks s) lt,
      drop-set-lt n (on_view slot_bytes view slots) i (slot_bytes (page_of view i) s) lt,
    ) refl

pub delta_from-ascend :
    (low k : ℕ) (masks : Masks) (pages : Memory) → low ≤ k
    → deltas_ascend low (delta_from k masks pages) ≡ true
delta_from-ascend low k [] pages le = refl
delta_from-ascend low k (m ∷ ms) [] le = refl
delta_from-ascend low k (m ∷ ms) (p ∷ ps) le =
    let d : PageDelta = record { slot = k; mask = m; bytes = chosen m p } in
    elim (is_stored m)
    as (λ b. deltas_ascend low (cond b (d ∷ delta_from (suc k) ms ps) (delta_from (suc k) ms ps)) ≡ true) [
      | true ↦
          and_from (nat_le low k) (deltas_ascend (suc k) (delta_from (suc k) ms ps)) (grind (arith, nat_tests))
          (delta_from-ascend (suc k) (suc k) ms ps (omega arith))
      | false ↦ delta_from-ascend low (suc k) ms ps (omega arith)
    ]

-- the bytes chosen of a merged page are those that were merged
chosen-merged :
    (o n : List ℕ) (m : List Bool) → length n ≡ length o → length m ≡ length o
    → chosen m (merged o n m) ≡ chosen m n
chosen-merged [] [] [] p q = refl
chosen-merged [] [] (m ∷ ms) p q = absurd (omega arith)
chosen-merged [] (n ∷ ns) m p q = absurd (omega arith)
chosen-merged (o ∷ os) [] m p q = absurd (omega arith)
chosen-merged (o ∷ os) (n ∷ ns) [] p q = absurd (omega arith)
chosen-merged (o ∷ os) (n ∷ ns) (true ∷ ms) p q =
    ap (λ rest. n ∷ rest) (chosen-merged os ns ms (omega arith) (omega arith))
chosen-merged (o ∷ os) (n ∷ ns) (false ∷ ms) p q = chosen-merged os ns ms (omega arith) (omega arith)

delta_from-merged :
    (k : ℕ) (os ns : Memory) (ms : Masks) → Shaped os ns ms → delta_from k ms (merged_all os ns ms) ≡ delta_from k ms ns
delta_from-merged k [] [] [] h = refl
delta_from-merged k [] [] (m ∷ ms) h = absurd h
delta_from-merged k [] (n ∷ ns) ms h = absurd h
delta_from-merged k (o ∷ os) [] ms h = absurd h
delta_from-merged k (o ∷ os) (n ∷ ns) [] h = absurd h
delta_from-merged k (o ∷ os) (n ∷ ns) (m ∷ ms) h =
    rw (chosen-merged o n m h.0 h.1, delta_from-merged (suc k) os ns ms h.2) refl

-- the stored bytes that are collected from a view after stores are those of the stores
pub delta_from-with_stores :
    (map : List Mapped) (view : Memory) (stores : List StoredByte)
    → IsMemory map view
    → delta_from 0 (marked map (on_each no_marks map) stores) (with_stores map view stores) ≡ delta_of map stores
unfolding delta_of
delta_from-with_stores map view stores h =
    let masks = marked map (on_each no_marks map) stores in
    let zeros = with_stores map (on_each zero_page map) stores in
    let shape = shaped-fresh map view h in
    ap (delta_from 0 masks)
    (sym
    (merged_all-with_stores map view (on_each zero_page map) (on_each no_marks map) stores shape
    ∙ ap (λ start. with_stores map start stores) (merged_all-no_marks map view)))
    ∙ delta_from-merged 0 view zeros masks
    (shaped-with_stores map view (on_each zero_page map) (on_each no_marks map) stores shape)
