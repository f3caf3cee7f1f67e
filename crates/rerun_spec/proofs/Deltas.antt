-- What is kept of a thunk: its read pages and its stored pages ascend, lie in the map, and have the bytes of pages.
use Rattle.std.proofs.Common.{◌≡◌, ◌≤◌, ◌+◌, ◌%◌, ℕ, suc, Bool, true, false, leb, cond, List, [], ◌∷◌, length, set, refl, sym, ◌∙◌, arith}
use Rattle.std.proofs.lemmas.Bool.Decides.{nat_tests}
use Rattle.std.proofs.lemmas.List.{length-set, length-replicate}
use Rattle.std.proofs.lemmas.List.Sums.{sum_by-cons}
use Rattle.std.proofs.lemmas.List.Elements.{recursion_from_All}
use Rattle.std.specs.List.{AllByRecursion, count_by}
use Rattle.isa_spec.specs.Registers.{Registers}
use Rattle.memory_spec.specs.Pages.{Mapped, Memory, IsMemory, on_each, zero_page, slot_of}
use Rattle.memory_spec.specs.Stores.{StoredByte, with_byte, with_stores}
use Rattle.memory_spec.specs.Workspace.{Masks, no_marks, mask_of, with_mark, marked, taken_at}
use Rattle.thunk_spec.specs.Thunk.{Frame, thunk}
use Rattle.thunk_spec.specs.Ascending.{reads_ascend, deltas_ascend}
use Rattle.thunk_spec.specs.Delta.{PageDelta, chosen, is_stored, delta_from, delta_of}
use Rattle.thunk_spec.specs.Reads.{reads_from, reads_of}
use Rattle.thunk_spec.specs.Record.{kept_thunk}
use Rattle.thunk_spec.proofs.Truth.{length-on_each}
use Rattle.memo_spec.specs.Encoding.{AreBytes, IsReadPage, IsStoredPage}
use Rattle.rerun_spec.proofs.Lists.{every-below, every-changed, every-replicate, every-on_each}
use Rattle.rerun_spec.proofs.Memory.{IsByte, HasBytes, AreStores, with_stores-bytes, page-bytes}

-- a page of 4,096 bytes, and as many marks
abbrev pub IsPage : List ℕ → Type 0
IsPage bytes = length bytes ≡ 4096

abbrev IsMask : List Bool → Type 0
IsMask mask = length mask ≡ 4096

-- read pages

reads-ascend :
    (k low : ℕ) (taken : List Bool) (view : Memory) → low ≤ k → reads_ascend low (reads_from k taken view) ≡ true
reads-ascend k low [] view order = refl
reads-ascend k low (true ∷ taken) view order =
    let here : leb low k ≡ true = grind (arith, nat_tests) in
    rw here (reads-ascend (suc k) (suc k) taken view (omega arith))
reads-ascend k low (false ∷ taken) view order = reads-ascend (suc k) low taken view (omega arith)

reads-pages :
    (map : List Mapped) (view : Memory) (k : ℕ) (taken : List Bool)
    → k + length taken ≡ length map → length view ≡ length map → AllByRecursion IsPage view → HasBytes view
    → AllByRecursion (IsReadPage map) (reads_from k taken view)
reads-pages map view k [] places count sizes bytes = tt
reads-pages map view k (true ∷ taken) places count sizes bytes = (
  record {
    mapped = omega arith;
    size = every-below IsPage view k [] (omega arith) sizes;
    bytes = page-bytes view k bytes;
  },
  reads-pages map view (suc k) taken (omega arith) count sizes bytes,
)
reads-pages map view k (false ∷ taken) places count sizes bytes =
    reads-pages map view (suc k) taken (omega arith) count sizes bytes

length-taken :
    (map : List Mapped) (taken : List Bool) (addresses : List ℕ)
    → length (taken_at map taken addresses) ≡ length taken
length-taken map taken [] = refl
length-taken map taken (a ∷ addresses) =
    length-taken map (set taken (slot_of map a) true) addresses ∙ length-set taken (slot_of map a) true

pub kept-reads_ascend : (f : Frame) (view : Memory) (r : Registers) → reads_ascend 0 (kept_thunk f view r).reads ≡ true
unfolding kept_thunk reads_of
kept-reads_ascend f view r =
    reads-ascend 0 0 (taken_at f.map (on_each false f.map) (thunk f view r).taken) view (omega arith)

pub kept-read_pages :
    (f : Frame) (view : Memory) (r : Registers)
    → IsMemory f.map view → HasBytes view → AllByRecursion (IsReadPage f.map) (kept_thunk f view r).reads
unfolding kept_thunk reads_of
kept-read_pages f view r whole bytes =
    let long : length (taken_at f.map (on_each false f.map) (thunk f view r).taken) ≡ length f.map =
    length-taken f.map (on_each false f.map) (thunk f view r).taken ∙ length-on_each false f.map in
    reads-pages f.map view 0 (taken_at f.map (on_each false f.map) (thunk f view r).taken) (omega arith) whole.count
    (recursion_from_All IsPage view whole.pages) bytes

-- stored pages

deltas-ascend :
    (k low : ℕ) (masks : Masks) (pages : Memory) → low ≤ k → deltas_ascend low (delta_from k masks pages) ≡ true
deltas-ascend k low [] pages order = refl
deltas-ascend k low (mask ∷ masks) [] order = refl
deltas-ascend k low (mask ∷ masks) (page ∷ pages) order =
    let here : leb low k ≡ true = grind (arith, nat_tests) in
    let next : deltas_ascend (suc k) (delta_from (suc k) masks pages) ≡ true =
    deltas-ascend (suc k) (suc k) masks pages (omega arith) in
    let skip : deltas_ascend low (delta_from (suc k) masks pages) ≡ true =
    deltas-ascend (suc k) low masks pages (omega arith) in
    let d : PageDelta = record { slot = k; mask = mask; bytes = chosen mask page } in
    elim (is_stored mask)
    as (λ b. deltas_ascend low (cond b (d ∷ delta_from (suc k) masks pages) (delta_from (suc k) masks pages)) ≡ true)
    [ true ↦ rw here next | false ↦ skip ]

chosen-count :
    (mask : List Bool) (page : List ℕ) → length mask ≡ length page
    → length (chosen mask page) ≡ count_by (λ (mark : Bool). mark) mask
chosen-count [] page same = refl
chosen-count (mark ∷ mask) [] same = absurd (omega arith)
chosen-count (true ∷ mask) (b ∷ page) same =
    let rest = chosen-count mask page (omega arith) in
    let more = sum_by-cons (λ (mark : Bool). cond mark 1 0) true mask in
    omega arith
chosen-count (false ∷ mask) (b ∷ page) same =
    let rest = chosen-count mask page (omega arith) in
    let more = sum_by-cons (λ (mark : Bool). cond mark 1 0) false mask in
    omega arith

chosen-bytes : (mask : List Bool) (page : List ℕ) → AreBytes page → AreBytes (chosen mask page)
chosen-bytes [] page all = tt
chosen-bytes (mark ∷ mask) [] all = tt
chosen-bytes (true ∷ mask) (b ∷ page) all = (all.0, chosen-bytes mask page all.1)
chosen-bytes (false ∷ mask) (b ∷ page) all = chosen-bytes mask page all.1

deltas-pages :
    (map : List Mapped) (k : ℕ) (masks : Masks) (pages : Memory)
    → k + length masks ≡ length map → AllByRecursion IsMask masks → AllByRecursion IsPage pages → HasBytes pages
    → AllByRecursion (IsStoredPage map) (delta_from k masks pages)
deltas-pages map k [] pages places marks sizes bytes = tt
deltas-pages map k (mask ∷ masks) [] places marks sizes bytes = tt
deltas-pages map k (mask ∷ masks) (page ∷ pages) places marks sizes bytes =
    let rest : AllByRecursion (IsStoredPage map) (delta_from (suc k) masks pages) =
    deltas-pages map (suc k) masks pages (omega arith) marks.1 sizes.1 bytes.1 in
    let d : PageDelta = record { slot = k; mask = mask; bytes = chosen mask page } in
    elim (is_stored mask)
    as (λ b.
    is_stored mask ≡ b
    → AllByRecursion (IsStoredPage map)
    (cond b (d ∷ delta_from (suc k) masks pages) (delta_from (suc k) masks pages))) [
      | true ↦ λ any. (
        record {
          mapped = omega arith;
          places = marks.0;
          any = any;
          count = chosen-count mask page (marks.0 ∙ sym sizes.0);
          bytes = chosen-bytes mask page bytes.0;
        },
        rest,
      )
      | false ↦ λ none. rest
    ]
    refl

with_mark-masks :
    (map : List Mapped) (masks : Masks) (s : StoredByte)
    → AllByRecursion IsMask masks → AllByRecursion IsMask (with_mark map masks s)
unfolding with_mark
with_mark-masks map masks s all =
    every-changed IsMask (λ (mask : List Bool). set mask (s.address % 4096) true) masks (slot_of map s.address) []
    (λ mask long. length-set mask (s.address % 4096) true ∙ long) all

marked-masks :
    (map : List Mapped) (masks : Masks) (stores : List StoredByte)
    → AllByRecursion IsMask masks → AllByRecursion IsMask (marked map masks stores)
marked-masks map masks [] all = all
marked-masks map masks (s ∷ stores) all =
    marked-masks map (with_mark map masks s) stores (with_mark-masks map masks s all)

length-with_mark : (map : List Mapped) (masks : Masks) (s : StoredByte) → length (with_mark map masks s) ≡ length masks
unfolding with_mark
length-with_mark map masks s =
    length-set masks (slot_of map s.address)
    (set (mask_of masks (slot_of map s.address)) (s.address % 4096) true)

length-marked :
    (map : List Mapped) (masks : Masks) (stores : List StoredByte)
    → length (marked map masks stores) ≡ length masks
length-marked map masks [] = refl
length-marked map masks (s ∷ stores) = length-marked map (with_mark map masks s) stores ∙ length-with_mark map masks s

with_byte-pages :
    (map : List Mapped) (memory : Memory) (s : StoredByte)
    → AllByRecursion IsPage memory → AllByRecursion IsPage (with_byte map memory s)
unfolding with_byte
with_byte-pages map memory s all =
    every-changed IsPage (λ (page : List ℕ). set page (s.address % 4096) s.byte) memory (slot_of map s.address) []
    (λ page long. length-set page (s.address % 4096) s.byte ∙ long) all

with_stores-pages :
    (map : List Mapped) (memory : Memory) (stores : List StoredByte)
    → AllByRecursion IsPage memory → AllByRecursion IsPage (with_stores map memory stores)
with_stores-pages map memory [] all = all
with_stores-pages map memory (s ∷ stores) all =
    with_stores-pages map (with_byte map memory s) stores (with_byte-pages map memory s all)

no_marks-mask : IsMask no_marks
unfolding no_marks
no_marks-mask = length-replicate {A = Bool} 4096 false

zero_page-page : IsPage zero_page
unfolding zero_page
zero_page-page = length-replicate {A = ℕ} 4096 0

pub zero_page-bytes : AreBytes zero_page
unfolding zero_page
zero_page-bytes = every-replicate IsByte 4096 0 (omega arith)

pub kept-deltas_ascend :
    (f : Frame) (view : Memory) (r : Registers) → deltas_ascend 0 (kept_thunk f view r).delta ≡ true
unfolding kept_thunk delta_of
kept-deltas_ascend f view r =
    deltas-ascend 0 0 (marked f.map (on_each no_marks f.map) (thunk f view r).stores)
    (with_stores f.map (on_each zero_page f.map) (thunk f view r).stores) (omega arith)

pub kept-stored_pages :
    (f : Frame) (view : Memory) (r : Registers)
    → AreStores (thunk f view r).stores → AllByRecursion (IsStoredPage f.map) (kept_thunk f view r).delta
unfolding kept_thunk delta_of
kept-stored_pages f view r stores =
    let long : length (marked f.map (on_each no_marks f.map) (thunk f view r).stores) ≡ length f.map =
    length-marked f.map (on_each no_marks f.map) (thunk f view r).stores ∙ length-on_each no_marks f.map in
    deltas-pages f.map 0 (marked f.map (on_each no_marks f.map) (thunk f view r).stores)
    (with_stores f.map (on_each zero_page f.map) (thunk f view r).stores) (omega arith)
    (marked-masks f.map (on_each no_marks f.map) (thunk f view r).stores
    (every-on_each IsMask no_marks f.map no_marks-mask))
    (with_stores-pages f.map (on_each zero_page f.map) (thunk f view r).stores
    (every-on_each IsPage zero_page f.map zero_page-page))
    (with_stores-bytes f.map (on_each zero_page f.map) (thunk f view r).stores
    (every-on_each AreBytes zero_page f.map zero_page-bytes) stores)
