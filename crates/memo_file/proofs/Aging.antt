-- What a record determines of an address, and the last record of a history.
use Rattle.std.proofs.Common.{◌≡◌, ◌≢◌, ℕ, zero, suc, ◌+◌, ◌<◌, ◌≤◌, ◌/◌, ◌^◌, Bool, true, false, cond, List, [], ◌∷◌, length, take, drop, get_or, Option, Some, None, refl, sym, ap, ◌∙◌, arith, eq-eqb}
use Rattle.std.specs.Prelude.{slice_get, slice_index_or}
use Rattle.std.specs.List.{count_by}
use Rattle.std.proofs.lemmas.Bool.{ne_eqb}
use Rattle.std.proofs.lemmas.List.{nil_from_length}
use Rattle.std.proofs.lemmas.List.Sums.{sum_by-cons}
use Rattle.std.proofs.lemmas.Option.{slice_get-get_or}
use Rattle.memory_spec.specs.Pages.{Mapped, slot_of, AreAddressable}
use Rattle.memory_spec.specs.declared.TheConstants.{PAGE_NUMBERS}
use Rattle.thunk_spec.specs.Delta.{PageDelta, chosen}
use Rattle.thunk_spec.specs.Record.{Record}
use Rattle.history_spec.specs.History.{History}
use Rattle.machine_spec.specs.Setup.{map_of}
use Rattle.page_store.specs.Stored.{delta_in}
use Rattle.page_store.specs.declared.stored.StoredPage.{StoredPage}
use Rattle.memo_spec.specs.Old.{stored_byte, ends_at_m, last_ends_at_m, is_before_m, ends_at_lock, last_ends_at_lock, is_before_locks}
use Rattle.memo_file.proofs.WritingPool.{drop_at}

abbrev one : Bool → ℕ
one mark = cond mark 1 0

-- The byte of a marked place comes after those of the marks before it.
pub chosen_at : (mask : List Bool) (page : List ℕ) (k : ℕ) → length mask ≡ length page
    → slice_index_or mask k false ≡ true
    → slice_get (chosen mask page) (count_by (λ mark. mark) (take k mask)) ≡ slice_get page k
chosen_at [] page k len e = absurd cc
chosen_at (x ∷ mask) [] k len e = absurd (omega arith)
chosen_at (true ∷ mask) (b ∷ page) zero len e = refl
chosen_at (false ∷ mask) (b ∷ page) zero len e = absurd cc
chosen_at (true ∷ mask) (b ∷ page) (suc k) len e =
    let n = count_by (λ (mark : Bool). mark) (take k mask) in
    let more : count_by (λ (mark : Bool). mark) (true ∷ take k mask) ≡ suc n =
    sum_by-cons one true (take k mask) ∙ omega arith in
    ap (slice_get (b ∷ chosen mask page)) more ∙ chosen_at mask page k (omega arith) e
chosen_at (false ∷ mask) (b ∷ page) (suc k) len e = chosen_at mask page k (omega arith) e

pub mask_is : (d : PageDelta) (s : StoredPage) → d ≡ delta_in d.slot s → d.mask ≡ s.mask
mask_is d s is = ap (λ (x : PageDelta). x.mask) is

-- The byte that a thread's own copy of a page has at a marked place is the one that was stored there.
pub stored_at : (d : PageDelta) (s : StoredPage) (k : ℕ) → d ≡ delta_in d.slot s → length s.mask ≡ length s.page
    → k < length s.page → slice_index_or s.mask k false ≡ true
    → slice_get d.bytes (count_by (λ mark. mark) (take k s.mask)) ≡ Some (get_or s.page k 0)
stored_at d s k is len within marked =
    let b : d.bytes ≡ chosen s.mask s.page = ap (λ (x : PageDelta). x.bytes) is in
    rw b (chosen_at s.mask s.page k len marked ∙ slice_get-get_or s.page k 0 within)

-- The first of the remaining pages determines the stored byte, or else those after it do.
pub stored_here :
    (pages : List PageDelta) (i slot offset : ℕ) (d : PageDelta) (all : Option ℕ)
    → slice_get pages i ≡ Some d → d.slot ≡ slot → stored_byte (drop i pages) slot offset ≡ all
    → cond (slice_index_or d.mask offset false) (slice_get d.bytes (count_by (λ mark. mark) (take offset d.mask))) None
    ≡ all
stored_here pages i slot offset d all at is so_far =
    sym (ap (λ ps. stored_byte ps slot offset) (drop_at pages i d at) ∙ rw (eq-eqb d.slot slot is) refl) ∙ so_far

pub stored_later :
    (pages : List PageDelta) (i slot offset : ℕ) (d : PageDelta) (all : Option ℕ)
    → slice_get pages i ≡ Some d → d.slot ≢ slot → stored_byte (drop i pages) slot offset ≡ all
    → stored_byte (drop (i + 1) pages) slot offset ≡ all
stored_later pages i slot offset d all at other so_far =
    sym (ap (λ ps. stored_byte ps slot offset) (drop_at pages i d at) ∙ rw (ne_eqb d.slot slot other) refl) ∙ so_far

-- After the last address, no page has its slot.
pub no_slot : (map : List Mapped) (address : ℕ) → AreAddressable map → 2 ^ 32 ≤ address
    → slot_of map address ≡ length map
no_slot [] address small far = refl
no_slot (m ∷ map) address small far =
    let first : m.number < PAGE_NUMBERS = small 0 m (omega arith) in
    let ne : m.number ≢ address / 4096 = λ e. omega arith in
    rw (ne_eqb m.number (address / 4096) ne, no_slot map address (λ k d lt. small (suc k) d (omega arith)) far) refl

-- The last record determines whether all come from before M.
last_old : (map : List Mapped) (rs : List Record) (k : ℕ) (r : Record) → suc k ≡ length rs → slice_get rs k ≡ Some r
    → last_ends_at_m map rs ≡ ends_at_m map r
last_old map [] k r n e = absurd (omega arith)
last_old map (q ∷ []) zero r n e =
    let same : q ≡ r = let x : Some q ≡ Some r = e in cc in
    ap (ends_at_m map) same
last_old map (q ∷ []) (suc k) r n e = absurd (omega arith)
last_old map (q ∷ p ∷ rs) zero r n e = absurd (omega arith)
last_old map (q ∷ p ∷ rs) (suc k) r n e = last_old map (p ∷ rs) k r (omega arith) e

pub age_is : (h : History) (map : List Mapped) (k : ℕ) (r : Record) → map ≡ map_of h.setup
    → suc k ≡ length h.records → slice_get h.records k ≡ Some r → is_before_m h ≡ ends_at_m map r
unfolding is_before_m
age_is h map k r is n e = ap (λ (m : List Mapped). last_ends_at_m m h.records) (sym is) ∙ last_old map h.records k r n e

pub none_old : (h : History) → length h.records ≡ 0 → is_before_m h ≡ false
unfolding is_before_m
none_old h none = ap (last_ends_at_m (map_of h.setup)) (nil_from_length h.records none)

-- The last record determines whether a call of a reader-writer lock ended all.
last_lock : (rs : List Record) (k : ℕ) (r : Record) → suc k ≡ length rs → slice_get rs k ≡ Some r
    → last_ends_at_lock rs ≡ ends_at_lock r
last_lock [] k r n e = absurd (omega arith)
last_lock (q ∷ []) zero r n e =
    let same : q ≡ r = let x : Some q ≡ Some r = e in cc in
    ap ends_at_lock same
last_lock (q ∷ []) (suc k) r n e = absurd (omega arith)
last_lock (q ∷ p ∷ rs) zero r n e = absurd (omega arith)
last_lock (q ∷ p ∷ rs) (suc k) r n e = last_lock (p ∷ rs) k r (omega arith) e

pub lock_is : (h : History) (k : ℕ) (r : Record)
    → suc k ≡ length h.records → slice_get h.records k ≡ Some r → is_before_locks h ≡ ends_at_lock r
unfolding is_before_locks
lock_is h k r n e = last_lock h.records k r n e

pub none_locked : (h : History) → length h.records ≡ 0 → is_before_locks h ≡ false
unfolding is_before_locks
none_locked h none = ap last_ends_at_lock (nil_from_length h.records none)
