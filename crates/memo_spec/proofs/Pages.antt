-- The readers of read pages and of stored pages agree with their encodings.
use Rattle.std.proofs.Common.{◌≡◌, ℕ, suc, ◌^◌, ◌<◌, ◌≤◌, Bool, true, ◌&&◌, List, [], ◌++◌, length, sym, ap, ◌∙◌, append_assoc, arith}
use Rattle.std.specs.Prelude.{slice_index_or, nat_le, nat_lt}
use Rattle.std.specs.List.{count_by}
use Rattle.std.specs.Int.{w32}
use Rattle.std.specs.Cmp.Derive.{both_true}
use Rattle.std.proofs.lemmas.Bool.{and_parts, ltb-true, lt-ltb, leb-true, le-leb}
use Rattle.std.proofs.lemmas.List.{append-nil}
use Rattle.memory_spec.specs.Pages.{Mapped}
use Rattle.thunk_spec.specs.Delta.{PageDelta, is_stored}
use Rattle.thunk_spec.specs.Reads.{ReadPage}
use Rattle.memo_spec.specs.Encoding.{AreBytes, word, page_number, index_in, mask, read_page, stored_page, IsStoredPage}
use Rattle.memo_spec.specs.Reader.{◌>>=◌, done, bytes_at, number_at, ruled}
use Rattle.memo_spec.specs.Reading.{ReadState, slot_at, used_after, read_page_at, mask_at, stored_page_at}
use Rattle.memo_spec.proofs.Formats.{Agrees, agrees_done, agrees_said, agrees_part, agrees_tested, agrees_number, agrees_bytes, wide32}
use Rattle.memo_spec.proofs.Maps.{IsPageMap}
use Rattle.memo_spec.proofs.Fields.{agrees_slot, agrees_mask}
use Rattle.memo_spec.proofs.Pool.{IsPool, index_back}

-- ---- stored pages

abbrev stored : ℕ → List Bool → List ℕ → PageDelta × ℕ
stored slot mask bytes = (record { slot = slot; mask = mask; bytes = bytes }, suc slot)

-- A stored page that was read from a slot on, and the next slot.
pub record FitsStored (pages : List Mapped) (low : ℕ) (x : PageDelta × ℕ) : Type 0 where
  pub page : IsStoredPage pages x.0
  pub above : low ≤ x.0.slot
  pub next : x.1 ≡ suc x.0.slot

pub agrees_stored_page : (pages : List Mapped) (low : ℕ) → IsPageMap pages
    → Agrees (stored_page_at pages low) (λ x. stored_page pages x.0) (FitsStored pages low)
unfolding stored_page_at
agrees_stored_page pages low is_map =
    agrees_said (stored_page_at pages low)
    (λ x. word (page_number pages x.0.slot) ++ (mask x.0.mask ++ (x.0.bytes ++ []))) (λ x. stored_page pages x.0)
    (λ x. ((low ≤ x.0.slot) × (x.0.slot < length pages))
    × (((length x.0.mask ≡ 4096) × (is_stored x.0.mask ≡ true))
    × (((length x.0.bytes ≡ count_by (λ mark. mark) x.0.mask) × AreBytes x.0.bytes)
    × (x ≡ stored x.0.slot x.0.mask x.0.bytes)))) (FitsStored pages low)
    (agrees_part (slot_at pages low) (λ slot. word (page_number pages slot))
    (λ slot. (low ≤ slot) × (slot < length pages))
    (λ slot. mask_at >>= λ m. bytes_at (count_by (λ mark. mark) m) >>= λ bytes. done (stored slot m bytes))
    (λ slot x. mask x.0.mask ++ (x.0.bytes ++ []))
    (λ slot x. ((length x.0.mask ≡ 4096) × (is_stored x.0.mask ≡ true))
    × (((length x.0.bytes ≡ count_by (λ mark. mark) x.0.mask) × AreBytes x.0.bytes)
    × (x ≡ stored slot x.0.mask x.0.bytes)))
    (agrees_slot pages low is_map)
    (λ slot _. agrees_part mask_at mask (λ m. (length m ≡ 4096) × (is_stored m ≡ true))
    (λ m. bytes_at (count_by (λ mark. mark) m) >>= λ bytes. done (stored slot m bytes)) (λ m x. x.0.bytes ++ [])
    (λ m x. ((length x.0.bytes ≡ count_by (λ mark. mark) m) × AreBytes x.0.bytes) × (x ≡ stored slot m x.0.bytes))
    agrees_mask
    (λ m _. agrees_part (bytes_at (count_by (λ mark. mark) m)) (λ bs. bs)
    (λ bs. (length bs ≡ count_by (λ mark. mark) m) × AreBytes bs)
    (λ bytes. done (stored slot m bytes)) (λ bytes x. []) (λ bytes x. x ≡ stored slot m bytes)
    (agrees_bytes (count_by (λ mark. mark) m)) (λ bytes _. agrees_done (stored slot m bytes)) (λ x. x.0.bytes)
    (λ bytes x _ e. ap (λ (y : PageDelta × ℕ). y.0.bytes) e))
    (λ x. x.0.mask) (λ m x _ h. ap (λ (y : PageDelta × ℕ). y.0.mask) h.1))
    (λ x. x.0.slot) (λ slot x _ h. ap (λ (y : PageDelta × ℕ). y.0.slot) h.1.1))
    (λ x h. (
      record {
        page = record { mapped = h.0.1; places = h.1.0.0; any = h.1.0.1; count = h.1.1.0.0; bytes = h.1.1.0.1 };
        above = h.0.0;
        next = ap (λ (y : PageDelta × ℕ). y.1) h.1.1.1;
      },
      ap (λ (l : List ℕ). word (page_number pages x.0.slot) ++ (mask x.0.mask ++ l)) (append-nil x.0.bytes)
          ∙ sym (append_assoc (word (page_number pages x.0.slot)) (mask x.0.mask) x.0.bytes),
    ))
    (λ x h. (
      (h.above, h.page.mapped),
      ((h.page.places, h.page.any), ((h.page.count, h.page.bytes), ap (λ (n : ℕ). pair x.0 n) h.next)),
    ))
  where
    pair : PageDelta → ℕ → PageDelta × ℕ
    pair d n = (d, n)

-- ---- read pages

abbrev taken : List (List ℕ) → ℕ → ℕ → ℕ → ReadPage × ReadState
taken pool used slot index = (
  record { slot = slot; bytes = slice_index_or pool index [] },
  record { low = suc slot; used = used_after used index },
)

-- A read page that was read in a state, and the next state.
pub record FitsRead (pages : List Mapped) (pool : List (List ℕ)) (s : ReadState) (x : ReadPage × ReadState) :
    Type 0 where
  pub mapped : x.0.slot < length pages
  pub above : s.low ≤ x.0.slot
  pub index : index_in pool x.0.bytes ≤ s.used
  pub in_pool : index_in pool x.0.bytes < length pool
  pub next : x.1 ≡ record { low = suc x.0.slot; used = used_after s.used (index_in pool x.0.bytes) }

abbrev with : ReadPage → ReadState → ReadPage × ReadState
with p t = (p, t)

pub agrees_read_page : (pages : List Mapped) (pool : List (List ℕ)) (s : ReadState) → IsPageMap pages → IsPool pool
    → Agrees (read_page_at pages pool s) (λ x. read_page pages pool x.0) (FitsRead pages pool s)
unfolding read_page_at
agrees_read_page pages pool s is_map is_pool =
    agrees_said (read_page_at pages pool s)
    (λ x. word (page_number pages x.0.slot) ++ (word (index_in pool x.0.bytes) ++ []))
    (λ x. read_page pages pool x.0)
    (λ x. ((s.low ≤ x.0.slot) × (x.0.slot < length pages))
    × (((index_in pool x.0.bytes < 2 ^ 32) × (rule (index_in pool x.0.bytes) ≡ true))
    × (x ≡ taken pool s.used x.0.slot (index_in pool x.0.bytes)))) (FitsRead pages pool s)
    (agrees_part (slot_at pages s.low) (λ slot. word (page_number pages slot))
    (λ slot. (s.low ≤ slot) × (slot < length pages))
    (λ slot. ruled (number_at w32) rule >>= λ i. done (taken pool s.used slot i))
    (λ slot x. word (index_in pool x.0.bytes) ++ [])
    (λ slot x. ((index_in pool x.0.bytes < 2 ^ 32) × (rule (index_in pool x.0.bytes) ≡ true))
    × (x ≡ taken pool s.used slot (index_in pool x.0.bytes)))
    (agrees_slot pages s.low is_map)
    (λ slot _. agrees_part (ruled (number_at w32) rule) word (λ n. (n < 2 ^ 32) × (rule n ≡ true))
    (λ i. done (taken pool s.used slot i)) (λ i x. []) (λ i x. x ≡ taken pool s.used slot i)
    (agrees_tested (number_at w32) word (λ n. n < 2 ^ 32) rule _ (agrees_number w32 (2 ^ 32) wide32))
    (λ i _. agrees_done (taken pool s.used slot i))
    (λ x. index_in pool x.0.bytes)
    (λ i x f e. ap (λ (y : ReadPage × ReadState). index_in pool y.0.bytes) e
    ∙ is_pool.once i (ltb-true _ _ (and_parts _ _ f.1).1)))
    (λ x. x.0.slot) (λ slot x _ h. ap (λ (y : ReadPage × ReadState). y.0.slot) h.1))
    (λ x h. let k = and_parts _ _ h.1.0.1 in (
      record {
        mapped = h.0.1;
        above = h.0.0;
        index = leb-true _ _ k.0;
        in_pool = ltb-true _ _ k.1;
        next =
            ap (λ (y : ReadPage × ReadState). y.1) h.1.1;
      },
      ap (λ (l : List ℕ). word (page_number pages x.0.slot) ++ l) (append-nil (word (index_in pool x.0.bytes))),
    ))
    (λ x h. (
      (h.above, h.mapped),
      ((omega (arith, h.in_pool, is_pool.few), both_true (le-leb _ _ h.index) (lt-ltb _ _ h.in_pool)), same x h),
    ))
  where
    rule : ℕ → Bool
    rule i = nat_le i s.used && nat_lt i (length pool)

    same : (x : ReadPage × ReadState) → FitsRead pages pool s x
        → x ≡ taken pool s.used x.0.slot (index_in pool x.0.bytes)
    same x h = let e = index_back pool x.0.bytes h.in_pool in rw e (ap (with x.0) h.next)
