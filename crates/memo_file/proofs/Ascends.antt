-- Read pages and stored pages that were read ascend.
use Rattle.std.proofs.Common.{◌≡◌, ℕ, zero, suc, Bool, true, ◌&&◌, List, [], ◌∷◌, Ok, refl, ap, subst, ◌∙◌}
use Rattle.std.specs.Prelude.{nat_le, nat_lt, slice_index_or, length}
use Rattle.std.specs.Int.{w32}
use Rattle.std.specs.List.{count_by}
use Rattle.std.specs.Cmp.Derive.{both_true}
use Rattle.std.proofs.lemmas.Bool.{and_parts}
use Rattle.memory_spec.specs.Pages.{Mapped}
use Rattle.thunk_spec.specs.Delta.{PageDelta}
use Rattle.thunk_spec.specs.Reads.{ReadPage}
use Rattle.thunk_spec.specs.Ascending.{reads_ascend, deltas_ascend}
use Rattle.ith_text.specs.Place.{Place}
use Rattle.memo_spec.specs.declared.Refusal.TheVariants.{Field}
use Rattle.memo_spec.specs.Reader.{Reader, ◌>>=◌, done, bytes_at, number_at, ruled, tested, chain}
use Rattle.memo_spec.specs.Reading.{ReadState, slot_of_number, slot_at, used_after, read_page_at, mask_at, stored_page_at}
use Rattle.memo_spec.proofs.Formats.{onward_ok, tested_ok, ok_is}

slot_from : (pages : List Mapped) (low : ℕ) (p : Place) (x : ℕ × Place) → slot_at pages low p ≡ Ok x
    → nat_le low x.0 ≡ true
unfolding slot_at
slot_from pages low p x e =
    let a = onward_ok (ruled (number_at w32) rule p) (λ n. done (slot_of_number pages n)) x e in
    let b = onward_ok (number_at w32 p) (λ n. tested (rule n) (Field p.taken) n) a.0 a.1 in
    let c = tested_ok (rule b.0.0) (Field p.taken) b.0.0 b.0.1 a.0 b.2 in
    let same : b.0.0 ≡ a.0.0 = ap (λ (y : ℕ × Place). y.0) c.1 in
    let is : slot_of_number pages a.0.0 ≡ x.0 = ap (λ (y : ℕ × Place). y.0)
    (ok_is (slot_of_number pages a.0.0, a.0.1) x a.2) in
    subst (λ (n : ℕ). nat_le low n ≡ true) (ap (slot_of_number pages) same ∙ is)
    (and_parts (nat_le low (slot_of_number pages b.0.0)) (nat_lt (slot_of_number pages b.0.0) (length pages)) c.0).0
  where
    rule : ℕ → Bool
    rule n = nat_le low (slot_of_number pages n) && nat_lt (slot_of_number pages n) (length pages)

abbrev read_next : List (List ℕ) → ReadState → ℕ → Reader (ReadPage × ReadState)
read_next pool s slot = ruled (number_at w32) (λ i. nat_le i s.used && nat_lt i (length pool)) >>= λ index. done (
  record { slot = slot; bytes = slice_index_or pool index [] },
  record
      { low = suc slot; used = used_after s.used index },
)

page_from : (pages : List Mapped) (pool : List (List ℕ)) (s : ReadState) (p : Place)
    (x : (ReadPage × ReadState) × Place) → read_page_at pages pool s p ≡ Ok x → (nat_le s.low x.0.0.slot ≡ true)
    × (x.0.1.low ≡ suc x.0.0.slot)
unfolding read_page_at
page_from pages pool s p x e =
    let a = onward_ok (slot_at pages s.low p) (read_next pool s) x e in
    let b = onward_ok (ruled (number_at w32) (λ i. nat_le i s.used && nat_lt i (length pool)) a.0.1)
    (λ index. done (
      record { slot = a.0.0; bytes = slice_index_or pool index [] },
      record
          { low = suc a.0.0; used = used_after s.used index },
    )) x a.2 in
    let made : (ReadPage × ReadState) × Place = (
      (
        record { slot = a.0.0; bytes = slice_index_or pool b.0.0 [] },
        record
            { low = suc a.0.0; used = used_after s.used b.0.0 },
      ),
      b.0.1,
    ) in
    let same : made ≡ x = ok_is made x b.2 in
    subst (λ (y : (ReadPage × ReadState) × Place). (nat_le s.low y.0.0.slot ≡ true) × (y.0.1.low ≡ suc y.0.0.slot))
    same (slot_from pages s.low p a.0 a.1, refl)

pub chain_ascends : (pages : List Mapped) (pool : List (List ℕ)) (n : ℕ) (s : ReadState) (p : Place)
    (reads : List ReadPage) (t : ReadState) (q : Place) → chain (read_page_at pages pool) n s p ≡ Ok ((reads, t), q)
    → reads_ascend s.low reads ≡ true
chain_ascends pages pool zero s p reads t q e =
    subst (λ (y : (List ReadPage × ReadState) × Place). reads_ascend s.low y.0.0 ≡ true)
    (ok_is (nothing s, p) ((reads, t), q) e) refl
  where
    nothing : ReadState → List ReadPage × ReadState
    nothing s = ([], s)
chain_ascends pages pool (suc n) s p reads t q e =
    let a = onward_ok (read_page_at pages pool s p)
    (λ x. chain (read_page_at pages pool) n x.1 >>= λ others. done (x.0 ∷ others.0, others.1)) ((reads, t), q) e in
    let b = onward_ok (chain (read_page_at pages pool) n a.0.0.1 a.0.1)
    (λ others. done (a.0.0.0 ∷ others.0, others.1)) ((reads, t), q) a.2 in
    let f = page_from pages pool s p a.0 a.1 in
    let rest = chain_ascends pages pool n a.0.0.1 a.0.1 b.0.0.0 b.0.0.1 b.0.1 b.1 in
    let whole = both_true f.0 (subst (λ (k : ℕ). reads_ascend k b.0.0.0 ≡ true) f.1 rest) in
    let made : (List ReadPage × ReadState) × Place = ((a.0.0.0 ∷ b.0.0.0, b.0.0.1), b.0.1) in
    subst (λ (y : (List ReadPage × ReadState) × Place). reads_ascend s.low y.0.0 ≡ true)
    (ok_is made ((reads, t), q) b.2) whole

abbrev store_next : ℕ → Reader (PageDelta × ℕ)
store_next slot = mask_at >>= λ mask. bytes_at (count_by (λ mark. mark) mask) >>= λ bytes. done
    (record { slot = slot; mask = mask; bytes = bytes }, suc slot)

stored_from : (pages : List Mapped) (low : ℕ) (p : Place) (x : (PageDelta × ℕ) × Place)
    → stored_page_at pages low p ≡ Ok x → (nat_le low x.0.0.slot ≡ true) × (x.0.1 ≡ suc x.0.0.slot)
unfolding stored_page_at
stored_from pages low p x e =
    let a = onward_ok (slot_at pages low p) store_next x e in
    let b = onward_ok (mask_at a.0.1) (λ mask. bytes_at (count_by (λ mark. mark) mask) >>= λ bytes. done
    (record { slot = a.0.0; mask = mask; bytes = bytes }, suc a.0.0)) x a.2 in
    let c = onward_ok (bytes_at (count_by (λ mark. mark) b.0.0) b.0.1)
    (λ bytes. done (record { slot = a.0.0; mask = b.0.0; bytes = bytes }, suc a.0.0)) x b.2 in
    let made : (PageDelta × ℕ) × Place = ((record { slot = a.0.0; mask = b.0.0; bytes = c.0.0 }, suc a.0.0), c.0.1) in
    let same : made ≡ x = ok_is made x c.2 in
    subst (λ (y : (PageDelta × ℕ) × Place). (nat_le low y.0.0.slot ≡ true) × (y.0.1 ≡ suc y.0.0.slot)) same
    (slot_from pages low p a.0 a.1, refl)

pub stored_ascend : (pages : List Mapped) (n low : ℕ) (p : Place) (delta : List PageDelta) (t : ℕ) (q : Place)
    → chain (stored_page_at pages) n low p ≡ Ok ((delta, t), q) → deltas_ascend low delta ≡ true
stored_ascend pages zero low p delta t q e =
    subst (λ (y : (List PageDelta × ℕ) × Place). deltas_ascend low y.0.0 ≡ true)
    (ok_is (nothing low, p) ((delta, t), q) e) refl
  where
    nothing : ℕ → List PageDelta × ℕ
    nothing s = ([], s)
stored_ascend pages (suc n) low p delta t q e =
    let a = onward_ok (stored_page_at pages low p)
    (λ x. chain (stored_page_at pages) n x.1 >>= λ others. done (x.0 ∷ others.0, others.1)) ((delta, t), q) e in
    let b = onward_ok (chain (stored_page_at pages) n a.0.0.1 a.0.1) (λ others. done (a.0.0.0 ∷ others.0, others.1))
    ((delta, t), q) a.2 in
    let f = stored_from pages low p a.0 a.1 in
    let rest = stored_ascend pages n a.0.0.1 a.0.1 b.0.0.0 b.0.0.1 b.0.1 b.1 in
    let whole = both_true f.0 (subst (λ (k : ℕ). deltas_ascend k b.0.0.0 ≡ true) f.1 rest) in
    let made : (List PageDelta × ℕ) × Place = ((a.0.0.0 ∷ b.0.0.0, b.0.0.1), b.0.1) in
    subst (λ (y : (List PageDelta × ℕ) × Place). deltas_ascend low y.0.0 ≡ true) (ok_is made ((delta, t), q) b.2) whole
