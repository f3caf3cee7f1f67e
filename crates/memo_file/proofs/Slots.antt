-- A page's slot by its number and by its address, and a page that is read or refused.
use Rattle.std.proofs.Common.{◌≡◌, ℕ, suc, ◌+◌, ◌*◌, ◌/◌, ◌^◌, ◌<◌, ◌≤◌, ◌⊎◌, Bool, true, false, not, cond, List, [], ◌∷◌, length, Ok, Err, refl, ap, ◌∙◌, arith, inl, inr}
use Rattle.std.specs.Prelude.{◌==◌, slice_index_or}
use Rattle.std.specs.Int.{w32}
use Rattle.std.proofs.lemmas.Bool.{ne_eqb, lt-ltb, le-ltb, le-leb, lt-leb, and_left, and_right}
use Rattle.memory_spec.specs.Pages.{Mapped, slot_of, AreAddressable}
use Rattle.ith_text.specs.Place.{Place}
use Rattle.memo_spec.specs.declared.Refusal.TheVariants.{Field}
use Rattle.memo_spec.specs.Reader.{number_at}
use Rattle.memo_spec.specs.Reading.{ReadState, slot_of_number, slot_at, read_page_at, used_after}

flip : (b : Bool) (a : ℕ) → cond b 0 (suc a) ≡ cond (not b) (1 + a) 0
flip true a = refl
flip false a = omega arith

pub slot_of_is : (pages : List Mapped) (n : ℕ) → slot_of pages (n * 4096) ≡ slot_of_number pages n
slot_of_is [] n = refl
slot_of_is (m ∷ pages) n =
    let e : n * 4096 / 4096 ≡ n = omega arith in
    ap (λ (k : ℕ). cond (m.number == k) 0 (suc (slot_of pages (n * 4096)))) e
    ∙ ap (λ (k : ℕ). cond (m.number == n) 0 (suc k)) (slot_of_is pages n)
    ∙ flip (m.number == n) (slot_of_number pages n)

pub far : (pages : List Mapped) (n : ℕ) → AreAddressable pages → 2 ^ 20 ≤ n
    → slot_of_number pages n ≡ length pages
far [] n small le = refl
far (m ∷ pages) n small le =
    let ne : (m.number == n) ≡ false = ne_eqb _ _ (λ e. omega (arith, e, small 0 m (omega arith), le)) in
    let rest = far pages n (λ k d lt. small (suc k) d (omega arith)) le in
    rw ne (omega (arith, rest))

-- ---- a read page

pub page_read :
    (pages : List Mapped) (pool : List (List ℕ)) (s : ReadState) (slot index : ℕ) (p q r : Place)
    → slot_at pages s.low p ≡ Ok (slot, q) → number_at w32 q ≡ Ok (index, r) → index ≤ s.used → index < length pool
    → read_page_at pages pool s p
    ≡ Ok (
      (
        record { slot = slot; bytes = slice_index_or pool index [] },
        record { low = suc slot; used = used_after s.used index },
      ),
      r,
    )
unfolding read_page_at
page_read pages pool s slot index p q r at number few within =
    rw (at, number, le-leb _ _ few, lt-ltb _ _ within) refl

pub page_refused :
    (pages : List Mapped) (pool : List (List ℕ)) (s : ReadState) (slot index : ℕ) (p q r : Place)
    → slot_at pages s.low p ≡ Ok (slot, q) → number_at w32 q ≡ Ok (index, r)
    → (s.used < index) ⊎ (length pool ≤ index)
    → read_page_at pages pool s p ≡ Err (Field q.taken)
unfolding read_page_at
page_refused pages pool s slot index p q r at number (inl many) =
    rw (at, number, and_left _ _ (lt-leb index s.used many)) refl
page_refused pages pool s slot index p q r at number (inr beyond) =
    rw (at, number, and_right _ _ (le-ltb index (length pool) beyond)) refl
