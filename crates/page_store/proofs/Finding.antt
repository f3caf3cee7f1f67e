-- One page of a memory into which a delta was written.
use Rattle.std.proofs.Common.{◌≡◌, ◌≢◌, ℕ, ◌+◌, ◌<◌, ◌≤◌, zero, suc, true, List, [], ◌∷◌, length, get_or, drop, set, refl, sym, ap, ◌∙◌, arith, inl, inr}
use Rattle.std.proofs.lemmas.Bool.{and_parts, cases_eq, leb-true}
use Rattle.std.proofs.lemmas.List.{length-set, get_or-set_same, get_or-set_other}
use Rattle.std.proofs.Math.Seq.{drop-cons}
use Rattle.memory_spec.specs.Pages.{Memory, page_of}
use Rattle.thunk_spec.specs.Delta.{PageDelta, spread, masked}
use Rattle.thunk_spec.specs.Ascending.{deltas_ascend}

-- the memory after one delta
abbrev pub with_delta : Memory → PageDelta → Memory
with_delta m d = set m d.slot (spread d.mask d.bytes (page_of m d.slot))

-- the deltas from one on
pub split :
    (delta : List PageDelta) (i : ℕ) (d : PageDelta) → d ≡ get_or delta i d → i < length delta
    → drop i delta ≡ d ∷ drop (i + 1) delta
split delta i d is lt =
    let next : suc i ≡ i + 1 = omega arith in
    drop-cons delta i d lt ∙ ap (λ e. e ∷ drop (suc i) delta) (sym is) ∙ ap (λ k. d ∷ drop k delta) next

-- deltas of later pages don't change it
above :
    (m : Memory) (delta : List PageDelta) (low slot : ℕ) → deltas_ascend low delta ≡ true → slot < low
    → page_of (masked m delta) slot ≡ page_of m slot
above m [] low slot ascends lt = refl
above m (d ∷ delta) low slot ascends lt =
    let parts = and_parts _ _ ascends in
    let from : low ≤ d.slot = leb-true low d.slot parts.0 in
    let next : slot < suc d.slot = omega arith in
    let other : slot ≢ d.slot = λ e. absurd (omega (arith, e)) in
    above (with_delta m d) delta (suc d.slot) slot parts.1 next
    ∙ get_or-set_other m d.slot slot (spread d.mask d.bytes (page_of m d.slot)) [] other

-- what one delta makes of a page depends only on that page before
after_one :
    (m n : Memory) (d : PageDelta) (slot : ℕ) → length m ≡ length n → page_of m slot ≡ page_of n slot
    → slot < length m → page_of (with_delta m d) slot ≡ page_of (with_delta n d) slot
after_one m n d slot count same lt = elim (cases_eq slot d.slot) [
  | inl e ↦
      at m e (omega (arith, e)) ∙ ap (spread d.mask d.bytes) (sym (ap (page_of m) e) ∙ same ∙ ap (page_of n) e)
      ∙ sym (at n e (omega (arith, e, count)))
  | inr other ↦ get_or-set_other m d.slot slot _ [] other ∙ same ∙ sym (get_or-set_other n d.slot slot _ [] other)
]
  where
    at : (l : Memory) → slot ≡ d.slot → d.slot < length l
        → page_of (with_delta l d) slot ≡ spread d.mask d.bytes (page_of l d.slot)
    at l e less = ap (page_of (with_delta l d)) e ∙ get_or-set_same l d.slot _ [] less

depends :
    (m n : Memory) (delta : List PageDelta) (slot : ℕ) → length m ≡ length n → page_of m slot ≡ page_of n slot
    → slot < length m → page_of (masked m delta) slot ≡ page_of (masked n delta) slot
depends m n [] slot count same lt = same
depends m n (d ∷ delta) slot count same lt =
    depends (with_delta m d) (with_delta n d) delta slot
    (length-set m d.slot _ ∙ count ∙ sym (length-set n d.slot _)) (after_one m n d slot count same lt)
    (omega (arith, lt, length-set m d.slot (spread d.mask d.bytes (page_of m d.slot))))

-- A delta of another page is skipped.
pub passed :
    (m : Memory) (d : PageDelta) (rest : List PageDelta) (slot : ℕ) → (d.slot ≡ slot → ⊥) → slot < length m
    → page_of (masked m (d ∷ rest)) slot ≡ page_of (masked m rest) slot
passed m d rest slot other lt =
    depends (with_delta m d) m rest slot (length-set m d.slot _)
    (get_or-set_other m d.slot slot _ [] (λ e. other (sym e)))
    (omega (arith, lt, length-set m d.slot (spread d.mask d.bytes (page_of m d.slot))))

-- The slots of the deltas after one are greater.
pub behind :
    (delta rest : List PageDelta) (d : PageDelta) (i low : ℕ) → deltas_ascend low delta ≡ true → drop i delta ≡ d ∷ rest
    → deltas_ascend (suc d.slot) rest ≡ true
behind [] rest d zero low ascends is = cc
behind [] rest d (suc i) low ascends is = cc
behind (e ∷ delta) rest d zero low ascends is =
    let tail : deltas_ascend (suc e.slot) delta ≡ true = (and_parts _ _ ascends).1 in cc
behind (e ∷ delta) rest d (suc i) low ascends is =
    behind delta rest d i (suc e.slot) (and_parts _ _ ascends).1 is

-- The page of a delta that was found.
pub found :
    (m : Memory) (delta rest : List PageDelta) (d : PageDelta) (i low slot : ℕ)
    → deltas_ascend low delta ≡ true → drop i delta ≡ d ∷ rest → d.slot ≡ slot → slot < length m
    → page_of (masked m (drop i delta)) slot ≡ spread d.mask d.bytes (page_of m slot)
found m delta rest d i low slot ascends is at lt =
    let next : slot < suc d.slot = omega (arith, at) in
    ap (λ l. page_of (masked m l) slot) is
    ∙ above (with_delta m d) rest (suc d.slot) slot (behind delta rest d i low ascends is) next
    ∙ ap (page_of (with_delta m d)) (sym at) ∙ get_or-set_same m d.slot _ [] (omega (arith, at))
    ∙ ap (λ k. spread d.mask d.bytes (page_of m k)) at
