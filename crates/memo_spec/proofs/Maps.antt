-- The slots of a page map, and the numbers of its pages.
use Rattle.std.proofs.Common.{◌≡◌, ℕ, zero, suc, ◌^◌, ◌<◌, true, false, ltb, List, [], ◌∷◌, length, refl, ap, ◌∙◌, arith, inl, inr, eq-eqb}
use Rattle.std.proofs.lemmas.Bool.{and_parts, ltb-true, ne_eqb}
use Rattle.std.proofs.lemmas.Bool.Decides.{eqb_tells}
use Rattle.std.specs.Prelude.{◌==◌}
use Rattle.std.specs.List.{AllByRecursion}
use Rattle.memory_spec.specs.Pages.{Mapped, ascends_above}
use Rattle.memo_spec.specs.Encoding.{page_number}
use Rattle.memo_spec.specs.Reading.{slot_of_number}

-- A page map: the numbers ascend, and are words.
pub record IsPageMap (pages : List Mapped) : Type 0 where
  pub ascends : ascends_above 0 pages ≡ true
  pub words : AllByRecursion (λ (m : Mapped). m.number < 2 ^ 32) pages

pub number_is_word : (pages : List Mapped) (slot : ℕ) → AllByRecursion (λ (m : Mapped). m.number < 2 ^ 32) pages
    → slot < length pages → page_number pages slot < 2 ^ 32
number_is_word [] slot h lt = absurd (omega arith)
number_is_word (m ∷ pages) zero h lt = h.0
number_is_word (m ∷ pages) (suc slot) h lt = number_is_word pages slot h.1 (omega arith)

pub number_back : (pages : List Mapped) (n : ℕ) → slot_of_number pages n < length pages
    → page_number pages (slot_of_number pages n) ≡ n
number_back [] n lt = absurd (omega arith)
number_back (m ∷ pages) n lt = elim (eqb_tells m.number n) [
  | inl h ↦ rw h.0 h.1
  | inr h ↦ one_more m pages n h.0 lt (number_back pages n)
]
  where
    one_more : (m : Mapped) (pages : List Mapped) (n : ℕ) → (m.number == n) ≡ false
        → slot_of_number (m ∷ pages) n < length (m ∷ pages)
        → (slot_of_number pages n < length pages → page_number pages (slot_of_number pages n) ≡ n)
        → page_number (m ∷ pages) (slot_of_number (m ∷ pages) n) ≡ n
    one_more m pages n h lt rest =
        let k : slot_of_number (m ∷ pages) n ≡ suc (slot_of_number pages n) = rw h (omega arith) in
        ap (page_number (m ∷ pages)) k ∙ rest (omega (arith, k, lt))

above : (pages : List Mapped) (low slot : ℕ) → ascends_above low pages ≡ true → slot < length pages
    → low < page_number pages slot
above [] low slot h lt = absurd (omega arith)
above (m ∷ pages) low zero h lt = ltb-true _ _ (and_parts (ltb low m.number) (ascends_above m.number pages) h).0
above (m ∷ pages) low (suc slot) h lt =
    let k = and_parts (ltb low m.number) (ascends_above m.number pages) h in
    omega (arith, ltb-true _ _ k.0, above pages m.number slot k.1 (omega arith))

pub slot_back : (pages : List Mapped) (low slot : ℕ) → ascends_above low pages ≡ true → slot < length pages
    → slot_of_number pages (page_number pages slot) ≡ slot
slot_back [] low slot h lt = absurd (omega arith)
slot_back (m ∷ pages) low zero h lt = rw (eq-eqb m.number m.number refl) refl
slot_back (m ∷ pages) low (suc slot) h lt =
    let k = and_parts (ltb low m.number) (ascends_above m.number pages) h in
    let more = above pages m.number slot k.1 (omega arith) in
    let other : (m.number == page_number pages slot) ≡ false = ne_eqb _ _ (λ e. omega (arith, more, e)) in
    rw other (omega (arith, slot_back pages m.number slot k.1 (omega arith)))
