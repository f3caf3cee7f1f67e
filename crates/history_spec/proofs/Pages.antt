-- Pages of a memory after masked bytes were written.
use Rattle.std.proofs.Common.{◌≡◌, ◌≢◌, ℕ, false, eqb, List, [], ◌∷◌, length, map, set, refl, ap, sym, ◌∙◌, inl, inr, arith, ext_get_or}
use Rattle.std.proofs.lemmas.Bool.{cases_eq, cases_lt}
use Rattle.std.proofs.lemmas.Bool.Decides.{nat_tests}
use Rattle.std.proofs.lemmas.List.{get_or-set_same, get_or-set_other, get_or_past, length-set}
use Rattle.memory_spec.specs.Pages.{Memory, page_of}
use Rattle.thunk_spec.specs.Delta.{PageDelta, spread, masked}
use Rattle.history_spec.specs.Before.{is_in, meets}
use Rattle.history_spec.proofs.Lists.{is_or_not, or-left, or-right, meets-not}

-- the slots of some stored bytes
abbrev pub slots : List PageDelta → List ℕ
slots delta = map (λ (d : PageDelta). d.slot) delta

-- a memory after the stored bytes of one page
abbrev one : Memory → PageDelta → Memory
one m d = set m d.slot (spread d.mask d.bytes (page_of m d.slot))

pub length-masked : (delta : List PageDelta) (m : Memory) → length (masked m delta) ≡ length m
length-masked [] m = refl
length-masked (d ∷ delta) m =
    length-masked delta (one m d) ∙ length-set m d.slot (spread d.mask d.bytes (page_of m d.slot))

-- a page that isn't written stays
pub masked-other :
    (delta : List PageDelta) (m : Memory) (p : ℕ) → is_in p (slots delta) ≡ false
    → page_of (masked m delta) p ≡ page_of m p
masked-other [] m p none = refl
masked-other (d ∷ delta) m p none =
    let first : eqb d.slot p ≡ false = or-left (eqb d.slot p) (is_in p (slots delta)) none in
    let other : p ≢ d.slot = λ same. grind (arith, nat_tests) in
    masked-other delta (one m d) p (or-right (eqb d.slot p) (is_in p (slots delta)) none)
    ∙ get_or-set_other m d.slot p (spread d.mask d.bytes (page_of m d.slot)) [] other

-- a written page depends on that page before alone
pub masked-same :
    (delta : List PageDelta) (m n : Memory) (p : ℕ)
    → length n ≡ length m → page_of n p ≡ page_of m p
    → page_of (masked n delta) p ≡ page_of (masked m delta) p
masked-same [] m n p count same = same
masked-same (d ∷ delta) m n p count same =
    masked-same delta (one m d) (one n d) p
    (length-set n d.slot (spread d.mask d.bytes (page_of n d.slot)) ∙ count
    ∙ sym (length-set m d.slot (spread d.mask d.bytes (page_of m d.slot))))
    (elim (cases_eq p d.slot) [
      | inl here ↦
          elim (cases_lt p (length m)) [
            | inl inside ↦
                rw (← here)
                (get_or-set_same n p (spread d.mask d.bytes (page_of n p)) [] (omega arith)
                ∙ ap (spread d.mask d.bytes) same
                ∙ sym (get_or-set_same m p (spread d.mask d.bytes (page_of m p)) [] inside))
            | inr past ↦
                get_or_past (one n d) p []
                (let count_n = length-set n d.slot (spread d.mask d.bytes (page_of n d.slot)) in omega arith)
                ∙ sym (get_or_past (one m d) p []
                (let count_m = length-set m d.slot (spread d.mask d.bytes (page_of m d.slot)) in omega arith))
          ]
      | inr other ↦
          get_or-set_other n d.slot p (spread d.mask d.bytes (page_of n d.slot)) [] other
          ∙ same
          ∙ sym (get_or-set_other m d.slot p (spread d.mask d.bytes (page_of m d.slot)) [] other)
    ])

-- a page that the first of two writings doesn't touch is as after the other alone
pub masked-first :
    (a b : List PageDelta) (m : Memory) (p : ℕ) → is_in p (slots b) ≡ false
    → page_of (masked (masked m b) a) p ≡ page_of (masked m a) p
masked-first a b m p none = masked-same a m (masked m b) p (length-masked b m) (masked-other b m p none)

-- two writings of different pages can be swapped
pub masked-swap :
    (a b : List PageDelta) (m : Memory) → meets (slots a) (slots b) ≡ false
    → masked (masked m b) a ≡ masked (masked m a) b
masked-swap a b m apart =
    ext_get_or [] (masked (masked m b) a) (masked (masked m a) b)
    (length-masked a (masked m b) ∙ length-masked b m ∙ sym (length-masked b (masked m a) ∙ length-masked a m))
    (λ p below.
    elim (is_or_not (is_in p (slots a))) [
      | inl written ↦
          let none : is_in p (slots b) ≡ false = meets-not p (slots a) (slots b) apart written in
          masked-first a b m p none ∙ sym (masked-other b (masked m a) p none)
      | inr none ↦ masked-other a (masked m b) p none ∙ sym (masked-first b a m p none)
    ])
