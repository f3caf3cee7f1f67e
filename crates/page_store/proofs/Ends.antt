-- Bytes that are no more than a page's lie in the page of the first or in that of the last.
use Rattle.std.proofs.Common.{◌≡◌, ℕ, zero, suc, ◌+◌, ◌/◌, ◌<◌, ◌≤◌, Bool, true, false, ◌&&◌, List, [], ◌∷◌, set, slice_index_or, ap, sym, subst, ◌∙◌, refl, inl, inr, arith, ◌⊎◌}
use Rattle.std.proofs.lemmas.Bool.{cases_eq}
use Rattle.std.proofs.lemmas.List.{set-set}
use Rattle.std.specs.List.{range_with_len, list_all}
use Rattle.memory_spec.specs.Pages.{Mapped, slot_of, unmapped, allows, read_right, permission_at}
use Rattle.memory_spec.specs.Workspace.{Workspace, taken_at, after_taking}
use Rattle.thunk_spec.specs.Put.{is_readable}

same_slot : (map : List Mapped) (a b : ℕ) → a / 4096 ≡ b / 4096 → slot_of map a ≡ slot_of map b
same_slot [] a b same = refl
same_slot (page ∷ pages) a b same = rw (same, same_slot pages a b same) refl

may : List Mapped → ℕ → Bool
may map a = allows read_right (permission_at map a)

same_may : (map : List Mapped) (a b : ℕ) → a / 4096 ≡ b / 4096 → may map a ≡ may map b
unfolding may permission_at
same_may map a b same =
    ap (λ (slot : ℕ). allows read_right (slice_index_or map slot unmapped).permission) (same_slot map a b same)

-- a byte between two that are less than a page apart is in the page of one of them
either : (p last a : ℕ) → p ≤ a → a ≤ last → last < p + 4096 → (a / 4096 ≡ p / 4096) ⊎ (a / 4096 ≡ last / 4096)
either p last a low high near =
    elim (cases_eq (a / 4096) (p / 4096)) [ inl first ↦ inl first | inr other ↦ inr (omega arith) ]

-- noting a page by another byte of it changes nothing
noted_again :
    (map : List Mapped) (flags : List Bool) (a b : ℕ) → a / 4096 ≡ b / 4096
    → set (set flags (slot_of map b) true) (slot_of map a) true ≡ set flags (slot_of map b) true
noted_again map flags a b same =
    ap (λ (slot : ℕ). set (set flags (slot_of map b) true) slot true) (same_slot map a b same)
    ∙ set-set flags (slot_of map b) true true

module _ (map : List Mapped) (p last : ℕ) (near : last < p + 4096) where
  readable_from_ends :
      may map p ≡ true → may map last ≡ true
      → (n a : ℕ) → p ≤ a → a + n ≤ last + 1 → list_all (may map) (range_with_len a n) ≡ true
  readable_from_ends first final zero a low high = refl
  readable_from_ends first final (suc n) a low high =
      let here : may map a ≡ true =
      elim (either p last a low (omega arith) near) [
        | inl same ↦ same_may map a p same ∙ first
        | inr same ↦ same_may map a last same ∙ final
      ] in
      rw (here, readable_from_ends first final n (a + 1) (omega arith) (omega arith)) refl

  -- noting a range of addresses of the last page notes only that page
  taken_last :
      (n a : ℕ) (flags : List Bool) → a / 4096 ≡ last / 4096 → a + n ≤ last + 1
      → taken_at map (set flags (slot_of map last) true) (range_with_len a n) ≡ set flags (slot_of map last) true
  taken_last zero a flags same high = refl
  taken_last (suc n) a flags same high =
      ap (λ (noted : List Bool). taken_at map noted (range_with_len (a + 1) n)) (noted_again map flags a last same)
      ∙ elim (cases_eq n 0) [
        | inl none ↦ rw none refl
        | inr more ↦ taken_last n (a + 1) flags (omega arith) (omega arith)
      ]

  taken_ends :
      (n a : ℕ) (flags : List Bool) → p ≤ a → a + n ≡ last
      → taken_at map (set flags (slot_of map p) true) (range_with_len a (suc n))
      ≡ set (set flags (slot_of map p) true) (slot_of map last) true
  taken_ends zero a flags low high =
      let here : a ≡ last = omega arith in rw here refl
  taken_ends (suc n) a flags low high =
      elim (either p last a low (omega arith) near) [
        | inl same ↦
            ap (λ (noted : List Bool). taken_at map noted (range_with_len (a + 1) (suc n)))
            (noted_again map flags a p same)
            ∙ taken_ends n (a + 1) flags (omega arith) (omega arith)
        | inr same ↦
            ap (λ (slot : ℕ). taken_at map (set (set flags (slot_of map p) true) slot true)
            (range_with_len (a + 1) (suc n)))
            (same_slot map a last same)
            ∙ taken_last (suc n) (a + 1) (set flags (slot_of map p) true) (omega arith) (omega arith)
      ]

and-first : (a b : Bool) → (a && b) ≡ true → a ≡ true
and-first true b h = refl
and-first false b h = cc

and-second : (a b : Bool) → (a && b) ≡ true → b ≡ true
and-second true b h = h
and-second false b h = cc

last_in : (f : ℕ → Bool) (m a : ℕ) → list_all f (range_with_len a (suc m)) ≡ true → f (a + m) ≡ true
last_in f zero a all = let here : a + 0 ≡ a = omega arith in rw here (and-first (f a) true all)
last_in f (suc m) a all =
    let here : a + suc m ≡ (a + 1) + m = omega arith in
    rw here (last_in f m (a + 1) (and-second (f a) (list_all f (range_with_len (a + 1) (suc m))) all))

both_ends :
    (all first last : Bool) → (all ≡ true → first ≡ true) → (all ≡ true → last ≡ true)
    → (first ≡ true → last ≡ true → all ≡ true)
    → all ≡ (first && last)
both_ends true first last p q r = rw (p refl, q refl) refl
both_ends false false last p q r = refl
both_ends false true false p q r = refl
both_ends false true true p q r = r refl refl

-- bytes may be read exactly if the first and the last may be
pub readable_ends :
    (map : List Mapped) (p n last : ℕ) → 0 < n → n ≤ 4096 → p + n ≡ last + 1
    → is_readable map p n ≡ (allows read_right (permission_at map p) && allows read_right (permission_at map last))
unfolding is_readable may
readable_ends map p zero last some few count = absurd (omega arith)
readable_ends map p (suc m) last some few count =
    let end : p + m ≡ last = omega arith in
    both_ends (list_all (may map) (range_with_len p (suc m))) (may map p) (may map last)
    (λ all. and-first (may map p) (list_all (may map) (range_with_len (p + 1) m)) all)
    (λ all. subst (λ (k : ℕ). may map k ≡ true) end (last_in (may map) m p all))
    (λ first final. readable_from_ends map p last (omega arith) first final (suc m) p (omega arith) (omega arith))

-- taking the first and the last byte notes the pages of them all
pub taking_ends :
    (w : Workspace) (p n last : ℕ) → 0 < n → n ≤ 4096 → p + n ≡ last + 1
    → after_taking w (p ∷ last ∷ []) ≡ after_taking w (range_with_len p n)
taking_ends w p zero last some few count = absurd (omega arith)
taking_ends w p (suc m) last some few count =
    ap (λ (flags : List Bool). record w { taken = flags })
    (sym
    (ap (λ (flags : List Bool). taken_at w.map flags (range_with_len (p + 1) m))
    (sym (set-set w.taken (slot_of w.map p) true true))
    ∙ taken_ends w.map p last (omega arith) m p w.taken (omega arith) (omega arith)))

pub readable_first :
    (map : List Mapped) (p n last : ℕ) → 0 < n → n ≤ 4096 → p + n ≡ last + 1 → is_readable map p n ≡ true
    → allows read_right (permission_at map p) ≡ true
readable_first map p n last some few count all =
    and-first (allows read_right (permission_at map p)) (allows read_right (permission_at map last))
    (sym (readable_ends map p n last some few count) ∙ all)

pub readable_last :
    (map : List Mapped) (p n last : ℕ) → 0 < n → n ≤ 4096 → p + n ≡ last + 1 → is_readable map p n ≡ true
    → allows read_right (permission_at map last) ≡ true
readable_last map p n last some few count all =
    and-second (allows read_right (permission_at map p)) (allows read_right (permission_at map last))
    (sym (readable_ends map p n last some few count) ∙ all)

pub readable_none : (map : List Mapped) → is_readable map 0 0 ≡ true
unfolding is_readable
readable_none map = refl
