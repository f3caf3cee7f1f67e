-- The marks of a word, from the lowest one on.
use Rattle.std.proofs.Common.{◌≡◌, ℕ, zero, suc, ◌+◌, ◌-◌, ◌*◌, ◌/◌, ◌^◌, ◌<◌, ◌≤◌, Bool, true, false, cond, List, [], ◌∷◌, length, take, drop, sym, ap, ◌∙◌, refl, arith, w64}
use Rattle.std.specs.Prelude.{slice_index_or}
use Rattle.std.specs.Int.{bit_at, trailing_zeros}
use Rattle.std.specs.Simd.Lanes.{mask_l}
use Rattle.std.proofs.Math.Nat.{pow-suc, mul_comm, zero-div, div-div-eq-div-mul}
use Rattle.std.proofs.lemmas.List.{drop-drop, drop-take}
use Rattle.std.proofs.lemmas.Nat.Bits.{bit_at-zero, bit_at_ones, bit_at-trailing_zeros}
use Rattle.std.proofs.lemmas.Simd.{length-chunk, get_or-chunk, bit_mask_l}

-- The marks of a word.
abbrev pub word_marks : List Bool → ℕ → List Bool
word_marks m number = take 64 (drop (64 * number) m)

-- The marks from a place up to an end.
abbrev pub marks_left : List Bool → ℕ → ℕ → List Bool
marks_left m end place = take (end - place) (drop place m)

half : (m : List Bool) → mask_l m / 2 ≡ mask_l (drop 1 m)
half [] = refl
half (true ∷ m) = omega arith
half (false ∷ m) = omega arith

shifted : (t : ℕ) (m : List Bool) → mask_l m / 2 ^ t ≡ mask_l (drop t m)
shifted zero m = omega arith
shifted (suc t) [] = zero-div (2 ^ suc t)
shifted (suc t) (b ∷ m) =
    ap (λ (p : ℕ). mask_l (b ∷ m) / p) (pow-suc 2 t ∙ mul_comm (2 ^ t) 2)
    ∙ sym (div-div-eq-div-mul (mask_l (b ∷ m)) 2 (2 ^ t))
    ∙ ap (λ (n : ℕ). n / 2 ^ t) (half (b ∷ m)) ∙ shifted t m

marked_of : (b : Bool) → ◌≡◌ {A = ℕ} (cond b 1 0) 1 → b ≡ true
marked_of true e = refl
marked_of false e = absurd (omega (arith, e))

unmarked_of : (b : Bool) → ◌≡◌ {A = ℕ} (cond b 1 0) 0 → b ≡ false
unmarked_of true e = absurd (omega (arith, e))
unmarked_of false e = refl

within : (m : List Bool) (i : ℕ) → slice_index_or m i false ≡ true → i < length m
within [] i e = absurd (differ e)
  where
    differ : false ≡ true → ⊥
    differ e = cc
within (x ∷ m) zero e = omega arith
within (x ∷ m) (suc i) e = let rest = within m i e in omega (arith, rest)

mark_at : (m : List Bool) (end place i : ℕ) → place + i < end
    → slice_index_or (marks_left m end place) i false ≡ slice_index_or m (place + i) false
mark_at m end place i lt = get_or-chunk place (end - place) m i false (omega arith)

-- A number that has the remaining marks, and how many places after the first its lowest mark is.
pub record IsLeft (m : List Bool) (end place left t : ℕ) : Type 0 where
  pub marks : left ≡ mask_l (marks_left m end place)
  pub some : 0 < left
  pub small : left < 2 ^ 64
  pub lowest : t ≡ trailing_zeros w64 left

lowest : (m : List Bool) (end place left t : ℕ) → IsLeft m end place left t
    → (slice_index_or (marks_left m end place) t false ≡ true)
    × ((i : ℕ) → i < t → slice_index_or (marks_left m end place) i false ≡ false)
lowest m end place left t is =
    let found = bit_at-trailing_zeros w64 left is.some is.small in (
      marked_of _ (sym (bit_mask_l (marks_left m end place) t) ∙ ap (λ (n : ℕ). bit_at n t) (sym is.marks)
          ∙ ap (bit_at left) is.lowest ∙ found.1),
      (λ i lt. unmarked_of _ (sym (bit_mask_l (marks_left m end place) i) ∙ ap (λ (n : ℕ). bit_at n i) (sym is.marks)
          ∙ found.2 i (omega (arith, is.lowest, lt)))),
    )

-- The lowest remaining mark comes before the end.
pub mark_within : (m : List Bool) (end place left t : ℕ) → IsLeft m end place left t → end ≤ length m → place ≤ end
    → place + t < end
mark_within m end place left t is le from =
    omega (
      arith,
      within (marks_left m end place) t (lowest m end place left t is).0,
      length-chunk place (end - place) m (omega arith),
    )

-- There is a mark, and none before it.
pub mark_there : (m : List Bool) (end place left t : ℕ) → IsLeft m end place left t → place + t < end
    → slice_index_or m (place + t) false ≡ true
mark_there m end place left t is inside = sym (mark_at m end place t inside) ∙ (lowest m end place left t is).0

pub none_before : (m : List Bool) (end place left t : ℕ) → IsLeft m end place left t → place + t < end
    → (j : ℕ) → place ≤ j → j < place + t → slice_index_or m j false ≡ false
none_before m end place left t is inside j from below =
    let at : place + (j - place) ≡ j = omega arith in
    ap (λ (n : ℕ). slice_index_or m n false) (sym at)
    ∙ sym (mark_at m end place (j - place) (omega (arith, inside)))
    ∙ (lowest m end place left t is).1 (j - place) (omega arith)

-- The marks that remain after it.
pub marks_behind : (m : List Bool) (end place left t : ℕ) → IsLeft m end place left t → place + t < end
    → left / 2 ^ t / 2 ≡ mask_l (marks_left m end (place + t + 1))
marks_behind m end place left t is inside =
    let size : end - place ≡ t + 1 + (end - (place + t + 1)) = omega (arith, inside) in
    ap (λ (n : ℕ). n / 2 ^ t / 2) is.marks
    ∙ ap (λ (n : ℕ). n / 2) (shifted t (marks_left m end place))
    ∙ half (drop t (marks_left m end place))
    ∙ ap mask_l (drop-drop 1 t (marks_left m end place)
    ∙ ap (λ (n : ℕ). drop n (marks_left m end place)) (omega arith)
    ∙ ap (λ (n : ℕ). drop (t + 1) (take n (drop place m))) size
    ∙ drop-take (t + 1) (end - (place + t + 1)) (drop place m)
    ∙ ap (take (end - (place + t + 1))) (drop-drop (t + 1) place m ∙ ap (λ (n : ℕ). drop n m) (omega arith)))

-- Zero has no mark.
pub none_left : (m : List Bool) (end place left : ℕ) → left ≡ mask_l (marks_left m end place) → left ≡ 0
    → (j : ℕ) → place ≤ j → j < end → slice_index_or m j false ≡ false
none_left m end place left is none j from below =
    let at : place + (j - place) ≡ j = omega arith in
    ap (λ (n : ℕ). slice_index_or m n false) (sym at)
    ∙ sym (mark_at m end place (j - place) (omega arith))
    ∙ unmarked_of _ (sym (bit_mask_l (marks_left m end place) (j - place))
    ∙ ap (λ (n : ℕ). bit_at n (j - place)) (sym is ∙ none) ∙ bit_at-zero (j - place))

-- The greatest word has all marks.
pub all_there : (m : List Bool) (number word : ℕ) → word ≡ mask_l (word_marks m number) → word ≡ 2 ^ 64 - 1
    → (j : ℕ) → 64 * number ≤ j → j < 64 * number + 64 → slice_index_or m j false ≡ true
all_there m number word is full j from below =
    let at : 64 * number + (j - 64 * number) ≡ j = omega arith in
    ap (λ (n : ℕ). slice_index_or m n false) (sym at)
    ∙ sym (get_or-chunk (64 * number) 64 m (j - 64 * number) false (omega arith))
    ∙ marked_of _ (sym (bit_mask_l (word_marks m number) (j - 64 * number))
    ∙ ap (λ (n : ℕ). bit_at n (j - 64 * number)) (sym is ∙ full)
    ∙ bit_at_ones 64 (j - 64 * number) (omega arith))
