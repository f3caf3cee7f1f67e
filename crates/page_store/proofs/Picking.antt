-- Merging pages word by word of a mask.
use Rattle.std.proofs.Common.{◌≡◌, ℕ, ◌<◌, ◌≤◌, ◌+◌, ◌-◌, ◌==◌, zero, suc, Bool, true, false, cond, List, [], ◌∷◌, length, get_or, take, refl, ap, sym, ◌∙◌, arith, nat_eq, inl, inr}
use Rattle.std.proofs.lemmas.Bool.{cases_lt}
use Rattle.std.specs.Int.{bit_at}
use Rattle.std.specs.Simd.Lanes.{mask_l, chunk}
use Rattle.std.proofs.lemmas.List.{take_all, length-take, get_or-take, get_or_past, ext_get_or}
use Rattle.std.proofs.lemmas.Nat.Bits.{bit_at-zero}
use Rattle.std.proofs.lemmas.Simd.{bit_mask_l, get_or-chunk}
use Rattle.thunk_spec.specs.Delta.{chosen, spread}
use Rattle.thunk_spec.proofs.Merging.{merged, spread-chosen}

pub merged-nil : (o n : List ℕ) → merged o n [] ≡ o
merged-nil [] n = refl
merged-nil (o ∷ os) [] = refl
merged-nil (o ∷ os) (n ∷ ns) = refl

-- all places
pub merged-all :
    (o n : List ℕ) (m : List Bool)
    → length n ≡ length o → length m ≡ length o → length m ≡ 4096
    → merged o n (take 4096 m) ≡ spread m (chosen m n) o
merged-all o n m p q count = ap (merged o n) (take_all 4096 m (omega arith)) ∙ sym (spread-chosen m n o p q)

pub length-merged : (o n : List ℕ) (m : List Bool) → length (merged o n m) ≡ length o
length-merged [] n m = refl
length-merged (o ∷ os) [] m = refl
length-merged (o ∷ os) (n ∷ ns) [] = refl
length-merged (o ∷ os) (n ∷ ns) (m ∷ ms) = ap suc (length-merged os ns ms)

-- a byte of a merged page
pub merged-at :
    (o n : List ℕ) (m : List Bool) (k : ℕ) → length n ≡ length o
    → get_or (merged o n m) k 0 ≡ cond (get_or m k false) (get_or n k 0) (get_or o k 0)
merged-at [] [] m k same = both (get_or m k false)
  where
    both : (b : Bool) → ◌≡◌ {A = ℕ} 0 (cond b 0 0)
    both true = refl
    both false = refl
merged-at [] (n ∷ ns) m k same = absurd (omega (arith, same))
merged-at (o ∷ os) [] m k same = absurd (omega (arith, same))
merged-at (o ∷ os) (n ∷ ns) [] k same = refl
merged-at (o ∷ os) (n ∷ ns) (m ∷ ms) zero same = refl
merged-at (o ∷ os) (n ∷ ns) (m ∷ ms) (suc k) same = merged-at os ns ms k (omega (arith, same))

-- past the marks, it is as before
merged-past :
    (o n : List ℕ) (m : List Bool) (i k : ℕ) → length n ≡ length o → i ≤ k
    → get_or (merged o n (take i m)) k 0 ≡ get_or o k 0
merged-past o n m i k same le =
    merged-at o n (take i m) k same
    ∙ ap (λ b. cond b (get_or n k 0) (get_or o k 0)) (get_or_past (take i m) k false (omega (arith, length-take i m)))

-- within them, it is merged as with all of them
merged-within :
    (o n : List ℕ) (m : List Bool) (i k : ℕ) → length n ≡ length o → k < i
    → get_or (merged o n (take i m)) k 0 ≡ cond (get_or m k false) (get_or n k 0) (get_or o k 0)
merged-within o n m i k same lt =
    merged-at o n (take i m) k same ∙ ap (λ b. cond b (get_or n k 0) (get_or o k 0)) (get_or-take i m k false lt)

-- A page after the written bytes were put at those of 64 places whose bit is set in a word.
pub record HasWord (n : List ℕ) (i word : ℕ) (before after : List ℕ) : Type 0 where
  pub count : length after ≡ length before
  pub each : (k : ℕ) → k < 64
      → get_or after (i + k) 0 ≡ cond (bit_at word k == 1) (get_or n (i + k) 0) (get_or before (i + k) 0)
  pub below : (k : ℕ) → k < i → get_or after k 0 ≡ get_or before k 0
  pub behind : (k : ℕ) → i + 64 ≤ k → get_or after k 0 ≡ get_or before k 0

-- A word without a mark changes nothing.
pub no_word : (n page : List ℕ) (i word : ℕ) → word ≡ 0 → HasWord n i word page page
no_word n page i word none = record {
  count = refl;
  each = λ k lt.
      ap (λ b. cond (nat_eq b 1) (get_or n (i + k) 0) (get_or page (i + k) 0))
      (sym (bit_at-zero k) ∙ ap (λ w. bit_at w k) (sym none));
  below = λ k lt. refl;
  behind = λ k le. refl;
}

pub marked_at : (m : List Bool) (i word k : ℕ) → word ≡ mask_l (chunk i 64 m) → k < 64
    → nat_eq (bit_at word k) 1 ≡ get_or m (i + k) false
marked_at m i word k is lt =
    ap (λ w. nat_eq (bit_at w k) 1) is ∙ ap (λ b. nat_eq b 1) (bit_mask_l (chunk i 64 m) k)
    ∙ test (get_or (chunk i 64 m) k false) ∙ get_or-chunk i 64 m k false lt
  where
    test : (b : Bool) → nat_eq (cond b 1 0) 1 ≡ b
    test true = refl
    test false = refl

-- The marks of one more word.
pub merged-word :
    (o n before after : List ℕ) (m : List Bool) (i word : ℕ)
    → before ≡ merged o n (take i m) → length n ≡ length o → word ≡ mask_l (chunk i 64 m)
    → HasWord n i word before after → after ≡ merged o n (take (i + 64) m)
merged-word o n before after m i word is same word_is has =
    ext_get_or 0 after (merged o n (take (i + 64) m))
    (has.count ∙ ap length is ∙ length-merged o n (take i m) ∙ sym (length-merged o n (take (i + 64) m))) (λ k lt. at k)
  where
    within : (k : ℕ) → i ≤ k → k < i + 64 → get_or after k 0 ≡ get_or (merged o n (take (i + 64) m)) k 0
    within k from lt =
        let place : i + (k - i) ≡ k = omega arith in
        let old : get_or before k 0 ≡ get_or o k 0 = ap (λ l. get_or l k 0) is ∙ merged-past o n m i k same from in
        ap (λ p. get_or after p 0) (sym place) ∙ has.each (k - i) (omega arith)
        ∙ ap (λ b. cond b (get_or n (i + (k - i)) 0) (get_or before (i + (k - i)) 0)) (marked_at m i word (k - i) word_is
        (omega arith))
        ∙ ap (λ p. cond (get_or m p false) (get_or n p 0) (get_or before p 0)) place
        ∙ ap (λ b. cond (get_or m k false) (get_or n k 0) b) old
        ∙ sym (merged-within o n m (i + 64) k same lt)

    at : (k : ℕ) → get_or after k 0 ≡ get_or (merged o n (take (i + 64) m)) k 0
    at k = elim (cases_lt k i) [
      | inl lt ↦ has.below k lt ∙ ap (λ l. get_or l k 0) is ∙ merged-within o n m i k same lt
          ∙ sym (merged-within o n m (i + 64) k same (omega arith))
      | inr from ↦ elim (cases_lt k (i + 64)) [
        | inl lt ↦ within k from lt
        | inr past ↦ has.behind k past ∙ ap (λ l. get_or l k 0) is ∙ merged-past o n m i k same from
            ∙ sym (merged-past o n m (i + 64) k same past)
      ]
    ]
