-- The marks of words, at one place and as a whole.
use Rattle.std.proofs.Common.{◌≡◌, ◌≢◌, ℕ, ◌+◌, ◌*◌, ◌/◌, ◌%◌, ◌^◌, ◌<◌, zero, suc, Bool, true, false, cond, ◌==◌, inl, inr, List, [], ◌∷◌, length, get_or, set, take, drop, replicate, refl, ap, sym, subst, ◌∙◌, arith, w64}
use Rattle.std.specs.Int.{bit_at, trailing_zeros}
use Rattle.std.specs.Int.RustNames.{bit_or, bit_and}
use Rattle.std.specs.Simd.Lanes.{mask_l}
use Rattle.std.proofs.lemmas.Bool.{cases_eq}
use Rattle.std.proofs.lemmas.List.{same_lists, length-set, length-replicate, get_or-replicate, get_or-set_same, get_or-set_other}
use Rattle.std.proofs.lemmas.List.Folds.{list_any_none, list_any_at}
use Rattle.std.proofs.lemmas.List.FromFn.{get_or-map-range_with_len, length-map-range_with_len}
use Rattle.std.proofs.lemmas.Nat.Bits.{bit_at_set_same, bit_at_set_other, bit_at-trailing_zeros, bit_at-zero, bit_at-lt, shr_and_one, same_from_bits_below}
use Rattle.std.proofs.lemmas.Simd.{length-chunk, get_or-chunk, mask_l-lt, bit_mask_l}
use Rattle.memory_spec.specs.Workspace.{no_marks}
use Rattle.thunk_spec.specs.Delta.{is_stored}
use Rattle.page_store.specs.Flags.{flag_in, flags_in, flags_of}

pub length-flags_of : (words : List ℕ) → length (flags_of words) ≡ 4096
unfolding flags_of
length-flags_of words = length-map-range_with_len (flag_in words) 0 4096

flag_at : (n : ℕ) (words : List ℕ) (k : ℕ) (d : Bool) → k < n → get_or (flags_in n words) k d ≡ flag_in words k
flag_at n words k d lt = get_or-map-range_with_len (flag_in words) 0 n k k d lt (omega arith)

pub flags_of-at : (words : List ℕ) (k : ℕ) (d : Bool) → k < 4096 → get_or (flags_of words) k d ≡ flag_in words k
unfolding flags_of
flags_of-at words k d lt = flag_at 4096 words k d lt

-- the test of a place in code
pub tested_at :
    (words : List ℕ) (k : ℕ) → k < 4096 → (bit_and (get_or words (k / 64) 0 / 2 ^ (k % 64)) 1 == 1)
    ≡ get_or (flags_of words) k false
tested_at words k lt =
    ap (λ b. b == 1) (shr_and_one (get_or words (k / 64) 0) (k % 64)) ∙ sym (flags_of-at words k false lt)

-- each word is zero
abbrev pub IsZero : List ℕ → Type 0
IsZero words = (j : ℕ) → j < length words → get_or words j 0 ≡ 0

zero_in : (words : List ℕ) (j : ℕ) → IsZero words → get_or words j 0 ≡ 0
zero_in [] j zeros = refl
zero_in (w ∷ ws) zero zeros = zeros 0 (omega arith)
zero_in (w ∷ ws) (suc j) zeros = zero_in ws j (λ k lt. zeros (suc k) (omega arith))

-- words that are all zero mark no place
flag-zeros : (words : List ℕ) (k : ℕ) → IsZero words → flag_in words k ≡ false
flag-zeros words k zeros =
    ap (λ w. bit_at w (k % 64) == 1) (zero_in words (k / 64) zeros) ∙ ap (λ b. b == 1) (bit_at-zero (k % 64))

none_in : (n : ℕ) (words : List ℕ) → IsZero words → flags_in n words ≡ replicate n false
none_in n words zeros =
    same_lists (flags_in n words) (replicate n false)
    (length-map-range_with_len (flag_in words) 0 n ∙ sym (length-replicate n false))
    (λ k d lt.
    let below : k < n = omega (arith, length-map-range_with_len (flag_in words) 0 n) in
    flag_at n words k d below ∙ flag-zeros words k zeros ∙ sym (get_or-replicate n k false d below))

pub flags_of-zeros : (words : List ℕ) → IsZero words → flags_of words ≡ no_marks
unfolding flags_of no_marks
flags_of-zeros words zeros = none_in 4096 words zeros

pub flags_of-none : flags_of (replicate 64 0) ≡ no_marks
flags_of-none =
    flags_of-zeros (replicate 64 0) (λ j lt. get_or-replicate 64 j 0 0 (omega (arith, length-replicate {A = ℕ} 64 0)))

-- a word with one more bit set
abbrev pub with_bit : List ℕ → ℕ → ℕ
with_bit words place = bit_or (get_or words (place / 64) 0) (1 * 2 ^ (place % 64) % 2 ^ 64)

flag-set_same :
    (words : List ℕ) (p : ℕ) → p / 64 < length words
    → flag_in (set words (p / 64) (with_bit words p)) p ≡ true
flag-set_same words p within =
    ap (λ w. bit_at w (p % 64) == 1) (get_or-set_same words (p / 64) (with_bit words p) 0 within)
    ∙ ap (λ b. b == 1) (bit_at_set_same w64 (get_or words (p / 64) 0) (p % 64) (omega arith))

flag-set_other :
    (words : List ℕ) (p k : ℕ) → p / 64 < length words → k ≢ p
    → flag_in (set words (p / 64) (with_bit words p)) k ≡ flag_in words k
flag-set_other words p k within other =
    elim (cases_eq (k / 64) (p / 64)) [
      | inl same ↦
          let apart : k % 64 ≢ p % 64 = λ e. other (omega arith) in
          ap (λ j. bit_at (get_or (set words (p / 64) (with_bit words p)) j 0) (k % 64) == 1) same
          ∙ ap (λ w. bit_at w (k % 64) == 1) (get_or-set_same words (p / 64) (with_bit words p) 0 within)
          ∙ ap (λ b. b == 1) (bit_at_set_other w64 (get_or words (p / 64) 0) (p % 64) (omega arith) (k % 64) apart)
          ∙ ap (λ j. bit_at (get_or words j 0) (k % 64) == 1) (sym same)
      | inr differ ↦ ap (λ w. bit_at w (k % 64) == 1)
          (get_or-set_other words (p / 64) (k / 64) (with_bit words p) 0 differ)
    ]

-- a word with one more bit marks one more place
pub flags_of-set :
    (words : List ℕ) (p : ℕ) → length words ≡ 64 → p < 4096
    → flags_of (set words (p / 64) (with_bit words p)) ≡ set (flags_of words) p true
flags_of-set words p count lt =
    same_lists (flags_of (set words (p / 64) (with_bit words p))) (set (flags_of words) p true)
    (length-flags_of (set words (p / 64) (with_bit words p))
    ∙ sym (length-set (flags_of words) p true ∙ length-flags_of words))
    (λ k d before.
    let below : k < 4096 = omega (arith, length-flags_of (set words (p / 64) (with_bit words p))) in
    let within : p / 64 < length words = omega arith in
    flags_of-at (set words (p / 64) (with_bit words p)) k d below
    ∙ elim (cases_eq k p) [
      | inl same ↦
          ap (flag_in (set words (p / 64) (with_bit words p))) same
          ∙ flag-set_same words p within
          ∙ sym (get_or-set_same (flags_of words) p true d (omega (arith, length-flags_of words)))
          ∙ ap (λ j. get_or (set (flags_of words) p true) j d) (sym same)
      | inr other ↦
          flag-set_other words p k within other
          ∙ sym (flags_of-at words k d below)
          ∙ sym (get_or-set_other (flags_of words) p k true d other)
    ])

pub is_stored-zeros : (words : List ℕ) → IsZero words → is_stored (flags_of words) ≡ false
is_stored-zeros words zeros =
    list_any_none (λ mark. mark) (flags_of words)
    (λ k d lt. flags_of-at words k d (omega (arith, length-flags_of words)) ∙ flag-zeros words k zeros)

pub is_stored-word :
    (words : List ℕ) (k : ℕ) → k < 64 → 0 < get_or words k 0 → get_or words k 0 < 2 ^ 64 → is_stored (flags_of words)
    ≡ true
is_stored-word words k lt some small =
    let found = bit_at-trailing_zeros w64 (get_or words k 0) some small in
    let t = trailing_zeros w64 (get_or words k 0) in
    let least : t < 64 = found.0 in
    let whole : (64 * k + t) / 64 ≡ k = omega arith in
    let rest : (64 * k + t) % 64 ≡ t = omega arith in
    let place : 64 * k + t < 4096 = omega arith in
    list_any_at (λ mark. mark) (flags_of words) (64 * k + t) false (omega (arith, length-flags_of words))
    (flags_of-at words (64 * k + t) false place
    ∙ ap (λ j. bit_at (get_or words j 0) ((64 * k + t) % 64) == 1) whole
    ∙ ap (λ i. bit_at (get_or words k 0) i == 1) rest
    ∙ ap (λ b. b == 1) found.1)

bit_is : (n : ℕ) → n < 2 → cond (n == 1) 1 0 ≡ n
bit_is zero lt = refl
bit_is (suc zero) lt = refl
bit_is (suc (suc n)) lt = absurd (omega arith)

-- a word is the number whose bits are the marks of its places
pub word_is :
    (words : List ℕ) (k : ℕ)
    → length words ≡ 64 → k < 64 → get_or words k 0 < 2 ^ 64
    → get_or words k 0 ≡ mask_l (take 64 (drop (64 * k) (flags_of words)))
word_is words k count lt small =
    let marks = take 64 (drop (64 * k) (flags_of words)) in
    let long : length marks ≡ 64 = length-chunk (64 * k) 64 (flags_of words) (omega (arith, length-flags_of words)) in
    let below : mask_l marks < 2 ^ 64 = subst (λ n. mask_l marks < 2 ^ n) long (mask_l-lt marks) in
    same_from_bits_below 64 (get_or words k 0) (mask_l marks) small below
    (λ i within.
    let whole : (64 * k + i) / 64 ≡ k = omega (arith, within) in
    let rest : (64 * k + i) % 64 ≡ i = omega (arith, within) in
    sym (bit_is (bit_at (get_or words k 0) i) (bit_at-lt (get_or words k 0) i))
    ∙ sym (bit_mask_l marks i
    ∙ ap (λ b. cond b 1 0)
    (get_or-chunk (64 * k) 64 (flags_of words) i false within
    ∙ flags_of-at words (64 * k + i) false (omega (arith, lt, within))
    ∙ ap (λ j. bit_at (get_or words j 0) ((64 * k + i) % 64) == 1) whole
    ∙ ap (λ j. bit_at (get_or words k 0) j == 1) rest)))
