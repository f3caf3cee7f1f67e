-- Two masks are the same if their words are.
use Rattle.std.proofs.Common.{◌≡◌, ℕ, ◌+◌, ◌*◌, ◌/◌, ◌%◌, ◌^◌, ◌<◌, Bool, true, false, cond, List, length, get_or, take, drop, refl, sym, ap, ◌∙◌, arith}
use Rattle.std.specs.Simd.Lanes.{mask_l}
use Rattle.std.proofs.lemmas.List.{ext_get_or}
use Rattle.std.proofs.lemmas.Simd.{get_or-chunk, bit_mask_l}

-- Two masks have the same word of this number.
abbrev pub SameWord : List Bool → List Bool → ℕ → Type 0
SameWord a b number = mask_l (take 64 (drop (64 * number) a)) ≡ mask_l (take 64 (drop (64 * number) b))

same-bit : (a b : Bool) → ◌≡◌ {A = ℕ} (cond a 1 0) (cond b 1 0) → a ≡ b
same-bit true true e = refl
same-bit true false e = absurd (omega arith)
same-bit false true e = absurd (omega arith)
same-bit false false e = refl

word-place : (a b : List Bool) (number place : ℕ) → SameWord a b number → place < 64
    → get_or a (64 * number + place) false ≡ get_or b (64 * number + place) false
word-place a b number place same lt =
    sym (get_or-chunk (64 * number) 64 a place false lt)
    ∙ same-bit (get_or (take 64 (drop (64 * number) a)) place false) (get_or (take 64 (drop (64 * number) b)) place false)
    (sym (bit_mask_l (take 64 (drop (64 * number) a)) place) ∙ ap (λ (n : ℕ). n / 2 ^ place % 2) same
    ∙ bit_mask_l (take 64 (drop (64 * number) b)) place)
    ∙ get_or-chunk (64 * number) 64 b place false lt

pub words-same : (a b : List Bool) → length a ≡ 4096 → length b ≡ 4096
    → ((number : ℕ) → number < 64 → SameWord a b number) → a ≡ b
words-same a b la lb same = ext_get_or false a b (la ∙ sym lb) (λ i lt.
    let number : i / 64 < 64 = omega (arith, la, lt) in
    let place : i % 64 < 64 = omega arith in
    let at : 64 * (i / 64) + i % 64 ≡ i = omega arith in
    ap (λ (k : ℕ). get_or a k false) (sym at)
    ∙ word-place a b (i / 64) (i % 64) (same (i / 64) number) place
    ∙ ap (λ (k : ℕ). get_or b k false) at)
