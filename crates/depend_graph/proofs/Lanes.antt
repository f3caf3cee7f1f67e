-- How the lanes of two vectors relate to the two lists of counts.
use Rattle.std.proofs.Common.{◌≡◌, ℕ, zero, suc, ◌+◌, ◌*◌, ◌^◌, ◌≤◌, max, Bool, true, false, cond, ltb, leb, List, [], ◌∷◌, length, get_or, sym, ◌∙◌, refl, arith}
use Rattle.std.specs.Simd.Lanes.{zip2, sel_l, mask_l}
use Rattle.std.proofs.Math.Nat.{pow-suc}
use Rattle.std.proofs.lemmas.Bool.{leb-true, le-leb}

larger_of : (x y : ℕ) → cond (ltb x y) y x ≡ max x y
larger_of x y = grind arith

-- The larger lane of each place, also past the end of both.
pub larger_lanes :
    (xs ys : List ℕ) → length xs ≡ length ys → (t : ℕ)
    → get_or (sel_l (zip2 ltb xs ys) ys xs) t 0 ≡ max (get_or xs t 0) (get_or ys t 0)
larger_lanes [] [] same t = refl
larger_lanes [] (y ∷ ys) same t = absurd (omega (arith, same))
larger_lanes (x ∷ xs) [] same t = absurd (omega (arith, same))
larger_lanes (x ∷ xs) (y ∷ ys) same zero = larger_of x y
larger_lanes (x ∷ xs) (y ∷ ys) same (suc t) = larger_lanes xs ys (omega (arith, same)) t

-- A mask is full if its first bit is set and the mask of the others is full.
full_parts : (b : Bool) (m p : ℕ) → cond b 1 0 + 2 * m + 1 ≡ p * 2 → (b ≡ true) × (m + 1 ≡ p)
full_parts true m p full = (refl, omega (arith, full))
full_parts false m p full = absurd (omega (arith, full))

full_of : (b : Bool) (m p : ℕ) → b ≡ true → m + 1 ≡ p → cond b 1 0 + 2 * m + 1 ≡ p * 2
full_of true m p set full = omega (arith, full)
full_of false m p set full = absurd (grind (arith, set))

-- If the mask is full, no lane is above the other's.
pub full_says :
    (xs ys : List ℕ) → length xs ≡ length ys → mask_l (zip2 leb xs ys) + 1 ≡ 2 ^ length xs
    → (t : ℕ) → get_or xs t 0 ≤ get_or ys t 0
full_says [] [] same full t = omega arith
full_says [] (y ∷ ys) same full t = absurd (omega (arith, same))
full_says (x ∷ xs) [] same full t = absurd (omega (arith, same))
full_says (x ∷ xs) (y ∷ ys) same full zero =
    let parts = full_parts (leb x y) (mask_l (zip2 leb xs ys)) (2 ^ length xs) (full ∙ pow-suc 2 (length xs)) in
    leb-true x y parts.0
full_says (x ∷ xs) (y ∷ ys) same full (suc t) =
    let parts = full_parts (leb x y) (mask_l (zip2 leb xs ys)) (2 ^ length xs) (full ∙ pow-suc 2 (length xs)) in
    full_says xs ys (omega (arith, same)) parts.1 t

-- If no lane is above the other's, the mask is full.
pub full_where :
    (xs ys : List ℕ) → length xs ≡ length ys → ((t : ℕ) → get_or xs t 0 ≤ get_or ys t 0)
    → mask_l (zip2 leb xs ys) + 1 ≡ 2 ^ length xs
full_where [] [] same below = refl
full_where [] (y ∷ ys) same below = absurd (omega (arith, same))
full_where (x ∷ xs) [] same below = absurd (omega (arith, same))
full_where (x ∷ xs) (y ∷ ys) same below =
    full_of (leb x y) (mask_l (zip2 leb xs ys)) (2 ^ length xs) (le-leb x y (below 0))
    (full_where xs ys (omega (arith, same)) (λ t. below (suc t)))
    ∙ sym (pow-suc 2 (length xs))
