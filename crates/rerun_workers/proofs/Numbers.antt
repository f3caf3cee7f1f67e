-- The last of some numbers.
use Rattle.std.proofs.Common.{◌≡◌, ◌≤◌, ◌-◌, ℕ, suc, List, [], ◌∷◌, ◌++◌, length, Option, Some, None, refl, sym, ap, ◌∙◌, arith}
use Rattle.std.specs.Prelude.{All, slice_get, unwrap_or}
use Rattle.std.specs.List.{AllByRecursion, last_or}
use Rattle.std.proofs.lemmas.List.Elements.{recursion_from_All}

pub last-push : (o : Option ℕ) (xs : List ℕ) (n : ℕ) → last_or o (xs ++ n ∷ []) ≡ Some n
last-push o [] n = refl
last-push o (x ∷ xs) n = last-push (Some x) xs n

last-at : (o : Option ℕ) (x : ℕ) (xs : List ℕ) → last_or o (x ∷ xs) ≡ slice_get (x ∷ xs) (length xs)
last-at o x [] = refl
last-at o x (y ∷ ys) = last-at (Some x) y ys

last-below :
    (o : Option ℕ) (x : ℕ) (xs : List ℕ) (n : ℕ) → AllByRecursion (λ m. m ≤ n) (x ∷ xs)
    → (z : ℕ) × (last_or o (x ∷ xs) ≡ Some z) × (z ≤ n)
last-below o x [] n all = (x, refl, all.0)
last-below o x (y ∷ ys) n all = last-below (Some x) y ys n all.1

-- if none is above a number, and the last isn't below it, the last is that number
pub last-is :
    (xs : List ℕ) (x n : ℕ) → slice_get xs (length xs - 1) ≡ Some x → n ≤ x → All (λ m. m ≤ n) xs
    → last_or None xs ≡ Some n
last-is [] x n at least all = absurd (let no : None ≡ Some x = at in cc)
last-is (y ∷ ys) x n at least all =
    let below = last-below None y ys n (recursion_from_All (λ m. m ≤ n) (y ∷ ys) all) in
    let place : suc (length ys) - 1 ≡ length ys = omega arith in
    let there : slice_get (y ∷ ys) (length ys) ≡ Some x =
    ap (λ (k : ℕ). slice_get (y ∷ ys) k) (sym place) ∙ at in
    let same : below.0 ≡ x =
    ap (λ (o : Option ℕ). unwrap_or o 0) (sym below.1 ∙ last-at None y ys ∙ there) in
    let is : x ≡ n = let at_most : below.0 ≤ n = below.2 in omega (arith, least) in
    below.1 ∙ ap (λ (m : ℕ). Some m) (same ∙ is)
