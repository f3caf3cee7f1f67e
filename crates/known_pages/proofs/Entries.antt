-- Entries of lists after some were set.
use Rattle.std.proofs.Common.{◌≡◌, ◌≢◌, ℕ, zero, suc, Bool, true, false, ◌||◌, eqb, List, [], ◌∷◌, set, replicate, slice_index, Some, refl, ap, sym, ◌∙◌, subst, inl, inr, ◌⊎◌, arith}
use Rattle.std.proofs.lemmas.Bool.{eq-eqb, eqb-true}
use Rattle.std.proofs.lemmas.Bool.Decides.{nat_tests}
use Rattle.std.specs.List.{slice_get}
use Rattle.machine_spec.specs.Setup.{first}
use Rattle.history_spec.specs.Before.{is_in}
use Rattle.history_spec.proofs.Lists.{is_or_not, or-left, or-right}
use Rattle.known_pages.specs.Versions.{with_each}

pub get-same : {A : Type 0} (xs : List A) (p : ℕ) (x y : A) → slice_get (set xs p x) p ≡ Some y → y ≡ x
get-same [] zero x y at = cc
get-same [] (suc p) x y at = cc
get-same (z ∷ xs) zero x y at = cc
get-same (z ∷ xs) (suc p) x y at = get-same xs p x y at

pub get-other : {A : Type 0} (xs : List A) (p q : ℕ) (x : A) → p ≢ q → slice_get (set xs q x) p ≡ slice_get xs p
get-other [] zero q x other = refl
get-other [] (suc p) q x other = refl
get-other (z ∷ xs) zero zero x other = absurd (other refl)
get-other (z ∷ xs) zero (suc q) x other = refl
get-other (z ∷ xs) (suc p) zero x other = refl
get-other (z ∷ xs) (suc p) (suc q) x other = get-other xs p q x (λ same. other (ap suc same))

-- an element that isn't set stays
pub each-other :
    {A : Type 0} (xs : List A) (ps : List ℕ) (x : A) (p : ℕ) → is_in p ps ≡ false
    → slice_get (with_each xs ps x) p ≡ slice_get xs p
each-other xs [] x p none = refl
each-other xs (q ∷ ps) x p none =
    let first : eqb q p ≡ false = or-left (eqb q p) (is_in p ps) none in
    let other : p ≢ q = λ same. grind (arith, nat_tests) in
    each-other (set xs q x) ps x p (or-right (eqb q p) (is_in p ps) none) ∙ get-other xs p q x other

-- an element that is set has the new value
pub each-in :
    {A : Type 0} (xs : List A) (ps : List ℕ) (x y : A) (p : ℕ) → is_in p ps ≡ true
    → slice_get (with_each xs ps x) p ≡ Some y → y ≡ x
each-in xs [] x y p there at = cc
each-in xs (q ∷ ps) x y p there at =
    elim (is_or_not (is_in p ps)) [
      | inl later ↦ each-in (set xs q x) ps x y p later at
      | inr none ↦
          let own : q ≡ p = eqb-true q p (here (eqb q p) (is_in p ps) none there) in
          get-same xs p x y
          (subst (λ (k : ℕ). slice_get (set xs k x) p ≡ Some y) own
          (sym (each-other (set xs q x) ps x p none) ∙ at))
    ]
  where
    here : (a b : Bool) → b ≡ false → (a || b) ≡ true → a ≡ true
    here true b none h = refl
    here false true none h = cc
    here false false none h = h

pub index-set :
    (xs : List ℕ) (q x u : ℕ)
    → ((q ≡ u) × (slice_index (set xs q x) u ≡ x)) ⊎ (slice_index (set xs q x) u ≡ slice_index xs u)
index-set [] q x u = inr refl
index-set (y ∷ xs) zero x zero = inl (refl, refl)
index-set (y ∷ xs) zero x (suc u) = inr refl
index-set (y ∷ xs) (suc q) x zero = inr refl
index-set (y ∷ xs) (suc q) x (suc u) = more (index-set xs q x u)
  where
    more :
        ((q ≡ u) × (slice_index (set xs q x) u ≡ x)) ⊎ (slice_index (set xs q x) u ≡ slice_index xs u)
        → ((suc q ≡ suc u) × (slice_index (set xs q x) u ≡ x)) ⊎ (slice_index (set xs q x) u ≡ slice_index xs u)
    more (inl both) = inl (ap suc both.0, both.1)
    more (inr same) = inr same

-- an element after some were set: it is among them, or as before
pub each-index :
    (xs : List ℕ) (ps : List ℕ) (x u : ℕ)
    → ((is_in u ps ≡ true) × (slice_index (with_each xs ps x) u ≡ x))
    ⊎ (slice_index (with_each xs ps x) u ≡ slice_index xs u)
each-index xs [] x u = inr refl
each-index xs (q ∷ ps) x u = more (each-index (set xs q x) ps x u) (index-set xs q x u)
  where
    later : (a b : Bool) → b ≡ true → (a || b) ≡ true
    later true b h = refl
    later false b h = h

    own : q ≡ u → (eqb q u || is_in u ps) ≡ true
    own same = let is : eqb q u ≡ true = eq-eqb q u same in rw is refl

    more :
        ((is_in u ps ≡ true) × (slice_index (with_each (set xs q x) ps x) u ≡ x))
        ⊎ (slice_index (with_each (set xs q x) ps x) u ≡ slice_index (set xs q x) u)
        → ((q ≡ u) × (slice_index (set xs q x) u ≡ x)) ⊎ (slice_index (set xs q x) u ≡ slice_index xs u)
        → (((eqb q u || is_in u ps) ≡ true) × (slice_index (with_each (set xs q x) ps x) u ≡ x))
        ⊎ (slice_index (with_each (set xs q x) ps x) u ≡ slice_index xs u)
    more (inl both) first = inl (later (eqb q u) (is_in u ps) both.0, both.1)
    more (inr same) (inl both) = inl (own both.0, same ∙ both.1)
    more (inr same) (inr first) = inr (same ∙ first)

pub index-zeros : (n u : ℕ) → slice_index (replicate n 0) u ≡ 0
index-zeros zero u = refl
index-zeros (suc n) zero = refl
index-zeros (suc n) (suc u) = index-zeros n u

pub get-replicate : {A : Type 0} (n p : ℕ) (x y : A) → slice_get (replicate n x) p ≡ Some y → y ≡ x
get-replicate zero zero x y at = cc
get-replicate zero (suc p) x y at = cc
get-replicate (suc n) zero x y at = cc
get-replicate (suc n) (suc p) x y at = get-replicate n p x y at
