-- Lists of numbers and of objects that have nothing in common.
use Rattle.std.proofs.Common.{◌≡◌, ℕ, ◌+◌, Bool, true, false, ◌&&◌, ◌||◌, not, eqb, List, [], ◌∷◌, ◌++◌, refl, sym, ◌∙◌, subst, inl, inr, ◌⊎◌, arith}
use Rattle.std.proofs.lemmas.Bool.{cases_eq}
use Rattle.std.proofs.lemmas.Bool.Decides.{nat_tests}
use Rattle.guest_call.specs.declared.Object.{Object}
use Rattle.guest_call.specs.Locality.{is_among, same_object}
use Rattle.guest_call.specs.Queues.{places}
use Rattle.guest_call.proofs.Counting.{tally, places-cons}
use Rattle.guest_call.proofs.Locality.{same_is}
use Rattle.history_spec.specs.Before.{is_in, meets, overlap}

pub and-left : (a b : Bool) → (a && b) ≡ true → a ≡ true
and-left true b h = refl
and-left false b h = h

pub and-right : (a b : Bool) → (a && b) ≡ true → b ≡ true
and-right true b h = h
and-right false b h = cc

pub is_or_not : (b : Bool) → (b ≡ true) ⊎ (b ≡ false)
is_or_not true = inl refl
is_or_not false = inr refl

pub or-left : (a b : Bool) → (a || b) ≡ false → a ≡ false
or-left true b h = cc
or-left false b h = refl

pub or-right : (a b : Bool) → (a || b) ≡ false → b ≡ false
or-right true b h = cc
or-right false b h = h

pub not-true : (b : Bool) → not b ≡ true → b ≡ false
not-true true h = cc
not-true false h = refl

-- two lists that don't meet
pub meets-not : (k : ℕ) (ks ls : List ℕ) → meets ks ls ≡ false → is_in k ks ≡ true → is_in k ls ≡ false
meets-not k [] ls apart there = cc
meets-not k (j ∷ ks) ls apart there =
    elim (cases_eq j k) [
      | inl same ↦ subst (λ (i : ℕ). is_in i ls ≡ false) same (or-left (is_in j ls) (meets ks ls) apart)
      | inr other ↦
          let no : eqb j k ≡ false = grind (arith, nat_tests) in
          meets-not k ks ls (or-right (is_in j ls) (meets ks ls) apart) (rw no at there)
    ]

pub meets-not_back : (k : ℕ) (ks ls : List ℕ) → meets ks ls ≡ false → is_in k ls ≡ true → is_in k ks ≡ false
meets-not_back k ks ls apart there =
    elim (is_or_not (is_in k ks)) [
      | inl is ↦ absurd (let none : is_in k ls ≡ false = meets-not k ks ls apart is in cc)
      | inr none ↦ none
    ]

pub overlap-not : (p : Object) (os qs : List Object) → overlap os qs ≡ false → is_among p os ≡ true → is_among p qs ≡ false
overlap-not p [] qs apart there = cc
overlap-not p (o ∷ os) qs apart there =
    here (overlap-not p os qs (or-right (is_among o qs) (overlap os qs) apart)) (same_object p o) refl there
  where
    here :
        (is_among p os ≡ true → is_among p qs ≡ false) → (b : Bool) → same_object p o ≡ b → (b || is_among p os) ≡ true
        → is_among p qs ≡ false
    here later true is h =
        subst (λ (i : Object). is_among i qs ≡ false) (sym (same_is p o is))
        (or-left (is_among o qs) (overlap os qs) apart)
    here later false is h = later h

pub overlap-not_back :
    (p : Object) (os qs : List Object) → overlap os qs ≡ false → is_among p qs ≡ true → is_among p os ≡ false
overlap-not_back p os qs apart there =
    elim (is_or_not (is_among p os)) [
      | inl is ↦ absurd (let none : is_among p qs ≡ false = overlap-not p os qs apart is in cc)
      | inr none ↦ none
    ]

pub is_in-append : (k : ℕ) (ks ls : List ℕ) → is_in k (ks ++ ls) ≡ (is_in k ks || is_in k ls)
is_in-append k [] ls = refl
is_in-append k (j ∷ ks) ls = here (is_in-append k ks ls) (eqb j k)
  where
    here :
        is_in k (ks ++ ls) ≡ (is_in k ks || is_in k ls) → (b : Bool)
        → (b || is_in k (ks ++ ls)) ≡ ((b || is_in k ks) || is_in k ls)
    here later true = refl
    here later false = later

pub or-in_left : (a b : Bool) → a ≡ true → (a || b) ≡ true
or-in_left true b h = refl
or-in_left false b h = cc

pub or-in_right : (a b : Bool) → b ≡ true → (a || b) ≡ true
or-in_right true b h = refl
or-in_right false b h = h

pub is_in-places : (u : ℕ) (us : List ℕ) → places u us ≡ 0 → is_in u us ≡ false
is_in-places u [] none = refl
is_in-places u (v ∷ us) none =
    let all : tally (eqb v u) + places u us ≡ 0 = sym (places-cons u v us) ∙ none in
    here (is_in-places u us (omega arith)) (eqb v u) all
  where
    here : is_in u us ≡ false → (b : Bool) → tally b + places u us ≡ 0 → (b || is_in u us) ≡ false
    here later true all = absurd (let one : 1 + places u us ≡ 0 = all in omega arith)
    here later false all = later
