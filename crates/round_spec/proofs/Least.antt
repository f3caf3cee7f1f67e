-- The reached steps are the least closed set.
use Rattle.std.proofs.Common.{◌≡◌, ◌<◌, ◌≤◌, ℕ, zero, suc, Bool, true, false, ◌&&◌, ◌||◌, List, length, refl, ap, ap₂, sym, inl, inr, arith}
use Rattle.history_spec.specs.Facts.{Fact}
use Rattle.history_spec.specs.Before.{meets}
use Rattle.history_spec.specs.Ancestors.{any_below}
use Rattle.history_spec.proofs.Lists.{and-left, and-right, or-in_left, or-in_right, is_or_not}
use Rattle.history_spec.proofs.Clocks.{IsSome, some-below, below-some}
use Rattle.round_spec.specs.Reach.{read_at, leads_to, reached_within, is_reached, IsClosedSet}

pub any-like : (p q : ℕ → Bool) (n : ℕ) → ((i : ℕ) → i < n → p i ≡ q i) → any_below p n ≡ any_below q n
any-like p q zero same = refl
any-like p q (suc n) same =
    ap₂ (λ (a b : Bool). a || b) (same n (omega arith)) (any-like p q n (λ i less. same i (omega arith)))

pub both-ways : (a b : Bool) → (a ≡ true → b ≡ true) → (b ≡ true → a ≡ true) → a ≡ b
both-ways true b to from = sym (to refl)
both-ways false true to from = from refl
both-ways false false to from = refl

module _ (fs : List Fact) (reads : List (List ℕ)) (pages : List ℕ) where
  -- any bound above the place suffices
  pub within-least :
      (among : ℕ → Bool) → IsClosedSet fs reads pages among → (n j : ℕ) → j < length fs
      → reached_within fs reads pages n j ≡ true → among j ≡ true
  within-least among closed zero j below is = cc
  within-least among closed (suc n) j below is =
      elim (is_or_not (meets pages (read_at reads j))) [
        | inl start ↦ closed.start j below start
        | inr isnt ↦
            let some : IsSome (λ i. reached_within fs reads pages n i && leads_to fs reads i j) j =
            some-below (λ i. reached_within fs reads pages n i && leads_to fs reads i j) j (rw isnt at is) in
            closed.led some.at j some.below below
            (within-least among closed n some.at (let less = some.below in omega arith)
            (and-left (reached_within fs reads pages n some.at) (leads_to fs reads some.at j) some.is))
            (and-right (reached_within fs reads pages n some.at) (leads_to fs reads some.at j) some.is)
      ]

  pub within-more :
      (n m j : ℕ) → n ≤ m → reached_within fs reads pages n j ≡ true → reached_within fs reads pages m j ≡ true
  within-more zero m j low is = cc
  within-more (suc n) zero j low is = absurd (omega arith)
  within-more (suc n) (suc m) j low is =
      elim (is_or_not (meets pages (read_at reads j))) [
        | inl start ↦ or-in_left (meets pages (read_at reads j)) _ start
        | inr isnt ↦
            let some : IsSome (λ i. reached_within fs reads pages n i && leads_to fs reads i j) j =
            some-below (λ i. reached_within fs reads pages n i && leads_to fs reads i j) j (rw isnt at is) in
            let before : reached_within fs reads pages m some.at ≡ true =
            within-more n m some.at (omega arith)
            (and-left (reached_within fs reads pages n some.at) (leads_to fs reads some.at j) some.is) in
            let leads : leads_to fs reads some.at j ≡ true =
            and-right (reached_within fs reads pages n some.at) (leads_to fs reads some.at j) some.is in
            or-in_right (meets pages (read_at reads j)) _
            (below-some (λ i. reached_within fs reads pages m i && leads_to fs reads i j) j some.at some.below
            (rw before leads))
      ]

  pub reached-closed : IsClosedSet fs reads pages (is_reached fs reads pages)
  reached-closed =
      record {
        start = λ j below start. or-in_left (meets pages (read_at reads j)) _ start;
        led = λ i j less below is leads.
            or-in_right (meets pages (read_at reads j)) _
            (below-some (λ k. reached_within fs reads pages j k && leads_to fs reads k j) j i less
            (let before : reached_within fs reads pages j i ≡ true = within-more (suc i) j i (omega arith) is in
            rw before leads));
      }

  -- as many links as there are places before suffice
  pub within-fewer :
      (n j : ℕ) → reached_within fs reads pages n j ≡ true → reached_within fs reads pages (suc j) j ≡ true
  within-fewer zero j is = cc
  within-fewer (suc n) j is =
      elim (is_or_not (meets pages (read_at reads j))) [
        | inl start ↦ or-in_left (meets pages (read_at reads j)) _ start
        | inr isnt ↦
            let some : IsSome (λ i. reached_within fs reads pages n i && leads_to fs reads i j) j =
            some-below (λ i. reached_within fs reads pages n i && leads_to fs reads i j) j (rw isnt at is) in
            let before : reached_within fs reads pages j some.at ≡ true =
            within-more (suc some.at) j some.at (let less = some.below in omega arith)
            (within-fewer n some.at
            (and-left (reached_within fs reads pages n some.at) (leads_to fs reads some.at j) some.is)) in
            let leads : leads_to fs reads some.at j ≡ true =
            and-right (reached_within fs reads pages n some.at) (leads_to fs reads some.at j) some.is in
            or-in_right (meets pages (read_at reads j)) _
            (below-some (λ i. reached_within fs reads pages j i && leads_to fs reads i j) j some.at some.below
            (rw (before, leads) refl))
      ]

  -- so one pass from the front finds which are reached
  pub reached-pass :
      (j : ℕ) → is_reached fs reads pages j
      ≡ (meets pages (read_at reads j) || any_below (λ i. is_reached fs reads pages i && leads_to fs reads i j) j)
  reached-pass j =
      ap (λ (b : Bool). meets pages (read_at reads j) || b)
      (any-like (λ i. reached_within fs reads pages j i && leads_to fs reads i j)
      (λ i. is_reached fs reads pages i && leads_to fs reads i j) j
      (λ i less.
      ap (λ (b : Bool). b && leads_to fs reads i j)
      (both-ways (reached_within fs reads pages j i) (is_reached fs reads pages i) (within-fewer j i)
      (within-more (suc i) j i (omega arith)))))
