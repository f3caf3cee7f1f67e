-- A step is at or before a giver exactly if it is at or before the last one.
use Rattle.std.proofs.Common.{◌≡◌, ◌≤◌, ℕ, zero, suc, Bool, true, false, ◌&&◌, ◌||◌, ltb, leb, cond, refl, sym, ◌∙◌, inl, inr, ◌⊎◌, arith}
use Rattle.std.proofs.lemmas.Bool.{cases_lt}
use Rattle.std.proofs.lemmas.Bool.Decides.{nat_tests}
use Rattle.history_spec.specs.Ancestors.{any_below}
use Rattle.history_spec.proofs.Lists.{is_or_not}
use Rattle.round_spec.specs.Reach.{last_below}

last-low : (test : ℕ → Bool) (n : ℕ) → last_below test n ≤ n
last-low test zero = omega arith
last-low test (suc n) = here (test n) (last-low test n)
  where
    here : (b : Bool) → last_below test n ≤ n → cond b (suc n) (last_below test n) ≤ suc n
    here true rest = omega arith
    here false rest = omega arith

pub last-tells : (test : ℕ → Bool) (w n : ℕ) → any_below (λ g. leb w g && test g) n ≡ ltb w (last_below test n)
last-tells test w zero = let isnt : ltb w 0 ≡ false = grind (arith, nat_tests) in sym isnt
last-tells test w (suc n) = here (is_or_not (test n)) (last-tells test w n)
  where
    here :
        (test n ≡ true) ⊎ (test n ≡ false) → any_below (λ g. leb w g && test g) n ≡ ltb w (last_below test n)
        → any_below (λ g. leb w g && test g) (suc n) ≡ ltb w (last_below test (suc n))
    here (inl is) rest =
        elim (cases_lt n w) [
          | inl past ↦
              let low = last-low test n in
              let one : leb w n ≡ false = grind (arith, nat_tests) in
              let two : ltb w (suc n) ≡ false = grind (arith, nat_tests) in
              let three : ltb w (last_below test n) ≡ false = grind (arith, nat_tests) in
              rw (one, is, two, rest) three
          | inr early ↦
              let one : leb w n ≡ true = grind (arith, nat_tests) in
              let two : ltb w (suc n) ≡ true = grind (arith, nat_tests) in
              rw (one, is, two) refl
        ]
    here (inr isnt) rest = rw isnt (or-none (leb w n) (any_below (λ g. leb w g && test g) n) ∙ rest)
      where
        or-none : (a b : Bool) → ((a && false) || b) ≡ b
        or-none true b = refl
        or-none false b = refl
