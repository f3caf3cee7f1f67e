-- The clock of a step determines whether all that must come before it are passed.
use Rattle.std.proofs.Common.{◌≡◌, ◌≢◌, ◌<◌, ◌≤◌, ◌+◌, ◌⊎◌, ◌↔◌, ℕ, zero, suc, Bool, true, false, ◌&&◌, ◌||◌, not, eqb, ltb, List, refl, ap, sym, ◌∙◌, inl, inr, arith}
use Rattle.std.proofs.lemmas.Bool.{cases_eq, cases_lt, eq-eqb, eqb-true}
use Rattle.std.proofs.lemmas.Bool.Decides.{nat_tests}
use Rattle.machine_spec.specs.Machine.{Machine, hart_of}
use Rattle.history_spec.specs.Facts.{Fact}
use Rattle.history_spec.specs.Before.{fact_at}
use Rattle.history_spec.specs.Ancestors.{count_below, is_ancestor, is_up_to, clock_at, number_at}
use Rattle.history_spec.proofs.Lists.{and-left, and-right, or-in_left, or-in_right, is_or_not}
use Rattle.history_spec.proofs.Clocks.{count-le, lt-bit, clock-tells}
use Rattle.history_spec.proofs.Places.{below-all}
use Rattle.round_spec.specs.Due.{has_exited, is_passed_at, are_passed_before}
use Rattle.round_spec.proofs.Placed.{all-below-of, not-or, not-or_gives, number-less}

record IsHit (p : ℕ → Bool) (m n : ℕ) : Type 0 where
  pub at : ℕ
  pub below : at < m
  pub is : p at ≡ true
  pub count : count_below p at ≡ n

count-hit : (p : ℕ → Bool) (m n : ℕ) → n < count_below p m → IsHit p m n
count-hit p zero n less = absurd (omega arith)
count-hit p (suc m) n less = here (is_or_not (p m)) (cases_lt n (count_below p m)) (λ early. count-hit p m n early)
  where
    here :
        (p m ≡ true) ⊎ (p m ≡ false) → (n < count_below p m) ⊎ (count_below p m ≤ n)
        → (n < count_below p m → IsHit p m n) → IsHit p (suc m) n
    here either (inl early) later =
        let hit = later early in
        record { at = hit.at; below = (let low = hit.below in omega arith); is = hit.is; count = hit.count }
    here (inl is) (inr late) later =
        record {
          at = m;
          below = omega arith;
          is = is;
          count = (let all : count_below p (suc m) ≡ 1 + count_below p m = (rw is refl) in omega arith);
        }
    here (inr isnt) (inr late) later =
        absurd (let all : count_below p (suc m) ≡ 0 + count_below p m = (rw isnt refl) in omega arith)

pub passed-clock :
    (fs : List Fact) (m : Machine) (j : ℕ)
    → (hart_of m (fact_at fs j).thread).number ≡ number_at fs j
    → are_passed_before fs m j ≡ true
    ↔ ((u : ℕ) → u ≢ (fact_at fs j).thread → (clock_at fs j u ≤ (hart_of m u).number) ⊎ (has_exited m u ≡ true))
passed-clock fs m j number = (to, from)
  where
    to :
        are_passed_before fs m j ≡ true → (u : ℕ) → u ≢ (fact_at fs j).thread
        → (clock_at fs j u ≤ (hart_of m u).number) ⊎ (has_exited m u ≡ true)
    to all u other =
        elim (cases_lt (hart_of m u).number (clock_at fs j u)) [
          | inr enough ↦ inl enough
          | inl fewer ↦
              let hit : IsHit (λ k. eqb (fact_at fs k).thread u && is_up_to fs j k) (suc j) (hart_of m u).number =
              count-hit (λ k. eqb (fact_at fs k).thread u && is_up_to fs j k) (suc j) (hart_of m u).number fewer in
              let thread : (fact_at fs hit.at).thread ≡ u =
              eqb-true (fact_at fs hit.at).thread u
              (and-left (eqb (fact_at fs hit.at).thread u) (is_up_to fs j hit.at) hit.is) in
              let up : is_up_to fs j hit.at ≡ true =
              and-right (eqb (fact_at fs hit.at).thread u) (is_up_to fs j hit.at) hit.is in
              let not_j : hit.at ≢ j = λ e. other (sym thread ∙ ap (λ (k : ℕ). (fact_at fs k).thread) e) in
              let isnt : eqb hit.at j ≡ false = grind (arith, nat_tests) in
              let ancestor : is_ancestor fs hit.at j ≡ true = rw isnt at up in
              let low = hit.below in
              let passed : is_passed_at fs m hit.at ≡ true =
              not-or_gives (is_ancestor fs hit.at j) (is_passed_at fs m hit.at)
              (below-all (λ a. not (is_ancestor fs a j) || is_passed_at fs m a) j hit.at all (omega arith)) ancestor in
              let least : count_below (λ k. eqb (fact_at fs k).thread u && is_up_to fs j k) hit.at
              ≤ number_at fs hit.at =
              count-le (λ k. eqb (fact_at fs k).thread u && is_up_to fs j k)
              (λ k. eqb (fact_at fs k).thread (fact_at fs hit.at).thread) hit.at
              (λ k less both.
              eq-eqb (fact_at fs k).thread (fact_at fs hit.at).thread
              (eqb-true (fact_at fs k).thread u (and-left (eqb (fact_at fs k).thread u) (is_up_to fs j k) both)
              ∙ sym thread)) in
              let count = hit.count in
              let unmade : ltb (number_at fs hit.at) (hart_of m (fact_at fs hit.at).thread).number ≡ false =
              (let same : (hart_of m (fact_at fs hit.at).thread).number ≡ (hart_of m u).number =
              ap (λ (t : ℕ). (hart_of m t).number) thread in grind (arith, nat_tests)) in
              inr (ap (has_exited m) (sym thread) ∙ (rw unmade at passed))
        ]

    from :
        ((u : ℕ) → u ≢ (fact_at fs j).thread → (clock_at fs j u ≤ (hart_of m u).number) ⊎ (has_exited m u ≡ true))
        → are_passed_before fs m j ≡ true
    from each =
        all-below-of (λ a. not (is_ancestor fs a j) || is_passed_at fs m a) j
        (λ a less.
        not-or (is_ancestor fs a j) (is_passed_at fs m a)
        (λ ancestor.
        elim (cases_eq (fact_at fs a).thread (fact_at fs j).thread) [
          | inl same ↦
              let early = number-less fs a j less same in
              let number_a : (hart_of m (fact_at fs a).thread).number ≡ number_at fs j =
              ap (λ (t : ℕ). (hart_of m t).number) same ∙ number in
              or-in_left (ltb (number_at fs a) (hart_of m (fact_at fs a).thread).number) _
              (lt-bit (number_at fs a) (hart_of m (fact_at fs a).thread).number (omega arith))
          | inr other ↦
              elim (each (fact_at fs a).thread other) [
                | inl enough ↦
                    let up : is_up_to fs j a ≡ true = or-in_right (eqb a j) (is_ancestor fs a j) ancestor in
                    let below = (clock-tells fs j a (omega arith)).0 up in
                    or-in_left (ltb (number_at fs a) (hart_of m (fact_at fs a).thread).number) _
                    (lt-bit (number_at fs a) (hart_of m (fact_at fs a).thread).number (omega arith))
                | inr gone ↦ or-in_right (ltb (number_at fs a) (hart_of m (fact_at fs a).thread).number) _ gone
              ]
        ]))
