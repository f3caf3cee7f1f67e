-- Clocks to which another is joined, one key after the other.
use Rattle.std.proofs.Common.{◌≡◌, ◌≢◌, ◌<◌, ◌+◌, ℕ, Bool, true, false, ◌||◌, ◌⊎◌, eqb, List, length, take, slice_index, get_or, refl, ap, sym, ◌∙◌, subst, inl, inr, arith}
use Rattle.std.proofs.lemmas.List.Folds.{list_any_more}
use Rattle.std.proofs.lemmas.Bool.{cases_eq, eq-eqb, ne_eqb}
use Rattle.history_spec.specs.Before.{is_in}
use Rattle.history_spec.proofs.Lists.{or-left, or-right, is_or_not}
use Rattle.depend_graph.specs.Clocks.{IsLargerOf}

-- A clock was joined to those of some keys that have one; the clocks of the other keys are as they were.
pub record IsAdded (has : ℕ → Type 0) (before after : ℕ → List ℕ) (clock : List ℕ) (keys : List ℕ) : Type 0 where
  pub at : (k : ℕ) → has k → is_in k keys ≡ true → IsLargerOf (after k) (before k) clock
  pub others : (k : ℕ) → is_in k keys ≡ false → after k ≡ before k

or-false : (a b : Bool) → b ≡ false → (a || b) ≡ true → a ≡ true
or-false true b no_b is = refl
or-false false b no_b is = cc

pub added-more :
    (has : ℕ → Type 0) (before now after : ℕ → List ℕ) (clock keys : List ℕ) (i : ℕ)
    → i < length keys
    → IsAdded has before now clock (take i keys)
    → (has (get_or keys i 0) → IsLargerOf (after (get_or keys i 0)) (now (get_or keys i 0)) clock)
    → ((k : ℕ) → k ≢ get_or keys i 0 → after k ≡ now k)
    → IsAdded has before after clock (take (i + 1) keys)
added-more has before now after clock keys i below done at others =
    record {
      at = λ k there is. at_key k there is (cases_eq (get_or keys i 0) k) (is_or_not (is_in k (take i keys)));
      others =
          λ k isnt.
          let split : (is_in k (take i keys) || eqb (get_or keys i 0) k) ≡ false =
          sym (list_any_more (λ n. eqb n k) keys i 0 below) ∙ isnt in
          let earlier = or-left (is_in k (take i keys)) (eqb (get_or keys i 0) k) split in
          let apart = or-right (is_in k (take i keys)) (eqb (get_or keys i 0) k) split in
          let other : k ≢ get_or keys i 0 =
          λ same. (let hit : eqb (get_or keys i 0) k ≡ true = eq-eqb (get_or keys i 0) k (sym same) in cc) in
          others k other ∙ done.others k earlier;
    }
  where
    at_key :
        (k : ℕ) → has k → is_in k (take (i + 1) keys) ≡ true → (get_or keys i 0 ≡ k) ⊎ (get_or keys i 0 ≢ k)
        → (is_in k (take i keys) ≡ true) ⊎ (is_in k (take i keys) ≡ false)
        → IsLargerOf (after k) (before k) clock
    at_key k there is (inl same) (inl earlier) =
        λ t.
        let old = done.at k there earlier t in
        let new = subst (λ (x : ℕ). has x → IsLargerOf (after x) (now x) clock) same at there t in
        omega arith
    at_key k there is (inl same) (inr first) =
        λ t.
        let old = ap (λ c. slice_index c t) (done.others k first) in
        let new = subst (λ (x : ℕ). has x → IsLargerOf (after x) (now x) clock) same at there t in
        omega arith
    at_key k there is (inr other) earlier =
        let apart : eqb (get_or keys i 0) k ≡ false = ne_eqb (get_or keys i 0) k other in
        let split : (is_in k (take i keys) || eqb (get_or keys i 0) k) ≡ true =
        sym (list_any_more (λ n. eqb n k) keys i 0 below) ∙ is in
        let was : is_in k (take i keys) ≡ true =
        or-false (is_in k (take i keys)) (eqb (get_or keys i 0) k) apart split in
        let kept = others k (λ same. other (sym same)) in
        λ t. (let old = done.at k there was t in let new = ap (λ c. slice_index c t) kept in omega arith)
