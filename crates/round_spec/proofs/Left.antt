-- Remaining places: the first of them comes first, and as long as one remains, its thread can make a step.
use Rattle.std.proofs.Common.{◌≡◌, ◌≢◌, ◌<◌, ◌≤◌, ◌+◌, ℕ, zero, suc, Bool, true, false, ◌&&◌, eqb, cond, List, [], ◌∷◌, length, get_or, is_none, refl, ap, sym, ◌∙◌, inl, inr, ◌⊎◌, arith}
use Rattle.std.proofs.lemmas.Bool.{cases_eq}
use Rattle.std.proofs.lemmas.Bool.Decides.{nat_tests}
use Rattle.thunk_spec.specs.Record.{Record}
use Rattle.machine_spec.specs.declared.states.Status.{Status}
use Rattle.machine_spec.specs.declared.states.Status.TheVariants.{Ready, Blocked, Ended}
use Rattle.machine_spec.specs.Machine.{Machine, hart_of, is_ready, is_ended}
use Rattle.machine_spec.specs.Step.{apply, fits}
use Rattle.machine_spec.specs.Whole.{IsWhole, blocked_count}
use Rattle.history_spec.specs.History.{can_apply_from}
use Rattle.history_spec.proofs.Applying.{fits-can_step, apply-whole}
use Rattle.history_spec.specs.Facts.{ask_of, effect_of, starting}
use Rattle.history_spec.specs.Before.{is_in}
use Rattle.history_spec.proofs.Lists.{and-left, and-right, is_or_not}
use Rattle.history_spec.proofs.After.{unwoken, apply-at, apply-length}
use Rattle.history_spec.proofs.Alike.{untouched-after, fits-parts}
use Rattle.history_spec.proofs.Places.{left_from}
use Rattle.round_spec.proofs.Like.{record_at}
use Rattle.round_spec.proofs.Given.{starting-below}

-- a list that begins with an element
pub record HasHead {A : Type 0} (a : A) (xs : List A) : Type 0 where
  pub rest : List A
  pub is : xs ≡ a ∷ rest

-- the first place that hasn't come
pub left-head :
    {A : Type 0} → (d : A) (come : List ℕ) (look : ℕ → A) (j : ℕ) (xs : List A) (k : ℕ)
    → is_in j come ≡ false → k ≤ j → j < k + length xs
    → ((i : ℕ) → get_or xs i d ≡ look (k + i))
    → ((i : ℕ) → k ≤ i → i < j → is_in i come ≡ true)
    → HasHead (look j) (left_from k come xs)
left-head d come look j [] k isnt low high at came = absurd (omega arith)
left-head d come look j (x ∷ xs) k isnt low high at came =
    elim (cases_eq k j) [
      | inl same ↦
          let none : is_in k come ≡ false = rw same isnt in
          let x_is : x ≡ look j = at 0 ∙ ap look (omega arith) in
          record { rest = left_from (suc k) come xs; is = rw none (ap (λ (y : _). y ∷ left_from (suc k) come xs) x_is) }
      | inr other ↦
          let there : is_in k come ≡ true = came k (omega arith) (omega arith) in
          let next : HasHead (look j) (left_from (suc k) come xs) =
          left-head d come look j xs (suc k) isnt (omega arith) (omega arith) (λ i. at (suc i) ∙ ap look (omega arith))
          (λ i lo hi. came i (omega arith) hi) in
          record { rest = next.rest; is = rw there next.is }
    ]

-- the rest isn't empty while a place remains
pub left-full :
    {A : Type 0} → (come : List ℕ) (j : ℕ) (xs : List A) (k : ℕ) → is_in j come ≡ false → k ≤ j → j < k + length xs
    → left_from k come xs ≡ [] → ⊥
left-full come j [] k isnt low high none = absurd (omega arith)
left-full come j (x ∷ xs) k isnt low high none =
    here (λ above. left-full come j xs (suc k) isnt above (omega arith)) (is_in k come) refl none
  where
    here :
        (suc k ≤ j → left_from (suc k) come xs ≡ [] → ⊥)
        → (b : Bool) → is_in k come ≡ b → cond b (left_from (suc k) come xs) (x ∷ left_from (suc k) come xs) ≡ [] → ⊥
    here next true is h =
        elim (cases_eq k j) [
          | inl same ↦ (let there : is_in j come ≡ true = rw (← same) is in cc)
          | inr other ↦ next (omega arith) h
        ]
    here next false is h = cc

-- the first place that hasn't come
pub record IsFirstLeft (come : List ℕ) (n : ℕ) : Type 0 where
  pub at : ℕ
  pub below : at < n
  pub isnt : is_in at come ≡ false
  pub came : (i : ℕ) → i < at → is_in i come ≡ true

first-left : (come : List ℕ) (n : ℕ) → IsFirstLeft come n ⊎ ((i : ℕ) → i < n → is_in i come ≡ true)
first-left come zero = inr (λ i below. absurd (omega arith))
first-left come (suc n) =
    elim (first-left come n) [
      | inl first ↦ inl
          (record {
            at = first.at;
            below = (let below = first.below in omega arith);
            isnt = first.isnt;
            came =
                first.came;
          })
      | inr all ↦
          elim (is_or_not (is_in n come)) [
            | inl there ↦ inr (λ i below. elim (cases_eq i n) [
              | inl same ↦ ap (λ (k : ℕ). is_in k come) same ∙ there
              | inr other ↦ all i (omega arith)
            ])
            | inr none ↦ inl (record { at = n; below = omega arith; isnt = none; came = all })
          ]
    ]

pub some-left : (come : List ℕ) (n j : ℕ) → j < n → is_in j come ≡ false → IsFirstLeft come n
some-left come n j below isnt =
    elim (first-left come n) [
      | inl first ↦ first
      | inr all ↦ absurd (let there : is_in j come ≡ true = all j below in cc)
    ]

pub head-fits :
    (m : Machine) (r : Record) (rs : List Record) → HasHead r rs → can_apply_from m rs ≡ true → fits m r ≡ true
head-fits m r rs head can =
    let both : can_apply_from m (r ∷ head.rest) ≡ true = ap (can_apply_from m) (sym head.is) ∙ can in
    and-right (is_none m.ending) (fits m r)
    (and-left (is_none m.ending && fits m r) (can_apply_from (apply m r) head.rest) both)

pub full-going : (m : Machine) (rs : List Record) → (rs ≡ [] → ⊥) → can_apply_from m rs ≡ true → is_none m.ending ≡ true
full-going m [] full can = absurd (full refl)
full-going m (r ∷ rs) full can =
    and-left (is_none m.ending) (fits m r) (and-left (is_none m.ending && fits m r) (can_apply_from (apply m r) rs) can)

-- a thread that has ended has no remaining step

ended-count : (s : Status) → is_ended s ≡ true → blocked_count s ≡ 0
ended-count Ready is = cc
ended-count Blocked is = cc
ended-count (Ended v) is = refl

ready-ended : (s : Status) → is_ready s ≡ true → is_ended s ≡ true → ⊥
ready-ended Ready one two = cc
ready-ended Blocked one two = cc
ready-ended (Ended v) one two = cc

ended-stays :
    (m : Machine) (r : Record) (u : ℕ)
    → IsWhole m → fits m r ≡ true → u < length m.harts → is_ended (hart_of m u).status ≡ true
    → hart_of (apply m r) u ≡ hart_of m u
ended-stays m r u whole fit below ended =
    let ready : is_ready (hart_of m r.thread).status ≡ true = (fits-parts m r fit).ready in
    let other : u ≢ r.thread =
    λ e. ready-ended (hart_of m u).status (ap (λ (t : ℕ). is_ready (hart_of m t).status) e ∙ ready) ended in
    let own : eqb r.thread u ≡ false = grind (arith, nat_tests) in
    let quiet : is_in u (effect_of m r).woken ≡ false =
    unwoken m r.thread (ask_of r) u whole.tied ready other
    (whole.tied.blocked u ∙ ended-count (hart_of m u).status ended) in
    let old : is_in u (starting (length m.harts) (effect_of m r).created) ≡ false =
    starting-below (effect_of m r).created (length m.harts) u below in
    apply-at m r u whole.tied ready
    ∙ untouched-after (effect_of m r) (Rattle.thunk_spec.specs.Delta.masked m.memory r.kept.delta) r (length m.harts) u
    (hart_of m u) (rw (own, quiet, old) refl)

pub left-unended :
    (come : List ℕ) (look : ℕ → Record) (j : ℕ) (xs : List Record) (k : ℕ) (m : Machine)
    → is_in j come ≡ false → k ≤ j → j < k + length xs
    → ((i : ℕ) → record_at xs i ≡ look (k + i))
    → IsWhole m → can_apply_from m (left_from k come xs) ≡ true
    → (look j).thread < length m.harts → is_ended (hart_of m (look j).thread).status ≡ true → ⊥
left-unended come look j [] k m isnt low high at whole can known ended = absurd (omega arith)
left-unended come look j (x ∷ xs) k m isnt low high at whole can known ended =
    here (λ n above.
    left-unended come look j xs (suc k) n isnt above (omega arith) (λ i. at (suc i) ∙ ap look (omega arith)))
    (is_in k come) refl can
  where
    here :
        ((n : Machine) → suc k ≤ j → IsWhole n → can_apply_from n (left_from (suc k) come xs) ≡ true
        → (look j).thread < length n.harts → is_ended (hart_of n (look j).thread).status ≡ true → ⊥)
        → (b : Bool) → is_in k come ≡ b
        → can_apply_from m (cond b (left_from (suc k) come xs) (x ∷ left_from (suc k) come xs)) ≡ true → ⊥
    here next true is h =
        elim (cases_eq k j) [
          | inl same ↦ (let there : is_in j come ≡ true = rw (← same) is in cc)
          | inr other ↦ next m (omega arith) whole h known ended
        ]
    here next false is h =
        let first : (is_none m.ending && fits m x) ≡ true =
        and-left (is_none m.ending && fits m x) (can_apply_from (apply m x) (left_from (suc k) come xs)) h in
        let fit : fits m x ≡ true = and-right (is_none m.ending) (fits m x) first in
        elim (cases_eq k j) [
          | inl same ↦
              let x_is : x ≡ look j = at 0 ∙ ap look (omega arith) in
              ready-ended (hart_of m (look j).thread).status
              (ap (λ (r : Record). is_ready (hart_of m r.thread).status) (sym x_is) ∙ (fits-parts m x fit).ready) ended
          | inr other ↦
              let stays = ended-stays m x (look j).thread whole fit known ended in
              next (apply m x) (omega arith)
              (apply-whole m x whole (fits-can_step m x (and-left (is_none m.ending) (fits m x) first) fit))
              (and-right (is_none m.ending && fits m x) (can_apply_from (apply m x) (left_from (suc k) come xs)) h)
              (let more = apply-length m x in omega arith)
              (ap (λ (g : Rattle.machine_spec.specs.Machine.Hart). is_ended g.status) stays ∙ ended)
        ]
