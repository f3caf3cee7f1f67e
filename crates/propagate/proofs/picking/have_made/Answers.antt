-- Answers to the goals that the check of `have_made` leaves open.
use Rattle.std.proofs.Common.{◌≡◌, ◌≢◌, ◌<◌, ◌≤◌, ◌↔◌, ℕ, Bool, true, List, length, leb, set, slice_index, Decides, ap, ap₂, sym, ◌∙◌, subst, arith, inl, inr}
use Rattle.std.proofs.lemmas.Bool.{le-leb, leb-true, cases_eq, cases_lt}
use Rattle.std.proofs.lemmas.List.{get_or_past, get_or-set_same, get_or-set_other}
use Rattle.machine_spec.specs.Machine.{Machine}
use Rattle.propagate.specs.Choosing.{has_made, HaveMade}
use Rattle.propagate.proofs.picking.have_made.Goals as goal
use Rattle.propagate.proofs.picking.have_made.Goals.{then-from-lt-THREADS, else-from-lt-THREADS}

-- numbers that are those of the steps made, except at one thread, where they are enough
covers-made :
    (m : Machine) (t : ℕ) (clock found made : List ℕ) (b : Bool)
    → length clock ≡ 32
    → ((u : ℕ) → u < 32 → leb (slice_index clock u) (slice_index found u) ≡ has_made m u (slice_index clock u))
    → ((u : ℕ) → u ≢ t → slice_index made u ≡ slice_index found u)
    → slice_index clock t ≤ slice_index made t
    → (b ≡ true) ↔ ((u : ℕ) → slice_index clock u ≤ slice_index made u)
    → Decides b (HaveMade m t clock)
covers-made m t clock found made b long is same enough covers = (
  λ yes. record {
    each = λ u below other.
        sym (is u below)
        ∙ le-leb (slice_index clock u) (slice_index found u)
        (subst (λ n. slice_index clock u ≤ n) (same u other) (covers.0 yes u));
  },
  λ have. covers.1 (λ u.
      elim (cases_eq u t) [
        | inl own ↦ subst (λ v. slice_index clock v ≤ slice_index made v) (sym own) enough
        | inr other ↦ elim (cases_lt u 32) [
          | inl below ↦
              subst (λ n. slice_index clock u ≤ n) (sym (same u other))
              (leb-true (slice_index clock u) (slice_index found u) (is u below ∙ have.each u below other))
          | inr past ↦
              let none : slice_index clock u ≡ 0 = get_or_past clock u 0 (omega arith) in omega arith
        ]
      ]),
)

pub returns : goal.returns
returns c =
    let clock = c.args.clock.now in
    let found = c.made_for-made.result in
    let made = c.if-from-lt-THREADS.made in
    let t = c.args.t in
    let covers : (c.covers.result ≡ true) ↔ ((u : ℕ) → slice_index clock u ≤ slice_index made u) =
    subst (λ (l : List ℕ). (c.covers.result ≡ true) ↔ ((u : ℕ) → slice_index clock u ≤ slice_index l u))
    c.new.ensures c.covers.ensures.covers in
    let long = c.covers.ensures.count in
    elim c.if-from-lt-THREADS.branch [
      | then-from-lt-THREADS v ↦
          let is : made ≡ set found t (slice_index clock t) =
          v.made-is ∙ ap₂ (set found) v.from-then-from-lt-THREADS.ensures v.count.ensures in
          let below : t < length found = omega (arith, c.made_for-made.ensures.long, v.if-from-lt-THREADS.true, c.from.ensures) in
          let own : slice_index made t ≡ slice_index clock t =
          ap (λ (l : List ℕ). slice_index l t) is ∙ get_or-set_same found t (slice_index clock t) 0 below in
          covers-made c.args.core.now t clock found made c.covers.result long c.made_for-made.ensures.made
          (λ u other. ap (λ (l : List ℕ). slice_index l u) is ∙ get_or-set_other found t u (slice_index clock t) 0 other)
          (omega arith) covers
      | else-from-lt-THREADS v ↦
          let none : slice_index clock t ≡ 0 =
          get_or_past clock t 0 (omega (arith, long, v.if-from-lt-THREADS.false, c.from.ensures)) in
          covers-made c.args.core.now t clock found made c.covers.result long c.made_for-made.ensures.made
          (λ u other. ap (λ (l : List ℕ). slice_index l u) v.made-is) (omega arith) covers
    ]
