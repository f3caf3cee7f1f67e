-- Along a whole round: each executed step is in each closed set, so it is reached.
use Rattle.std.proofs.Common.{◌≡◌, ◌<◌, ◌≤◌, ℕ, zero, suc, Bool, true, false, List, [], length, get_or, Some, ap, ap₂, sym, ◌∙◌, subst, inl, inr, arith}
use Rattle.std.proofs.lemmas.Bool.{cases_eq}
use Rattle.std.specs.List.{AllByRecursion}
use Rattle.thunk_spec.specs.Record.{Record}
use Rattle.machine_spec.specs.Machine.{hart_of}
use Rattle.machine_spec.specs.Setup.{Setup, first}
use Rattle.machine_spec.proofs.Beginning.{IsWhole-first}
use Rattle.history_spec.specs.History.{History, schedule_of, can_apply_from}
use Rattle.history_spec.proofs.Numbers.{first-number}
use Rattle.history_spec.proofs.Truth.{records-can_apply}
use Rattle.round_spec.specs.Marks.{fits_next}
use Rattle.history_spec.specs.Facts.{facts, facts_from, reads_in}
use Rattle.history_spec.specs.Before.{is_in, fact_at}
use Rattle.history_spec.specs.Ancestors.{number_at}
use Rattle.history_spec.proofs.Lists.{is_or_not}
use Rattle.history_spec.proofs.Alike.{IsReading}
use Rattle.history_spec.proofs.Honest.{honest-reading}
use Rattle.history_spec.proofs.Places.{none-came}
use Rattle.round_spec.specs.Reach.{read_at, reads_of, changed, is_reached, IsClosedSet}
use Rattle.round_spec.specs.Due.{is_step_at}
use Rattle.round_spec.proofs.Like.{machine_at}
use Rattle.round_spec.proofs.Like.{record_at, IsLikeOld}
use Rattle.round_spec.proofs.Least.{reached-closed}
use Rattle.round_spec.proofs.Placed.{facts-length}
use Rattle.round_spec.proofs.PlacedInRounds.{thread-is, number-is}
use Rattle.round_spec.proofs.Starts.{unchanged-start, near-first}
use Rattle.round_spec.proofs.Spread.{among_steps, among-of, among-at, of-step, meets-of, tainted}
use Rattle.round_spec.proofs.Lockstep.{IsAt, IsNextStep, IsTurn, next-step, uncome, came, turn}
use Rattle.round_spec.proofs.Advance.{slots-at, executed-among, advance}

module _
    (h : History) (setup : Setup) (schedule : List ℕ) (point : ℕ → ℕ) (like : IsLikeOld h setup schedule point)
    (among : ℕ → Bool) (closed : IsClosedSet (facts h) (reads_of h) (changed h.setup setup) among) where
  -- the two machines that the setups start as
  clean-first :
      (p : ℕ) → among_steps (facts h) among 0 0 ≡ false → is_in p (reads_in h.records 0 0) ≡ true
      → is_in p (changed h.setup setup) ≡ false
  clean-first p out read =
      elim (is_or_not (is_in p (changed h.setup setup))) [
        | inr none ↦ none
        | inl start ↦
            absurd (let is : among_steps (facts h) among 0 0 ≡ true =
            among-of (facts h) among 0 0
            (λ j below thread number.
            closed.start j below
            (meets-of p (changed h.setup setup) (read_at (reads_of h) j) start
            (ap (is_in p) (sym (slots-at h like.honest j (let same = facts-length h in omega arith)))
            ∙ ap₂ (λ (t k : ℕ). is_in p (reads_in h.records t k)) thread number ∙ read))) in
            cc)
      ]

  at-first : IsAt h setup schedule among 0
  at-first =
      record {
        come = [];
        shut = λ a k less there is. cc;
        made =
            record {
              to = λ j below there. cc;
              from = λ j below less. absurd (let none = first-number setup (fact_at (facts h) j).thread in omega arith);
            };
        old = first h.setup;
        whole = IsWhole-first h.setup like.honest.valid;
        can =
            ap (can_apply_from (first h.setup)) (none-came 0 h.records)
            ∙ ap (can_apply_from (first h.setup)) like.honest.recorded
            ∙ records-can_apply (first h.setup) (schedule_of h)
            (IsWhole-first h.setup like.honest.valid) like.honest.permitted;
        reading =
            subst (λ (rs : List Record). AllByRecursion (IsReading (reads_in h.records) (first h.setup).frame) rs)
            (sym (none-came 0 h.records))
            (honest-reading h like.honest);
        reported =
            ap (facts_from (reads_in h.records) (first h.setup)) (none-came 0 h.records) ∙ sym (none-came 0 (facts h));
        near =
            near-first (reads_in h.records) (among_steps (facts h) among)
            (tainted (facts h) (changed h.setup setup) among []) h.setup setup like.program like.fuel
            (λ p out. unchanged-start h.setup setup p like.program out)
            clean-first;
      }

  still-left :
      (i : ℕ) (at : IsAt h setup schedule among i) (next : IsNextStep h setup schedule i)
      → is_in next.at at.come ≡ false
  still-left i at next =
      uncome h setup schedule point like among i at next.at
      (let same = facts-length h in let low = next.below in omega arith)
      (let number : (hart_of (machine_at setup schedule i) (fact_at (facts h) next.at).thread).number
      ≡ number_at (facts h) next.at =
      ap (λ (t : ℕ). (hart_of (machine_at setup schedule i) t).number) next.of_thread ∙ sym next.of_number in
      omega arith)

  turn-at :
      (i : ℕ) → i < length schedule → (at : IsAt h setup schedule among i) → IsAt h setup schedule among (point i)
      → (next : IsNextStep h setup schedule i)
      → IsTurn h setup schedule point like among i at next.at
  turn-at i below at at_p next =
      turn h setup schedule point like among i at next.at next.below (still-left i at next)
      (came h setup schedule point like among i (point i) below (like.picked i below) at_p next at)

  -- at each entry, and at all before it
  all-at-once : (i : ℕ) → i < length schedule → (k : ℕ) → k ≤ i → IsAt h setup schedule among k
  all-at-once zero below k low =
      subst (λ (n : ℕ). IsAt h setup schedule among n) (let same : 0 ≡ k = omega arith in same) at-first
  all-at-once (suc i) below k low =
      let earlier = all-at-once i (omega arith) in
      elim (cases_eq (suc i) k) [
        | inl same ↦
            let at : IsAt h setup schedule among i = earlier i (omega arith) in
            let low_i : i < length schedule = omega arith in
            let next : IsNextStep h setup schedule i = next-step h setup schedule point like among i low_i in
            let at_p : IsAt h setup schedule among (point i) = earlier (point i) (like.picked i low_i).early in
            subst (λ (n : ℕ). IsAt h setup schedule among n) same
            (advance h setup schedule point like among i low_i at next (turn-at i low_i at at_p next) closed below
            (next-step h setup schedule point like among (suc i) below))
        | inr other ↦ earlier k (omega arith)
      ]

  pub executed-in :
      (i j : ℕ) → i < length schedule
      → fits_next (Some h) (machine_at setup schedule i) (get_or schedule i 0) ≡ false
      → j < length (facts h)
      → is_step_at (facts h) (get_or schedule i 0)
      (hart_of (machine_at setup schedule i) (get_or schedule i 0)).number j ≡ true
      → among j ≡ true
  executed-in i j below unfit low step =
      let all = all-at-once i below in
      let at : IsAt h setup schedule among i = all i (omega arith) in
      let at_p : IsAt h setup schedule among (point i) = all (point i) (like.picked i below).early in
      let next : IsNextStep h setup schedule i = next-step h setup schedule point like among i below in
      let is = executed-among h setup schedule point like among i below at next (turn-at i below at at_p next) unfit in
      let of = of-step (facts h) (get_or schedule i 0)
      (hart_of (machine_at setup schedule i) (get_or schedule i 0)).number j step in
      among-at (facts h) among (record_at h.records next.at).thread (record_at h.records next.at).number j is low
      (of.0 ∙ sym next.of_thread ∙ thread-is h like.honest next.at)
      (of.1 ∙ sym next.of_number ∙ sym (number-is h like.honest next.at next.below))

pub executed-reached :
    (h : History) (setup : Setup) (schedule : List ℕ) (point : ℕ → ℕ) (i j : ℕ)
    → IsLikeOld h setup schedule point → i < length schedule
    → fits_next (Some h) (machine_at setup schedule i) (get_or schedule i 0) ≡ false
    → j < length (facts h)
    → is_step_at (facts h) (get_or schedule i 0) (hart_of (machine_at setup schedule i) (get_or schedule i 0)).number j
    ≡ true
    → is_reached (facts h) (reads_of h) (changed h.setup setup) j ≡ true
executed-reached h setup schedule point i j like below unfit low step =
    executed-in h setup schedule point like (is_reached (facts h) (reads_of h) (changed h.setup setup))
    (reached-closed (facts h) (reads_of h) (changed h.setup setup))
    i j below unfit low step
