-- A round and the old history, applied along the round's schedule.
use Rattle.std.proofs.Common.{◌≡◌, ◌<◌, ◌≤◌, ◌+◌, ℕ, Bool, true, false, ◌&&◌, ◌||◌, not, eqb, ltb, List, ◌∷◌, length, get_or, Option, Some, None, is_none, refl, ap, ap₂, sym, ◌∙◌, subst, inl, inr, arith}
use Rattle.std.proofs.lemmas.Bool.{cases_eq}
use Rattle.std.proofs.lemmas.Bool.Decides.{nat_tests}
use Rattle.std.specs.List.{AllByRecursion}
use Rattle.thunk_spec.specs.Record.{Record}
use Rattle.machine_spec.specs.Machine.{Hart, Machine, hart_of, is_ready, is_ended}
use Rattle.machine_spec.specs.Step.{apply, fits}
use Rattle.machine_spec.specs.Setup.{Setup}
use Rattle.machine_spec.specs.Whole.{IsWhole}
use Rattle.history_spec.specs.History.{History, can_apply_from}
use Rattle.round_spec.specs.Marks.{record_for, is_fitting, fits_next}
use Rattle.round_spec.specs.Due.{has_exited}
use Rattle.history_spec.specs.Facts.{Fact, facts, facts_from, fact_of, reads_in}
use Rattle.history_spec.specs.Before.{is_in, no_fact, fact_at, all_below, before_at}
use Rattle.history_spec.specs.Keeping.{moved, fact_thread, record_thread, may_come}
use Rattle.history_spec.specs.Ancestors.{number_at, is_ancestor, reaches}
use Rattle.history_spec.proofs.Lists.{and-left, and-right, or-in_left, or-in_right, is_or_not}
use Rattle.history_spec.proofs.Alike.{IsReading, fits-parts}
use Rattle.history_spec.proofs.Every.{IsFront, fit-facts, front}
use Rattle.history_spec.proofs.Places.{left_from, IsNext, walk, below-all, same-thread, IsClosed, free-at}
use Rattle.history_spec.proofs.Clocks.{bounded, link, lt-bit, bit-lt}
use Rattle.history_spec.proofs.Near.{plain, IsNear}
use Rattle.round_spec.specs.Reach.{changed}
use Rattle.round_spec.specs.Due.{is_passed_at, is_step_at, is_due_by}
use Rattle.round_spec.proofs.Like.{machine_at, IsTimely}
use Rattle.round_spec.proofs.Like.{record_at, IsLikeOld}
use Rattle.round_spec.proofs.Placed.{no_record}
use Rattle.round_spec.proofs.Placed.{number-same, facts-length}
use Rattle.history_spec.proofs.Arranged.{front-at}
use Rattle.round_spec.proofs.PlacedInRounds.{thread-is, number-is, found-place, IsMade}
use Rattle.round_spec.proofs.Given.{given_of, ahead_free, given-free, ahead-at}
use Rattle.round_spec.proofs.Left.{left-head, IsFirstLeft, some-left, head-fits, left-unended}
use Rattle.round_spec.proofs.Along.{number-grows}
use Rattle.round_spec.proofs.Placed.{all-below-of, not-or, not-or_gives}
use Rattle.round_spec.proofs.Spread.{among_steps, step-at, of-step, tainted}

-- what holds before an entry: the set of steps that have come has all that must come before them; the old machine after
-- these; and that the round's machine is near it
--
pub record IsAt (h : History) (setup : Setup) (schedule : List ℕ) (among : ℕ → Bool) (i : ℕ) : Type 0 where
  pub come : List ℕ
  pub shut : IsClosed (facts h) come
  pub made : IsMade (facts h) come (λ u. (hart_of (machine_at setup schedule i) u).number)
  pub old : Machine
  pub whole : IsWhole old
  pub can : can_apply_from old (left_from 0 come h.records) ≡ true
  pub reading : AllByRecursion (IsReading (reads_in h.records) old.frame) (left_from 0 come h.records)
  pub reported : facts_from (reads_in h.records) old (left_from 0 come h.records) ≡ left_from 0 come (facts h)
  pub near :
      IsNear (reads_in h.records) (among_steps (facts h) among)
      (tainted (facts h) (changed h.setup setup) among come) old (machine_at setup schedule i)

-- the old step of an entry
pub record IsNextStep (h : History) (setup : Setup) (schedule : List ℕ) (i : ℕ) : Type 0 where
  pub at : ℕ
  pub below : at < length h.records
  pub of_thread : (fact_at (facts h) at).thread ≡ get_or schedule i 0
  pub of_number : number_at (facts h) at ≡ (hart_of (machine_at setup schedule i) (get_or schedule i 0)).number
  pub found : record_for (Some h) (machine_at setup schedule i) (get_or schedule i 0) ≡ Some (record_at h.records at)

module _
    (h : History) (setup : Setup) (schedule : List ℕ) (point : ℕ → ℕ) (like : IsLikeOld h setup schedule point)
    (among : ℕ → Bool) where
  pub next-step : (i : ℕ) → i < length schedule → IsNextStep h setup schedule i
  next-step i below = here (fits_next (Some h) (machine_at setup schedule i) (get_or schedule i 0)) refl
    where
      of-found :
          (r : Record) → record_for (Some h) (machine_at setup schedule i) (get_or schedule i 0) ≡ Some r
          → IsNextStep h setup schedule i
      of-found r there =
          let place =
          found-place h like.honest (get_or schedule i 0)
          (hart_of (machine_at setup schedule i) (get_or schedule i 0)).number r there in
          record {
            at = place.at;
            below = place.below;
            of_thread = place.of_thread;
            of_number = place.of_number;
            found = there ∙ ap (λ (x : Record). Some x) (sym place.is);
          }

      fitting :
          (o : Option Record) → record_for (Some h) (machine_at setup schedule i) (get_or schedule i 0) ≡ o
          → is_fitting (machine_at setup schedule i) o ≡ true → IsNextStep h setup schedule i
      fitting None eq is = cc
      fitting (Some r) eq is = of-found r eq

      here :
          (b : Bool) → fits_next (Some h) (machine_at setup schedule i) (get_or schedule i 0) ≡ b
          → IsNextStep h setup schedule i
      here false none = let works = like.works i below none in of-found works.old works.there
      here true is = fitting (record_for (Some h) (machine_at setup schedule i) (get_or schedule i 0)) refl is

  at_fact : (i : ℕ) → get_or (facts h) i no_fact ≡ fact_at (facts h) (0 + i)
  at_fact i = ap (fact_at (facts h)) (omega arith)

  at_record : (i : ℕ) → record_at h.records i ≡ record_at h.records (0 + i)
  at_record i = ap (record_at h.records) (omega arith)

  pub uncome :
      (i : ℕ) (at : IsAt h setup schedule among i) (j : ℕ) → j < length (facts h)
      → (hart_of (machine_at setup schedule i) (fact_at (facts h) j).thread).number ≤ number_at (facts h) j
      → is_in j at.come ≡ false
  uncome i at j below late =
      elim (is_or_not (is_in j at.come)) [
        | inl there ↦ absurd (let less = at.made.to j below there in omega arith)
        | inr none ↦ none
      ]

  -- the first remaining step is due, so the thread that was picked was due
  module _ (i p : ℕ) (below : i < length schedule) (picked : IsTimely h setup schedule i p)
      (at_p : IsAt h setup schedule among p) (next : IsNextStep h setup schedule i) where
    below_fs : next.at < length (facts h)
    below_fs = let same = facts-length h in let less = next.below in omega arith

    uncome_p : is_in next.at at_p.come ≡ false
    uncome_p =
        uncome p at_p next.at below_fs
        (let number : (hart_of (machine_at setup schedule p) (fact_at (facts h) next.at).thread).number
        ≡ number_at (facts h) next.at =
        ap (λ (t : ℕ). (hart_of (machine_at setup schedule p) t).number) next.of_thread ∙ picked.number
        ∙ sym next.of_number in
        omega arith)

    left : IsFirstLeft at_p.come (length (facts h))
    left = some-left at_p.come (length (facts h)) next.at below_fs uncome_p

    left_below : left.at < length h.records
    left_below = let same = facts-length h in let less = left.below in omega arith

    left_fits : fits at_p.old (record_at h.records left.at) ≡ true
    left_fits =
        head-fits at_p.old (record_at h.records left.at) (left_from 0 at_p.come h.records)
        (left-head no_record at_p.come (record_at h.records) left.at h.records 0 left.isnt (omega arith)
        (let less = left_below in omega arith) at_record (λ k low less. left.came k less))
        at_p.can

    left_thread : (fact_at (facts h) left.at).thread ≡ (record_at h.records left.at).thread
    left_thread = thread-is h like.honest left.at

    left_same :
        plain (hart_of (machine_at setup schedule p) (fact_at (facts h) left.at).thread)
        ≡ plain (hart_of at_p.old (record_at h.records left.at).thread)
    left_same =
        at_p.near.harts (fact_at (facts h) left.at).thread ∙ ap (λ (t : ℕ). plain (hart_of at_p.old t)) left_thread

    left_ready : is_ready (hart_of (machine_at setup schedule p) (fact_at (facts h) left.at).thread).status ≡ true
    left_ready =
        ap (λ (g : Hart). is_ready g.status) left_same
        ∙ (fits-parts at_p.old (record_at h.records left.at) left_fits).ready

    left_number :
        (hart_of (machine_at setup schedule p) (fact_at (facts h) left.at).thread).number ≡ number_at (facts h) left.at
    left_number =
        ap (λ (g : Hart). g.number) left_same ∙ sym (fits-parts at_p.old (record_at h.records left.at) left_fits).number
        ∙ number-is h like.honest left.at left_below

    left_due : is_due_by (facts h) (machine_at setup schedule p) (fact_at (facts h) left.at).thread ≡ true
    left_due =
        all-below-of
        (λ j. not
        (is_step_at (facts h) (fact_at (facts h) left.at).thread
        (hart_of (machine_at setup schedule p) (fact_at (facts h) left.at).thread).number j)
        || all_below (λ a. not (is_ancestor (facts h) a j) || is_passed_at (facts h) (machine_at setup schedule p) a) j)
        (length (facts h))
        (λ j less.
        not-or (is_step_at (facts h) (fact_at (facts h) left.at).thread
        (hart_of (machine_at setup schedule p) (fact_at (facts h) left.at).thread).number j) _
        (λ is.
        let of = of-step (facts h) (fact_at (facts h) left.at).thread
        (hart_of (machine_at setup schedule p) (fact_at (facts h) left.at).thread).number j is in
        let same : j ≡ left.at = number-same (facts h) j left.at of.0 (of.1 ∙ left_number) in
        all-below-of (λ a. not (is_ancestor (facts h) a j) || is_passed_at (facts h) (machine_at setup schedule p) a) j
        (λ a low.
        let early : a < left.at = omega arith in
        let made = at_p.made.to a (let high = left.below in omega arith) (left.came a early) in
        let bit =
        lt-bit (number_at (facts h) a)
        (hart_of (machine_at setup schedule p) (fact_at (facts h) a).thread).number made in
        or-in_right (not (is_ancestor (facts h) a j)) (is_passed_at (facts h) (machine_at setup schedule p) a)
        (or-in_left
        (ltb (number_at (facts h) a) (hart_of (machine_at setup schedule p) (fact_at (facts h) a).thread).number) _
        bit))))

    due : is_due_by (facts h) (machine_at setup schedule p) (get_or schedule i 0) ≡ true
    due = picked.due (fact_at (facts h) left.at).thread left_ready left_due

    passed :
        (k : ℕ) → k < next.at → before_at (facts h) k next.at ≡ true
        → is_passed_at (facts h) (machine_at setup schedule p) k ≡ true
    passed k less is =
        let all =
        not-or_gives
        (is_step_at (facts h) (get_or schedule i 0)
        (hart_of (machine_at setup schedule p) (get_or schedule i 0)).number next.at)
        (all_below
        (λ a. not (is_ancestor (facts h) a next.at) || is_passed_at (facts h) (machine_at setup schedule p) a) next.at)
        (below-all
        (λ j. not
        (is_step_at (facts h) (get_or schedule i 0)
        (hart_of (machine_at setup schedule p) (get_or schedule i 0)).number j)
        || all_below (λ a. not (is_ancestor (facts h) a j) || is_passed_at (facts h) (machine_at setup schedule p) a) j)
        (length (facts h)) next.at due below_fs)
        (step-at (facts h) (get_or schedule i 0)
        (hart_of (machine_at setup schedule p) (get_or schedule i 0)).number next.at next.of_thread
        (next.of_number ∙ sym picked.number)) in
        let bit : ltb k next.at ≡ true = lt-bit k next.at less in
        let chain : reaches (facts h) next.at k next.at ≡ true =
        bounded (facts h) 1 k next.at less (link (facts h) 0 k next.at is) in
        not-or_gives (is_ancestor (facts h) k next.at) (is_passed_at (facts h) (machine_at setup schedule p) k)
        (below-all
        (λ a. not (is_ancestor (facts h) a next.at) || is_passed_at (facts h) (machine_at setup schedule p) a) next.at k
        all less)
        (rw (bit, chain) refl)

    -- all that must come before it has come
    pub came :
        (at : IsAt h setup schedule among i) → (k : ℕ) → k < next.at → before_at (facts h) k next.at ≡ true
        → is_in k at.come ≡ true
    came at k less is =
        let below_k : k < length (facts h) = (let high = below_fs in omega arith) in
        let grows =
        number-grows setup schedule like.valid like.permitted p i (fact_at (facts h) k).thread picked.early
        (omega arith) in
        elim (is_or_not
        (ltb (number_at (facts h) k) (hart_of (machine_at setup schedule p) (fact_at (facts h) k).thread).number)) [
          | inl made ↦
              at.made.from k below_k
              (let early =
              bit-lt (number_at (facts h) k)
              (hart_of (machine_at setup schedule p) (fact_at (facts h) k).thread).number made in omega arith)
          | inr unmade ↦
              let gone : has_exited (machine_at setup schedule p) (fact_at (facts h) k).thread ≡ true =
              (let pass = passed k less is in rw unmade at pass) in
              let known : (fact_at (facts h) k).thread < length (machine_at setup schedule p).harts =
              bit-lt (fact_at (facts h) k).thread (length (machine_at setup schedule p).harts)
              (and-left (ltb (fact_at (facts h) k).thread (length (machine_at setup schedule p).harts)) _ gone) in
              let ended : is_ended (hart_of (machine_at setup schedule p) (fact_at (facts h) k).thread).status ≡ true =
              and-right (ltb (fact_at (facts h) k).thread (length (machine_at setup schedule p).harts)) _ gone in
              elim (is_or_not (is_in k at_p.come)) [
                | inl there ↦ at.made.from k below_k (let early = at_p.made.to k below_k there in omega arith)
                | inr none ↦
                    absurd (left-unended at_p.come (record_at h.records) k h.records 0 at_p.old none (omega arith)
                    (let same = facts-length h in omega arith) at_record at_p.whole at_p.can
                    (let same = thread-is h like.honest k in let count = at_p.near.count in omega arith)
                    (ap (λ (t : ℕ). is_ended (hart_of at_p.old t).status) (sym (thread-is h like.honest k))
                    ∙ ap (λ (g : Hart). is_ended g.status) (sym (at_p.near.harts (fact_at (facts h) k).thread))
                    ∙ ended))
              ]
        ]

  -- the entry's old step is the next of the remaining steps
  pub record IsTurn (i : ℕ) (at : IsAt h setup schedule among i) (j : ℕ) : Type 0 where
    pub isnt : is_in j at.come ≡ false
    pub came_all : (k : ℕ) → k < j → before_at (facts h) k j ≡ true → is_in k at.come ≡ true
    pub ahead :
        (k : ℕ) → k < j → is_in k at.come ≡ false
        → is_in (fact_at (facts h) k).thread (fact_at (facts h) j).given ≡ false
    pub none : is_none at.old.ending ≡ true
    pub fit : fits at.old (record_at h.records j) ≡ true
    pub later : can_apply_from (apply at.old (record_at h.records j)) (left_from 0 (j ∷ at.come) h.records) ≡ true
    pub fact : fact_of (reads_in h.records) at.old (record_at h.records j) ≡ fact_at (facts h) j
    pub reported_next :
        facts_from (reads_in h.records) (apply at.old (record_at h.records j)) (left_from 0 (j ∷ at.come) h.records)
        ≡ left_from 0 (j ∷ at.come) (facts h)
    pub reading_next :
        AllByRecursion (IsReading (reads_in h.records) at.old.frame) (left_from 0 (j ∷ at.come) h.records)

  module _ (i : ℕ) (at : IsAt h setup schedule among i) (j : ℕ) (below : j < length h.records)
      (isnt : is_in j at.come ≡ false)
      (came_all : (k : ℕ) → k < j → before_at (facts h) k j ≡ true → is_in k at.come ≡ true) where
    below_facts : j < 0 + length (facts h)
    below_facts = let same = facts-length h in omega arith

    apart :
        (k : ℕ) → is_in k at.come ≡ false → k < j
        → eqb (fact_at (facts h) k).thread (fact_at (facts h) j).thread ≡ false
    apart k none less =
        elim (cases_eq (fact_at (facts h) k).thread (fact_at (facts h) j).thread) [
          | inl same ↦ absurd (let there = came_all k less (same-thread (facts h) k j same) in cc)
          | inr other ↦ grind (arith, nat_tests)
        ]

    walked :
        IsNext (fact_at (facts h) j).thread (left_from 0 at.come (facts h)) (fact_at (facts h) j)
        (left_from 0 (j ∷ at.come) (facts h))
    walked =
        walk at.come (fact_at (facts h)) j (facts h) 0 isnt (omega arith) below_facts at_fact
        (λ k low less none. free-at (facts h) at.come k j at.shut less none came_all)

    moved_records :
        moved record_thread (fact_at (facts h) j).thread (left_from 0 at.come h.records)
        ≡ record_at h.records j ∷ left_from 0 (j ∷ at.come) h.records
    moved_records =
        ap (λ (t : ℕ). moved record_thread t (left_from 0 at.come h.records)) (thread-is h like.honest j)
        ∙ front-at record_thread (record_at h.records) no_record at.come j h.records 0 isnt (omega arith)
        (omega arith) at_record
        (λ k low less none. ap₂ eqb (sym (thread-is h like.honest k)) (sym (thread-is h like.honest j))
        ∙ apart k none less)

    may :
        may_come (fact_at (facts h) j).thread (facts_from (reads_in h.records) at.old (left_from 0 at.come h.records))
        ≡ true
    may = ap (may_come (fact_at (facts h) j).thread) at.reported ∙ walked.may

    moved_facts :
        moved fact_thread (fact_at (facts h) j).thread
        (facts_from (reads_in h.records) at.old (left_from 0 at.come h.records))
        ≡ fact_at (facts h) j ∷ left_from 0 (j ∷ at.come) (facts h)
    moved_facts = ap (moved fact_thread (fact_at (facts h) j).thread) at.reported ∙ walked.front

    fronted :
        IsFront (reads_in h.records) at.old (left_from 0 at.come h.records)
        (record_at h.records j ∷ left_from 0 (j ∷ at.come) h.records)
        (fact_at (facts h) j ∷ left_from 0 (j ∷ at.come) (facts h))
    fronted =
        subst (λ (gs : List Fact).
        IsFront (reads_in h.records) at.old (left_from 0 at.come h.records)
        (record_at h.records j ∷ left_from 0 (j ∷ at.come) h.records) gs) moved_facts
        (subst
        (λ (qs : List Record).
        IsFront (reads_in h.records) at.old (left_from 0 at.come h.records) qs
        (moved fact_thread (fact_at (facts h) j).thread
        (facts_from (reads_in h.records) at.old (left_from 0 at.come h.records))))
        moved_records
        (front (reads_in h.records) (fact_at (facts h) j).thread
        (left_from 0 at.come h.records) at.old at.whole at.reading at.can may))

    here : (is_none at.old.ending && fits at.old (record_at h.records j)) ≡ true
    here = and-left (is_none at.old.ending && fits at.old (record_at h.records j)) _ fronted.following.can

    both :
        fact_of (reads_in h.records) at.old (record_at h.records j)
        ∷ facts_from (reads_in h.records) (apply at.old (record_at h.records j)) (left_from 0 (j ∷ at.come) h.records)
        ≡ fact_at (facts h) j ∷ left_from 0 (j ∷ at.come) (facts h)
    both =
        sym (fit-facts (reads_in h.records) at.old (record_at h.records j) (left_from 0 (j ∷ at.come) h.records) here)
        ∙ fronted.facts

    free : ahead_free (fact_at (facts h) j).thread (fact_at (facts h) j).given (left_from 0 at.come (facts h)) ≡ true
    free =
        ap (ahead_free (fact_at (facts h) j).thread (fact_at (facts h) j).given) (sym at.reported)
        ∙ ap (λ (gs : List Fact).
        ahead_free (fact_at (facts h) j).thread (given_of gs)
        (facts_from (reads_in h.records) at.old (left_from 0 at.come h.records))) (sym moved_facts)
        ∙ given-free (reads_in h.records) (fact_at (facts h) j).thread
        (left_from 0 at.come h.records) at.old at.whole at.reading at.can may

    pub turn : IsTurn i at j
    turn =
        record {
          isnt = isnt;
          came_all = came_all;
          ahead = λ k less none.
              ahead-at at.come (fact_at (facts h)) j (fact_at (facts h) j).given (facts h) 0 k none
              (omega arith) less below_facts at_fact
              (λ n low less_n none_n. apart n none_n less_n)
              free;
          none = and-left (is_none at.old.ending) (fits at.old (record_at h.records j)) here;
          fit = and-right (is_none at.old.ending) (fits at.old (record_at h.records j)) here;
          later = and-right (is_none at.old.ending && fits at.old (record_at h.records j)) _ fronted.following.can;
          fact =
              (let is = both in
              let head : fact_of (reads_in h.records) at.old (record_at h.records j) ≡ fact_at (facts h) j =
              cc in head);
          reported_next =
              (let is = both in
              let rest : facts_from (reads_in h.records) (apply at.old (record_at h.records j))
              (left_from 0 (j ∷ at.come) h.records) ≡ left_from 0 (j ∷ at.come) (facts h) = cc in
              rest);
          reading_next = fronted.reading.1;
        }
