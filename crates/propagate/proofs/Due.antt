-- Which threads are due, by the clock of the place of the thread's next step.
use Rattle.std.proofs.Common.{◌≡◌, ◌≢◌, ◌<◌, ◌≤◌, ◌⊎◌, ◌↔◌, ℕ, zero, suc, Bool, true, false, ◌&&◌, eqb, ltb, leb, cond, List, [], ◌∷◌, length, get_or, Option, Some, None, refl, ap, sym, ◌∙◌, subst, inl, inr, arith}
use Rattle.std.specs.Bool.{Decides}
use Rattle.std.specs.List.{list_all, position_or_len}
use Rattle.std.proofs.lemmas.Bool.{cases_lt, and_parts, ltb-true, leb-true, le-leb, or_cases, or_left, or_right, ne_eqb, and_left}
use Rattle.thunk_spec.specs.Record.{Record}
use Rattle.machine_spec.specs.Machine.{Machine, hart_of}
use Rattle.history_spec.specs.History.{History, past_records, threads_of_records, is_of}
use Rattle.run_history.specs.Records.{HaveThreads, AreOfRun}
use Rattle.history_spec.specs.Facts.{Fact, facts}
use Rattle.history_spec.specs.Before.{fact_at}
use Rattle.history_spec.specs.Ancestors.{is_up_to, clock_at}
use Rattle.history_spec.proofs.Clocks.{count-stay}
use Rattle.round_spec.specs.Due.{place_in, past_facts, has_exited, is_step_at, are_passed_before, is_due}
use Rattle.round_spec.proofs.Placed.{facts-length, thread-is, absent-due, placed-step, placed-due, step-thread, step-number}
use Rattle.round_spec.proofs.Clocked.{passed-clock}
use Rattle.propagate.specs.Choosing.{has_made, HaveMade}

-- the records of the history, if there is one

pub none-run : (past : Option History) → past ≡ None → AreOfRun (past_records past)
none-run past is =
    subst (λ (p : Option History). AreOfRun (past_records p)) (sym is)
    (record { numbered = refl; threads = refl; few = omega arith })

-- a clock counts no step of a thread that can't exist

thread-below : (rs : List Record) (k : ℕ) → HaveThreads rs → get_or (threads_of_records rs) k 0 < 32
thread-below [] k have = omega arith
thread-below (r ∷ rs) zero have =
    ltb-true r.thread 32 (and_parts (ltb r.thread 32) (list_all (λ (q : Record). ltb q.thread 32) rs) have).0
thread-below (r ∷ rs) (suc k) have =
    thread-below rs k (and_parts (ltb r.thread 32) (list_all (λ (q : Record). ltb q.thread 32) rs) have).1

counts-nothing : (h : History) (j u : ℕ) → HaveThreads h.records → 32 ≤ u → clock_at (facts h) j u ≡ 0
counts-nothing h j u have past =
    count-stay (λ k. eqb (fact_at (facts h) k).thread u && is_up_to (facts h) j k) 0 (suc j) (omega arith)
    (λ k low high.
    let below = thread-below h.records k have in
    let is = thread-is h k in
    and_left (eqb (fact_at (facts h) k).thread u) (is_up_to (facts h) j k)
    (ne_eqb (fact_at (facts h) k).thread u (λ same. omega arith)))

-- no place is after that of a record that isn't there
position-within : (p : Record → Bool) (qs : List Record) → position_or_len p qs ≤ length qs
position-within p [] = omega arith
position-within p (q ∷ qs) = by (p q) (position-within p qs)
  where
    by :
        (b : Bool) → position_or_len p qs ≤ length qs
        → cond (Rattle.std.specs.Prelude.not b) (Rattle.std.specs.Prelude.◌+◌ 1 (position_or_len p qs)) 0
        ≤ suc (length qs)
    by true rest = omega arith
    by false rest = omega arith

-- a thread that isn't in the history is due
pub absent-is_due :
    (past : Option History) (m : Machine) (t : ℕ)
    → AreOfRun (past_records past) → length (past_facts past) ≤ place_in past m t → is_due past m t ≡ true
unfolding is_due
absent-is_due None m t run far = refl
absent-is_due (Some h) m t run far =
    absent-due h m t run.numbered
    (let most = position-within (is_of t (hart_of m t).number) h.records in
    let long = facts-length h in
    omega arith)

-- a thread that is in the history is due if each other thread has made what the clock counts of it

made-or : (m : Machine) (u steps : ℕ) → has_made m u steps ≡ true → (steps ≤ (hart_of m u).number) ⊎ (has_exited m u ≡ true)
made-or m u steps is =
    elim (or_cases (leb steps (hart_of m u).number) (has_exited m u) is) [
      | inl enough ↦ inl (leb-true steps (hart_of m u).number enough)
      | inr gone ↦ inr gone
    ]

or-made : (m : Machine) (u steps : ℕ) → (steps ≤ (hart_of m u).number) ⊎ (has_exited m u ≡ true) → has_made m u steps ≡ true
or-made m u steps (inl enough) = or_left (leb steps (hart_of m u).number) (has_exited m u) (le-leb steps (hart_of m u).number enough)
or-made m u steps (inr gone) = or_right (leb steps (hart_of m u).number) (has_exited m u) gone

abbrev IsClock : List Fact → ℕ → List ℕ → Type 0
IsClock fs j clock = (u : ℕ) → u < 32 → get_or clock u 0 ≡ clock_at fs j u

same-bit : (a b : Bool) → (a ≡ true → b ≡ true) → (b ≡ true → a ≡ true) → a ≡ b
same-bit true b to from = sym (to refl)
same-bit false true to from = from refl
same-bit false false to from = refl

-- what the clock of a place determines
abbrev Tells : History → Machine → ℕ → Type 0
Tells h m j =
    are_passed_before (facts h) m j ≡ true
    ↔ ((u : ℕ) → u ≢ (fact_at (facts h) j).thread
    → (clock_at (facts h) j u ≤ (hart_of m u).number) ⊎ (has_exited m u ≡ true))

placed-made :
    (h : History) (m : Machine) (t j : ℕ) (clock : List ℕ) (b : Bool)
    → AreOfRun h.records → IsClock (facts h) j clock
    → (fact_at (facts h) j).thread ≡ t → Tells h m j → Decides b (HaveMade m t clock)
    → are_passed_before (facts h) m j ≡ b
placed-made h m t j clock b run is thread tells decides =
    same-bit (are_passed_before (facts h) m j) b
    (λ passed.
    decides.1
    (record {
      each = λ u below other.
          or-made m u (get_or clock u 0)
          (subst (λ (n : ℕ). (n ≤ (hart_of m u).number) ⊎ (has_exited m u ≡ true)) (sym (is u below))
          (tells.0 passed u (λ same. other (same ∙ thread))));
    }))
    (λ yes.
    tells.1
    (λ u other.
    elim (cases_lt u 32) [
      | inl below ↦
          subst (λ (n : ℕ). (n ≤ (hart_of m u).number) ⊎ (has_exited m u ≡ true)) (is u below)
          (made-or m u (get_or clock u 0) ((decides.0 yes).each u below (λ same. other (same ∙ sym thread))))
      | inr past ↦ inl (omega (arith, counts-nothing h j u run.threads past))
    ]))

pub placed-is_due :
    (past : Option History) (m : Machine) (t : ℕ) (clock : List ℕ) (b : Bool)
    → AreOfRun (past_records past) → place_in past m t < length (past_facts past)
    → IsClock (past_facts past) (place_in past m t) clock
    → Decides b (HaveMade m t clock)
    → is_due past m t ≡ b
placed-is_due None m t clock b run near is decides = absurd (omega arith)
placed-is_due (Some h) m t clock b run near is decides =
    let long = facts-length h in
    let below : place_in (Some h) m t < length h.records = omega arith in
    let step : is_step_at (facts h) t (hart_of m t).number (place_in (Some h) m t) ≡ true =
    placed-step h m t run.numbered below in
    let thread : (fact_at (facts h) (place_in (Some h) m t)).thread ≡ t =
    step-thread (facts h) t (hart_of m t).number (place_in (Some h) m t) step in
    placed-due h m t run.numbered below
    ∙ placed-made h m t (place_in (Some h) m t) clock b run is thread
    (passed-clock (facts h) m (place_in (Some h) m t)
    (ap (λ (u : ℕ). (hart_of m u).number) thread
    ∙ sym (step-number (facts h) t (hart_of m t).number (place_in (Some h) m t) step)))
    decides
