-- Clocks of steps, and clocks that join those of some steps.
use Rattle.std.specs.Prelude.{◌≡◌, ◌<◌, ◌≤◌, ℕ, ◌==◌, ◌&&◌, Bool, List, [], All, length, slice_index, slice_index_or}
use Rattle.guest_call.specs.declared.thread_number.TheConstants.{THREADS}
use Rattle.history_spec.specs.Facts.{Fact}
use Rattle.history_spec.specs.Before.{fact_at}
use Rattle.history_spec.specs.Ancestors.{any_below, count_below, is_up_to, clock_at}
use Rattle.depend_graph.specs.declared.graph.TheConstants.{MOST_FACTS}

-- Whether the step at place k is one of the first n that pass a test, or an ancestor of one.
abbrev pub is_up_to_some : List Fact → (ℕ → Bool) → ℕ → ℕ → Bool
is_up_to_some fs test n k = any_below (λ i. test i && is_up_to fs i k) n

-- How many steps of a thread are among the first n that pass a test, or ancestors of these.
unfoldable pub count_up_to : List Fact → (ℕ → Bool) → ℕ → ℕ → ℕ
count_up_to fs test n t = count_below (λ k. ((fact_at fs k).thread == t) && is_up_to_some fs test n k) n

-- The clock that joins those of the first n steps that pass a test.
pub record IsJoinOf (fs : List Fact) (test : ℕ → Bool) (n : ℕ) (clock : List ℕ) : Type 0 where
  pub counts : (t : ℕ) → t < THREADS → slice_index clock t ≡ count_up_to fs test n t

-- The clock of the step at a place.
pub record IsClockOf (fs : List Fact) (i : ℕ) (clock : List ℕ) : Type 0 where
  pub counts : (t : ℕ) → t < THREADS → slice_index clock t ≡ clock_at fs i t

-- Each of some steps has its clock; they are few, and each is of a thread.
pub record HaveClocks (fs : List Fact) (clocks : List (List ℕ)) : Type 0 where
  pub few : length fs ≤ MOST_FACTS
  pub threads : All (λ (f : Fact). f.thread < THREADS) fs
  pub many : length clocks ≡ length fs
  pub each : (i : ℕ) → i < length fs → IsClockOf fs i (slice_index_or clocks i [])
