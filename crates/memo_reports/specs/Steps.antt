-- The part of each step that decides whether it races.
use Rattle.std.specs.Prelude.{◌≡◌, ◌<◌, ℕ, List, length, slice_index, slice_index_or}
use Rattle.guest_call.specs.declared.thread_number.TheConstants.{THREADS}
use Rattle.history_spec.specs.Facts.{Fact}
use Rattle.history_spec.specs.Before.{fact_at}
use Rattle.history_spec.specs.Ancestors.{number_at}
use Rattle.round_spec.specs.Reach.{read_at}
use Rattle.round_spec.specs.Sync.{seen_at}
use Rattle.memo_reports.specs.declared.races.steps.Step.{Step}
use Rattle.memo_reports.specs.Touches.{touches_in}

-- The part of the step at place j that decides whether it races.
pub record IsStep (fs : List Fact) (reads : List (List ℕ)) (pages j : ℕ) (s : Step) : Type 0 where
  pub thread : s.thread ≡ (fact_at fs j).thread
  pub known : s.thread < THREADS
  pub number : s.number ≡ number_at fs j
  pub seen : (t : ℕ) → t < THREADS → slice_index s.seen t ≡ seen_at fs j t
  pub touches : s.touches.items ≡ touches_in pages (read_at reads j) (fact_at fs j).written

-- The same for each of some steps.
pub record AreSteps (fs : List Fact) (reads : List (List ℕ)) (pages : ℕ) (steps : List Step) : Type 0 where
  pub many : length steps ≡ length fs
  pub each : (j : ℕ) (s : Step) → j < length fs → IsStep fs reads pages j (slice_index_or steps j s)
