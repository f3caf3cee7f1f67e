-- The rule of the log of issued jobs, and what a step on its word gives.
use Rattle.std.specs.Prelude.{ℕ, ◌≡◌, ◌==◌, true, List, [], ◌∷◌, ◌++◌, length, MatchBool}
use Rattle.logbook.specs.Pages.{Cell, Step, View}
use Rattle.thunk_record.specs.declared.job.Job.{Job}

-- A book has two words: the first is the length of the log, and the second is 0.
pub record IsKept (cells : List Cell) (log : List Job) : Type 0 where
  pub words : cells ≡ (length log, true) ∷ (0, true) ∷ []

-- A step that finds the expected number has appended its job to all that was seen; any other finds the length of the
-- log.
abbrev pub Appends : Step Job → View Job ℕ → ℕ → View Job ℕ → Type 0
Appends s v found w = MatchBool (found == s.old) (w.0 ≡ v.0 ++ s.ask ∷ []) (length w.0 ≡ found)
