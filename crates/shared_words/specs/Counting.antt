-- The rule of a word that counts steps, and what one step on it gives.
use Rattle.std.specs.Prelude.{◌≡◌, ℕ, ◌+◌, ◌≤◌, true, false, max, length, slice_index}
use mathlib.Core.Option.{some}
use lib.ListN.{get_elem?}
use Rattle.atomic_table.specs.Table.{State, Me, Step}
use Rattle.machine_spec.specs.declared.TheConstants.{MOST_STEPS}
use Rattle.shared_words.specs.declared.view.View.{View}

-- the view of a writer that has added nothing and seen nothing
abbrev pub starter : View
starter = record { writer = true; added = 0; seen = 0; loads = 0 }

-- a view that counts nothing and knows nothing
abbrev pub spent : View
spent = record { writer = false; added = 0; seen = 0; loads = 0 }

-- the view of a new reader, which learns what this one has seen
abbrev pub informed : View → View
informed v = record { writer = false; added = 0; seen = v.seen; loads = 0 }

-- the first view, after it learned what the second has seen
abbrev pub joined : View → View → View
joined v w = record { writer = v.writer; added = v.added; seen = max v.seen w.seen; loads = v.loads }

-- the view after it has added one, which made the word this number
abbrev pub raised : ℕ → View → View
raised number v = record { writer = v.writer; added = v.added + 1; seen = number; loads = v.loads }

-- the view after it has loaded the word, and found this number
abbrev pub loaded : ℕ → View → View
loaded number v = record { writer = v.writer; added = v.added; seen = number; loads = v.loads + 1 }

-- What a seat may know, if the writer's seat has the number `writer` and the word is `number`: the writer has added
-- that number, every other seat has added nothing, and none has seen more than the word.
pub record Fits (writer number seat : ℕ) (v : View) : Type 0 where
  pub own : v.writer ≡ true → (seat ≡ writer) × (v.added ≡ number)
  pub others : v.writer ≡ false → v.added ≡ 0
  pub below : v.seen ≤ number

-- Exactly one seat is the writer's, and every seat fits the word, which is at most the largest step limit.
pub record IsCounted (s : State (Unit {0}) View) : Type 0 where
  pub one_word : length s.words ≡ 1
  pub few : slice_index s.words 0 ≤ MOST_STEPS
  pub writer : ℕ
  pub writers : (v : View) × (get_elem? s.views writer ≡ some v) × (v.writer ≡ true)
  pub fits : (seat : ℕ) (v : View) → get_elem? s.views seat ≡ some v → Fits writer (slice_index s.words 0) seat v

-- What an addition gives: the seat found what it had added, added one, and saw the word that came of it.
pub record Adds (step : Step (Unit {0})) (v : Me (Unit {0}) View) (found : ℕ) (w : Me (Unit {0}) View) : Type 0 where
  pub knows : w ≡ (raised (found + 1) v.0, v.1)
  pub own : v.0.added ≡ found

-- What a load gives: the seat found at least what it had seen, and at most the largest step limit; and if it is the
-- writer's, what it had added.
pub record Loads (step : Step (Unit {0})) (v : Me (Unit {0}) View) (found : ℕ) (w : Me (Unit {0}) View) : Type 0 where
  pub knows : w ≡ (loaded found v.0, v.1)
  pub rises : v.0.seen ≤ found
  pub few : found ≤ MOST_STEPS
  pub own : v.0.writer ≡ true → v.0.added ≡ found
