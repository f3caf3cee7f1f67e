-- Which threads are due: those whose next step depends on no step of the earlier history that is still to be made.
use Rattle.std.specs.Prelude.{ℕ, Bool, ◌==◌, ◌&&◌, ◌||◌, not, nat_lt, List, [], length, Option, Some, None}
use Rattle.std.specs.List.{position_or_len}
use Rattle.machine_spec.specs.Machine.{Machine, hart_of, is_ended}
use Rattle.history_spec.specs.History.{History, is_of, past_records}
use Rattle.history_spec.specs.Facts.{Fact, facts}
use Rattle.history_spec.specs.Before.{fact_at, all_below}
use Rattle.history_spec.specs.Ancestors.{is_ancestor, number_at}

-- The place of a thread's next step in the history, or the number of its records if it isn't there.
abbrev pub place_in : Option History → Machine → ℕ → ℕ
place_in past m t = position_or_len (is_of t (hart_of m t).number) (past_records past)

-- Whether a thread exists and has ended.
abbrev pub has_exited : Machine → ℕ → Bool
has_exited m t = nat_lt t (length m.harts) && is_ended (hart_of m t).status

-- What the steps of the history do, if there is one.
abbrev pub past_facts : Option History → List Fact
past_facts None = []
past_facts (Some h) = facts h

-- Whether the step at a place is a thread's step of this number.
abbrev pub is_step_at : List Fact → ℕ → ℕ → ℕ → Bool
is_step_at fs t number j = ((fact_at fs j).thread == t) && (number_at fs j == number)

-- Whether the step at a place needn't be waited for: it has been made, or its thread has ended.
abbrev pub is_passed_at : List Fact → Machine → ℕ → Bool
is_passed_at fs m a =
    nat_lt (number_at fs a) (hart_of m (fact_at fs a).thread).number || has_exited m (fact_at fs a).thread

-- Whether each step that must come before the one at a place, directly or through others, is passed.
abbrev pub are_passed_before : List Fact → Machine → ℕ → Bool
are_passed_before fs m j = all_below (λ a. not (is_ancestor fs a j) || is_passed_at fs m a) j

-- Whether a thread is due, by the facts of a history: its next step isn't among them, or each step that must come
-- before it is passed.
abbrev pub is_due_by : List Fact → Machine → ℕ → Bool
is_due_by fs m t =
    all_below (λ j. not (is_step_at fs t (hart_of m t).number j) || are_passed_before fs m j) (length fs)

-- Whether a thread is due.
unfoldable pub is_due : Option History → Machine → ℕ → Bool
is_due past m t = is_due_by (past_facts past) m t
