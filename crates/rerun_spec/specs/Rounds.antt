-- The rounds of a command line on some inputs, one after the other, from scratch or based on a history that was read,
-- each by the schedule that its workers found.
use Rattle.std.specs.Prelude.{ℕ, suc, ◌+◌, ◌≡◌, Bool, true, false, List, [], ◌∷◌, length, slice_get, Option, Some, None, unwrap_or, ⊤}
use Rattle.machine_spec.specs.Limits.{Limits}
use Rattle.machine_spec.specs.Machine.{Machine}
use Rattle.machine_spec.specs.Setup.{Setup, scratch}
use Rattle.history_spec.specs.History.{History, IsSameProgram, CanGoBy}
use Rattle.report_spec.specs.declared.Entry.{Entry}
use Rattle.report_spec.specs.Report.{threads_of}
use Rattle.round_spec.specs.Marks.{marked}
use Rattle.round_spec.specs.Rounds.{RoundState, history_of}
use Rattle.round_spec.specs.Schedules.{round_by}
use Rattle.round_spec.specs.Picking.{ArePicked}
use Rattle.round_spec.specs.Workers.{IsMadeBy}
use Rattle.round_spec.specs.Watching.{IsProgress}
use Rattle.rerun_spec.specs.declared.Asked.{Asked}

-- A setup with another input: the same executable, fuel and limit.
abbrev pub with_input : Setup → List ℕ → Setup
with_input setup input = record setup { input = input }

-- A setup's limits.
abbrev pub limits_of : Setup → Limits
limits_of setup = record { fuel = setup.fuel; steps = setup.limit }

-- A setup with other limits: the same executable and input.
abbrev pub with_limits : Setup → Limits → Setup
with_limits setup limits = record setup { fuel = limits.fuel; limit = limits.steps }

-- What the workers of a round found: a schedule with its marks, how many of its steps each of them made, the numbers of
-- steps that a watcher read meanwhile, which are none if they weren't requested, and how many turns were counted.
pub record Found : Type 0 where
  pub entries : List Entry
  pub worker_steps : List ℕ
  pub progress : List ℕ
  pub turns : ℕ

-- The lines that these two answers request, and no lines.
abbrev pub asked_by : Bool → Bool → Asked
asked_by reach progress = record { reach = reach; progress = progress }

abbrev pub nothing_asked : Asked
nothing_asked = asked_by false false

-- A round: its number, its setup, the history that it is based on, if there is one, which lines are requested in its
-- report, and what its workers found.
pub record Round : Type 0 where
  pub number : ℕ
  pub setup : Setup
  pub past : Option History
  pub asked : Asked
  pub found : Found

-- A round as it was made, entry by entry of the schedule that its workers found.
abbrev pub made : Round → RoundState
made r = round_by r.setup r.past r.found.entries

-- So many workers made a round.
abbrev pub IsMade : ℕ → Round → Type 0
IsMade workers r = IsMadeBy workers r.setup r.past r.found.entries r.found.worker_steps

-- If its progress is requested, the numbers that were read meanwhile are its progress.
abbrev pub IsWatched : ℕ → Round → Type 0
IsWatched workers r = r.asked.progress ≡ true → IsProgress workers (length r.found.entries) r.found.progress

-- Each entry of a round was chosen by the rule when the schedule had some length.
abbrev pub IsPickedByRule : Round → Type 0
IsPickedByRule r = (points : List ℕ) × ArePicked r.setup r.past r.found.entries points

-- The history of a round, which the next one is based on.
abbrev pub resulting_history : Round → History
resulting_history r = history_of (made r)

-- What rounds begin with: the number of the first, the history that it is based on, if there is one, the setup whose
-- program all of them run, each on its own input, and which lines are requested in their reports.
pub record Beginning : Type 0 where
  pub number : ℕ
  pub past : Option History
  pub setup : Setup
  pub asked : Asked

-- From scratch: round 0 is based on no history.
abbrev pub from_scratch : Setup → Asked → Beginning
from_scratch setup asked = record { number = 0; past = None; setup = setup; asked = asked }

-- After a memo, which holds a history: round 1 is based on it, and the program is the history's; the limits are those
-- that are requested.
abbrev pub after_memo : History → Limits → Asked → Beginning
after_memo h limits asked = record { number = 1; past = Some h; setup = with_limits h.setup limits; asked = asked }

-- Rounds can begin here: the setup may be run, and the history is sound for it, or none.
abbrev pub CanBegin : Beginning → Type 0
CanBegin b = CanGoBy b.past b.setup

-- A history, if there is one, that is of a setup's program, honest or not.
abbrev pub IsOfProgram : Option History → Setup → Type 0
IsOfProgram None setup = ⊤
IsOfProgram (Some h) setup = IsSameProgram h.setup setup

-- The first round of a beginning, on an input, with what its workers found.
abbrev pub round_on : Beginning → List ℕ → Found → Round
round_on b input found =
    record { number = b.number; setup = with_input b.setup input; past = b.past; asked = b.asked; found = found }

-- What the rounds after the first begin with: the next number, and the history of the first.
abbrev pub after_round : Beginning → List ℕ → Found → Beginning
after_round b input found =
    record { number = b.number + 1; past = Some (resulting_history (round_on b input found)); setup = b.setup; asked = b.asked }

-- The rounds on the first of some inputs, one for each thing that was found, in order: the first is based on the
-- history of the beginning, if there is one, and each other on that of the round before it.
abbrev pub rounds_after : Beginning → List (List ℕ) → List Found → List Round
rounds_after b [] found = []
rounds_after b (input ∷ inputs) [] = []
rounds_after b (input ∷ inputs) (f ∷ found) = round_on b input f ∷ rounds_after (after_round b input f) inputs found

-- What the rounds after these begin with.
abbrev pub after_rounds : Beginning → List (List ℕ) → List Found → Beginning
after_rounds b [] found = b
after_rounds b (input ∷ inputs) [] = b
after_rounds b (input ∷ inputs) (f ∷ found) = after_rounds (after_round b input f) inputs found

-- The history of a beginning; if it has none, the one of no steps.
abbrev pub history_at : Beginning → History
history_at b = unwrap_or b.past (record { setup = b.setup; records = [] })

-- The history of the last of these rounds; if there is none, that of the beginning.
abbrev pub last_history : Beginning → List (List ℕ) → List Found → History
last_history b inputs found = history_at (after_rounds b inputs found)

-- The schedule that a round's workers found, by threads alone.
abbrev pub schedule_in : Round → List ℕ
schedule_in r = threads_of r.found.entries

-- Its entries with the marks of the machine from scratch: a step is reused exactly if the record of it fits.
abbrev pub entries_of : Round → List Entry
entries_of r = marked r.past r.setup (schedule_in r)

-- The machine from scratch under a round's schedule.
abbrev pub machine_of : Round → Machine
machine_of r = scratch r.setup (schedule_in r)

-- Of some rounds, which have the same limits, one and the next after it, without an edit in between: their inputs are
-- equal.
pub record IsRepeated (rounds : List Round) (before after : Round) : Type 0 where
  pub place : ℕ
  pub one : slice_get rounds place ≡ Some before
  pub next : slice_get rounds (suc place) ≡ Some after
  pub same : after.setup.input ≡ before.setup.input

-- Of rounds after a memo, the first, without an edit: its input and its limits are those of the memo's round.
pub record IsUneditedRerun (h : History) (limits : Limits) (asked : Asked) (inputs : List (List ℕ)) (found : List Found)
    (r : Round) : Type 0 where
  pub first : slice_get (rounds_after (after_memo h limits asked) inputs found) 0 ≡ Some r
  pub same_input : r.setup.input ≡ h.setup.input
  pub same_limits : limits_of r.setup ≡ limits_of h.setup
