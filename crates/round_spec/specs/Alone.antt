-- One worker whose round is based on a history, or on none: its schedule, its round, and the steps that it executes.
use Rattle.std.specs.Prelude.{ℕ, zero, suc, List, [], ◌∷◌, ◌++◌, Option}
use Rattle.machine_spec.specs.Machine.{Machine}
use Rattle.machine_spec.specs.Step.{step}
use Rattle.machine_spec.specs.Setup.{Setup, first}
use Rattle.machine_spec.specs.Choice.{chosen_first}
use Rattle.history_spec.specs.History.{History}
use Rattle.round_spec.specs.declared.events.Event.TheVariants.{Take, Reuse, Commit}
use Rattle.round_spec.specs.declared.events.Pick.{Pick}
use Rattle.round_spec.specs.declared.events.Pick.TheVariants as pick
use Rattle.round_spec.specs.Rounds.{RoundState, none_in_flight, opening, happens}
use Rattle.round_spec.specs.Choice.{choice_by, pick_of}

-- The schedule that follows the choice with no thread in flight, until an end, for so many steps at most.
abbrev pub guided_from : Option History → ℕ → Machine → List ℕ
guided_from past zero m = []
guided_from past (suc steps) m =
    chosen_first m.ending (choice_by past m none_in_flight) (λ t. guided_from past steps (step m t))

-- The schedule of one worker.
abbrev pub one_worker : Setup → Option History → List ℕ
one_worker setup past = guided_from past setup.limit (first setup)

-- A round of one worker after a pick: a record is reused, or a step is taken and committed, or nothing changes.
abbrev pub after_pick : RoundState → Pick → RoundState
after_pick w (pick.Reuse t) = happens w (Reuse t)
after_pick w (pick.Run t) = happens (happens w (Take t)) (Commit t)
after_pick w pick.Hold = w
after_pick w pick.Over = w

-- A round of one worker after so many picks.
abbrev pub after_picks : ℕ → RoundState → RoundState
after_picks zero w = w
after_picks (suc n) w = after_picks n (after_pick w (pick_of w))

-- The round of one worker.
abbrev pub lone_round : Setup → Option History → RoundState
lone_round setup past = after_picks setup.limit (opening setup past)

-- The thread whose next step a pick executes, if it executes one.
abbrev pub begun_by : Pick → List ℕ
begun_by (pick.Run t) = t ∷ []
begun_by (pick.Reuse t) = []
begun_by pick.Hold = []
begun_by pick.Over = []

-- The threads whose next step one worker executes in so many picks, in order.
abbrev pub begun_in : ℕ → RoundState → List ℕ
begun_in zero w = []
begun_in (suc n) w = begun_by (pick_of w) ++ begun_in n (after_pick w (pick_of w))

-- Those of the whole round of one worker.
abbrev pub begun : Setup → Option History → List ℕ
begun setup past = begun_in setup.limit (opening setup past)
