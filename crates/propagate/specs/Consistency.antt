-- What a round in code keeps besides what clauses see of it.
use Rattle.std.specs.Prelude.{◌≡◌, ◌≤◌, ◌*◌, ℕ, ⊤, Bool, true, false, List, All, length, Option, Some, None, is_some, Vec}
use Rattle.std.specs.Global.{Global}
use Rattle.machine_spec.specs.Setup.{Setup, IsSetup, first, map_of}
use Rattle.history_spec.specs.History.{History, IsMappedIn, IsMapped, past_records}
use Rattle.history_spec.specs.Facts.{Fact}
use Rattle.run_history.specs.Records.{AreOfRun}
use Rattle.round_spec.specs.Rounds.{RoundState, history_of, none_in_flight}
use Rattle.round_spec.specs.Due.{past_facts}
use Rattle.round_spec.specs.Keeping.{IsInOrder, IsCounted}
use Rattle.round_spec.specs.Schedules.{IsBySchedule}
use Rattle.round_spec.specs.Instructions.{executed_instructions}
use Rattle.known_pages.specs.declared.versions.Versions.{Versions}
use Rattle.known_pages.specs.Alike.{IsApplied, IsAsBefore}
use Rattle.known_pages.specs.Versions.{AreRight}

-- The history that a round of a setup is based on, if there is one, has the setup's page map.
abbrev pub IsOfMap : Option History → Setup → Type 0
IsOfMap None setup = ⊤
IsOfMap (Some h) setup = map_of h.setup ≡ map_of setup

-- A round on the page map of its setup: if the records of its history have their slots in that map, so have its own.
pub record IsOnMap (w : RoundState) : Type 0 where
  pub frame : w.machine.frame.map ≡ map_of w.setup
  pub mapped : All (IsMappedIn (length (map_of w.setup))) (past_records w.past) → IsMapped (history_of w)

-- What holds of every round: its setup may be run, its machine has the setup's page map and fuel, it is in order, its
-- counts are right, and it is where its schedule leads.
pub record IsValid (w : RoundState) : Type 0 where
  pub setup : IsSetup w.setup
  pub framed : w.machine.frame ≡ (first w.setup).frame
  pub in_order : IsInOrder w
  pub counted : IsCounted w
  pub by_schedule : IsBySchedule w

-- The facts of a history, whose records are those of a run: what its steps do.
pub record AreFactsOf (past : Option History) (facts : List Fact) : Type 0 where
  pub same : facts ≡ past_facts past
  pub of_run : AreOfRun (past_records past)

-- The facts are known; and they are right if they are known.
abbrev pub IsKnown : Option History → Option (List Fact) → Type 0
IsKnown past None = ⊥
IsKnown past (Some facts) = AreFactsOf past facts

abbrev pub IsRight : Option History → Option (List Fact) → Type 0
IsRight past None = ⊤
IsRight past (Some facts) = AreFactsOf past facts

-- The facts that are known after they were found, if they were needed.
abbrev pub IsFound : Bool → Option History → Option (List Fact) → Option (List Fact) → Type 0
IsFound true past before facts = IsKnown past facts
IsFound false past before facts = facts ≡ before

-- No thread is in flight, and marks are kept: the round continues as its history did.
pub record IsInStep (w : RoundState) (marks : Option (Vec Bool Global)) : Type 0 where
  pub nobody : w.in_flight ≡ none_in_flight
  pub marked : is_some marks ≡ true

-- What the steps of a round's history do is known, or the round continues as that history did and no thread is in
-- flight.
abbrev pub KnowsEnough : RoundState → Option (Vec Bool Global) → Option (List Fact) → Type 0
KnowsEnough w marks None = IsInStep w marks
KnowsEnough w marks (Some facts) = AreFactsOf w.past facts

-- A round that is in order, has right counts and is where its schedule and its records lead, with the page map and the
-- fuel of its setup. For each entry it has when its thread was picked. Kept with it are the sum of the counts of its
-- executed entries; what the steps of its history do, unless it continues as that did and no thread is in flight; while
-- it continues as that did, marks on the pages that may differ; and after that, which versions of the history's pages
-- its pages are.
pub record IsConsistent (w : RoundState) (instructions : ℕ) (facts : Option (List Fact))
    (marks : Option (Vec Bool Global)) (versions : Option Versions) : Type 0
  where
    pub valid : IsSetup w.setup
    pub in_order : IsInOrder w
    pub counted : IsCounted w
    pub by_schedule : IsBySchedule w
    pub applied : IsApplied w
    pub on_map : IsOnMap w
    pub framed : w.machine.frame ≡ (first w.setup).frame
    pub points : length w.picked ≡ length w.schedule
    pub executed : instructions ≡ executed_instructions w.schedule w.records
    pub few : instructions ≤ 4294967295 * length w.schedule
    pub knows : KnowsEnough w marks facts
    pub as_before : IsAsBefore w marks
    pub right : AreRight w versions
