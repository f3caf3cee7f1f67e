-- Rounds without an edit, which are based on an honest history of the very same setup, and rounds that only reuse.
use Rattle.std.specs.Prelude.{◌≡◌, Bool, true, List, [], map}
use Rattle.std.specs.List.{list_all}
use Rattle.machine_spec.specs.Setup.{Setup, scratch}
use Rattle.history_spec.specs.History.{History, IsHonest, schedule_of}
use Rattle.report_spec.specs.declared.Entry.{Entry}
use Rattle.round_spec.specs.Rounds.{RoundState}
use Rattle.round_spec.specs.Alone.{begun}
use Rattle.round_spec.specs.Instructions.{executed_instructions}

-- A setup without an edit since an honest history.
pub record IsUnedited (h : History) (setup : Setup) : Type 0 where
  pub honest : IsHonest h
  pub same : h.setup ≡ setup

-- Whether all entries of a schedule are reused.
abbrev pub is_all_reused : List Entry → Bool
is_all_reused schedule = list_all (λ (e : Entry). e.reused) schedule

-- The schedule in which each step of a history is reused, in the history's order.
abbrev pub all_reused_of : History → List Entry
all_reused_of h = map (λ t. record { thread = t; reused = true }) (schedule_of h)

-- A round that only reuses a history: its schedule is the history's, each step of which was reused; one worker would
-- execute no step of it; no instruction was executed, and nothing discarded; and machine and records are those of the
-- history.
pub record OnlyReuses (h : History) (w : RoundState) : Type 0 where
  pub schedule : w.schedule ≡ all_reused_of h
  pub reused : is_all_reused w.schedule ≡ true
  pub begun : begun w.setup w.past ≡ []
  pub executed : executed_instructions w.schedule w.records ≡ 0
  pub discarded : w.discarded ≡ 0
  pub machine : w.machine ≡ scratch h.setup (schedule_of h)
  pub records : w.records ≡ h.records
