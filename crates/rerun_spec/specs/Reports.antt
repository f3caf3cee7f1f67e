-- The reports of rounds, and whether each round ends by exit: by the machine from scratch, and as the rounds were made.
use Rattle.std.specs.Prelude.{ℕ, Bool, true, false, if◌then◌else◌, List, map, Option, Some, None}
use Rattle.std.specs.List.{list_all}
use Rattle.machine_spec.specs.declared.states.End.{End}
use Rattle.machine_spec.specs.declared.states.End.TheVariants.{Exit}
use Rattle.machine_spec.specs.Setup.{Setup}
use Rattle.history_spec.specs.History.{History}
use Rattle.report_spec.specs.declared.Entry.{Entry}
use Rattle.report_spec.specs.Report.{ReportData, Extras, report, report_text}
use Rattle.round_spec.specs.Rounds.{RoundState}
use Rattle.round_spec.specs.Instructions.{executed_instructions}
use Rattle.round_spec.specs.Reach.{reached_count}
use Rattle.rerun_spec.specs.declared.Asked.{Asked}
use Rattle.rerun_spec.specs.Rounds.{Round, made, entries_of, machine_of}

-- A schedule of which each step is executed.
abbrev pub all_executed : List ℕ → List Entry
all_executed schedule = map (λ t. record { thread = t; reused = false }) schedule

-- What a report says only if it is requested: how many steps of the history that the round is based on its setup
-- reaches, and what was read of the round's progress.
abbrev pub extras_of : Asked → Option History → Setup → List ℕ → Extras
extras_of asked past setup progress =
    record {
      reached = if asked.reach then Some (reached_count past setup) else None;
      progress = if asked.progress then Some progress else None;
    }

-- What a round's report says only if it is requested.
abbrev pub extras_in : Round → Extras
extras_in r = extras_of r.asked r.past r.setup r.found.progress

-- The report of a round: that of the machine from scratch under the schedule that its workers found, with how many
-- steps each of them made.
abbrev pub report_of : Round → List ℕ
report_of r = report r.number r.setup (entries_of r) (extras_in r) r.found.worker_steps

-- The reports of some rounds, in order.
unfoldable pub reports_of : List Round → List (List ℕ)
reports_of rounds = map report_of rounds

-- Whether an end is an exit. (POSIX.1-2017, exit)
abbrev pub is_exit : Option End → Bool
is_exit (Some (Exit code)) = true
is_exit _ = false

-- Whether a round ends by exit.
abbrev pub exits : Round → Bool
exits r = is_exit (machine_of r).ending

-- Whether each of some rounds ends by exit.
unfoldable pub all_exit : List Round → Bool
all_exit rounds = list_all exits rounds

-- The data of the report of a round in this state, with what it says only if it is requested, and how many steps each
-- of its workers made; its instructions are those that the records of the executed entries count.
abbrev pub data_as_made : RoundState → Extras → List ℕ → ReportData
data_as_made w extras worker_steps =
    record {
      ending = w.machine.ending;
      schedule = w.schedule;
      extras = extras;
      instructions = executed_instructions w.schedule w.records;
      worker_steps = worker_steps;
      memory = w.machine.memory;
      output = w.machine.output;
    }

-- What the report of a round as it was made says only if it is requested.
abbrev pub made_extras : Round → Extras
made_extras r = extras_of r.asked (made r).past (made r).setup r.found.progress

-- The report of a round as it was made, whatever history it is based on.
abbrev pub made_report : Round → List ℕ
made_report r = report_text r.number (data_as_made (made r) (made_extras r) r.found.worker_steps)

-- The reports of some rounds as they were made, in order.
unfoldable pub made_reports : List Round → List (List ℕ)
made_reports rounds = map made_report rounds

-- Whether a round as it was made ended by exit.
abbrev pub made_exits : Round → Bool
made_exits r = is_exit (made r).machine.ending

-- Whether each of some rounds as they were made ended by exit.
unfoldable pub all_made_exit : List Round → Bool
all_made_exit rounds = list_all made_exits rounds
