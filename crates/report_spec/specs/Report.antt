-- The report of a round, as a function of the round's number, its setup, its schedule with marks, the lines that are
-- there only if they are requested, and the workers' steps.
use Rattle.std.specs.Prelude.{ℕ, ◌+◌, not, if◌then◌else◌, List, [], ◌∷◌, ◌++◌, length, map, codes, count_by, Option, Some, None}
use Rattle.std.specs.List.{concat}
use Rattle.std.specs.Fmt.{decimal}
use Rattle.hex.specs.Hex.{encode_lower}
use Rattle.sha2.specs.Sha256.{sha256}
use Rattle.isa_spec.specs.Causes.{number_of}
use Rattle.memory_spec.specs.Pages.{Memory}
use Rattle.thunk_spec.specs.Thunk.{thunk}
use Rattle.machine_spec.specs.declared.states.End.{End}
use Rattle.machine_spec.specs.declared.states.End.TheVariants.{Exit, Trap, Deadlock, Spent}
use Rattle.machine_spec.specs.Machine.{Machine, hart_of}
use Rattle.machine_spec.specs.Step.{step}
use Rattle.machine_spec.specs.Setup.{Setup, first, scratch}
use Rattle.report_spec.specs.declared.Entry.{Entry}
use Rattle.report_spec.specs.Text.{space, newline, hex8, line, list_line}

-- An end in words.
abbrev pub end_text : End → List ℕ
end_text (Exit code) = codes "exit " ++ decimal code
end_text (Trap thread pc cause) =
    codes "trap " ++ decimal thread ++ space ++ hex8 pc ++ space ++ decimal (number_of cause)
end_text Deadlock = codes "deadlock"
end_text Spent = codes "spent"

-- The text of the end, if there is one; a complete schedule has one.
abbrev pub ending_text : Option End → List ℕ
ending_text (Some e) = end_text e
ending_text None = []

-- An entry of the schedule: its thread, and the mark of a reused or of an executed step.
abbrev pub entry_text : Entry → List ℕ
entry_text e = decimal e.thread ++ (if e.reused then codes "=" else codes "+")

-- The threads of a schedule with marks.
abbrev pub threads_of : List Entry → List ℕ
threads_of schedule = map (λ (e : Entry). e.thread) schedule

-- How many turns the executed entries of a schedule make, from a machine on; the report calls them instructions.
abbrev pub instructions_from : Machine → List Entry → ℕ
instructions_from m [] = 0
instructions_from m (e ∷ schedule) =
    (if e.reused then 0 else (thunk m.frame (hart_of m e.thread).view (hart_of m e.thread).regs).count)
    + instructions_from (step m e.thread) schedule

-- What a report says only if it is requested: how many old steps the round's setup reaches, and which numbers of steps
-- a watcher read while the round was made.
pub record Extras : Type 0 where
  pub reached : Option ℕ
  pub progress : Option (List ℕ)

-- None of that.
abbrev pub no_extras : Extras
no_extras = record { reached = None; progress = None }

-- What a report says of a round.
pub record ReportData : Type 0 where
  pub ending : Option End
  pub schedule : List Entry
  pub extras : Extras
  pub instructions : ℕ
  pub worker_steps : List ℕ
  pub memory : Memory
  pub output : List ℕ

-- The data of the report of the machine from scratch under a schedule.
abbrev pub data_of : Setup → List Entry → Extras → List ℕ → ReportData
data_of setup schedule extras worker_steps =
    record {
      ending = (scratch setup (threads_of schedule)).ending;
      schedule = schedule;
      extras = extras;
      instructions = instructions_from (first setup) schedule;
      worker_steps = worker_steps;
      memory = (scratch setup (threads_of schedule)).memory;
      output = (scratch setup (threads_of schedule)).output;
    }

-- How many entries were reused, and how many executed.
abbrev pub reused_count : List Entry → ℕ
reused_count schedule = count_by (λ (e : Entry). e.reused) schedule

abbrev pub executed_count : List Entry → ℕ
executed_count schedule = count_by (λ (e : Entry). not e.reused) schedule

-- The digest of a memory: of all its pages, in order. (FIPS 180-4, SHA-256)
unfoldable pub memory_digest : Memory → List ℕ
memory_digest memory = encode_lower (sha256 (concat memory))

-- The line with how many old steps are reached, if it is requested.
abbrev pub reached_lines : Option ℕ → List (List ℕ)
reached_lines None = []
reached_lines (Some n) = line (codes "reached") (decimal n) ∷ []

-- The line of the numbers of steps that a watcher read, if it is requested.
abbrev pub progress_lines : Option (List ℕ) → List (List ℕ)
progress_lines None = []
progress_lines (Some numbers) = list_line (codes "progress") decimal numbers ∷ []

-- The lines of the report of round n.
abbrev pub report_lines : ℕ → ReportData → List (List ℕ)
report_lines n t =
    line (codes "round") (decimal n)
    ∷ line (codes "end") (ending_text t.ending)
    ∷ line (codes "steps") (decimal (length t.schedule))
    ∷ line (codes "reused") (decimal (reused_count t.schedule))
    ∷ line (codes "executed") (decimal (executed_count t.schedule))
    ∷ reached_lines t.extras.reached
    ++ line (codes "instructions") (decimal t.instructions)
    ∷ list_line (codes "by") decimal t.worker_steps
    ∷ progress_lines t.extras.progress
    ++ list_line (codes "schedule") entry_text t.schedule
    ∷ line (codes "memory") (memory_digest t.memory)
    ∷ line (codes "output") (decimal (length t.output))
    ∷ []

-- The report of round n: its lines, the output's bytes, and a line's end.
unfoldable pub report_text : ℕ → ReportData → List ℕ
report_text n t = concat (report_lines n t) ++ t.output ++ newline

-- The report of round n of a setup, whose schedule has these entries, with what it says only if it is requested, and
-- whose workers made so many steps each.
unfoldable pub report : ℕ → Setup → List Entry → Extras → List ℕ → List ℕ
report n setup schedule extras worker_steps = report_text n (data_of setup schedule extras worker_steps)
