-- The text of a replay.
use Rattle.std.specs.Prelude.{ℕ, List, [], ◌∷◌, ◌++◌, length, codes, decimal}
use Rattle.std.specs.List.{concat}
use Rattle.machine_spec.specs.Setup.{Setup}
use Rattle.report_spec.specs.Text.{newline, line}
use Rattle.report_spec.specs.Report.{ReportData, no_extras, ending_text, memory_digest, data_of}
use Rattle.rerun_spec.specs.Reports.{all_executed}

-- The lines of a replay: those of a report that neither reuse nor workers change if each step is executed.
abbrev pub replay_lines : ReportData → List (List ℕ)
replay_lines t =
    (codes "replay" ++ newline)
    ∷ line (codes "end") (ending_text t.ending)
    ∷ line (codes "steps") (decimal (length t.schedule))
    ∷ line (codes "instructions") (decimal t.instructions)
    ∷ line (codes "memory") (memory_digest t.memory)
    ∷ line (codes "output") (decimal (length t.output))
    ∷ []

-- The text of a replay: its lines, the output's bytes, and a newline.
unfoldable pub replay_text : ReportData → List ℕ
replay_text t = concat (replay_lines t) ++ t.output ++ newline

-- The text of a replay of the machine from scratch under a schedule: each step is executed.
abbrev pub replay_of : Setup → List ℕ → List ℕ
replay_of setup threads = replay_text (data_of setup (all_executed threads) no_extras [])
