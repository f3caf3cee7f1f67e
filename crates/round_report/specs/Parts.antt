-- A report in parts, each a few of its lines.
use Rattle.std.specs.Prelude.{ℕ, List, ◌++◌, length, codes, decimal}
use Rattle.std.specs.List.{concat}
use Rattle.report_spec.specs.declared.Entry.{Entry}
use Rattle.report_spec.specs.Text.{newline, line, list_line}
use Rattle.report_spec.specs.Report.{ReportData, ending_text, entry_text, reused_count, executed_count, memory_digest, reached_lines, progress_lines}

-- The lines that count a schedule's entries: all, the reused, the executed.
abbrev pub counts_part : List Entry → List ℕ
counts_part schedule =
    line (codes "steps") (decimal (length schedule))
    ++ line (codes "reused") (decimal (reused_count schedule))
    ++ line (codes "executed") (decimal (executed_count schedule))

-- How it ended, after how many steps, and how many old steps are reached, if that is reported.
abbrev pub steps_part : ReportData → List ℕ
steps_part t =
    line (codes "end") (ending_text t.ending)
    ++ counts_part t.schedule
    ++ concat (reached_lines t.extras.reached)

-- The work: instructions, how many steps each worker made, the numbers of steps that a watcher read, if they are
-- reported, and the schedule.
abbrev pub work_part : ReportData → List ℕ
work_part t =
    line (codes "instructions") (decimal t.instructions)
    ++ list_line (codes "by") decimal t.worker_steps
    ++ concat (progress_lines t.extras.progress)
    ++ list_line (codes "schedule") entry_text t.schedule

-- How a replay ended, after how many steps and instructions.
abbrev pub run_part : ReportData → List ℕ
run_part t =
    line (codes "end") (ending_text t.ending)
    ++ line (codes "steps") (decimal (length t.schedule))
    ++ line (codes "instructions") (decimal t.instructions)

-- The result: the memory's digest, and the output.
abbrev pub outcome_part : ReportData → List ℕ
outcome_part t =
    line (codes "memory") (memory_digest t.memory)
    ++ line (codes "output") (decimal (length t.output))
    ++ t.output
    ++ newline
