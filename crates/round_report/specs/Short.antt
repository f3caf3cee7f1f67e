-- A round in one line: how it ended, and its output.
use Rattle.std.specs.Prelude.{ℕ, List, ◌++◌, codes, decimal}
use Rattle.hex.specs.Hex.{encode_lower}
use Rattle.report_spec.specs.Text.{space, line}
use Rattle.report_spec.specs.Report.{ReportData, no_extras, ending_text, data_of}
use Rattle.rerun_spec.specs.Rounds.{Round, made, entries_of}
use Rattle.rerun_spec.specs.Reports.{data_as_made}

-- The line after its first word: the round's number, its end, and its output in lower-case hexadecimal.
abbrev pub short_words : ℕ → ReportData → List ℕ
short_words n t =
    decimal n ++ space ++ codes "end" ++ space ++ ending_text t.ending ++ space ++ codes "output" ++ space
    ++ encode_lower t.output

-- The line of round n.
unfoldable pub short_text : ℕ → ReportData → List ℕ
short_text n t = line (codes "round") (short_words n t)

-- The line of a round: that of the machine from scratch under the schedule that its workers found.
abbrev pub short_of : Round → List ℕ
short_of r = short_text r.number (data_of r.setup (entries_of r) no_extras r.found.worker_steps)

-- The line of a round as it was made, whatever history it is based on.
abbrev pub made_short : Round → List ℕ
made_short r = short_text r.number (data_as_made (made r) no_extras r.found.worker_steps)
