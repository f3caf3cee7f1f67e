-- The text of an audit: a line with the number of records, one with the number of instructions, and one with the
-- verdict.
use Rattle.std.specs.Prelude.{ℕ, List, ◌++◌, codes, Option, Some, None}
use Rattle.std.specs.Fmt.{decimal}
use Rattle.report_spec.specs.Text.{newline, line}

-- That the history is honest, or the place of its first false record.
abbrev pub verdict_line : Option ℕ → List ℕ
verdict_line None = codes "honest" ++ newline
verdict_line (Some place) = line (codes "false") (decimal place)

-- The lines of the audit of `entries` records.
abbrev pub audit_text : ℕ → ℕ → Option ℕ → List ℕ
audit_text entries instructions first =
    line (codes "audit") (decimal entries) ++ line (codes "instructions") (decimal instructions) ++ verdict_line first
