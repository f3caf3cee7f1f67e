-- The name and the entries so far come after what was there.
use Rattle.std.proofs.Common.{◌≡◌, ◌++◌, take, flat_map}
use Rattle.std.specs.Prelude.{codes}
use Rattle.report_spec.specs.declared.Entry.{Entry}
use Rattle.report_spec.specs.Text.{space}
use Rattle.report_spec.specs.Report.{entry_text}
use Rattle.round_report.proofs.lines.schedule_line.Given as goal

abbrev pub invariant-loop-entry : goal.invariant-loop-entry
invariant-loop-entry l =
    l.into.items
    ≡ l.fn.into.items ++ codes "schedule" ++ flat_map (λ (e : Entry). space ++ entry_text e)
    (take l.entry-index l.schedule)
