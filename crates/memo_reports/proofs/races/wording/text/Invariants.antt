-- The lines so far.
use Rattle.std.proofs.Common.{◌≡◌, ◌++◌, codes, decimal, take}
use Rattle.std.specs.List.{flat_map}
use Rattle.report_spec.specs.Text.{line}
use Rattle.memo_reports.specs.RacesText.{race_line}
use Rattle.memo_reports.proofs.races.wording.text.Given as goal

abbrev pub invariant-loop-race : goal.invariant-loop-race
invariant-loop-race l =
    l.text.items ≡ line (codes "races") (decimal l.races.total) ++ flat_map (race_line l.addresses) (take l.race-index l.race-items)
