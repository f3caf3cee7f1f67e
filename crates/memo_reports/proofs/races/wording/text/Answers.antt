-- One more race's line, and after the last one all lines.
use Rattle.std.proofs.Common.{List, ◌++◌, ap, ◌∙◌, codes, decimal}
use Rattle.std.specs.List.{flat_map}
use Rattle.std.proofs.lemmas.List.{take_all}
use Rattle.report_spec.specs.Text.{line}
use Rattle.round_spec.specs.declared.Race.{Race}
use Rattle.memo_reports.specs.RacesText.{race_line, races_text}
use Rattle.memo_reports.proofs.Entries.{texts_next}
use Rattle.memo_reports.proofs.races.wording.text.Goals as goal

pub loop-race-preserved : goal.loop-race-preserved
loop-race-preserved c =
    texts_next (race_line c.args.addresses.now) c.as_slice-race-items.result.now c.loop-race.race-index _
    (line (codes "races") (decimal c.args.races.now.total)) c.loop-race.text.items c.race_line.new.into.items
    c.loop-race-test.true c.loop-race.invariant c.in_ok-race_line.ensures

pub returns : goal.returns
unfolding races_text
returns c =
    c.loop-race.invariant
    ∙ ap (λ (rs : List Race). line (codes "races") (decimal c.args.races.now.total) ++ flat_map (race_line c.args.addresses.now) rs)
    (take_all c.loop-race.race-index c.as_slice-race-items.result.now c.loop-race-test.false
    ∙ c.as_slice-race-items.ensures)
