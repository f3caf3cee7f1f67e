-- A round that workers make, and the text that reports it.
use Rattle.std.specs.Prelude.{◌≡◌, ℕ, ◌+◌, Bool, List, ◌∷◌}
use Rattle.report_spec.specs.Report.{ReportData, report_text}
use Rattle.rerun_spec.specs.declared.Asked.{Asked}
use Rattle.rerun_spec.specs.Rounds.{Found, Round, Beginning, IsMade, IsWatched, round_on, after_round}
use Rattle.rerun_spec.specs.Reports.{data_as_made, extras_of, made_report, made_exits}
use Rattle.round_report.specs.Short.{short_text, made_short}
use Rattle.ith_top.specs.declared.crew.MadeRound.{MadeRound}
use Rattle.ith_top.specs.declared.report.Form.{Form}
use Rattle.ith_top.specs.declared.report.Form.TheVariants as form
use Rattle.ith_commands.specs.Counting.{IsCounted}

-- The data of the report on a round that workers made, with the optional lines that are requested.
abbrev pub data_of_made : Asked → MadeRound → ReportData
data_of_made asked r =
    data_as_made r.round (extras_of asked r.round.past r.round.setup r.progress.items) r.worker_steps.items

-- The text that reports a round in this way, by its data.
abbrev pub text_by : Form → ℕ → ReportData → List ℕ
text_by form.Report number reported = report_text number reported
text_by form.Line number reported = short_text number reported

-- The text that reports a round in this way, as it was made.
abbrev pub round_text_by : Form → Round → List ℕ
round_text_by form.Report r = made_report r
round_text_by form.Line r = made_short r

-- This many workers made a round from this beginning, on this input, and it was watched if its progress is requested:
-- the turns that they executed are counted, from `earlier` to `later`; the text that reports it in this way, whether it
-- ended by exit, and the beginning of the next round.
pub record IsMadeOn (workers : ℕ) (way : Form) (b : Beginning) (input : List ℕ) (earlier later : ℕ) (text : List ℕ)
    (exit : Bool) (next : Beginning) : Type 0
  where
    pub found : Found
    pub made : IsMade workers (round_on b input found)
    pub watched : IsWatched workers (round_on b input found)
    pub counted : IsCounted workers (round_on b input found)
    pub turns : later ≡ earlier + found.turns
    pub is_text : text ≡ round_text_by way (round_on b input found)
    pub is_exit : exit ≡ made_exits (round_on b input found)
    pub is_next : next ≡ after_round b input found

-- The same on the first of some inputs, which leaves the others.
pub record IsNextMade (workers : ℕ) (way : Form) (b : Beginning) (inputs rest : List (List ℕ)) (earlier later : ℕ)
    (text : List ℕ) (exit : Bool) (next : Beginning) : Type 0
  where
    pub input : List ℕ
    pub taken : inputs ≡ input ∷ rest
    pub made : IsMadeOn workers way b input earlier later text exit next
