-- The reasons of a round's executed steps as text.
use Rattle.std.specs.Prelude.{ℕ, List, ◌++◌, length, codes, decimal, Option, Some, None}
use Rattle.std.specs.List.{flat_map}
use Rattle.report_spec.specs.Text.{newline, line, hex8}
use Rattle.round_report.specs.declared.why.reason.Cause.{Cause}
use Rattle.round_report.specs.declared.why.reason.Cause.TheVariants.{NoRecord, Register, Byte}
use Rattle.round_report.specs.declared.why.reason.Reason.{Reason}

-- The entry that stored a byte, or the start of the run.
abbrev pub storer_text : Option ℕ → List ℕ
storer_text None = codes "start"
storer_text (Some entry) = decimal entry

-- What a number is now, and what it was.
abbrev pub change_text : ℕ → ℕ → List ℕ
change_text now was = codes " now " ++ decimal now ++ codes " was " ++ decimal was

-- A cause in words.
abbrev pub cause_text : Cause → List ℕ
cause_text NoRecord = codes "none"
cause_text (Register register now was) = codes "register " ++ decimal register ++ change_text now was
cause_text (Byte page place now was storer) =
    codes "page " ++ hex8 page ++ codes " at " ++ decimal place ++ change_text now was ++ codes " by "
    ++ storer_text storer

-- The line of a reason.
abbrev pub reason_line : Reason → List ℕ
reason_line r =
    codes "step " ++ decimal r.step ++ codes " thread " ++ decimal r.thread ++ codes " number " ++ decimal r.number
    ++ codes " " ++ cause_text r.cause ++ newline

-- How many reasons there are, and the line of each.
unfoldable pub why_text : List Reason → List ℕ
why_text reasons = line (codes "why") (decimal (length reasons)) ++ flat_map reason_line reasons
