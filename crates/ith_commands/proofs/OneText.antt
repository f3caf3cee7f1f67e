-- How a command line ends that prints one text.
use Rattle.std.proofs.Common.{ℕ, List, Option, ◌⊎◌, ◌∙◌, inl, inr}
use Rattle.history_spec.specs.History.{History}
use Rattle.history_spec.specs.Audit.{IsVerdict}
use Rattle.ith_host.specs.World.{World, AsksNothing}
use Rattle.ith_words.specs.Words.{Text, Line}
use Rattle.ith_commands.specs.declared.status.Status.{Status}
use Rattle.ith_commands.specs.declared.status.Status.TheVariants as status
use Rattle.ith_commands.specs.Files.{files_named, Reads}
use Rattle.ith_commands.specs.Contents.{IsRemembered}
use Rattle.ith_commands.specs.Ends.{Prints, PrintsText, PrintsTextInPart, HasHistory, HasVerdict, EndsEarly}
use Rattle.ith_commands.specs.Refusals.{WhyUnprinted}
use Rattle.ith_commands.proofs.Worlds.{stays_trans}
use Rattle.ith_commands.proofs.Printing.{in_part, prints_after}
use Rattle.ith_commands.proofs.Asking.{unbegun}

abbrev pub has_history : (name : Text) (a : World) (h : History) → IsRemembered a name h → HasHistory name a
has_history name a h is = record { history = h; remembered = is }

abbrev pub has_verdict : (name : Text) (place : Option ℕ) (a : World) (h : History) → IsRemembered a name h → IsVerdict h place
    → HasVerdict name place a
has_verdict name place a h is verdict = record { history = h; remembered = is; verdict = verdict }

-- the text was printed
abbrev pub reported :
    (line : Line) (Has : Type 0) (text : Has → List ℕ) (has : Has) (a b c : World)
    → Reads (files_named line) a b → AsksNothing b c → Prints b c (text has) → PrintsText line Has text a c
reported line Has text has a b c reads none prints =
    record { asked = none ∙ reads.asked; has = has; prints = prints_after a b c (text has) reads.stays prints }

-- it wasn't printed whole
pub unstated :
    (line : Line) (Has : Type 0) (text : Has → List ℕ) (has : Has) (Late : Status → Type 0) (a b c : World) (s : Status)
    → Reads (files_named line) a b → AsksNothing b c
    → (PrintsTextInPart line Has text a c → Late status.WriteFault)
    → WhyUnprinted (text has) b c s → EndsEarly line a c s ⊎ Late s
unstated line Has text has Late a b c status.WriteFault reads none late why =
    inr
    (late
    (record {
      asked = none ∙ reads.asked;
      has = has;
      part = in_part (text has) a b c reads.stays reads.counts why;
    }))
unstated line Has text has Late a b c status.NoMemory reads none late why =
    inl (unbegun (files_named line) a c (none ∙ reads.asked) (stays_trans a b c reads.stays why))
unstated line Has text has Late a b c _ reads none late why = absurd why
