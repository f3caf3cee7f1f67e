-- Worked examples of whole reports, each computed by the checker; the digest isn't computed. The text is the one that
-- the report's format prescribes.
use Rattle.std.proofs.Common.{◌≡◌, ℕ, [], ◌∷◌, ◌++◌, refl}
use Rattle.std.specs.Prelude.{codes}
use Rattle.std.specs.List.{concat}
use Rattle.hex.specs.Hex.{encode_lower, encode_with}
use Rattle.sha2.specs.Sha256.{sha256}
use Rattle.report_spec.specs.Text.{hex8}
use Rattle.report_spec.specs.Report.{ReportData, memory_digest, report_lines, report_text}

-- After the lines come the output's bytes as they are, and a newline.
pub report_text-output : (n : ℕ) (t : ReportData) → report_text n t ≡ concat (report_lines n t) ++ t.output ++ 10 ∷ []
unfolding report_text
report_text-output n t = refl

-- The digest is of the pages in order, in lower-case digits.
pub memory_digest-pages : memory_digest ((1 ∷ 2 ∷ []) ∷ (3 ∷ []) ∷ []) ≡ encode_lower (sha256 (1 ∷ 2 ∷ 3 ∷ []))
unfolding memory_digest
memory_digest-pages = refl

-- A pc has eight digits, the highest first.
pub hex8-digits : hex8 0x000A01BC ≡ codes "000a01bc"
unfolding encode_with
hex8-digits = refl
