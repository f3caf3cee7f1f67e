-- The invariant of the loop of `text`.
use Rattle.std.proofs.Common.{◌≡◌, ◌∷◌, [], ◌++◌, take, length, flat_map}
use Rattle.std.specs.Prelude.{codes, decimal}
use Rattle.round_report.specs.WhyText.{reason_line}
use Rattle.round_report.proofs.why.wording.text.Given as goal

-- the first line, and the lines so far
abbrev pub invariant-loop-reason : goal.invariant-loop-reason
invariant-loop-reason l =
    l.text.items
    ≡ ((codes "why " ++ decimal (length l.reasons)) ++ 10 ∷ []) ++ flat_map reason_line (take l.reason-index l.reasons)
