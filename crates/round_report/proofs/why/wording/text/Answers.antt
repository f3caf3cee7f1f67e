-- Answers to the goals that the check of `text` leaves open.
use Rattle.std.proofs.Common.{◌≡◌, ◌∷◌, [], ◌++◌, List, length, flat_map, ap, ◌∙◌, append_assoc, arith}
use Rattle.std.specs.Prelude.{codes, decimal}
use Rattle.std.proofs.lemmas.List.{take_all}
use Rattle.round_report.specs.declared.why.reason.Reason.{Reason}
use Rattle.round_report.specs.WhyText.{reason_line, why_text}
use Rattle.round_report.proofs.why.wording.text.Goals as goal

whole :
    (reasons : List Reason)
    → ((codes "why " ++ decimal (length reasons)) ++ 10 ∷ []) ++ flat_map reason_line reasons ≡ why_text reasons
unfolding why_text
whole reasons = simp append_assoc

pub returns : goal.returns
returns c =
    c.loop-reason.invariant
    ∙ ap (λ (rs : List Reason). ((codes "why " ++ decimal (length c.args.reasons.now)) ++ 10 ∷ []) ++ flat_map reason_line rs)
    (take_all c.loop-reason.reason-index c.args.reasons.now (omega arith))
    ∙ whole c.args.reasons.now
