-- Answers to the goals that the check of `replayed_with` leaves open.
use Rattle.std.proofs.Common.{◌≡◌, ℕ, List, [], ◌∷◌, ◌++◌, length, codes, decimal, sym, ap, ◌∙◌, append_assoc, refl}
use Rattle.std.specs.List.{concat}
use Rattle.report_spec.specs.Text.{newline, line}
use Rattle.report_spec.specs.Report.{ReportData, ending_text, memory_digest}
use Rattle.round_report.specs.Parts.{run_part, outcome_part}
use Rattle.round_report.specs.Replay.{replay_lines, replay_text}
use Rattle.round_report.proofs.replay.replayed_with.Goals as goal

-- six lines and what comes after them, cut into three
cut :
    (a b c d e f output end : List ℕ)
    → concat (a ∷ b ∷ c ∷ d ∷ e ∷ f ∷ []) ++ output ++ end ≡ a ++ (b ++ c ++ d) ++ (e ++ f ++ output ++ end)
cut a b c d e f output end = simp append_assoc

-- a replay's text in its parts
opened : (t : ReportData) → replay_text t ≡ concat (replay_lines t) ++ t.output ++ newline
unfolding replay_text
opened t = refl

in_parts :
    (t : ReportData)
    → concat (replay_lines t) ++ t.output ++ newline ≡ (codes "replay" ++ newline) ++ run_part t ++ outcome_part t
in_parts t =
    cut
    (codes "replay" ++ newline)
    (line (codes "end") (ending_text t.ending))
    (line (codes "steps") (decimal (length t.schedule)))
    (line (codes "instructions") (decimal t.instructions))
    (line (codes "memory") (memory_digest t.memory))
    (line (codes "output") (decimal (length t.output)))
    t.output
    newline

-- three parts, appended one after the other
appended :
    (a b c : List ℕ)
    → {start first second last : List ℕ}
    → start ≡ []
    → first ≡ start ++ a
    → second ≡ first ++ b
    → last ≡ second ++ c
    → last ≡ a ++ b ++ c
appended a b c is is1 is2 is3 =
    is3 ∙ ap (λ t. t ++ c) (is2 ∙ ap (λ t. t ++ b) (is1 ∙ ap (λ t. t ++ a) is)) ∙ simp append_assoc

pub returns : goal.returns
returns c =
    let t = c.args.reported.now in
    appended (codes "replay" ++ newline) (run_part t) (outcome_part t)
    c.new-text.ensures.items c.in_ok-extend_from_slice.ensures.items c.in_ok-append_run.ensures
    c.in_ok-append_outcome.ensures
    ∙ sym (opened t ∙ in_parts t)
