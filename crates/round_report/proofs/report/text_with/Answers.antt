-- Answers to the goals that the check of `text_with` leaves open.
use Rattle.std.proofs.Common.{◌≡◌, ℕ, List, [], ◌∷◌, ◌++◌, length, codes, decimal, sym, ap, ◌∙◌, append_assoc, refl}
use Rattle.std.specs.List.{concat}
use Rattle.std.proofs.lemmas.List.Folds.{concat-append}
use Rattle.report_spec.specs.Text.{newline, line, list_line}
use Rattle.report_spec.specs.Report.{ReportData, ending_text, entry_text, reused_count, executed_count, memory_digest, reached_lines, progress_lines, report_lines, report_text}
use Rattle.round_report.specs.Parts.{steps_part, work_part, outcome_part}
use Rattle.round_report.proofs.report.text_with.Goals as goal

-- ten lines, more lines at two places between them, and what comes after, cut into four
cut :
    (a b c d e : List ℕ) (more : List (List ℕ)) (f g : List ℕ) (others : List (List ℕ)) (h i j output end : List ℕ)
    → concat (a ∷ b ∷ c ∷ d ∷ e ∷ more ++ f ∷ g ∷ others ++ h ∷ i ∷ j ∷ []) ++ output ++ end
    ≡ a ++ (b ++ (c ++ d ++ e) ++ concat more) ++ (f ++ g ++ concat others ++ h) ++ (i ++ j ++ output ++ end)
cut a b c d e more f g others h i j output end =
    rw (
      concat-append ((a ∷ b ∷ c ∷ d ∷ e ∷ more) ++ f ∷ g ∷ others) (h ∷ i ∷ j ∷ []),
      concat-append (a ∷ b ∷ c ∷ d ∷ e ∷ more) (f ∷ g ∷ others),
    ) (simp append_assoc)

-- a report in its parts
opened : (n : ℕ) (t : ReportData) → report_text n t ≡ concat (report_lines n t) ++ t.output ++ newline
unfolding report_text
opened n t = refl

in_parts :
    (n : ℕ) (t : ReportData)
    → concat (report_lines n t) ++ t.output ++ newline
    ≡ line (codes "round") (decimal n) ++ steps_part t ++ work_part t ++ outcome_part t
in_parts n t =
    cut
    (line (codes "round") (decimal n))
    (line (codes "end") (ending_text t.ending))
    (line (codes "steps") (decimal (length t.schedule)))
    (line (codes "reused") (decimal (reused_count t.schedule)))
    (line (codes "executed") (decimal (executed_count t.schedule)))
    (reached_lines t.extras.reached)
    (line (codes "instructions") (decimal t.instructions))
    (list_line (codes "by") decimal t.worker_steps)
    (progress_lines t.extras.progress)
    (list_line (codes "schedule") entry_text t.schedule)
    (line (codes "memory") (memory_digest t.memory))
    (line (codes "output") (decimal (length t.output)))
    t.output
    newline

report_text_is :
    (n : ℕ) (t : ReportData)
    → report_text n t ≡ line (codes "round") (decimal n) ++ steps_part t ++ work_part t ++ outcome_part t
report_text_is n t = opened n t ∙ in_parts n t

-- four parts, appended one after the other
appended :
    (a b c d : List ℕ)
    → {start first second third last : List ℕ}
    → start ≡ []
    → first ≡ start ++ a
    → second ≡ first ++ b
    → third ≡ second ++ c
    → last ≡ third ++ d
    → last ≡ a ++ b ++ c ++ d
appended a b c d e e1 e2 e3 e4 =
    e4 ∙ ap (λ t. t ++ d) (e3 ∙ ap (λ t. t ++ c) (e2 ∙ ap (λ t. t ++ b) (e1 ∙ ap (λ t. t ++ a) e))) ∙ simp append_assoc

pub returns : goal.returns
returns c =
    let t = c.args.reported.now in
    appended (line (codes "round") (decimal c.args.number)) (steps_part t) (work_part t) (outcome_part t)
    c.new-text.ensures.items c.in_ok-number_line.ensures c.in_ok-append_steps.ensures c.in_ok-append_work.ensures
    c.in_ok-append_outcome.ensures
    ∙ sym (report_text_is c.args.number t)
