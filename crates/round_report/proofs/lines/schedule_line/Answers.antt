-- Answers to the goals that the check of `schedule_line` leaves open.
use Rattle.std.proofs.Common.{◌≡◌, ◌+◌, ◌<◌, ◌++◌, ℕ, List, length, get_or, take, flat_map, codes, sym, ap, ◌∙◌, append_assoc}
use Rattle.std.proofs.lemmas.List.{take_more, take_all, flat_map_more}
use Rattle.report_spec.specs.declared.Entry.{Entry}
use Rattle.report_spec.specs.Text.{space, newline}
use Rattle.report_spec.specs.Report.{entry_text}
use Rattle.round_report.proofs.lines.schedule_line.Goals as goal

abbrev text_of : Entry → List ℕ
text_of e = space ++ entry_text e

-- one more entry
entry-next :
    (es : List Entry) (k : ℕ) (d : Entry) (before now new : List ℕ)
    → k < length es → now ≡ before ++ flat_map text_of (take k es)
    → new ≡ now ++ space ++ entry_text (get_or es k d)
    → new ≡ before ++ flat_map text_of (take (k + 1) es)
entry-next es k d before now new below is more =
    more
    ∙ append_assoc now space (entry_text (get_or es k d))
    ∙ ap (λ (l : List ℕ). l ++ text_of (get_or es k d)) is
    ∙ flat_map_more text_of before (take k es) (get_or es k d)
    ∙ ap (λ (xs : List Entry). before ++ flat_map text_of xs) (sym (take_more es k d below))

pub loop-entry-preserved : goal.loop-entry-preserved
loop-entry-preserved c =
    entry-next c.args.schedule.now c.loop-entry.entry-index _ (c.args.into.now.items ++ codes "schedule")
    c.loop-entry.into.items c.append_entry.new.into.items c.loop-entry-test.true c.loop-entry.invariant
    c.in_ok-append_entry.ensures

pub returns : goal.returns
returns c =
    let old = c.args.into.now.items in
    let es = c.args.schedule.now in
    c.in_ok-push.ensures.items
    ∙ ap (λ (l : List ℕ). l ++ newline)
    (c.loop-entry.invariant
    ∙ ap (λ (xs : List Entry). old ++ codes "schedule" ++ flat_map text_of xs)
    (take_all c.loop-entry.entry-index es c.loop-entry-test.false))
    ∙ ap (λ (l : List ℕ). l ++ newline) (append_assoc old (codes "schedule") (flat_map text_of es))
    ∙ append_assoc old (codes "schedule" ++ flat_map text_of es) newline
