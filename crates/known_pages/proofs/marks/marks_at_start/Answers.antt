-- Answers to the goals that the check of `marks_at_start` leaves open.
use Rattle.std.proofs.Common.{◌≡◌, Option, option_map, ap, sym, subst, ◌∙◌}
use Rattle.std.specs.Arc.{arc_value}
use Rattle.machine_spec.specs.Setup.{Setup, IsSetup, first}
use Rattle.history_spec.specs.History.{History, IsSameProgram}
use Rattle.round_spec.specs.Rounds.{opening}
use Rattle.known_pages.specs.Alike.{AreMarksOn, ContinuesAs}
use Rattle.known_pages.proofs.Alike.{as-before-start}
use Rattle.known_pages.proofs.marks.marks_at_start.Goals as goal

pub returns-in_ok-marks-in-Some : goal.returns-in_ok-marks-in-Some
returns-in_ok-marks-in-Some c =
    record {
      marked = λ h is.
          let there = sym (ap (option_map arc_value) c.in-Some.is) ∙ is in
          let own : arc_value c.in-Some.history ≡ h = cc in
          let old : c.setup.result.now ≡ h.setup =
          c.setup.ensures.setup ∙ ap (λ (x : History). x.setup) (c.deref.ensures ∙ own) in
          let same : c.setup-in-Some.result.now ≡ h.setup =
          c.setup-in-Some.ensures.setup ∙ ap (λ (x : History). x.setup) (c.deref-in-Some.ensures ∙ own) in
          let marks = c.in_ok-marks-in-Some.marks.items in
          let new = c.args.setup.now in
          subst (λ (past : Option History). ContinuesAs h marks (opening new past)) (sym is)
          (as-before-start new h marks
          (subst IsSetup same c.in_ok-marks-in-Some.ensures.valid)
          (sym (c.requires.coherent h is) ∙ c.if-coherent.true)
          (subst (λ (s : Setup). IsSameProgram s new) old
          (c.is_same_program.ensures.program c.if-is_same_program.true))
          (subst (λ (s : Setup). s.fuel ≡ new.fuel) old (c.is_same_program.ensures.fuel c.if-is_same_program.true))
          (subst (λ (s : Setup). AreMarksOn (first s).memory (first new).memory marks) same
          c.in_ok-marks-in-Some.ensures.marks));
      clean = λ h coherent reused.
          let there = sym (ap (option_map arc_value) c.in-Some.is) ∙ reused.past in
          let own : arc_value c.in-Some.history ≡ h = cc in
          let same : c.setup-in-Some.result.now ≡ h.setup =
          c.setup-in-Some.ensures.setup ∙ ap (λ (x : History). x.setup) (c.deref-in-Some.ensures ∙ own) in
          c.in_ok-marks-in-Some.ensures.clean (same ∙ sym reused.setup);
    }
