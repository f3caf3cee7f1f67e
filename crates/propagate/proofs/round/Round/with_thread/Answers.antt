-- Answers to the goals that the check of `Round::with_thread` leaves open.
use Rattle.std.proofs.Common.{◌+◌, Some, ap, refl, sym, subst, ◌∙◌}
use Rattle.machine_spec.specs.Machine.{hart_of}
use Rattle.round_spec.specs.Due.{place_in}
use Rattle.propagate.specs.declared.picking.Candidate.{Candidate}
use Rattle.propagate.specs.Choosing.{AreLeadersBelow, better, leads}
use Rattle.propagate.proofs.Choosing.{leaders-skip, leaders-free, leaders-behind, leaders-due}
use Rattle.propagate.proofs.round.Round.with_thread.Goals as goal
use Rattle.propagate.proofs.round.Round.with_thread.Goals.{then-not-leads-via-then-not-leads, then-not-leads-via-else-not-leads+then-not-is_due_at}

pub returns-then-not-is_free : goal.returns-then-not-is_free
returns-then-not-is_free c =
    leaders-skip c.args.self.now c.args.t c.args.found c.requires.below (sym c.is_free.ensures ∙ c.if-not-is_free.true)

pub returns-then-not-leads : goal.returns-then-not-leads
returns-then-not-leads c =
    let w = c.args.self.now in
    let place = place_in w.past w.machine c.args.t in
    let number = (hart_of w.machine c.args.t).number in
    subst (λ (x : Candidate). AreLeadersBelow w (c.args.t + 1) (record { due = c.args.found.due; free = Some x }))
    (sym (c.better.ensures ∙ ap (better c.args.found.free) c.candidate-next.ensures))
    (elim c.then-not-leads.branch [
      | then-not-leads-via-then-not-leads v ↦
          leaders-behind w c.args.t place number c.args.found c.requires.below
          (sym c.is_free.ensures ∙ c.if-not-is_free.false)
          (ap (leads c.args.found.due) (sym c.candidate-next.ensures) ∙ sym c.leads.ensures ∙ v.if-not-leads.true)
          refl refl
      | then-not-leads-via-else-not-leads+then-not-is_due_at v ↦
          leaders-free w c.args.t place number c.args.found c.requires.below
          (sym c.is_free.ensures ∙ c.if-not-is_free.false)
          (sym v.is_due_at.ensures ∙ v.if-not-is_due_at.true)
          refl refl
    ])

pub returns : goal.returns
returns c =
    let w = c.args.self.now in
    let place = place_in w.past w.machine c.args.t in
    let number = (hart_of w.machine c.args.t).number in
    subst (λ (x : Candidate). AreLeadersBelow w (c.args.t + 1) (record { due = Some c.candidate-next.result; free = Some x }))
    (sym (c.better.ensures ∙ ap (better c.args.found.free) c.candidate-next.ensures))
    (subst
    (λ (x : Candidate). AreLeadersBelow w (c.args.t + 1)
    (record {
      due = Some x;
      free = Some (better c.args.found.free (record { thread = c.args.t; place = place; number = number }));
    }))
    (sym c.candidate-next.ensures)
    (leaders-due w c.args.t place number c.args.found c.requires.below
    (sym c.is_free.ensures ∙ c.if-not-is_free.false)
    (ap (leads c.args.found.due) (sym c.candidate-next.ensures) ∙ sym c.leads.ensures ∙ c.if-not-leads.false)
    (sym c.is_due_at.ensures ∙ c.if-not-is_due_at.false)
    refl refl))
