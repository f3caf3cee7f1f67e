-- Answers to the goals that the check of `Round::commit_or_discard` leaves open.
use Rattle.std.proofs.Common.{ap, sym, subst, ◌∙◌}
use Rattle.std.specs.Arc.{arc_value}
use Rattle.std.specs.Bool.{OnTrue}
use Rattle.round_spec.specs.declared.events.Event.TheVariants.{Commit}
use Rattle.round_spec.specs.Rounds.{RoundState, happens}
use Rattle.propagate.specs.Committing.{CanCommit}
use Rattle.propagate.proofs.Making.{begun-in_flight}
use Rattle.propagate.proofs.round.Round.commit_or_discard.Goals as goal

pub commit_executed-requires : goal.commit_executed-requires
commit_executed-requires c =
    let can : CanCommit c.args.self.now (arc_value c.args.run.frame) (arc_value c.args.run.rec) =
    subst (λ b. OnTrue b (CanCommit c.args.self.now (arc_value c.args.run.frame) (arc_value c.args.run.rec)))
    c.if-not-can.false c.requires.yes in
    subst (λ (w : RoundState). CanCommit w (arc_value c.args.run.frame) (arc_value c.args.run.rec))
    (sym (begun-in_flight c.args.self.now (arc_value c.args.run.rec).thread can.taken)) can

pub returns-in-Ok-clause-does : goal.returns-in-Ok-clause-does
returns-in-Ok-clause-does c =
    let can : CanCommit c.args.self.now (arc_value c.args.run.frame) (arc_value c.args.run.rec) =
    subst (λ b. OnTrue b (CanCommit c.args.self.now (arc_value c.args.run.frame) (arc_value c.args.run.rec)))
    c.if-not-can.false c.requires.yes in (
      can,
      c.in-Ok.ensures.ok
          ∙ ap (λ (w : RoundState). happens w (Commit (arc_value c.args.run.rec).thread))
          (begun-in_flight c.args.self.now (arc_value c.args.run.rec).thread can.taken),
    )
