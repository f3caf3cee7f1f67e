-- The history that is searched keeps its records in its own map.
use Rattle.std.proofs.Common.{◌≡◌, ◌∙◌, Some, option_map, ap, sym, subst}
use Rattle.std.specs.Arc.{arc_value}
use Rattle.history_spec.specs.History.{IsMapped}
use Rattle.round_spec.specs.Rounds.{RoundState}
use Rattle.propagate.proofs.round.Round.old_record.Goals as goal

pub returns-in-Some-clause-mapped : goal.returns-in-Some-clause-mapped
returns-in-Some-clause-mapped c = λ h is.
    let past : option_map arc_value c.self.inside.past ≡ c.args.self.now.past =
    ap (λ (w : RoundState). w.past) c.self.view_is in
    let one : Some (arc_value c.in-Some.history) ≡ Some h =
    sym (ap (option_map arc_value) c.in-Some.is) ∙ past ∙ is in
    let same : c.deref.result.now ≡ h = c.deref.ensures ∙ (let own : arc_value c.in-Some.history ≡ h = cc in own) in
    subst IsMapped same c.find.ensures.mapped
