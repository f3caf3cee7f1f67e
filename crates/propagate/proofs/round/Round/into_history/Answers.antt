-- Answers to the goals that the check of `Round::into_history` leaves open.
use Rattle.std.proofs.Common.{◌≡◌, true, Some, is_some, refl, sym, ap, subst, ◌∙◌}
use Rattle.std.proofs.lemmas.Bool.{false≢true, OnTrue_at}
use Rattle.history_spec.specs.History.{History, is_coherent, IsMapped}
use Rattle.round_spec.specs.Rounds.{history_of}
use Rattle.propagate.specs.Consistency.{IsOfMap, IsValid}
use Rattle.propagate.proofs.Keeping.{applied-coherent, left_honest, valid_consistent}
use Rattle.propagate.proofs.Mapped.{sound_map}
use Rattle.propagate.proofs.round.Round.into_history.Goals as goal

pub new-history-requires : goal.new-history-requires
new-history-requires c =
    subst IsMapped c.into_steps-setup.ensures (OnTrue_at c.if-not-same_map.false c.has_same_map-same_map.ensures.mapped)

pub known_coherent-requires : goal.known_coherent-requires
known_coherent-requires c =
    subst (λ (h : History). is_coherent h ≡ true)
    (ap history_of c.self.view_is ∙ c.into_steps-setup.ensures ∙ sym c.new-history.ensures)
    (applied-coherent _ c.self.invariant.applied
    (sym (ap is_some c.ended.ensures.ending) ∙ sym c.is_some-has_end.ensures ∙ c.if-has_end.true))

pub returns-then-not-same_map : goal.returns-then-not-same_map
returns-then-not-same_map c =
    let w = c.args.self in
    let other : IsOfMap w.past w.setup → ⊥ = λ same.
    false≢true (sym c.if-not-same_map.true ∙ c.has_same_map-same_map.ensures.same.1 same) in
    record {
      same = λ same. absurd (other same);
      other = λ not_same. refl;
      sound = λ sound. absurd (other (sound_map w.past w.setup sound));
      honest = λ sound ended. absurd (other (sound_map w.past w.setup sound));
    }

pub returns-then-has_end : goal.returns-then-has_end
returns-then-has_end c =
    let w = c.args.self in
    let is : c.known_coherent.result ≡ history_of w =
    c.known_coherent.ensures ∙ c.new-history.ensures ∙ sym c.into_steps-setup.ensures in
    let valid : IsValid w = valid_consistent _ _ _ _ _ _ c.self.view_is c.self.invariant in
    record {
      same = λ same. ap Some is;
      other = λ not_same. absurd (not_same (c.has_same_map-same_map.ensures.same.0 c.if-not-same_map.false));
      sound = λ sound. ap Some is;
      honest = left_honest w valid.setup valid.in_order;
    }

pub returns-else-has_end : goal.returns-else-has_end
returns-else-has_end c =
    let w = c.args.self in
    let is : c.new-history.result ≡ history_of w = c.new-history.ensures ∙ sym c.into_steps-setup.ensures in
    let valid : IsValid w = valid_consistent _ _ _ _ _ _ c.self.view_is c.self.invariant in
    record {
      same = λ same. ap Some is;
      other = λ not_same. absurd (not_same (c.has_same_map-same_map.ensures.same.0 c.if-not-same_map.false));
      sound = λ sound. ap Some is;
      honest = left_honest w valid.setup valid.in_order;
    }
