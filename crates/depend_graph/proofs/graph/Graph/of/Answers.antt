-- One more step is past, and has its clock.
use Rattle.std.proofs.Common.{◌≡◌, ◌<◌, ◌+◌, ◌++◌, ℕ, List, [], ◌∷◌, length, get_or, sym, ap, ◌∙◌, subst, inl, inr, arith}
use Rattle.std.proofs.lemmas.Bool.{cases_lt}
use Rattle.std.proofs.lemmas.List.{get_or_append_left, get_or_push, length_push}
use Rattle.history_spec.specs.Facts.{Fact}
use Rattle.depend_graph.specs.Joins.{IsClockOf}
use Rattle.depend_graph.specs.Past.{IsPastOf}
use Rattle.depend_graph.proofs.graph.Graph.of.Goals as goal

-- each clock of a list is that of its step, if it is so of the list before one more clock and of that clock
clocks-next :
    (fs : List Fact) (clocks new : List (List ℕ)) (clock : List ℕ) (i : ℕ)
    → length clocks ≡ i → new ≡ clocks ++ clock ∷ []
    → ((k : ℕ) → k < i → IsClockOf fs k (get_or clocks k [])) → IsClockOf fs i clock
    → (k : ℕ) → k < i + 1 → IsClockOf fs k (get_or new k [])
clocks-next fs clocks new clock i many pushed each last k below = elim (cases_lt k i) [
  | inl early ↦
      subst (IsClockOf fs k)
      (sym (ap (λ (cs : List (List ℕ)). get_or cs k []) pushed
      ∙ get_or_append_left clocks (clock ∷ []) [] k (omega arith)))
      (each k early)
  | inr late ↦
      let here : i ≡ k = omega arith in
      subst (λ (j : ℕ). IsClockOf fs j (get_or new j [])) here
      (subst (IsClockOf fs i)
      (sym (ap (λ (cs : List (List ℕ)). get_or cs i []) pushed ∙ get_or_push clocks clock [] i many)) last)
]

pub loop-i-preserved : goal.loop-i-preserved
loop-i-preserved c =
    let fs = c.args.facts.items in
    let i = c.loop-i.i in
    record {
      past = subst (λ (xs : List Fact). IsPastOf xs (i + 1) c.add.new.self) c.deref-in-loop-i.ensures.value c.in_ok-add.ensures;
      many =
          ap (λ (cs : List (List ℕ)). length cs) c.in_ok-push.ensures.items
          ∙ length_push c.loop-i.clocks.items c.clock_of-clock.result
          ∙ ap (λ (n : ℕ). n + 1) c.loop-i.invariant.many;
      each =
          clocks-next fs c.loop-i.clocks.items c.push.new.self.items c.clock_of-clock.result i c.loop-i.invariant.many
          c.in_ok-push.ensures.items c.loop-i.invariant.each
          (subst (λ (xs : List Fact). IsClockOf xs i c.clock_of-clock.result) c.deref.ensures.value c.clock_of-clock.ensures);
    }
