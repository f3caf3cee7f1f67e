-- Answers to the goals that the check of `last_number` leaves open.
use Rattle.std.proofs.Common.{◌≤◌, ◌∷◌, [], ◌++◌, ap, ◌∙◌, arith}
use Rattle.std.specs.Option.{option_to_list}
use Rattle.std.proofs.lemmas.List.Elements.{All-push, All-same}
use Rattle.rerun_workers.proofs.board.last_number.Goals as goal

pub loop-watch-preserved : goal.loop-watch-preserved
loop-watch-preserved g c = (
  c.join.ensures.added ∙ c.loop-watch.invariant.0,
  c.join.ensures.table ∙ c.loop-watch.invariant.1,
  λ n rest seen.
      c.loop-watch.invariant.2 n
      (All-same (λ watch. watch.reader.seen ≤ n) c.loop-watch.watches.items (c.pop.new.self.items ++ c.in-Some.watch ∷ [])
      (c.pop.ensures.items ∙ ap (λ one. c.pop.new.self.items ++ option_to_list one) c.in-Some.is)
      (All-push (λ watch. watch.reader.seen ≤ n) c.pop.new.self.items c.in-Some.watch rest
      (let joined = c.join.ensures.seen.0 in omega (arith, joined, seen))))
      (let joined = c.join.ensures.seen.1 in omega (arith, joined, seen)),
)
