-- Answers to the goals that the check of `Records::push` leaves open.
use Rattle.std.proofs.Common.{◌≡◌, ◌∷◌, [], ◌++◌, List, ℕ, ap, sym, subst, map, length, slice_set, slice_index_or, ◌<◌, ◌∙◌, eqb, count_by, arith}
use Rattle.std.proofs.lemmas.Grind.{common_steps}
use Rattle.std.specs.Arc.{arc_value}
use Rattle.thunk_spec.specs.Record.{Record}
use Rattle.history_spec.specs.History.{threads_of_records}
use Rattle.run_history.proofs.Placing.{indexed-more}
use Rattle.run_history.proofs.records.Records.push.Goals as goal

pub invariant_of-self-2 : goal.invariant_of-self-2
invariant_of-self-2 c =
    let before : List Record = map arc_value c.self.inside.list.items in
    let rows : c.add_place.new.rows
    ≡ slice_set c.self.inside.rows (arc_value c.args.rec).thread
    (slice_index_or c.self.inside.rows (arc_value c.args.rec).thread [] ++ length before ∷ []) =
    grind (arith, common_steps) in
    let records : map arc_value c.push.new.self.items ≡ before ++ arc_value c.args.rec ∷ [] =
    grind (arith, common_steps) in
    rw (rows, records)
    (indexed-more c.self.inside.rows before (arc_value c.args.rec) c.self.invariant c.in_ok-add_place.ensures.count
    (subst (λ (rs : List Record). length rs < 65536) (sym c.self.view_is) c.requires.few)
    c.requires.thread
    (c.requires.number ∙ ap
    (λ (rs : List Record). count_by (λ (u : ℕ). eqb u (arc_value c.args.rec).thread) (threads_of_records rs))
    (sym c.self.view_is)))
