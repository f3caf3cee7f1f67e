-- Answers to the goals that the check of `Records::place` leaves open.
use Rattle.std.proofs.Common.{◌≡◌, ◌∙◌, ap, List, length, arith, map}
use Rattle.std.proofs.lemmas.Grind.{common_steps}
use Rattle.std.specs.Arc.{arc_value}
use Rattle.std.specs.List.{position_or_len}
use Rattle.thunk_spec.specs.Record.{Record}
use Rattle.history_spec.specs.History.{is_of}
use Rattle.run_history.proofs.Placing.{place_in_row, place_past}
use Rattle.run_history.proofs.records.Records.place.Goals as goal

pub returns-then-from-ge-THREADS : goal.returns-then-from-ge-THREADS
returns-then-from-ge-THREADS c =
    let rs : List Record = map arc_value c.self.inside.list.items in
    let count : c.len.result ≡ length rs = grind (arith, common_steps) in
    count ∙ place_past c.self.inside.rows rs c.args.t c.args.number c.self.invariant
    (omega (arith, c.from.ensures, c.if-from-ge-THREADS.true))
    ∙ ap (position_or_len (is_of c.args.t c.args.number)) c.self.view_is

pub returns : goal.returns
returns c =
    let rs : List Record = map arc_value c.self.inside.list.items in
    let place = place_in_row c.self.inside.rows rs c.args.t c.args.number c.self.invariant
    (omega (arith, c.from.ensures, c.if-from-ge-THREADS.false)) in
    let here : c.at.result ≡ position_or_len (is_of c.args.t c.args.number) rs = grind (arith, common_steps) in
    here ∙ ap (position_or_len (is_of c.args.t c.args.number)) c.self.view_is
