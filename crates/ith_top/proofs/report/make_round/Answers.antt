-- The round that was made is the next one, reported as its definitions say.
use Rattle.std.proofs.Common.{rules, ◌≡◌, ◌+◌, Some, ap, refl, ◌∙◌}
use Rattle.history_spec.specs.History.{History}
use Rattle.std.specs.Prelude.{option_map}
use Rattle.std.specs.Arc.{arc_value}
use Rattle.round_spec.specs.Rounds.{RoundState}
use Rattle.round_spec.specs.Workers.{IsMadeBy}
use Rattle.rerun_spec.specs.Rounds.{Found, Beginning, with_input}
use Rattle.ith_commands.specs.Counting.{Spends}
use Rattle.ith_commands.specs.Playing.{beginning_said}
use Rattle.ith_top.proofs.Making.{made_on, round_map}
use Rattle.ith_top.proofs.report.make_round.Goals as goal

pub report-requires : goal.report-requires
report-requires g c =
    let start : c.in_ok-start.start ≡ with_input c.args.beginning.setup c.args.input.items = search rules in
    round_map (beginning_said c.args.beginning) c.args.input.items c.in_ok-made.made.round
    (c.in_ok-made.ensures.setup ∙ start) c.in_ok-made.ensures.past c.requires.same

pub returns-clause-played : goal.returns-clause-played
returns-clause-played g c =
    let begins : Beginning = beginning_said c.args.beginning in
    let made = c.in_ok-made.made in
    let w : RoundState = made.round in
    let start : c.in_ok-start.start ≡ with_input c.args.beginning.setup c.args.input.items = search rules in
    let setup : w.setup ≡ with_input c.args.beginning.setup c.args.input.items = c.in_ok-made.ensures.setup ∙ start in
    let is : IsMadeBy c.args.crew.now.workers (with_input c.args.beginning.setup c.args.input.items)
    (option_map arc_value c.args.beginning.past) w.schedule made.worker_steps.items =
    rw start at c.in_ok-made.ensures.made in
    let cost : Spends c.args.crew.now.workers (with_input c.args.beginning.setup c.args.input.items)
    (option_map arc_value c.args.beginning.past) w c.args.crew.now.work.turns c.make.new.self.work.turns =
    rw start at c.in_ok-made.ensures.cost in
    let f : Found = record {
      entries = w.schedule;
      worker_steps = made.worker_steps.items;
      progress = made.progress.items;
      turns = cost.0;
    } in
    made_on c.args.crew.now.workers c.args.form begins c.args.input.items w f
    c.args.crew.now.work.turns c.make.new.self.work.turns c.in_ok-text.field-0.text.items c.in_ok-text.field-0.exited _
    setup c.in_ok-made.ensures.past c.in_ok-made.ensures.stands refl is
    (λ yes. c.in_ok-made.ensures.watched yes) cost.2 cost.1
    c.in_ok-text.ensures.text
    c.in_ok-text.ensures.exited
    (ap (λ (h : History). record {
      number = c.args.beginning.number + 1;
      past = Some h;
      setup = c.args.beginning.setup;
      asked = c.args.beginning.asked;
    }) c.in_ok-text.ensures.history)
