-- Answers to the goals that the check of `run_by_first` leaves open.
use Rattle.std.proofs.Common.{option_map, rules, length}
use Rattle.std.specs.Arc.{arc_value}
use Rattle.rerun_workers.proofs.Made.{by-one, first_set, first-each, first-sum, cost-first}
use Rattle.rerun_workers.proofs.running.run_by_first.Goals as goal

pub returns-clause-worker_steps : goal.returns-clause-worker_steps
returns-clause-worker_steps g c =
    first_set c.args.workers (length c.in_ok-round.round.schedule) c.in_ok-worker_steps.worker_steps.items
    c.list_first.new.worker_steps.items c.requires.some (search rules) (search rules)

pub returns-clause-round : goal.returns-clause-round
returns-clause-round g c =
    let steps = length c.in_ok-round.round.schedule in
    let worker_steps = returns-clause-worker_steps g c in
    by-one c.args.workers c.args.setup (option_map arc_value c.args.past) c.in_ok-round.round
    c.list_first.new.worker_steps.items c.in_ok-round.ensures.alone c.in_ok-round.ensures.sound
    c.schedule.ensures.valid.by_schedule
    (first-each c.args.workers steps c.list_first.new.worker_steps.items c.requires.some worker_steps)
    (first-sum c.args.workers steps c.list_first.new.worker_steps.items worker_steps)

pub returns-clause-cost : goal.returns-clause-cost
returns-clause-cost g c =
    cost-first c.args.workers c.args.effort.turns c.run_alone_shown.new.turns c.args.setup (option_map arc_value c.args.past)
    c.in_ok-round.round c.list_first.new.worker_steps.items (returns-clause-round g c) c.in_ok-round.ensures.cost
    c.requires.unused c.requires.idle
