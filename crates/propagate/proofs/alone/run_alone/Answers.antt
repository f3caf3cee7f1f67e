-- Answers to the goals that the check of `run_alone` leaves open.
use Rattle.std.proofs.Common.{option_map, arith}
use Rattle.std.specs.Arc.{arc_value}
use Rattle.round_spec.specs.Unedited.{OnlyReuses}
use Rattle.propagate.proofs.Executing.{alone-threads, alone-permitted, alone-complete, alone-scratch, alone-picked, alone-least, alone-ends, alone-discarded, alone-reuses}
use Rattle.propagate.proofs.alone.run_alone.Goals as goal

pub returns-clause-threads : goal.returns-clause-threads
returns-clause-threads c =
    alone-threads c.args.setup (option_map arc_value c.args.past) _ c.in_ok-round.ensures.sound c.in_ok-round.ensures.alone

pub returns-clause-permitted : goal.returns-clause-permitted
returns-clause-permitted c =
    alone-permitted c.args.setup (option_map arc_value c.args.past) _ c.in_ok-round.ensures.sound c.in_ok-round.ensures.alone

pub returns-clause-complete : goal.returns-clause-complete
returns-clause-complete c =
    alone-complete c.args.setup (option_map arc_value c.args.past) _ c.in_ok-round.ensures.sound c.in_ok-round.ensures.alone

pub returns-clause-scratch : goal.returns-clause-scratch
returns-clause-scratch c =
    alone-scratch c.args.setup (option_map arc_value c.args.past) _ c.in_ok-round.ensures.sound c.in_ok-round.ensures.alone

pub returns-clause-picked : goal.returns-clause-picked
returns-clause-picked c =
    alone-picked c.args.setup (option_map arc_value c.args.past) _ c.in_ok-round.ensures.sound c.in_ok-round.ensures.alone

pub returns-clause-least : goal.returns-clause-least
returns-clause-least c =
    alone-least c.args.setup (option_map arc_value c.args.past) _ c.in_ok-round.ensures.sound c.in_ok-round.ensures.alone

pub returns-clause-ends : goal.returns-clause-ends
returns-clause-ends c =
    alone-ends c.args.setup (option_map arc_value c.args.past) _ c.in_ok-round.ensures.sound c.in_ok-round.ensures.alone

pub returns-clause-discarded : goal.returns-clause-discarded
returns-clause-discarded c =
    alone-discarded c.args.setup (option_map arc_value c.args.past) _ c.in_ok-round.ensures.sound c.in_ok-round.ensures.alone

pub returns-clause-unedited : goal.returns-clause-unedited
returns-clause-unedited c =
    λ h. alone-reuses c.args.setup (option_map arc_value c.args.past) c.in_ok-round.round h c.in_ok-round.ensures.alone

pub returns-clause-executes_nothing : goal.returns-clause-executes_nothing
returns-clause-executes_nothing c = λ h there unedited.
    let reuses : OnlyReuses h c.in_ok-round.round =
    alone-reuses c.args.setup (option_map arc_value c.args.past) c.in_ok-round.round h c.in_ok-round.ensures.alone
    there unedited in
    omega (arith, c.in_ok-round.ensures.cost, reuses.executed)
