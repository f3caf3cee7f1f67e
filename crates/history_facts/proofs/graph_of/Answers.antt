-- Answers to the goals that the check of `graph_of` leaves open.
use Rattle.history_facts.proofs.OfRun.{few-facts, have-threads}
use Rattle.history_facts.proofs.graph_of.Goals as goal

pub of-requires-clause-few : goal.of-requires-clause-few
of-requires-clause-few c =
    few-facts _ c.args.history.now c.in_ok-facts.ensures.facts c.in_ok-facts.ensures.of_run

pub of-requires-clause-threads : goal.of-requires-clause-threads
of-requires-clause-threads c =
    have-threads _ c.args.history.now c.in_ok-facts.ensures.facts c.in_ok-facts.ensures.of_run
