-- Answers to the goals that the check of `first_look` leaves open.
use Rattle.history_facts.proofs.OfRun.{few-facts, have-threads}
use Rattle.propagate.proofs.round.first_look.Goals as goal

pub of-requires-clause-few : goal.of-requires-clause-few
of-requires-clause-few c =
    few-facts _ c.deref-in-Some-2.result.now c.in_ok-facts-in-Some-2.ensures.facts c.in_ok-facts-in-Some-2.ensures.of_run

pub of-requires-clause-threads : goal.of-requires-clause-threads
of-requires-clause-threads c =
    have-threads _ c.deref-in-Some-2.result.now c.in_ok-facts-in-Some-2.ensures.facts c.in_ok-facts-in-Some-2.ensures.of_run
