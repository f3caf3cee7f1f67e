-- Answers to the goals that the check of `records_are_true` leaves open.
use Rattle.std.proofs.lemmas.List.Elements.{All-from_recursion}
use Rattle.machine_spec.specs.Setup.{first, records}
use Rattle.machine_spec.proofs.Beginning.{IsWhole-first}
use Rattle.history_spec.proofs.Truth.{IsTrueIn, records-true}
use Rattle.history_spec.proofs.records_are_true.Goals as goal

pub returns : goal.returns
returns c = λ setup schedule valid permitted.
    All-from_recursion (IsTrueIn (first setup).frame) (records setup schedule)
    (records-true (first setup) schedule (IsWhole-first setup valid) permitted)
