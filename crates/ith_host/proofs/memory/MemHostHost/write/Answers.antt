-- Answers to the goals that the check of `write` leaves open.
use Rattle.std.proofs.Common.{refl, arith}
use Rattle.std.proofs.lemmas.Map.Text.{text_keys}
use Rattle.ith_host.proofs.memory.MemHostHost.write.Goals as goal

pub returns-then-is_failing-clause-others : goal.returns-then-is_failing-clause-others
returns-then-is_failing-clause-others c =
    record { is_stated = refl; others = λ other differs. grind (arith, text_keys); printed = grind arith }

pub returns-in-Ok-clause-others : goal.returns-in-Ok-clause-others
returns-in-Ok-clause-others c =
    record { is_stated = refl; others = λ other differs. grind (arith, text_keys); printed = grind arith }
