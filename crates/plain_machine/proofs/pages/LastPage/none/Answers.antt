-- Answers to the goals that the check of `LastPage::none` leaves open.
use Rattle.std.proofs.Common.{arith}
use Rattle.plain_machine.proofs.pages.LastPage.none.Goals as goal

-- no address has that number
pub returns : goal.returns
returns c = λ map address small same. absurd (omega (arith, small, same))
