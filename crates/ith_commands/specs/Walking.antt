-- How far a round was walked.
use Rattle.std.specs.Prelude.{◌≡◌, ℕ, ◌<◌, List, slice_index}
use Rattle.guest_call.specs.declared.thread_number.TheConstants.{THREADS}
use Rattle.machine_spec.specs.Machine.{Machine}
use Rattle.report_spec.specs.Report.{threads_of}
use Rattle.round_spec.specs.Rounds.{RoundState}
use Rattle.round_report.specs.Storing.{view_since}
use Rattle.round_report.specs.Reasons.{made_before}

-- A machine is that of a round before entry i, and `since` has for each thread how many entries there are up to the one
-- that gave its view.
pub record IsBefore (w : RoundState) (m : Machine) (since : List ℕ) (i : ℕ) : Type 0 where
  pub machine : m ≡ made_before w i
  pub views : (t : ℕ) → t < THREADS → slice_index since t ≡ view_since (made_before w) (threads_of w.schedule) i t
