-- The first steps are there, and each thread's are counted.
use Rattle.std.proofs.Common.{◌≡◌, ◌<◌, ℕ, eqb, length, slice_index, slice_index_or}
use Rattle.guest_call.specs.declared.thread_number.TheConstants.{THREADS}
use Rattle.history_spec.specs.Before.{fact_at}
use Rattle.history_spec.specs.Ancestors.{count_below}
use Rattle.round_spec.specs.Reach.{reads_of}
use Rattle.memo_reports.specs.declared.races.steps.Step.{Step}
use Rattle.memo_reports.specs.Steps.{IsStep}
use Rattle.memo_reports.proofs.races.steps.steps_of.Given as goal

abbrev pub invariant-loop-i : goal.invariant-loop-i
invariant-loop-i l = record {
  numbers : (t : ℕ) → t < THREADS
      → slice_index l.numbers t ≡ count_below (λ k. eqb (fact_at l.facts.items k).thread t) l.i;
  long : length l.numbers ≡ THREADS;
  many : length l.steps.items ≡ l.i;
  each : (j : ℕ) (s : Step) → j < l.i
      → IsStep l.facts.items (reads_of l.fn.history) l.pages j (slice_index_or l.steps.items j s);
}
