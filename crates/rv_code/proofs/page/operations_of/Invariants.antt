-- Each word that was read has its operation, and the operation after the last stays.
use Rattle.std.proofs.Common.{◌≡◌, ℕ, ◌<◌, ◌*◌, ◌+◌, length, slice_index_or}
use Rattle.memory_spec.specs.Access.{number_in}
use Rattle.memory_spec.specs.declared.Size.TheVariants.{Four}
use Rattle.rv_code.specs.Meaning.{StandsFor, other}
use Rattle.rv_code.proofs.page.operations_of.Given as goal

abbrev pub invariant-loop-index : goal.invariant-loop-index
invariant-loop-index l =
    record {
      start : l.start ≡ l.number * 4096;
      count : length l.operations ≡ 1025;
      last : slice_index_or l.operations 1024 other ≡ other;
      words : (k : ℕ) → k < l.index
          → StandsFor (l.number * 4096 + 4 * k) (number_in l.bytes (4 * k) Four) (slice_index_or l.operations k other);
    }
