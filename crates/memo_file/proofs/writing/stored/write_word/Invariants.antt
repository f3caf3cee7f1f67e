-- What was written, the remaining marks of the word, and the remaining marked bytes.
use Rattle.std.proofs.Common.{◌≡◌, ◌+◌, ◌-◌, ◌*◌, ◌≤◌, ◌++◌, drop}
use Rattle.std.specs.Simd.Lanes.{mask_l}
use Rattle.thunk_spec.specs.Delta.{chosen}
use Rattle.page_store.proofs.Words.{marks_left}
use Rattle.memo_file.proofs.writing.stored.write_word.Given as goal

abbrev pub invariant-loop-left : goal.invariant-loop-left
invariant-loop-left l = record {
  so_far : l.out.items ++ chosen (drop l.place l.mask) (drop l.place l.page)
      ≡ l.fn.out.items ++ chosen (drop (64 * l.fn.number) l.mask) (drop (64 * l.fn.number) l.page);
  marks : l.left ≡ mask_l (marks_left l.mask (64 * (l.fn.number + 1)) l.place);
  within : l.place ≤ 64 * (l.fn.number + 1);
}

abbrev pub decreases-loop-left : goal.decreases-loop-left
decreases-loop-left l = 64 * (l.fn.number + 1) - l.place
