-- The table so far, after writing the remaining pages, is the table after all.
use Rattle.std.proofs.Common.{◌≡◌, length, drop}
use Rattle.thunk_spec.specs.Delta.{masked}
use Rattle.page_store.proofs.committing.committed.Given as goal

abbrev pub invariant-loop-stored : goal.invariant-loop-stored
invariant-loop-stored l = record {
  count : length l.after ≡ length l.table;
  rest : masked l.after (drop l.stored-index l.stored-items) ≡ masked l.table l.stored-items;
}
