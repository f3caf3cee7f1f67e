-- What is read of a record behind its head, which is all before the counts of its pages.
use Rattle.std.specs.Prelude.{ℕ, ◌==◌, ◌++◌, [], ◌∷◌, List}
use Rattle.std.specs.List.{count_by}
use Rattle.std.specs.Int.{w16}
use Rattle.memory_spec.specs.Pages.{Mapped}
use Rattle.thunk_spec.specs.Record.{Kept, Record}
use Rattle.memo_spec.specs.Reader.{Reader, ◌>>=◌, done, number_at, chain}
use Rattle.memo_spec.specs.Reading.{RecordState, read_page_at, stored_page_at}
use Rattle.memo_file.specs.declared.records.Head.{Head}

-- The record of a head, and the state behind it.
unfoldable pub behind_head : List Mapped → List (List ℕ) → RecordState → Head → Reader (Record × RecordState)
behind_head pages pool s head = do
  read_count ← number_at w16
  reads ← chain (read_page_at pages pool) read_count (record { low = 0; used = s.used })
  delta_count ← number_at w16
  delta ← chain (stored_page_at pages) delta_count 0
  let kept : Kept = record { reads = reads.0; delta = delta.0; finish = head.finish; end = head.end; count = head.count }
  let number = count_by (λ t. t == head.thread) s.earlier
  let r : Record = record { thread = head.thread; number = number; start = head.start; kept = kept }
  done (r, record { earlier = s.earlier ++ head.thread ∷ []; used = reads.1.used })
