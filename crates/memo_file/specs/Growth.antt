-- The records that were read so far.
use Rattle.std.specs.Prelude.{◌≡◌, ◌<◌, ◌==◌, ℕ, List, slice_index}
use Rattle.std.specs.List.{count_by}
use Rattle.guest_call.specs.declared.thread_number.TheConstants.{THREADS}
use Rattle.thunk_spec.specs.Record.{Record}
use Rattle.history_spec.specs.History.{threads_of_records}
use Rattle.memo_spec.specs.Reading.{RecordState}

-- Records in order, and how many pages of the pool they use.
pub record Growth : Type 0 where
  pub records : List Record
  pub used : ℕ

-- The state in which the record after them is read.
abbrev pub state_of : Growth → RecordState
state_of g = record { earlier = threads_of_records g.records; used = g.used }

-- For each thread, how many records it has.
abbrev pub AreCounts : List ℕ → List Record → Type 0
AreCounts counts rs = (t : ℕ) → t < THREADS → slice_index counts t ≡ count_by (λ u. u == t) (threads_of_records rs)
