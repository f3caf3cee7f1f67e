-- What contracts see of a word's two kinds of seat.
use Rattle.std.specs.Prelude.{ℕ, []}
use Rattle.atomic_table.specs.Seated.{TableId}

-- What the writer of a word knows: which word it is, how many steps it added, the greatest number that it saw or
-- learned from a reader, and how often it loaded the word.
pub record WriterView : Type 0 where
  pub table : TableId
  pub added : ℕ
  pub seen : ℕ
  pub loads : ℕ

-- What a reader of a word knows: which word it is, the last number that it saw or learned from the writer, and how
-- often it loaded the word.
pub record ReaderView : Type 0 where
  pub table : TableId
  pub seen : ℕ
  pub loads : ℕ

-- The name of no word.
abbrev pub no_table : TableId
no_table = record { words = 0; slots = 0; views_name = 0; atom = 0; block = 0; offset = 0; slot_names = [] }
