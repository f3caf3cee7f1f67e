-- How many bytes a memo has, from the sizes of its parts.
use Rattle.std.specs.Prelude.{ℕ, ◌+◌, ◌*◌, ◌<◌, ◌^◌, length, sum_by}
use Rattle.thunk_spec.specs.Delta.{PageDelta}
use Rattle.thunk_spec.specs.Record.{Record}
use Rattle.history_spec.specs.History.{History}

-- A stored page: its number, its mask, and its bytes.
abbrev pub stored_size : PageDelta → ℕ
stored_size d = 516 + length d.bytes

-- A record: 266 bytes that each has, eight for each read page, and its stored pages.
abbrev pub record_size : Record → ℕ
record_size r = 266 + 8 * length r.kept.reads + sum_by stored_size r.kept.delta

-- A memo whose pool has this many pages: 68 bytes that each has, executable, input, pool and records.
abbrev pub memo_size : History → ℕ → ℕ
memo_size h pool =
    68 + length h.setup.elf + length h.setup.input + 4096 * pool + sum_by record_size h.records

-- Fewer read pages and fewer stored pages than two bytes can count.
pub record HasFewPages (r : Record) : Type 0 where
  pub reads : length r.kept.reads < 2 ^ 16
  pub delta : length r.kept.delta < 2 ^ 16
