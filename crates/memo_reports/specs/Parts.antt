-- The line of a record in two parts.
use Rattle.std.specs.Prelude.{ℕ, List, ◌++◌, codes, decimal}
use Rattle.isa_spec.specs.Registers.{register}
use Rattle.thunk_spec.specs.Record.{Record}
use Rattle.memo_reports.specs.Listing.{end_text, reads_text, writes_text}

-- Which step it is, how its thunk ended, and after how many turns.
abbrev pub step_part : ℕ → Record → List ℕ
step_part i r =
    codes "entry " ++ decimal i
    ++ codes " thread " ++ decimal r.thread
    ++ codes " number " ++ decimal r.number
    ++ codes " end " ++ end_text r.kept.end (register r.kept.finish 17)
    ++ codes " count " ++ decimal r.kept.count

-- The pages that it read, and those that it stored to.
abbrev pub pages_part : List ℕ → Record → List ℕ
pages_part addresses r =
    codes " reads " ++ reads_text addresses r.kept.reads
    ++ codes " writes " ++ writes_text addresses r.kept.delta
