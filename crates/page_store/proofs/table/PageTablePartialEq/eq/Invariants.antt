-- The pages so far are the same.
use Rattle.std.proofs.Common.{◌≡◌, take}
use Rattle.page_store.proofs.table.PageTablePartialEq.eq.Given as goal

abbrev pub invariant-loop-slot : goal.invariant-loop-slot
invariant-loop-slot l = take l.slot l.self ≡ take l.slot l.other
