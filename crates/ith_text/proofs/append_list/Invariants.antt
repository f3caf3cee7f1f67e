-- The invariant of the loop of `append_list`.
use Rattle.std.proofs.Common.{take, ◌≡◌, ◌++◌, flat_map}
use Rattle.ith_text.specs.Lines.{list_item}
use Rattle.ith_text.proofs.append_list.Given as goal

-- the name and the numbers so far come after what was there
abbrev pub invariant-loop-number : goal.invariant-loop-number
invariant-loop-number l = l.into.items ≡ l.fn.into.items ++ l.name ++ flat_map list_item (take l.number-index l.numbers)
