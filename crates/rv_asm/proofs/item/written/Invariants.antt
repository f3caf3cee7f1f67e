-- The invariant of the loop of `written`.
use Rattle.std.proofs.Common.{◌≡◌, take, flat_map}
use Rattle.rv_asm.specs.Items.{item_bytes}
use Rattle.rv_asm.proofs.item.written.Given as goal

-- the items so far are written
abbrev pub invariant-loop-item : goal.invariant-loop-item
invariant-loop-item l = l.out ≡ flat_map item_bytes (take l.item-index l.items)
