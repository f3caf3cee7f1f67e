-- Answers to the goals that the check of `of` leaves open.
use Rattle.std.proofs.Common.{refl}
use Rattle.page_store.proofs.MapTables.{table-empty}
use Rattle.page_store.proofs.map_table.Table.of.Goals as goal

pub loop-slot-init : goal.loop-slot-init
loop-slot-init c =
    table-empty c.args.pages.now _ c.in_ok-vec.field-0.items refl
    (c.in_ok-vec.ensures.items_if_clones_equal (λ _ is. is))
