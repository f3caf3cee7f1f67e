-- How many bytes items take.
use Rattle.std.proofs.Common.{◌≡◌, ◌+◌, ◌*◌, ◌≤◌, List, [], ◌∷◌, length, arith, length-append}
use Rattle.rv_asm.specs.declared.item.Item.{Item}
use Rattle.rv_asm.specs.declared.item.Item.TheVariants.{Instruction, Word, Byte}
use Rattle.rv_asm.specs.Items.{item_bytes, items_bytes}

-- an item takes from one to four bytes
one_size : (item : Item) → (1 ≤ length (item_bytes item)) × (length (item_bytes item) ≤ 4)
one_size (Instruction instr) = (omega arith, omega arith)
one_size (Word word) = (omega arith, omega arith)
one_size (Byte byte) = (omega arith, omega arith)

-- items take one to four bytes each
pub sizes :
    (items : List Item)
    → (length items ≤ length (items_bytes items)) × (length (items_bytes items) ≤ 4 * length items)
sizes [] = (omega arith, omega arith)
sizes (item ∷ items) =
    let one = one_size item in
    let rest = sizes items in
    let both : length (items_bytes (item ∷ items)) ≡ length (item_bytes item) + length (items_bytes items) =
    length-append (item_bytes item) (items_bytes items) in
    (omega (arith, one.0, rest.0, both), omega (arith, one.1, rest.1, both))
