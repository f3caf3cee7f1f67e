-- The items of a guest, as bytes.
use Rattle.std.specs.Prelude.{ℕ, ◌+◌, List, [], ◌∷◌, length, flat_map, ⊤}
use Rattle.byteorder.specs.Endian.{little_bytes}
use Rattle.isa_spec.specs.Encoding.{encoding, InRange}
use Rattle.rv_asm.specs.declared.item.Item.{Item}
use Rattle.rv_asm.specs.declared.item.Item.TheVariants.{Instruction, Word, Byte}

-- The bytes of an item: an instruction is its word, and a word is four bytes, the lowest first.
-- (RISC-V unprivileged ISA 20191213, 1.5)
abbrev pub item_bytes : Item → List ℕ
item_bytes (Instruction instr) = little_bytes 4 (encoding instr)
item_bytes (Word word) = little_bytes 4 word
item_bytes (Byte byte) = byte ∷ []

-- The bytes of items in their order.
abbrev pub items_bytes : List Item → List ℕ
items_bytes items = flat_map item_bytes items

-- The size of a guest in memory: its items' bytes, and that many zeros. (System V gABI, ch. 5, Program Header)
abbrev pub memory_size : List Item → ℕ → ℕ
memory_size items bss = length (items_bytes items) + bss

-- An item that can be written: an instruction's operands are in range. (RISC-V unprivileged ISA 20191213, 2.2 and 2.3)
abbrev pub IsWritable : Item → Type 0
IsWritable (Instruction instr) = InRange instr
IsWritable (Word word) = ⊤
IsWritable (Byte byte) = ⊤
