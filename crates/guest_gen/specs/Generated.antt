-- What is generated from a number: an input, an edit of it, and a guest that adds up the input's bytes.
use Rattle.std.specs.Prelude.{◌≡◌, ℕ, zero, suc, ◌+◌, ◌*◌, ◌/◌, ◌%◌, ◌^◌, ◌≤◌, List, [], ◌∷◌, ◌++◌, length, map, slice_index, codes, decimal}
use Rattle.hex.specs.Hex.{encode_lower}
use Rattle.elf_spec.specs.declared.TheConstants.{MOST_ELF_BYTES}
use Rattle.edit_spec.specs.Edit.{Edit, Set, LineEdit}
use Rattle.edit_spec.specs.Grammar.{space}
use Rattle.edit_spec.specs.Editing.{edited_once}
use Rattle.rv_asm.specs.Items.{items_bytes}
use Rattle.rv_asm.specs.File.{guest_file}
use Rattle.rv_asm.specs.Guest.{IsGuest}
use Rattle.guest_gen.specs.declared.TheConstants.{INPUT_BYTES}
use Rattle.guest_gen.specs.declared.guest.TheConstants.{BASE, ITEMS, ZEROS}
use Rattle.guest_gen.specs.declared.making.Generated.{Generated}

-- The value after a value: a linear congruence.
abbrev pub value_after : ℕ → ℕ
value_after value = (value * 1664525 + 1013904223) % 2 ^ 32

-- `count` values after a value, each computed from the one before it.
unfoldable pub values_after : ℕ → ℕ → List ℕ
values_after zero value = []
values_after (suc count) value = value_after value ∷ values_after count (value_after value)

-- The highest byte of a value.
abbrev pub highest_byte : ℕ → ℕ
highest_byte value = value / 2 ^ 24

-- The input of a number: the highest byte of each of the values after the number.
abbrev pub input_of : ℕ → List ℕ
input_of number = map highest_byte (values_after INPUT_BYTES number)

-- The place of the byte that is edited, and what it is then: one more.
abbrev pub place_of : ℕ → ℕ
place_of number = number % INPUT_BYTES

abbrev pub byte_of : ℕ → ℕ
byte_of number = (slice_index (input_of number) (place_of number) + 1) % 256

-- The edit of a number.
abbrev pub edit_of : ℕ → Edit
edit_of number = Set (place_of number) (byte_of number ∷ [])

-- The list with this edit, as its bytes, and as what they say.
abbrev pub list_of : ℕ → List ℕ
list_of number = codes "set " ++ (decimal (place_of number) ++ space ∷ encode_lower (byte_of number ∷ []))

abbrev pub edits_of : ℕ → List LineEdit
edits_of number = record { line = 1; edit = edit_of number } ∷ []

-- The input after the edit.
abbrev pub next_of : ℕ → List ℕ
next_of number = edited_once (edit_of number) (input_of number)

-- What is generated from a number: the executable of the guest, the same for each, the input, and the list of edits.
pub record IsOf (number : ℕ) (g : Generated) : Type 0 where
  pub elf_bytes : g.elf.items ≡ guest_file BASE (items_bytes ITEMS) ZEROS
  pub elf : IsGuest BASE (items_bytes ITEMS) ZEROS g.elf.items
  pub elf_size : length g.elf.items ≤ MOST_ELF_BYTES
  pub input : g.input.items ≡ input_of number
  pub edits : g.edits.items ≡ list_of number
