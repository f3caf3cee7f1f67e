-- Worked examples of what a run starts from, each computed by the checker. The addresses are those that the map
-- prescribes.
use Rattle.std.proofs.Common.{◌≡◌, ◌*◌, [], ◌∷◌, ◌++◌, length, map, replicate, refl, arith}
use Rattle.memory_spec.specs.Pages.{permission_at, zero_page}
use Rattle.elf_spec.specs.Fields.{u16_at, u32_at}
use Rattle.elf_spec.specs.Image.{image_pages, image_page, image_byte, image_memory, entry_of}
use Rattle.elf_spec.proofs.Examples.{hi_elf}
use Rattle.thunk_spec.specs.Put.{byte_at}
use Rattle.machine_spec.specs.declared.TheConstants.{MOST_INPUT_BYTES, MOST_OUTPUT_BYTES, MOST_STEPS}
use Rattle.machine_spec.specs.Limits.{AreLimits}
use Rattle.machine_spec.specs.Machine.{hart_of}
use Rattle.machine_spec.specs.Performing.{first_registers}
use Rattle.machine_spec.specs.Setup.{Setup, data_pages, map_of, header_page, input_page, input_memory, stack_memory, start_memory, first}

-- the guest that prints "hi", on an input of 4,098 bytes
abbrev pub setup : Setup
setup = record { elf = hi_elf; input = 5 ∷ replicate 4095 0 ++ 7 ∷ 8 ∷ []; fuel = 9; limit = 9 }

-- one page of the image, the header, 256 pages of input and 512 of stacks
pub map-length : length (map_of setup) ≡ 770
unfolding map_of data_pages image_pages u16_at u32_at
map-length = refl

-- The first and the last byte of each range, and the bytes beside them: input and stacks are to read and write.
pub map-permissions :
    map (permission_at (map_of setup))
    (0xFFFF ∷ 0x10000 ∷ 0x10FFF ∷ 0x11000 ∷ 0xBFFFFFFF ∷ 0xC0000000 ∷ 0xC0000FFF ∷ 0xC0001000 ∷ 0xC0100FFF ∷ 0xC0101000
    ∷ 0xCFFFFFFF ∷ 0xD0000000 ∷ 0xD01FFFFF ∷ 0xD0200000 ∷ [])
    ≡ 0 ∷ 7 ∷ 7 ∷ 0 ∷ 0 ∷ 6 ∷ 6 ∷ 6 ∷ 6 ∷ 0 ∷ 0 ∷ 6 ∷ 6 ∷ 0 ∷ []
unfolding map_of data_pages image_pages u16_at u32_at permission_at
map-permissions = refl

-- The image's first byte and the zeros after its last; the input's length, 4,098 = 0x1002, and zeros; the input, and
-- zeros; a stack.
pub start-bytes :
    map (byte_at (map_of setup) (start_memory setup))
    (0x10000 ∷ 0x10022 ∷ 0x10023 ∷ 0xC0000000 ∷ 0xC0000001 ∷ 0xC0000002 ∷ 0xC0000FFF ∷ 0xC0001000 ∷ 0xC0001001
    ∷ 0xC0002000 ∷ 0xC0002001 ∷ 0xC0002002 ∷ 0xC0100FFF ∷ 0xD0000000 ∷ 0xD01FFFFF ∷ [])
    ≡ 0x37 ∷ 0x0A ∷ 0 ∷ 2 ∷ 0x10 ∷ 0 ∷ 0 ∷ 5 ∷ 0 ∷ 7 ∷ 8 ∷ 0 ∷ 0 ∷ 0 ∷ 0 ∷ []
unfolding map_of data_pages image_pages u16_at u32_at start_memory image_memory image_page image_byte header_page
    input_memory input_page stack_memory zero_page
start-bytes = refl

-- Thread 0 starts at the file's entry, with the address of the input's header in a0.
pub first-registers : (hart_of (first setup) 0).regs ≡ first_registers 0 0x10000 0xC0000000
unfolding first entry_of u32_at
first-registers = refl

pub first-threads : length (first setup).harts ≡ 1
unfolding first
first-threads = refl

-- The smallest and the largest limits, and one past each.
pub limits-least : AreLimits 1 1
limits-least = record {
  some_fuel = omega arith;
  most_fuel = omega arith;
  some_steps = omega arith;
  most_steps =
      omega arith;
}

pub limits-most : AreLimits 16777216 65536
limits-most = record {
  some_fuel = omega arith;
  most_fuel = omega arith;
  some_steps = omega arith;
  most_steps =
      omega arith;
}

pub limits-no_fuel : AreLimits 0 1 → ⊥
limits-no_fuel are = let some = are.some_fuel in omega arith

pub limits-much_fuel : AreLimits 16777217 1 → ⊥
limits-much_fuel are = let most = are.most_fuel in omega arith

pub limits-no_steps : AreLimits 1 0 → ⊥
limits-no_steps are = let some = are.some_steps in omega arith

pub limits-many_steps : AreLimits 1 65537 → ⊥
limits-many_steps are = let most = are.most_steps in omega arith

-- The longest input fills its 256 pages, and the longest output has 4,096 bytes of each step.
pub longest-input : MOST_INPUT_BYTES ≡ 256 * 4096
longest-input = refl

pub longest-output : MOST_OUTPUT_BYTES ≡ MOST_STEPS * 4096
longest-output = refl
