-- Answers to the goals that the check of `make` leaves open.
use Rattle.std.proofs.Common.{◌≡◌, ◌+◌, length, ap, ◌∙◌, arith}
use Rattle.rv_asm.specs.Items.{items_bytes}
use Rattle.guest_gen.specs.declared.guest.TheConstants.{BASE, ITEMS, ZEROS}
use Rattle.guest_gen.proofs.Guests.{items-writable, length-items_bytes, length-guest_file}
use Rattle.guest_gen.proofs.making.make.Goals as goal

pub elf-requires-clause-writable : goal.elf-requires-clause-writable
elf-requires-clause-writable c = items-writable

pub returns : goal.returns
returns c =
    let size : length c.in_ok-elf.elf.items ≡ 84 + length (items_bytes ITEMS) =
    ap length c.in_ok-elf.ensures.file ∙ length-guest_file BASE (items_bytes ITEMS) ZEROS in
    let few = length-items_bytes in
    record {
      elf_bytes = c.in_ok-elf.ensures.file;
      elf = c.in_ok-elf.ensures.guest;
      elf_size = omega arith;
      input = c.in_ok-input.ensures;
      edits = c.in_ok-edits.ensures;
    }
