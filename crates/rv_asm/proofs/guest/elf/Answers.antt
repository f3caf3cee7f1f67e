-- Answers to the goals that the check of `elf` leaves open.
use Rattle.std.proofs.Common.{◌+◌, length, sym, subst, arith}
use Rattle.rv_asm.specs.Items.{items_bytes}
use Rattle.rv_asm.specs.File.{guest_file}
use Rattle.rv_asm.specs.Guest.{IsGuest}
use Rattle.rv_asm.proofs.Accepted.{Fits}
use Rattle.rv_asm.proofs.Loaded.{guest-loaded}
use Rattle.rv_asm.proofs.guest.elf.Goals as goal

pub returns-clause-file : goal.returns-clause-file
unfolding guest_file
returns-clause-file c = grind arith

pub returns-clause-guest : goal.returns-clause-guest
returns-clause-guest c =
    let bytes = items_bytes c.args.items.now in
    let fits : Fits c.args.base (length bytes) (length bytes + c.args.bss) =
    record {
      page = c.requires.page;
      low = c.requires.low;
      high = c.requires.high;
      some = c.requires.some;
      few = (let few = c.requires.few in omega arith);
      within = omega arith;
    } in
    subst (IsGuest c.args.base bytes c.args.bss) (sym (returns-clause-file c))
    (guest-loaded c.args.base c.args.bss bytes fits)
