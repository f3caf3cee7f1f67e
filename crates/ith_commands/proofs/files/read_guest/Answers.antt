-- Answers to the goals that the check of `read_guest` leaves open.
use Rattle.std.proofs.Common.{[], ◌∷◌}
use Rattle.std.proofs.lemmas.Result.{err_from_is_err_and}
use Rattle.ith_commands.specs.Files.{elf_named, input_named}
use Rattle.ith_commands.proofs.Asking.{reads_both}
use Rattle.ith_commands.proofs.Ending.{elf_unread, input_unread}
use Rattle.ith_commands.proofs.Worlds.{content_before}
use Rattle.ith_commands.proofs.files.read_guest.Goals as goal

pub returns-in_err-elf-clause-refused : goal.returns-in_err-elf-clause-refused
returns-in_err-elf-clause-refused g c =
    let world = g.H.Host.world in
    let p = err_from_is_err_and c.from_residual.result c.from_residual.ensures.1 in
    rw (p.1, p.2)
    (elf_unread c.args.elf.now c.args.input.now (world c.args.host.now)
    (world c.read_file.new.host) c.in_err-elf.field-0.0 c.in_err-elf.ensures.refused)

pub returns-clause-input : goal.returns-clause-input
returns-clause-input g c =
    let world = g.H.Host.world in
    content_before (world c.args.host.now) (world c.read_file.new.host) c.args.input.now c.in_ok-input.input.items
    c.in_ok-elf.ensures.reads.stays c.in_ok-input.ensures.content

pub returns-clause-reads : goal.returns-clause-reads
returns-clause-reads g c =
    let world = g.H.Host.world in
    reads_both (elf_named c.args.elf.now ∷ []) (input_named c.args.input.now ∷ []) (world c.args.host.now)
    (world c.read_file.new.host) (world c.read_file-2.new.host) c.in_ok-elf.ensures.reads c.in_ok-input.ensures.reads

pub returns-in_err-input-clause-refused : goal.returns-in_err-input-clause-refused
returns-in_err-input-clause-refused g c =
    let world = g.H.Host.world in
    let p = err_from_is_err_and c.from_residual-in_err-input.result c.from_residual-in_err-input.ensures.1 in
    rw (p.1, p.2)
    (input_unread c.args.elf.now c.args.input.now (world c.args.host.now) (world c.read_file.new.host)
    (world c.read_file-2.new.host) c.in_err-input.field-0.0 c.in_ok-elf.elf.items
    c.in_ok-elf.ensures.reads c.in_ok-elf.ensures.content c.in_ok-elf.ensures.within
    c.in_err-input.ensures.refused)
