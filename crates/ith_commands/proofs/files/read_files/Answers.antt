-- Answers to the goals that the check of `read_files` leaves open.
use Rattle.std.proofs.Common.{[], ◌∷◌}
use Rattle.std.proofs.lemmas.Result.{err_from_is_err_and}
use Rattle.edit_list.specs.Lists.{bytes_of_each}
use Rattle.ith_words.specs.Said.{run_said}
use Rattle.ith_commands.specs.Files.{elf_named, input_named, lists_named}
use Rattle.ith_commands.proofs.Asking.{reads_both}
use Rattle.ith_commands.proofs.Ending.{files_read, guest_unread, others_unread}
use Rattle.ith_commands.proofs.files.read_files.Goals as goal

pub returns-clause-contents : goal.returns-clause-contents
returns-clause-contents g c =
    let world = g.H.Host.world in
    files_read (run_said c.args.line.now) (world c.args.host.now) (world c.read_guest.new.host)
    c.in_ok-elf.field-0.elf.items c.in_ok-elf.field-0.input.items (bytes_of_each c.in_ok-lists.lists.items)
    c.in_ok-elf.ensures.reads.stays c.in_ok-elf.ensures.elf c.in_ok-elf.ensures.elf_within
    c.in_ok-elf.ensures.input c.in_ok-elf.ensures.input_within
    (rw (← c.as_slice.ensures.value) c.in_ok-lists.ensures.contents)

pub returns-in_err-elf-clause-refused : goal.returns-in_err-elf-clause-refused
returns-in_err-elf-clause-refused g c =
    let world = g.H.Host.world in
    let p = err_from_is_err_and c.from_residual.result c.from_residual.ensures.1 in
    rw (p.1, p.2)
    (guest_unread (run_said c.args.line.now).elf (run_said c.args.line.now).input
    (lists_named (run_said c.args.line.now).edits) (world c.args.host.now) (world c.read_guest.new.host)
    c.in_err-elf.field-0.0 c.in_err-elf.ensures.refused)

pub returns-in_err-lists-clause-refused : goal.returns-in_err-lists-clause-refused
returns-in_err-lists-clause-refused g c =
    let world = g.H.Host.world in
    let p = err_from_is_err_and c.from_residual-in_err-lists.result c.from_residual-in_err-lists.ensures.1 in
    rw (p.1, p.2)
    (others_unread (run_said c.args.line.now).elf (run_said c.args.line.now).input
    (lists_named (run_said c.args.line.now).edits) (world c.args.host.now) (world c.read_guest.new.host)
    (world c.read_lists.new.host) c.in_err-lists.field-0.0 c.in_ok-elf.field-0.elf.items c.in_ok-elf.field-0.input.items
    c.in_ok-elf.ensures.reads c.in_ok-elf.ensures.elf c.in_ok-elf.ensures.elf_within c.in_ok-elf.ensures.input c.in_ok-elf.ensures.input_within
    (rw (← c.as_slice.ensures.value) c.in_err-lists.ensures.refused))

pub returns-clause-reads : goal.returns-clause-reads
returns-clause-reads g c =
    let world = g.H.Host.world in let line = run_said c.args.line.now in
    reads_both (elf_named line.elf ∷ input_named line.input ∷ []) (lists_named line.edits)
    (world c.args.host.now) (world c.read_guest.new.host) (world c.read_lists.new.host) c.in_ok-elf.ensures.reads
    (rw (← c.as_slice.ensures.value) c.in_ok-lists.ensures.reads)
