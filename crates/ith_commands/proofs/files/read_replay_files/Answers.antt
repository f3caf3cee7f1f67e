-- Answers to the goals that the check of `read_replay_files` leaves open.
use Rattle.std.proofs.lemmas.Result.{err_from_is_err_and}
use Rattle.std.proofs.Common.{◌∷◌, []}
use Rattle.ith_words.specs.Said.{replay_said}
use Rattle.ith_commands.specs.Files.{elf_named, input_named, schedule_named}
use Rattle.ith_commands.proofs.Asking.{reads_both}
use Rattle.ith_commands.proofs.Ending.{guest_unread, others_unread}
use Rattle.ith_commands.proofs.Replayed.{replay_read}
use Rattle.ith_commands.proofs.files.read_replay_files.Goals as goal

pub returns-clause-contents : goal.returns-clause-contents
returns-clause-contents g c =
    let world = g.H.Host.world in
    replay_read (replay_said c.args.line.now) (world c.args.host.now) (world c.read_guest.new.host)
    c.in_ok-elf.field-0.elf.items c.in_ok-elf.field-0.input.items c.in_ok-schedule.schedule.items
    c.in_ok-elf.ensures.reads.stays c.in_ok-elf.ensures.elf c.in_ok-elf.ensures.elf_within
    c.in_ok-elf.ensures.input c.in_ok-elf.ensures.input_within
    c.in_ok-schedule.ensures.content c.in_ok-schedule.ensures.within

pub returns-in_err-elf-clause-refused : goal.returns-in_err-elf-clause-refused
returns-in_err-elf-clause-refused g c =
    let world = g.H.Host.world in
    let p = err_from_is_err_and c.from_residual.result c.from_residual.ensures.1 in
    rw (p.1, p.2)
    (guest_unread (replay_said c.args.line.now).elf (replay_said c.args.line.now).input
    (schedule_named (replay_said c.args.line.now).schedule ∷ []) (world c.args.host.now) (world c.read_guest.new.host)
    c.in_err-elf.field-0.0 c.in_err-elf.ensures.refused)

pub returns-in_err-schedule-clause-refused : goal.returns-in_err-schedule-clause-refused
returns-in_err-schedule-clause-refused g c =
    let world = g.H.Host.world in
    let p = err_from_is_err_and c.from_residual-in_err-schedule.result c.from_residual-in_err-schedule.ensures.1 in
    rw (p.1, p.2)
    (others_unread (replay_said c.args.line.now).elf (replay_said c.args.line.now).input
    (schedule_named (replay_said c.args.line.now).schedule ∷ []) (world c.args.host.now) (world c.read_guest.new.host)
    (world c.read_file.new.host) c.in_err-schedule.field-0.0 c.in_ok-elf.field-0.elf.items c.in_ok-elf.field-0.input.items
    c.in_ok-elf.ensures.reads c.in_ok-elf.ensures.elf c.in_ok-elf.ensures.elf_within c.in_ok-elf.ensures.input c.in_ok-elf.ensures.input_within
    c.in_err-schedule.ensures.refused)

pub returns-clause-reads : goal.returns-clause-reads
returns-clause-reads g c =
    let world = g.H.Host.world in let line = replay_said c.args.line.now in
    reads_both (elf_named line.elf ∷ input_named line.input ∷ []) (schedule_named line.schedule ∷ [])
    (world c.args.host.now) (world c.read_guest.new.host) (world c.read_file.new.host) c.in_ok-elf.ensures.reads
    c.in_ok-schedule.ensures.reads
