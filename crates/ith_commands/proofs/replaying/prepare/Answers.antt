-- What a `replay` command replays, and how it ends if it replays nothing.
use Rattle.std.proofs.Common.{rules, ◌≡◌, true, refl}
use Rattle.std.proofs.lemmas.Result.{err_from_is_err_and}
use Rattle.elf_spec.specs.Image.{is_image}
use Rattle.ith_words.specs.Words.{Replays}
use Rattle.ith_words.specs.Said.{replay_said}
use Rattle.ith_commands.specs.Files.{files_named}
use Rattle.ith_commands.specs.Contents.{ReplayContents}
use Rattle.ith_commands.proofs.Worlds.{reads_then}
use Rattle.ith_commands.proofs.Ending.{unread_ends}
use Rattle.ith_commands.proofs.Replayed.{replay_refused}
use Rattle.ith_commands.proofs.replaying.prepare.Goals as goal

pub returns-in_err-elf-clause-refused : goal.returns-in_err-elf-clause-refused
returns-in_err-elf-clause-refused g c =
    let w = g.H.Host.world in
    let p = err_from_is_err_and c.from_residual.result c.from_residual.ensures.1 in
    rw (p.1, p.2)
    (unread_ends (files_named (Replays (replay_said c.args.line.now))) _ _ _ (w c.args.host.now)
    (w c.read_replay_files.new.host) c.in_err-elf.field-0.0 c.in_err-elf.ensures.refused)

pub returns-in_err-setup-clause-refused : goal.returns-in_err-setup-clause-refused
returns-in_err-setup-clause-refused g c =
    let w = g.H.Host.world in let files = c.in_ok-elf.field-0 in
    let contents : ReplayContents =
    record { elf = files.elf.items; input = files.input.items; schedule = files.schedule.items } in
    let p = err_from_is_err_and c.from_residual-in_err-setup.result c.from_residual-in_err-setup.ensures.1 in
    rw (p.1, p.2)
    (replay_refused (replay_said c.args.line.now) (w c.args.host.now) (w c.set_up.new.host) contents
    c.in_err-setup.field-0.0
    (reads_then _ (w c.args.host.now) (w c.read_replay_files.new.host) (w c.set_up.new.host)
    c.in_ok-elf.ensures.reads c.in_err-setup.ensures.quiet)
    c.in_ok-elf.ensures.contents c.in_err-setup.ensures.refused)

pub returns-clause-replay : goal.returns-clause-replay
returns-clause-replay g c =
    let w = g.H.Host.world in let files = c.in_ok-elf.field-0 in
    let accepted : is_image files.elf.items ≡ true = search rules in
    record {
      contents = record { elf = files.elf.items; input = files.input.items; schedule = files.schedule.items };
      read = record { contents = c.in_ok-elf.ensures.contents; accepted = accepted };
      is_setup = c.in_ok-setup.ensures.setup;
      is_text = refl;
      reads = reads_then _ (w c.args.host.now) (w c.read_replay_files.new.host) (w c.set_up.new.host)
          c.in_ok-elf.ensures.reads c.in_ok-setup.ensures.quiet;
    }
