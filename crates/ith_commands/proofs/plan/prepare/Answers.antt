-- How a command line without a plan ends, and what holds of its plan.
use Rattle.std.proofs.Common.{rules, ◌≡◌, true}
use Rattle.std.proofs.lemmas.Result.{err_from_is_err_and}
use Rattle.elf_spec.specs.Image.{is_image}
use Rattle.edit_list.specs.Lists.{bytes_of_each}
use Rattle.ith_words.specs.Words.{Runs}
use Rattle.ith_words.specs.Said.{run_said}
use Rattle.rerun_spec.specs.Inputs.{AreInputs}
use Rattle.rerun_spec.specs.Rounds.{asked_by}
use Rattle.ith_commands.specs.Files.{files_named}
use Rattle.ith_commands.specs.Contents.{Contents}
use Rattle.ith_commands.specs.Playing.{plan_said}
use Rattle.ith_commands.specs.Refusals.{WhyUnedited}
use Rattle.ith_commands.proofs.Worlds.{reads_then}
use Rattle.ith_commands.proofs.Ending.{unread_ends, refused_ends, unedited_ends}
use Rattle.ith_commands.proofs.Planning.{few_lists, run_plan, run_playable, run_encoded}
use Rattle.ith_commands.proofs.plan.prepare.Goals as goal

pub returns-in_err-elf-clause-refused : goal.returns-in_err-elf-clause-refused
returns-in_err-elf-clause-refused g c =
    let w = g.H.Host.world in
    let p = err_from_is_err_and c.from_residual.result c.from_residual.ensures.1 in
    rw (p.1, p.2)
    (unread_ends (files_named (Runs (run_said c.args.line.now))) _ _ _ (w c.args.host.now) (w c.read_files.new.host)
    c.in_err-elf.field-0.0 c.in_err-elf.ensures.refused)

pub returns-in_err-setup-clause-refused : goal.returns-in_err-setup-clause-refused
returns-in_err-setup-clause-refused g c =
    let w = g.H.Host.world in let files = c.in_ok-elf.field-0 in
    let contents : Contents =
    record { elf = files.elf.items; input = files.input.items; lists = bytes_of_each files.lists.items } in
    let p = err_from_is_err_and c.from_residual-in_err-setup.result c.from_residual-in_err-setup.ensures.1 in
    rw (p.1, p.2)
    (refused_ends (run_said c.args.line.now) (w c.args.host.now) (w c.set_up.new.host) contents c.in_err-setup.field-0.0
    (reads_then _ (w c.args.host.now) (w c.read_files.new.host) (w c.set_up.new.host)
    c.in_ok-elf.ensures.reads c.in_err-setup.ensures.quiet)
    c.in_ok-elf.ensures.contents c.in_err-setup.ensures.refused)

pub returns-in_err-inputs-clause-refused : goal.returns-in_err-inputs-clause-refused
returns-in_err-inputs-clause-refused g c =
    let w = g.H.Host.world in let files = c.in_ok-elf.field-0 in let a = w c.args.host.now in
    let b = w c.set_up.new.host in
    let contents : Contents =
    record { elf = files.elf.items; input = files.input.items; lists = bytes_of_each files.lists.items } in
    let accepted : is_image files.elf.items ≡ true = search rules in
    let why : WhyUnedited files.input.items (bytes_of_each files.lists.items) c.in_err-inputs.field-0.0 = search rules in
    let p = err_from_is_err_and c.from_residual-in_err-inputs.result c.from_residual-in_err-inputs.ensures.1 in
    rw (p.1, p.2)
    (unedited_ends (run_said c.args.line.now) a (w c.edit.new.host) contents c.in_err-inputs.field-0.0
    (reads_then _ a b (w c.edit.new.host)
    (reads_then _ a (w c.read_files.new.host) b c.in_ok-elf.ensures.reads c.in_ok-setup.ensures.quiet)
    c.in_err-inputs.ensures.quiet)
    (record { contents = c.in_ok-elf.ensures.contents; accepted = accepted }) why)

pub returns-clause-plan : goal.returns-clause-plan
returns-clause-plan g c =
    let w = g.H.Host.world in let files = c.in_ok-elf.field-0 in let a = w c.args.host.now in
    let b = w c.set_up.new.host in let s = c.in_ok-setup.setup in let p = plan_said c.from_scratch.result in
    let lists = bytes_of_each files.lists.items in
    let contents : Contents = record { elf = files.elf.items; input = files.input.items; lists = lists } in
    let asked = asked_by c.args.line.now.reach c.args.line.now.progress in
    let edited : AreInputs s.input lists c.in_ok-inputs.inputs = search rules in
    let made : AreInputs s.input lists c.from_scratch.result.inputs = rw c.from_scratch.ensures.inputs edited in
    let begins = c.from_scratch.ensures.beginning in let sound = c.in_ok-setup.ensures.sound in
    record {
      is = run_plan (run_said c.args.line.now) a contents s p c.in_ok-elf.ensures.contents c.in_ok-setup.ensures.setup
          sound begins made;
      playable = run_playable s asked lists p sound begins (few_lists files.lists) made;
      encoded = run_encoded s asked lists p sound c.in_ok-setup.ensures.bytes.0 c.in_ok-setup.ensures.bytes.1 begins made;
      reads = reads_then _ a b (w c.edit.new.host)
          (reads_then _ a (w c.read_files.new.host) b c.in_ok-elf.ensures.reads c.in_ok-setup.ensures.quiet)
          c.in_ok-inputs.ensures.quiet;
    }
