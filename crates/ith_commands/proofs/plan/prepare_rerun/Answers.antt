-- How a rerun without a plan ends, and what holds of its plan.
use Rattle.std.proofs.Common.{rules, ◌≡◌, ◌∙◌, ap}
use Rattle.std.proofs.lemmas.Result.{err_from_is_err_and}
use Rattle.edit_list.specs.Lists.{bytes_of_each}
use Rattle.machine_spec.specs.Limits.{Limits}
use Rattle.ith_words.specs.Words.{Reruns}
use Rattle.ith_words.specs.Said.{rerun_said}
use Rattle.rerun_spec.specs.Inputs.{AreRerunInputs}
use Rattle.rerun_spec.specs.Rounds.{asked_by, after_memo}
use Rattle.ith_commands.specs.Files.{files_named}
use Rattle.ith_commands.specs.Contents.{IsMemoOf, limits_for}
use Rattle.ith_commands.specs.Playing.{plan_said}
use Rattle.ith_commands.specs.Refusals.{WhyNoHistory, WhyUnedited}
use Rattle.ith_commands.proofs.Worlds.{reads_then}
use Rattle.ith_commands.proofs.Ending.{unread_ends, forgotten_ends, rerun_unedited_ends, cut_ends}
use Rattle.ith_commands.proofs.Planning.{few_lists, rerun_plan, rerun_playable, rerun_encoded}
use Rattle.ith_commands.proofs.plan.prepare_rerun.Goals as goal

pub returns-in_err-memo-clause-refused : goal.returns-in_err-memo-clause-refused
returns-in_err-memo-clause-refused g c =
    let w = g.H.Host.world in
    let p = err_from_is_err_and c.from_residual.result c.from_residual.ensures.1 in
    rw (p.1, p.2)
    (unread_ends (files_named (Reruns (rerun_said c.args.line.now))) _ _ _ (w c.args.host.now)
    (w c.read_rerun_files.new.host) c.in_err-memo.field-0.0 c.in_err-memo.ensures.refused)

pub returns-in_err-history-clause-refused : goal.returns-in_err-history-clause-refused
returns-in_err-history-clause-refused g c =
    let w = g.H.Host.world in let files = c.in_ok-memo.field-0 in
    let why : WhyNoHistory files.memo.items c.in_err-history.field-0.0 =
    rw (← c.as_slice.ensures.value) c.in_err-history.ensures.refused in
    let p = err_from_is_err_and c.from_residual-in_err-history.result c.from_residual-in_err-history.ensures.1 in
    rw (p.1, p.2)
    (forgotten_ends (rerun_said c.args.line.now) (w c.args.host.now) (w c.recall.new.host) files.memo.items
    (bytes_of_each files.lists.items) c.in_err-history.field-0.0
    (reads_then _ (w c.args.host.now) (w c.read_rerun_files.new.host) (w c.recall.new.host)
    c.in_ok-memo.ensures.reads c.in_err-history.ensures.quiet)
    c.in_ok-memo.ensures.memo c.in_ok-memo.ensures.lists why)

pub returns-in_err-inputs-clause-refused : goal.returns-in_err-inputs-clause-refused
returns-in_err-inputs-clause-refused g c =
    let w = g.H.Host.world in let files = c.in_ok-memo.field-0 in let a = w c.args.host.now in
    let b = w c.recall.new.host in
    let is : IsMemoOf files.memo.items c.in_ok-history.history =
    rw (← c.as_slice.ensures.value) c.in_ok-history.ensures.history in
    let why : WhyUnedited c.in_ok-history.history.setup.input
    (bytes_of_each files.lists.items) c.in_err-inputs.field-0.0 = search rules in
    let p = err_from_is_err_and c.from_residual-in_err-inputs.result c.from_residual-in_err-inputs.ensures.1 in
    rw (p.1, p.2)
    (rerun_unedited_ends (rerun_said c.args.line.now) a (w c.edit_again.new.host)
    files.memo.items (bytes_of_each files.lists.items) c.in_ok-history.history c.in_err-inputs.field-0.0
    (reads_then _ a b (w c.edit_again.new.host)
    (reads_then _ a (w c.read_rerun_files.new.host) b c.in_ok-memo.ensures.reads c.in_ok-history.ensures.quiet)
    c.in_err-inputs.ensures.quiet)
    c.in_ok-memo.ensures.memo c.in_ok-memo.ensures.lists is why)

pub returns-in_err-beginning-clause-refused : goal.returns-in_err-beginning-clause-refused
returns-in_err-beginning-clause-refused g c =
    let w = g.H.Host.world in let a = w c.args.host.now in let b = w c.recall.new.host in
    let p = err_from_is_err_and c.from_residual-in_err-beginning.result c.from_residual-in_err-beginning.ensures.1 in
    rw (p.1, p.2)
    (cut_ends _ a (w c.edit_again.new.host)
    (reads_then _ a b (w c.edit_again.new.host)
    (reads_then _ a (w c.read_rerun_files.new.host) b c.in_ok-memo.ensures.reads c.in_ok-history.ensures.quiet)
    c.in_ok-inputs.ensures.quiet))

pub returns-clause-plan : goal.returns-clause-plan
returns-clause-plan g c =
    let w = g.H.Host.world in let files = c.in_ok-memo.field-0 in let a = w c.args.host.now in
    let b = w c.recall.new.host in let h = c.in_ok-history.history in
    let p = plan_said (record { beginning = c.in_ok-beginning.beginning; inputs = c.in_ok-inputs.inputs }) in
    let line = rerun_said c.args.line.now in let lists = bytes_of_each files.lists.items in
    let limits = c.limits_for-limits.result in
    let asked = asked_by c.args.line.now.reach c.args.line.now.progress in
    let is : IsMemoOf files.memo.items h = rw (← c.as_slice.ensures.value) c.in_ok-history.ensures.history in
    let made : AreRerunInputs h.setup.input lists p.inputs = search rules in
    let begins : p.beginning ≡ after_memo h (limits_for line h) asked =
    c.in_ok-beginning.ensures ∙ ap (λ (l : Limits). after_memo h l asked) c.limits_for-limits.ensures.value in
    record {
      is = rerun_plan line a files.memo.items lists h p c.in_ok-memo.ensures.memo c.in_ok-memo.ensures.lists is begins made;
      playable = rerun_playable files.memo.items lists h limits asked p is c.in_ok-beginning.ensures
          (few_lists files.lists) made;
      encoded = rerun_encoded files.memo.items lists h limits asked p is c.limits_for-limits.ensures.within
          c.in_ok-beginning.ensures made;
      reads = reads_then _ a b (w c.edit_again.new.host)
          (reads_then _ a (w c.read_rerun_files.new.host) b c.in_ok-memo.ensures.reads c.in_ok-history.ensures.quiet)
          c.in_ok-inputs.ensures.quiet;
    }
