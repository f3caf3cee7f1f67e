-- Answers to the goals that the check of `walk` leaves open.
use Rattle.std.proofs.Common.{◌+◌, ◌==◌, ◌&&◌, ◌||◌, not, ℕ, Bool, false, if◌then◌else◌, List, slice_index, slice_index_or, add-one, Some, ap, sym, subst, ◌∙◌}
use Rattle.report_spec.specs.declared.Entry.{Entry}
use Rattle.machine_spec.specs.Machine.{hart_of, is_ready}
use Rattle.thunk_spec.specs.Record.{Record}
use Rattle.machine_spec.specs.Whole.{IsWhole}
use Rattle.history_spec.proofs.Applying.{apply-whole}
use Rattle.ith_commands.proofs.Entries.{entry-record}
use Rattle.ith_commands.proofs.Steps.{entry-there, record-can, next-before}
use Rattle.ith_commands.proofs.reasons.walking.walk.Goals as goal

pub apply-requires : goal.apply-requires
apply-requires c =
    let e = entry-there c.args.round.now c.args.step c.requires.inside in
    let r =
    entry-record c.args.round.now c.args.step e.0 c.deref.result.now c.schedule.ensures.valid.setup c.schedule.ensures.valid.by_schedule e.1
    (c.entry.ensures ∙ ap (λ (x : Record). Some x) (sym c.deref.ensures)) in
    record-can c.args.round.now c.args.core.now c.args.since.now c.args.step e.0 c.deref.result.now
    c.schedule.ensures.valid.setup c.schedule.ensures.valid.by_schedule c.requires.before e.1 r

pub returns-clause-whole : goal.returns-clause-whole
returns-clause-whole c =
    let e = entry-there c.args.round.now c.args.step c.requires.inside in
    let r =
    entry-record c.args.round.now c.args.step e.0 c.deref.result.now c.schedule.ensures.valid.setup
    c.schedule.ensures.valid.by_schedule e.1
    (c.entry.ensures ∙ ap (λ (x : Record). Some x) (sym c.deref.ensures)) in
    subst IsWhole (sym c.in_ok-apply.ensures.ok)
    (apply-whole c.args.core.now c.deref.result.now c.in_ok-apply.ensures.whole
    (record-can c.args.round.now c.args.core.now c.args.since.now c.args.step e.0 c.deref.result.now
    c.schedule.ensures.valid.setup c.schedule.ensures.valid.by_schedule c.requires.before e.1 r))

pub returns-clause-before : goal.returns-clause-before
returns-clause-before c =
    let e = entry-there c.args.round.now c.args.step c.requires.inside in
    let r =
    entry-record c.args.round.now c.args.step e.0 c.deref.result.now c.schedule.ensures.valid.setup c.schedule.ensures.valid.by_schedule e.1
    (c.entry.ensures ∙ ap (λ (x : Record). Some x) (sym c.deref.ensures)) in
    next-before c.args.round.now c.args.core.now c.apply.new.self c.args.since.now c.note_views.new.since c.args.step e.0
    c.deref.result.now c.requires.before e.1 r c.in_ok-apply.ensures.ok
    (λ t few.
    c.note_views.ensures t few
    ∙ ap (λ (b : Bool). if is_ready (hart_of c.apply.new.self t).status && (((slice_index_or c.schedule.result.now c.args.step (record { thread = 0; reused = false })).thread == t) || not b) then c.args.step + 1 else slice_index c.args.since.now t) (c.ready_threads-before.ensures t few)
    ∙ ap (λ (es : List Entry). if is_ready (hart_of c.apply.new.self t).status && (((slice_index_or es c.args.step (record { thread = 0; reused = false })).thread == t) || not (is_ready (hart_of c.args.core.now t).status)) then c.args.step + 1 else slice_index c.args.since.now t) c.schedule.ensures.schedule
    ∙ ap (λ (n : ℕ). if is_ready (hart_of c.apply.new.self t).status && ((e.0.thread == t) || not (is_ready (hart_of c.args.core.now t).status)) then n else slice_index c.args.since.now t) (add-one c.args.step))
