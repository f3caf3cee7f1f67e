-- Answers to the goals that the check of `reason_at` leaves open.
use Rattle.std.proofs.Common.{◌≡◌, ◌≤◌, ℕ, true, false, not, slice_index, slice_index_or, length, option_map, refl, subst, ap, sym, ◌∙◌, arith}
use Rattle.machine_spec.specs.Machine.{hart_of}
use Rattle.round_spec.specs.Marks.{record_for}
use Rattle.round_report.specs.Differences.{cause_of}
use Rattle.round_report.specs.Storing.{last_store}
use Rattle.round_report.specs.Reasons.{made_before, reason_of_step, is_executed}
use Rattle.memo_reports.specs.Listing.{addresses_of}
use Rattle.ith_commands.proofs.Finding.{none_gives}
use Rattle.ith_commands.proofs.Steps.{known, no-reason, reason-is, reported-of, unfit-known}
use Rattle.ith_commands.proofs.reasons.walking.reason_at.Goals as goal

pub returns-then-entry-clause-reason : goal.returns-then-entry-clause-reason
returns-then-entry-clause-reason c =
    let k =
    known c.args.round.now c.args.core.now c.args.since.now c.args.step (addresses_of c.args.round.now.setup) c.schedule.result.now
    (record { thread = 0; reused = false }) c.schedule.ensures.valid.setup c.schedule.ensures.valid.by_schedule c.requires.whole c.requires.inside
    c.requires.before refl c.schedule.ensures.schedule in
    sym (no-reason c.args.round.now c.args.step _ k.there c.if-entry.true)

pub returns-then-entry-clause-each : goal.returns-then-entry-clause-each
returns-then-entry-clause-each c =
    let k =
    known c.args.round.now c.args.core.now c.args.since.now c.args.step (addresses_of c.args.round.now.setup) c.schedule.result.now
    (record { thread = 0; reused = false }) c.schedule.ensures.valid.setup c.schedule.ensures.valid.by_schedule c.requires.whole c.requires.inside
    c.requires.before refl c.schedule.ensures.schedule in
    λ old. sym (ap is_executed k.there ∙ ap not c.if-entry.true)

pub offset_bounds-since-from : goal.offset_bounds-since-from
offset_bounds-since-from c =
    let k =
    known c.args.round.now c.args.core.now c.args.since.now c.args.step (addresses_of c.args.round.now.setup) c.schedule.result.now
    (record { thread = 0; reused = false }) c.schedule.ensures.valid.setup c.schedule.ensures.valid.by_schedule c.requires.whole c.requires.inside
    c.requires.before refl c.schedule.ensures.schedule in
    let few = k.few in omega (arith, c.from.ensures)

pub bounds-since-from : goal.bounds-since-from
bounds-since-from c =
    let k =
    known c.args.round.now c.args.core.now c.args.since.now c.args.step (addresses_of c.args.round.now.setup) c.schedule.result.now
    (record { thread = 0; reused = false }) c.schedule.ensures.valid.setup c.schedule.ensures.valid.by_schedule c.requires.whole c.requires.inside
    c.requires.before refl c.schedule.ensures.schedule in
    let few = k.few in omega (arith, c.from.ensures)

pub cause_at-requires-clause-ready : goal.cause_at-requires-clause-ready
cause_at-requires-clause-ready c =
    let k =
    known c.args.round.now c.args.core.now c.args.since.now c.args.step (addresses_of c.args.round.now.setup) c.schedule.result.now
    (record { thread = 0; reused = false }) c.schedule.ensures.valid.setup c.schedule.ensures.valid.by_schedule c.requires.whole c.requires.inside
    c.requires.before refl c.schedule.ensures.schedule in
    k.ready

pub cause_at-requires-clause-fuel : goal.cause_at-requires-clause-fuel
cause_at-requires-clause-fuel c =
    let k =
    known c.args.round.now c.args.core.now c.args.since.now c.args.step (addresses_of c.args.round.now.setup) c.schedule.result.now
    (record { thread = 0; reused = false }) c.schedule.ensures.valid.setup c.schedule.ensures.valid.by_schedule c.requires.whole c.requires.inside
    c.requires.before refl c.schedule.ensures.schedule in
    k.fuel

pub cause_at-requires-clause-inside : goal.cause_at-requires-clause-inside
cause_at-requires-clause-inside c =
    let k =
    known c.args.round.now c.args.core.now c.args.since.now c.args.step (addresses_of c.args.round.now.setup) c.schedule.result.now
    (record { thread = 0; reused = false }) c.schedule.ensures.valid.setup c.schedule.ensures.valid.by_schedule c.requires.whole c.requires.inside
    c.requires.before refl c.schedule.ensures.schedule in
    subst (λ (t : ℕ). slice_index c.args.since.now t ≤ length c.args.round.now.schedule) (sym c.from.ensures) k.inside

pub cause_at-requires-clause-whole : goal.cause_at-requires-clause-whole
cause_at-requires-clause-whole c =
    let k =
    known c.args.round.now c.args.core.now c.args.since.now c.args.step (addresses_of c.args.round.now.setup) c.schedule.result.now
    (record { thread = 0; reused = false }) c.schedule.ensures.valid.setup c.schedule.ensures.valid.by_schedule c.requires.whole c.requires.inside
    c.requires.before refl c.schedule.ensures.schedule in
    k.view

pub number-requires : goal.number-requires
number-requires c =
    let k =
    known c.args.round.now c.args.core.now c.args.since.now c.args.step (addresses_of c.args.round.now.setup) c.schedule.result.now
    (record { thread = 0; reused = false }) c.schedule.ensures.valid.setup c.schedule.ensures.valid.by_schedule c.requires.whole c.requires.inside
    c.requires.before refl c.schedule.ensures.schedule in
    k.below

pub returns-in_default-clause-reason : goal.returns-in_default-clause-reason
returns-in_default-clause-reason c =
    let k =
    known c.args.round.now c.args.core.now c.args.since.now c.args.step (addresses_of c.args.round.now.setup) c.schedule.result.now
    (record { thread = 0; reused = false }) c.schedule.ensures.valid.setup c.schedule.ensures.valid.by_schedule c.requires.whole c.requires.inside
    c.requires.before refl c.schedule.ensures.schedule in
    sym (reason-is c.args.round.now c.args.core.now c.args.since.now c.args.step (addresses_of c.args.round.now.setup) _ c.cause_at.result k c.requires.before
    refl c.if-entry.false
    (c.cause_at.ensures.cause
    ∙ ap (λ (n : ℕ). cause_of (addresses_of c.args.round.now.setup) (last_store c.args.round.now.records n) (hart_of c.args.core.now (slice_index_or c.schedule.result.now c.args.step (record { thread = 0; reused = false })).thread) (record_for c.args.round.now.past c.args.core.now (slice_index_or c.schedule.result.now c.args.step (record { thread = 0; reused = false })).thread)) (ap (λ (t : ℕ). slice_index c.args.since.now t) c.from.ensures)) ∙ ap (option_map (reason_of_step (made_before c.args.round.now) c.args.step _)) c.in_default.is)

pub returns-in_default-clause-each : goal.returns-in_default-clause-each
returns-in_default-clause-each c =
    let k =
    known c.args.round.now c.args.core.now c.args.since.now c.args.step (addresses_of c.args.round.now.setup) c.schedule.result.now
    (record { thread = 0; reused = false }) c.schedule.ensures.valid.setup c.schedule.ensures.valid.by_schedule c.requires.whole c.requires.inside
    c.requires.before refl c.schedule.ensures.schedule in
    λ old.
    let fit = none_gives _ c.cause_at.result c.in_default.is c.cause_at.ensures.none old in
    let unfit = unfit-known c.args.round.now c.args.core.now c.args.since.now c.args.step (addresses_of c.args.round.now.setup) _ k c.requires.before c.schedule.ensures.valid.setup c.schedule.ensures.valid.by_schedule c.if-entry.false in
    absurd (let no : true ≡ false = sym fit ∙ unfit in cc)

pub returns-clause-reason : goal.returns-clause-reason
returns-clause-reason c =
    let k =
    known c.args.round.now c.args.core.now c.args.since.now c.args.step (addresses_of c.args.round.now.setup) c.schedule.result.now
    (record { thread = 0; reused = false }) c.schedule.ensures.valid.setup c.schedule.ensures.valid.by_schedule c.requires.whole c.requires.inside
    c.requires.before refl c.schedule.ensures.schedule in
    reported-of c.args.round.now c.args.core.now c.args.since.now c.args.step (addresses_of c.args.round.now.setup) _ c.number.result c.in-Some.cause k c.requires.before c.number.ensures
    ∙ sym (reason-is c.args.round.now c.args.core.now c.args.since.now c.args.step (addresses_of c.args.round.now.setup) _ c.cause_at.result k c.requires.before
    refl c.if-entry.false
    (c.cause_at.ensures.cause
    ∙ ap (λ (n : ℕ). cause_of (addresses_of c.args.round.now.setup) (last_store c.args.round.now.records n) (hart_of c.args.core.now (slice_index_or c.schedule.result.now c.args.step (record { thread = 0; reused = false })).thread) (record_for c.args.round.now.past c.args.core.now (slice_index_or c.schedule.result.now c.args.step (record { thread = 0; reused = false })).thread)) (ap (λ (t : ℕ). slice_index c.args.since.now t) c.from.ensures)) ∙ ap (option_map (reason_of_step (made_before c.args.round.now) c.args.step _)) c.in-Some.is)

pub returns-clause-each : goal.returns-clause-each
returns-clause-each c =
    let k =
    known c.args.round.now c.args.core.now c.args.since.now c.args.step (addresses_of c.args.round.now.setup) c.schedule.result.now
    (record { thread = 0; reused = false }) c.schedule.ensures.valid.setup c.schedule.ensures.valid.by_schedule c.requires.whole c.requires.inside
    c.requires.before refl c.schedule.ensures.schedule in
    λ old. sym (ap is_executed k.there ∙ ap not c.if-entry.false)
