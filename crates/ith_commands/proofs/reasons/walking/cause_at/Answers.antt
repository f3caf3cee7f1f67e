-- Answers to the goals that the check of `cause_at` leaves open.
use Rattle.std.proofs.Common.{◌<◌, ℕ, Some, All, length, subst, ap, sym, ◌∙◌}
use Rattle.thunk_spec.specs.Reads.{ReadPage}
use Rattle.thunk_spec.specs.Record.{Record}
use Rattle.machine_spec.specs.Setup.{map_of}
use Rattle.history_spec.specs.History.{found}
use Rattle.memo_reports.specs.Listing.{addresses_of}
use Rattle.ith_commands.proofs.Steps.{length-addresses}
use Rattle.ith_commands.proofs.Finding.{if_none, none_gives, fits-anyway}
use Rattle.ith_commands.proofs.reasons.walking.cause_at.Goals as goal

pub returns-in-Some-clause-none : goal.returns-in-Some-clause-none
returns-in-Some-clause-none c =
    if_none _ c.record_cause.result
    (λ none old.
    let slots : All (λ (p : ReadPage). p.slot < length (addresses_of c.args.round.now.setup)) c.deref.result.now.kept.reads =
    subst (λ (n : ℕ). All (λ (p : ReadPage). p.slot < n) c.deref.result.now.kept.reads) (sym (length-addresses c.args.round.now.setup))
    (subst (λ (r : Record). All (λ (p : ReadPage). p.slot < length (map_of c.args.round.now.setup)) r.kept.reads)
    (sym c.deref.ensures) (c.in-Some.ensures.mapped old)) in
    let same = none_gives _ c.record_cause.result none c.record_cause.ensures.none slots in
    fits-anyway c.args.round.now.past c.args.round.now.setup c.args.core.now c.args.thread c.deref.result.now old
    c.requires.fuel c.requires.ready
    (ap (found c.args.round.now.past c.args.thread) (sym c.number.ensures)
    ∙ sym c.in-Some.ensures.found ∙ ap (λ (r : Record). Some r) (sym c.deref.ensures))
    same.0 same.1)
