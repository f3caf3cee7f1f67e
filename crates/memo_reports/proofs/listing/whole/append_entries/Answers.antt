-- One more record's line.
use Rattle.std.proofs.Common.{◌≡◌, ◌+◌, Some, ◌++◌, slice_get, drop, sym, ap, ◌∙◌, append_assoc}
use Rattle.memo_reports.specs.Listing.{entry_lines}
use Rattle.memo_reports.proofs.Entries.{mapped_at, lines_from}
use Rattle.memo_reports.proofs.listing.whole.append_entries.Goals as goal

pub entry_line-requires : goal.entry_line-requires
entry_line-requires c =
    mapped_at _ c.args.records.now c.loop-place.place _ c.requires (c.at-record.ensures ∙ ap Some (sym c.deref.ensures))

pub loop-place-preserved : goal.loop-place-preserved
loop-place-preserved c =
    let next = c.loop-place.place + 1 in
    let rest = entry_lines c.args.addresses.now next (drop next c.args.records.now) in
    let at : slice_get c.args.records.now c.loop-place.place ≡ Some c.deref.result.now =
    c.at-record.ensures ∙ ap Some (sym c.deref.ensures) in
    c.loop-place.invariant
    ∙ ap (λ text. c.loop-place.into.items ++ text)
    (lines_from c.args.addresses.now c.args.records.now c.loop-place.place _ at)
    ∙ sym (append_assoc c.loop-place.into.items _ rest)
    ∙ ap (λ text. text ++ rest) (sym c.in_ok-entry_line.ensures)
