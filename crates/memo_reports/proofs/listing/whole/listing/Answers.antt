-- The records' slots are in the page map of the history's setup.
use Rattle.std.proofs.Common.{ap, ◌∙◌}
use Rattle.memo_reports.specs.Listing.{addresses_of}
use Rattle.memo_reports.proofs.Entries.{mapped_records}
use Rattle.memo_reports.proofs.listing.whole.listing.Goals as goal

pub append_entries-requires : goal.append_entries-requires
append_entries-requires c =
    mapped_records c.args.history.now _ _
    (c.as_slice.ensures.value ∙ c.in_ok-addresses.ensures ∙ ap addresses_of c.setup-setup.ensures.setup)
    c.records-records.ensures.records c.records-records.ensures.mapped
