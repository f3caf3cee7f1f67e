-- The remembered searches.
use Rattle.std.specs.Prelude.{◌≡◌, ◌<◌, All, List, length}
use Rattle.thunk_spec.specs.Record.{Record}
use Rattle.round_spec.specs.Rounds.{RoundState}
use Rattle.memo_reports.specs.Listing.{addresses_of}
use Rattle.ith_commands.specs.declared.reasons.storing.Search.{Search}
use Rattle.ith_commands.specs.declared.reasons.walking.Pages.{Pages}
use Rattle.round_report.specs.Storing.{last_store}

-- A search is right of some records.
abbrev pub IsRight : List Record → Search → Type 0
IsRight records s = s.storer ≡ last_store records s.count s.slot s.place

-- The addresses of a round's pages, and searches that are right of its records.
pub record AreOf (w : RoundState) (pages : Pages) : Type 0 where
  pub addresses : pages.addresses.items ≡ addresses_of w.setup
  pub room : 0 < length pages.remembered.items
  pub right : All (IsRight w.records) pages.remembered.items
