-- Races as text.
use Rattle.std.specs.Prelude.{ℕ, Bool, List, ◌++◌, length, take, codes, decimal, if◌then◌else◌}
use Rattle.std.specs.List.{flat_map}
use Rattle.report_spec.specs.Text.{newline, line}
use Rattle.history_spec.specs.History.{History}
use Rattle.memo_reports.specs.Listing.{addresses_of, address_text}
use Rattle.round_spec.specs.declared.Race.{Race}
use Rattle.round_spec.specs.Races.{races_of}

-- The letter of a step by whether it writes the page: w if it does, and otherwise r.
abbrev pub access_text : Bool → List ℕ
access_text writes = if writes then codes "w" else codes "r"

-- The line of a race, by the addresses of the pages.
abbrev pub race_line : List ℕ → Race → List ℕ
race_line addresses r =
    codes "race " ++ decimal r.earlier ++ codes " " ++ decimal r.later ++ codes " page "
    ++ address_text addresses r.slot ++ codes " " ++ access_text r.earlier_writes ++ access_text r.later_writes
    ++ newline

-- How many races there are, and the line of each of the first.
unfoldable pub races_text : List ℕ → ℕ → List Race → List ℕ
races_text addresses total first = line (codes "races") (decimal total) ++ flat_map (race_line addresses) first

-- How many races a history has, and the lines of the first of them.
unfoldable pub races_listing : ℕ → History → List ℕ
races_listing most h = races_text (addresses_of h.setup) (length (races_of h)) (take most (races_of h))
