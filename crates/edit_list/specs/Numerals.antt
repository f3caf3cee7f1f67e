-- Decimal numbers, as they are tested.
use Rattle.std.specs.Prelude.{ℕ, Bool, ◌==◌, ◌&&◌, ◌||◌, not, nat_lt, nat_le, List, length, slice_index}
use Rattle.std.specs.List.{list_all}
use Rattle.std.specs.Char.{is_ascii_digit}

-- one to seven digits, and no zero before others
abbrev pub is_numeral : List ℕ → Bool
is_numeral text =
    nat_lt 0 (length text)
    && nat_le (length text) 7
    && (not (slice_index text 0 == 48) || length text == 1)
    && list_all is_ascii_digit text
