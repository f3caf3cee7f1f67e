-- Words as text.
use Rattle.std.specs.Prelude.{ℕ, List, Option, Some, None, Bool, ◌&&◌, ◌||◌, ◌==◌, nat_le, length, if◌then◌else◌}
use Rattle.std.specs.List.{list_all}
use Rattle.std.specs.Str.Parse.{digits_value}

-- whether a byte is `0` to `9` or `a` to `f`
abbrev pub is_word_digit : ℕ → Bool
is_word_digit c = nat_le 48 c && nat_le c 57 || nat_le 97 c && nat_le c 102

-- whether a text writes a word: by eight hexadecimal digits and nothing else
abbrev pub is_word : List ℕ → Bool
is_word text = length text == 8 && list_all is_word_digit text

-- the word that a text writes, if it writes one
abbrev pub word_in : List ℕ → Option ℕ
word_in text = if is_word text then Some (digits_value 16 text) else None
