-- Lines of numbers.
use Rattle.std.specs.Prelude.{ℕ, List, [], ◌∷◌, ◌++◌, codes, flat_map, decimal}

-- A space and a number in decimal.
abbrev pub list_item : ℕ → List ℕ
list_item number = codes " " ++ decimal number

-- A line: a name, each number in decimal after a space, and a newline.
abbrev pub list_line : List ℕ → List ℕ → List ℕ
list_line name numbers = name ++ flat_map list_item numbers ++ 10 ∷ []
