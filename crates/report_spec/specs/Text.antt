-- Lines of text, as bytes.
use Rattle.std.specs.Prelude.{ℕ, List, [], ◌∷◌, ◌++◌}
use Rattle.std.specs.List.{flat_map}
use Rattle.std.specs.Int.{to_be_bytes, w32}
use Rattle.hex.specs.Hex.{encode_lower}

-- A space, and a line's end. (ISO/IEC 646)
abbrev pub space : List ℕ
space = 32 ∷ []

abbrev pub newline : List ℕ
newline = 10 ∷ []

-- A word as eight lower-case hexadecimal digits.
abbrev pub hex8 : ℕ → List ℕ
hex8 n = encode_lower (to_be_bytes w32 n)

-- A line: a name, a space, and the text.
abbrev pub line : List ℕ → List ℕ → List ℕ
line name text = name ++ space ++ text ++ newline

-- A line of things: the name, and each of them after one space.
abbrev pub list_line : {A : Type 0} → List ℕ → (A → List ℕ) → List A → List ℕ
list_line name text things = name ++ flat_map (λ thing. space ++ text thing) things ++ newline
