-- The grammar of a list of edits: what its lines encode.
use Rattle.std.specs.Prelude.{ℕ, ◌≡◌, ◌<◌, ◌/◌, ◌%◌, ◌==◌, Bool, true, false, List, [], ◌∷◌, ◌++◌, filter, length, codes, decimal, Some, Result, Ok, Err, ◌⊎◌}
use Rattle.std.specs.List.{AllZip, enumerate_from, slice_split}
use Rattle.hex.specs.Hex.{hex_digit_value}
use Rattle.edit_spec.specs.Edit.{Edit, Set, Size, LineEdit}

-- The numbers of a line are below this one: they have at most seven digits.
abbrev pub number_limit : ℕ
number_limit = 10000000

-- The space. (ASCII)
abbrev pub space : ℕ
space = 32

-- The newline, which ends a line. (POSIX.1-2017, XBD 3.206)
abbrev pub newline : ℕ
newline = 10

-- Hexadecimal digits, in either case, encode bytes: two digits for each byte, the higher one first.
abbrev pub EncodeBytes : List ℕ → List ℕ → Type 0
EncodeBytes [] [] = Unit {0}
EncodeBytes (high ∷ low ∷ digits) (byte ∷ bytes) =
    (hex_digit_value high ≡ Some (byte / 16)) × (hex_digit_value low ≡ Some (byte % 16)) × EncodeBytes digits bytes
EncodeBytes _ _ = ⊥

-- A line encodes an edit: `set`, the offset and the digits of at least one byte, or `size` and the length, with single
-- spaces between them and numbers in decimal without leading zeros.
abbrev pub Encodes : List ℕ → Edit → Type 0
Encodes text (Set offset bytes) =
    (offset < number_limit) × (0 < length bytes) × (digits : List ℕ) × EncodeBytes digits bytes
    × (text ≡ codes "set " ++ (decimal offset ++ space ∷ digits))
Encodes text (Size size) = (size < number_limit) × (text ≡ codes "size " ++ decimal size)

-- Some edit is encoded by a line.
abbrev pub IsEdit : List ℕ → Type 0
IsEdit text = (edit : Edit) × Encodes text edit

-- A line: its number, and its bytes without the newline.
abbrev pub Line : Type 0
Line = ℕ × List ℕ

-- Whether there is a byte.
abbrev pub is_filled : List ℕ → Bool
is_filled [] = false
is_filled (byte ∷ bytes) = true

-- The lines of a list: the pieces between newline bytes, numbered from 1; empty ones are counted and omitted.
unfoldable pub lines : List ℕ → List Line
lines bytes = filter (λ line. is_filled line.1) (enumerate_from 1 (slice_split (λ byte. byte == newline) bytes))

-- The lines encode the edits, each line one edit, in order.
abbrev pub EncodeAll : List Line → List LineEdit → Type 0
EncodeAll lines edits = AllZip (λ line e. (e.line ≡ line.0) × Encodes line.1 e.edit) lines edits

-- The first of the lines that encodes no edit has this number.
abbrev pub IsFirstBad : List Line → ℕ → Type 0
IsFirstBad [] number = ⊥
IsFirstBad (line ∷ lines) number = ((IsEdit line.1 → ⊥) × (number ≡ line.0)) ⊎ (IsEdit line.1 × IsFirstBad lines number)

-- What lines say: the edits that they encode, or the number of the first that encodes none.
abbrev pub Say : List Line → Result (List LineEdit) ℕ → Type 0
Say lines (Ok edits) = EncodeAll lines edits
Say lines (Err number) = IsFirstBad lines number

-- What the bytes of a list of edits say.
abbrev pub Says : List ℕ → Result (List LineEdit) ℕ → Type 0
Says bytes answer = Say (lines bytes) answer
