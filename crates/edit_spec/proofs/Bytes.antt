-- Edits turn bytes into bytes: the digits of a `set` line encode bytes, and an input grows by zero bytes.
use Rattle.std.proofs.Common.{◌≡◌, ◌<◌, ◌+◌, ◌-◌, ◌/◌, ℕ, List, [], ◌∷◌, ◌++◌, length, take, drop, replicate, Some, Ok, Err, inl, inr, subst, lit<, arith}
use Rattle.std.specs.List.{All, AllByRecursion}
use Rattle.std.proofs.lemmas.List.Elements.{All-from_recursion, recursion_from_All, All-append, All-take, All-drop, All-replicate}
use Rattle.hex.specs.Hex.{hex_digit_value}
use Rattle.edit_spec.specs.Edit.{Edit, Set, Size, LineEdit}
use Rattle.edit_spec.specs.Grammar.{EncodeBytes, Encodes, Line, EncodeAll, lines, Says}
use Rattle.edit_spec.specs.Editing.{is_out_of_range, edited_once, edited}
use Rattle.edit_spec.proofs.Lengths.{chosen}

-- a byte, as a number
abbrev IsByte : ℕ → Type 0
IsByte byte = byte < 256

-- a digit's value is below 16
small-digit : (digit value : ℕ) → hex_digit_value digit ≡ Some value → value < 16
small-digit digit value is = grind (arith)

-- what is encoded by two digits is a byte
one-byte : (high byte : ℕ) → hex_digit_value high ≡ Some (byte / 16) → IsByte byte
one-byte high byte is = let small = small-digit high (byte / 16) is in omega arith

-- digits encode bytes
encoded-bytes : (digits bytes : List ℕ) → EncodeBytes digits bytes → AllByRecursion IsByte bytes
encoded-bytes [] [] encoded = tt
encoded-bytes [] (byte ∷ bytes) encoded = absurd encoded
encoded-bytes (high ∷ []) [] encoded = absurd encoded
encoded-bytes (high ∷ []) (byte ∷ bytes) encoded = absurd encoded
encoded-bytes (high ∷ low ∷ digits) [] encoded = absurd encoded
encoded-bytes (high ∷ low ∷ digits) (byte ∷ bytes) encoded =
    (one-byte high byte encoded.0, encoded-bytes digits bytes encoded.2)

-- the edit that a line encodes turns bytes into bytes
once-bytes :
    (text : List ℕ) (edit : Edit) (input : List ℕ) → Encodes text edit → All IsByte input
    → All IsByte (edited_once edit input)
once-bytes text (Set offset bytes) input encoded all =
    let written = All-from_recursion IsByte bytes (encoded-bytes encoded.2 bytes encoded.3) in
    let before = All-take IsByte offset input all in
    let after = All-drop IsByte (offset + length bytes) input all in
    All-append IsByte (take offset input ++ bytes) (drop (offset + length bytes) input)
    (All-append IsByte (take offset input) bytes before written) after
once-bytes text (Size size) input encoded all =
    All-append IsByte (take size input) (replicate (size - length input) 0) (All-take IsByte size input all)
    (All-replicate IsByte (size - length input) 0 (lit< tt))

-- so do the edits of lines
lines-bytes :
    (lines : List Line) (edits : List LineEdit) (input next : List ℕ) → EncodeAll lines edits
    → edited edits input ≡ Ok next → All IsByte input
    → All IsByte next
lines-bytes lines [] input next encoded is all =
    let same : input ≡ next = cc in subst (λ (l : List ℕ). All IsByte l) same all
lines-bytes [] (e ∷ edits) input next encoded is all = absurd encoded
lines-bytes (line ∷ lines) (e ∷ edits) input next encoded is all =
    elim (chosen (is_out_of_range e.edit (length input)) (Err e.line) (edited edits (edited_once e.edit input))
    (Ok next) is) [
      | inl out ↦ absurd (let no : Err e.line ≡ Ok next = out.1 in cc)
      | inr within ↦
          lines-bytes lines edits (edited_once e.edit input) next encoded.1 within.1
          (once-bytes line.1 e.edit input encoded.0.1 all)
    ]

pub bytes_of_bytes :
    (list input next : List ℕ) (edits : List LineEdit) → Says list (Ok edits) → edited edits input ≡ Ok next
    → AllByRecursion (λ b. b < 256) input
    → AllByRecursion (λ b. b < 256) next
bytes_of_bytes list input next edits says is all =
    recursion_from_All IsByte next
    (lines-bytes (lines list) edits input next says is (All-from_recursion IsByte input all))
