-- It is decidable whether a line encodes an edit, so each list of edits encodes something. Numbers of lines are
-- bounded, so each is tried; no definition computes this.
use Rattle.std.proofs.Common.{◌≡◌, ◌<◌, ◌+◌, ◌*◌, ◌/◌, ◌%◌, ℕ, zero, suc, List, [], ◌∷◌, ◌++◌, length, Option, Some, None, Result, Ok, Err, ◌⊎◌, inl, inr, refl, ap, sym, ◌∙◌, subst, append_assoc, arith}
use Rattle.std.proofs.lemmas.List.{append_cancel_left}
use Rattle.std.proofs.lemmas.Bool.{cases_eq}
use Rattle.std.proofs.lemmas.Bool.Decides.{leb_tells}
use Rattle.std.specs.Prelude.{codes, decimal}
use Rattle.hex.specs.Hex.{hex_digit_value}
use Rattle.edit_spec.specs.Edit.{Edit, Set, Size, LineEdit}
use Rattle.edit_spec.specs.Grammar.{number_limit, space, EncodeBytes, Encodes, IsEdit, Line, Say}

-- a fact holds, or it doesn't
abbrev pub Decided : Type 0 → Type 0
Decided A = A ⊎ (A → ⊥)

-- some number below a bound has a property that is decidable for each
some-below : (P : ℕ → Type 0) → ((i : ℕ) → Decided (P i)) → (n : ℕ) → Decided ((i : ℕ) × (i < n) × P i)
some-below P each zero = inr (λ found. let below : found.0 < 0 = found.1 in omega arith)
some-below P each (suc n) = by (some-below P each n) (each n)
  where
    by : Decided ((i : ℕ) × (i < n) × P i) → Decided (P n) → Decided ((i : ℕ) × (i < suc n) × P i)
    by (inl found) here = inl (found.0, (let below : found.0 < n = found.1 in omega arith), found.2)
    by (inr none) (inl here) = inl (n, omega arith, here)
    by (inr none) (inr other) =
        inr
        (λ found.
        elim (cases_eq found.0 n) [
          | inl same ↦ other (subst P same found.2)
          | inr less ↦
              none (
                found.0,
                elim (leb_tells n found.0) [
                  | inl above ↦ absurd (less
                      (let below : found.0 < suc n = found.1 in let least = above.1 in omega arith))
                  | inr below ↦ below.1
                ],
                found.2,
              )
        ])

same-list : (a b : List ℕ) → Decided (a ≡ b)
same-list [] [] = inl refl
same-list [] (y ∷ b) = inr (λ e. cc)
same-list (x ∷ a) [] = inr (λ e. cc)
same-list (x ∷ a) (y ∷ b) = by (cases_eq x y) (same-list a b)
  where
    by : Decided (x ≡ y) → Decided (a ≡ b) → Decided (x ∷ a ≡ y ∷ b)
    by (inl here) (inl rest) = inl cc
    by (inl here) (inr other) = inr (λ e. other (let rest : a ≡ b = cc in rest))
    by (inr other) rest = inr (λ e. other (let here : x ≡ y = cc in here))

-- what comes after a prefix
rest-after : (prefix text : List ℕ) → Decided ((rest : List ℕ) × (text ≡ prefix ++ rest))
rest-after [] text = inl (text, refl)
rest-after (x ∷ prefix) [] = inr (λ found. let no : [] ≡ x ∷ (prefix ++ found.0) = found.1 in cc)
rest-after (x ∷ prefix) (y ∷ text) = by (cases_eq y x) (rest-after prefix text)
  where
    by :
        Decided (y ≡ x) → Decided ((rest : List ℕ) × (text ≡ prefix ++ rest))
        → Decided ((rest : List ℕ) × (y ∷ text ≡ x ∷ (prefix ++ rest)))
    by (inl here) (inl found) = inl (found.0, (let rest : text ≡ prefix ++ found.0 = found.1 in cc))
    by (inl here) (inr none) =
        inr (λ found. none (
          found.0,
          (let all : y ∷ text ≡ x ∷ (prefix ++ found.0) = found.1 in
              let rest : text ≡ prefix ++ found.0 = cc in rest),
        ))
    by (inr other) found =
        inr (λ there. other (let all : y ∷ text ≡ x ∷ (prefix ++ there.0) = there.1 in let here : y ≡ x = cc in here))

-- an option isn't both none and a value
none-some : (o : Option ℕ) (n : ℕ) → o ≡ None → o ≡ Some n → ⊥
none-some o n p q = cc

two-some : (o : Option ℕ) (m n : ℕ) → o ≡ Some m → o ≡ Some n → m ≡ n
two-some o m n p q = cc

-- two digits encode a byte exactly if each has a value and the lower one's is below 16
no-byte-high :
    (high low : ℕ) (digits bytes : List ℕ) → hex_digit_value high ≡ None → EncodeBytes (high ∷ low ∷ digits) bytes
    → ⊥
no-byte-high high low digits [] none encoded = encoded
no-byte-high high low digits (byte ∷ bytes) none encoded = none-some (hex_digit_value high) (byte / 16) none encoded.0

no-byte-low :
    (high low : ℕ) (digits bytes : List ℕ) → hex_digit_value low ≡ None → EncodeBytes (high ∷ low ∷ digits) bytes
    → ⊥
no-byte-low high low digits [] none encoded = encoded
no-byte-low high low digits (byte ∷ bytes) none encoded = none-some (hex_digit_value low) (byte % 16) none encoded.1

no-byte-large :
    (high low b : ℕ) (digits bytes : List ℕ) → hex_digit_value low ≡ Some b → 15 < b
    → EncodeBytes (high ∷ low ∷ digits) bytes
    → ⊥
no-byte-large high low b digits [] is large encoded = encoded
no-byte-large high low b digits (byte ∷ bytes) is large encoded =
    let same : b ≡ byte % 16 = two-some (hex_digit_value low) b (byte % 16) is encoded.1 in
    omega arith

no-byte-rest :
    (high low : ℕ) (digits bytes : List ℕ)
    → ((rest : List ℕ) → EncodeBytes digits rest → ⊥) → EncodeBytes (high ∷ low ∷ digits) bytes → ⊥
no-byte-rest high low digits [] none encoded = encoded
no-byte-rest high low digits (byte ∷ bytes) none encoded = none bytes encoded.2

pub no-byte-odd : (high : ℕ) (bytes : List ℕ) → EncodeBytes (high ∷ []) bytes → ⊥
no-byte-odd high [] encoded = encoded
no-byte-odd high (byte ∷ bytes) encoded = encoded

higher : (a b : ℕ) → b < 16 → a ≡ (16 * a + b) / 16
higher a b below = omega arith

lower : (a b : ℕ) → b < 16 → b ≡ (16 * a + b) % 16
lower a b below = omega arith

bytes-encoded : (digits : List ℕ) → Decided ((bytes : List ℕ) × EncodeBytes digits bytes)
bytes-encoded [] = inl ([], tt)
bytes-encoded (high ∷ []) = inr (λ found. no-byte-odd high found.0 found.1)
bytes-encoded (high ∷ low ∷ digits) = by (hex_digit_value high) (hex_digit_value low) refl refl (bytes-encoded digits)
  where
    by :
        (a b : Option ℕ) → hex_digit_value high ≡ a → hex_digit_value low ≡ b
        → Decided ((bytes : List ℕ) × EncodeBytes digits bytes)
        → Decided ((bytes : List ℕ) × EncodeBytes (high ∷ low ∷ digits) bytes)
    by None b is_a is_b rest = inr (λ found. no-byte-high high low digits found.0 is_a found.1)
    by (Some a) None is_a is_b rest = inr (λ found. no-byte-low high low digits found.0 is_b found.1)
    by (Some a) (Some b) is_a is_b (inr none) =
        inr (λ found. no-byte-rest high low digits found.0 (λ bytes encoded. none (bytes, encoded)) found.1)
    by (Some a) (Some b) is_a is_b (inl rest) =
        elim (leb_tells 16 b) [
          | inl large ↦ inr (λ found. no-byte-large high low b digits found.0 is_b large.1 found.1)
          | inr small ↦
              inl (
                (16 * a + b) ∷ rest.0,
                (
                  is_a ∙ ap (λ (n : ℕ). Some n) (higher a b small.1),
                  is_b
                      ∙ ap (λ (n : ℕ). Some n) (lower a b small.1),
                  rest.1,
                ),
              )
        ]

-- at least one byte
empty-encoded : (digits bytes : List ℕ) → digits ≡ [] → 0 < length bytes → EncodeBytes digits bytes → ⊥
empty-encoded [] [] is some encoded = omega arith
empty-encoded [] (byte ∷ bytes) is some encoded = encoded
empty-encoded (d ∷ digits) bytes is some encoded = cc

none-encoded : (d : ℕ) (digits : List ℕ) → EncodeBytes (d ∷ digits) [] → ⊥
none-encoded d [] encoded = encoded
none-encoded d (e ∷ digits) encoded = encoded

some-bytes : (digits : List ℕ) → Decided ((bytes : List ℕ) × (0 < length bytes) × EncodeBytes digits bytes)
some-bytes [] = inr (λ found. empty-encoded [] found.0 refl found.1 found.2)
some-bytes (d ∷ digits) = by (bytes-encoded (d ∷ digits))
  where
    filled :
        (bytes : List ℕ) → EncodeBytes (d ∷ digits) bytes
        → Decided ((bytes : List ℕ) × (0 < length bytes) × EncodeBytes (d ∷ digits) bytes)
    filled [] encoded = absurd (none-encoded d digits encoded)
    filled (byte ∷ bytes) encoded = inl (byte ∷ bytes, omega arith, encoded)

    by :
        Decided ((bytes : List ℕ) × EncodeBytes (d ∷ digits) bytes)
        → Decided ((bytes : List ℕ) × (0 < length bytes) × EncodeBytes (d ∷ digits) bytes)
    by (inl found) = filled found.0 found.1
    by (inr none) = inr (λ found. none (found.0, found.2))

-- a line sets bytes at an offset
abbrev IsSetAt : List ℕ → ℕ → Type 0
IsSetAt text offset =
    (bytes : List ℕ) × (0 < length bytes) × (digits : List ℕ) × EncodeBytes digits bytes
    × (text ≡ codes "set " ++ (decimal offset ++ space ∷ digits))

abbrev front_of : ℕ → List ℕ
front_of offset = codes "set " ++ (decimal offset ++ space ∷ [])

front-rest :
    (offset : ℕ) (digits : List ℕ)
    → front_of offset ++ digits ≡ codes "set " ++ (decimal offset ++ space ∷ digits)
front-rest offset digits = ap (λ (l : List ℕ). codes "set " ++ l) (append_assoc (decimal offset) (space ∷ []) digits)

set-decided : (text : List ℕ) (offset : ℕ) → Decided (IsSetAt text offset)
set-decided text offset = by (rest-after (front_of offset) text)
  where
    with-digits :
        (digits : List ℕ) → text ≡ front_of offset ++ digits
        → Decided ((bytes : List ℕ) × (0 < length bytes) × EncodeBytes digits bytes) → Decided (IsSetAt text offset)
    with-digits digits is (inl found) = inl (found.0, found.1, digits, found.2, is ∙ front-rest offset digits)
    with-digits digits is (inr none) =
        inr
        (λ set.
        let same : set.2 ≡ digits =
        append_cancel_left (front_of offset) set.2 digits (front-rest offset set.2 ∙ sym set.4 ∙ is) in
        none (set.0, set.1, subst (λ (ds : List ℕ). EncodeBytes ds set.0) same set.3))

    by : Decided ((rest : List ℕ) × (text ≡ front_of offset ++ rest)) → Decided (IsSetAt text offset)
    by (inl found) = with-digits found.0 found.1 (some-bytes found.0)
    by (inr none) = inr (λ set. none (set.2, set.4 ∙ sym (front-rest offset set.2)))

-- a line sets a size
abbrev IsSizeOf : List ℕ → ℕ → Type 0
IsSizeOf text size = text ≡ codes "size " ++ decimal size

neither :
    (text : List ℕ) (e : Edit)
    → ((offset : ℕ) × (offset < number_limit) × IsSetAt text offset → ⊥)
    → ((size : ℕ) × (size < number_limit) × IsSizeOf text size → ⊥)
    → Encodes text e → ⊥
neither text (Set offset bytes) no_set no_size encoded =
    no_set (offset, encoded.0, (bytes, encoded.1, encoded.2, encoded.3, encoded.4))
neither text (Size size) no_set no_size encoded = no_size (size, encoded.0, encoded.1)

edit-decided :
    (text : List ℕ)
    → Decided ((offset : ℕ) × (offset < number_limit) × IsSetAt text offset)
    → Decided ((size : ℕ) × (size < number_limit) × IsSizeOf text size)
    → Decided (IsEdit text)
edit-decided text (inl set) size = inl (Set set.0 set.2.0, (set.1, set.2.1, set.2.2, set.2.3, set.2.4))
edit-decided text (inr no_set) (inl size) = inl (Size size.0, (size.1, size.2))
edit-decided text (inr no_set) (inr no_size) = inr (λ edit. neither text edit.0 no_set no_size edit.1)

pub edit-or-none : (text : List ℕ) → Decided (IsEdit text)
edit-or-none text =
    edit-decided text (some-below (IsSetAt text) (set-decided text) number_limit)
    (some-below (IsSizeOf text) (λ size. same-list text (codes "size " ++ decimal size)) number_limit)

pub lines-say : (lines : List Line) → (answer : Result (List LineEdit) ℕ) × Say lines answer
lines-say [] = (Ok [], tt)
lines-say (line ∷ lines) = by (edit-or-none line.1) (lines-say lines)
  where
    after :
        (edit : Edit) → Encodes line.1 edit → (answer : Result (List LineEdit) ℕ) → Say lines answer
        → (answer : Result (List LineEdit) ℕ) × Say (line ∷ lines) answer
    after edit encoded (Ok edits) said = (Ok (record { line = line.0; edit = edit } ∷ edits), ((refl, encoded), said))
    after edit encoded (Err number) bad = (Err number, inr ((edit, encoded), bad))

    by :
        Decided (IsEdit line.1) → (answer : Result (List LineEdit) ℕ) × Say lines answer
        → (answer : Result (List LineEdit) ℕ) × Say (line ∷ lines) answer
    by (inl good) rest = after good.0 good.1 rest.0 rest.1
    by (inr bad) rest = (Err line.0, inl (bad, refl))
