-- What the readers of the parser's findings give, by the rows that the definitions name.
use Rattle.std.proofs.Common.{◌≡◌, ◌<◌, ◌≤◌, ◌^◌, ◌&&◌, ℕ, Bool, cond, true, false, List, Option, Some, None, refl, ap, ◌∙◌, arith, nat_lt, true≢false}
use Rattle.std.specs.Prelude.{nat_le, is_some, option_map, unwrap_or}
use Rattle.std.specs.Str.{bytes_eq}
use Rattle.std.specs.Str.Parse.{IsNumeral, ParsesBool, digits_value, true_text, without_leading_plus}
use Rattle.std.proofs.lemmas.Bool.{le-leb, lt-leb, lt-ltb}
use Rattle.std.proofs.lemmas.Slice.Eq.{bytes_eq-Decides}
use Rattle.clap.specs.Words.{ReadsOne, Text, all_of, first_of, first_value, matched_of, one_of, one_text, raw_values, rows_of}
use Rattle.clap.specs.ValueTests.{is_numeral, is_unsigned_in}
use Rattle.clap.specs.declared.builder.value_parser.ValueParser.TheVariants as parser
use Rattle.clap.specs.declared.parser.matches.Found.{Found}
use Rattle.clap.proofs.ValueTestLemmas.{accepts-Accepts, Accepts-accepts}
use Rattle.clap.proofs.WalkLemmas.{both, first_value-rows, one_text-rows, raw_values-rows}
use Rattle.ith_words.specs.Words.{number_given, flag_given}

-- the first text of an operand or option
pub first_value_of_rows : (f : Found) (id : Text) → first_value f id ≡ first_of id (rows_of f)
first_value_of_rows = first_value-rows

-- all its texts
pub values_of_rows : (f : Found) (id : Text) → option_map raw_values (matched_of f id) ≡ all_of id (rows_of f)
values_of_rows = raw_values-rows

-- the number that a text encodes
abbrev value : Text → ℕ
value text = digits_value 10 (without_leading_plus text)

-- a text is a number of 32 bits
abbrev pub IsNumber : Text → Type 0
IsNumber text = IsNumeral 10 (without_leading_plus text) × (value text < 2 ^ 32)

-- such a text passes the parser's test of a numeral
numeral : (text : Text) → IsNumber text → is_numeral (without_leading_plus text) ≡ true
numeral text number =
    let small : value text < 2 ^ 64 = let h = number.1 in omega arith in
    let most : value text ≤ 18446744073709551615 = let h = number.1 in omega arith in
    let least : 0 ≤ value text = omega arith in
    (both _ _ (Accepts-accepts false (parser.Unsigned 0 18446744073709551615) text (number.0, small, least, most))).0

-- the number that is accepted: this one if it lies from the least to the most
abbrev pub taken : ℕ → ℕ → ℕ → Option ℕ
taken least most n = cond (nat_le least n && nat_le n most) (Some n) None

-- of a text that is a number
taken_text :
    (least most : ℕ) (text : Text) (n : ℕ)
    → IsNumber text → n ≡ value text → taken least most n ≡ number_given least most (Some text)
taken_text least most text n number is =
    let small : nat_lt (value text) (2 ^ 64) ≡ true = let h = number.1 in lt-ltb _ _ (omega arith) in
    rw (is, numeral text number, small) refl

-- of a text that is no number
left_text : (least most : ℕ) (text : Text) → most < 2 ^ 32 → (IsNumber text → ⊥) → None ≡ number_given least most (Some text)
left_text least most text fits none = go (is_unsigned_in least most text) refl
  where
    go : (b : Bool) → is_unsigned_in least most text ≡ b → None ≡ cond b (Some (value text)) None
    go false is = refl
    go true is =
        let accepted = accepts-Accepts false (parser.Unsigned least most) text is in
        let within = accepted.3 in
        absurd (none (accepted.0, omega arith))

-- the number of an option if the parser's reader gave one
pub number_read :
    (least most : ℕ) (f : Found) (id : Text) (n : ℕ)
    → (one_text f id ≡ None → Some n ≡ None) → ((t : List ℕ) → one_text f id ≡ Some t → IsNumber t × (n ≡ value t))
    → taken least most n ≡ number_given least most (one_of id (rows_of f))
number_read least most f id n none some = go (one_text f id) none some ∙ ap (number_given least most) (one_text-rows f id)
  where
    go : (o : Option Text) → (o ≡ None → Some n ≡ None) → ((t : List ℕ) → o ≡ Some t → IsNumber t × (n ≡ value t))
        → taken least most n ≡ number_given least most o
    go None absent number = absurd (true≢false (ap is_some (absent refl)))
    go (Some text) absent number =
        let is = number text refl in
        taken_text least most text n is.0 is.1

-- and if it gave none
pub number_unread :
    (least most : ℕ) (f : Found) (id : Text)
    → most < 2 ^ 32 → ((t : List ℕ) → one_text f id ≡ Some t → IsNumber t → ⊥)
    → None ≡ number_given least most (one_of id (rows_of f))
number_unread least most f id fits some = go (one_text f id) some ∙ ap (number_given least most) (one_text-rows f id)
  where
    go : (o : Option Text) → ((t : List ℕ) → o ≡ Some t → IsNumber t → ⊥) → None ≡ number_given least most o
    go None none = refl
    go (Some text) none = left_text least most text fits (none text refl)

-- which number is accepted, by the range that it lies in
pub taken_within : (least most n : ℕ) → least ≤ n → n ≤ most → Some n ≡ taken least most n
taken_within least most n some within = rw (le-leb least n some, le-leb n most within) refl

pub taken_below : (least most n : ℕ) → n < least → None ≡ taken least most n
taken_below least most n none = rw (lt-leb least n none) refl

pub taken_above : (least most n : ℕ) → least ≤ n → most < n → None ≡ taken least most n
taken_above least most n some above = rw (le-leb least n some, lt-leb n most above) refl

-- a text was read as a truth value, or encodes none
abbrev pub IsRead : Type 0 → Text → Option Bool → Type 0
IsRead E text given = ReadsOne {T = Bool} {E = E} ParsesBool text given

-- the text is the word true if it was read as true
flag_text :
    (E : Type 0) (text : Text) (given : Option Bool)
    → IsRead E text given → unwrap_or given false ≡ flag_given (Some text)
flag_text E text (Some true) is = rw (is) refl
flag_text E text (Some false) is = rw (is) refl
flag_text E text None is = go (bytes_eq text true_text) refl
  where
    go : (b : Bool) → bytes_eq text true_text ≡ b → false ≡ b
    go false equal = refl
    go true equal = absurd (is.1.0 ((bytes_eq-Decides text true_text).0 equal))

-- whether an option without an argument was given, by what the parser's reader gave
pub flag_read :
    (E : Type 0) (f : Found) (id : Text) (given : Option Bool)
    → (one_text f id ≡ None → given ≡ None) → ((t : List ℕ) → one_text f id ≡ Some t → IsRead E t given)
    → unwrap_or given false ≡ flag_given (one_of id (rows_of f))
flag_read E f id given none some = go (one_text f id) none some ∙ ap flag_given (one_text-rows f id)
  where
    go : (o : Option Text) → (o ≡ None → given ≡ None) → ((t : List ℕ) → o ≡ Some t → IsRead E t given)
        → unwrap_or given false ≡ flag_given o
    go None absent read = ap (λ (g : Option Bool). unwrap_or g false) (absent refl)
    go (Some text) absent read = flag_text E text given (read text refl)
