-- A text of eight digits is a numeral of a word.
use Rattle.std.proofs.Common.{◌≡◌, ℕ, ◌^◌, ◌<◌, Bool, true, false, ◌&&◌, ◌==◌, List, [], ◌∷◌, length, Some, Result, Ok, Err, refl, ap, arith}
use Rattle.std.specs.List.{list_all}
use Rattle.std.specs.Char.{digit_value}
use Rattle.std.specs.Result.{result_ok}
use Rattle.std.specs.Str.Parse.{AllDigits, digits_value, without_leading_plus, ParsesUnsigned}
use Rattle.std.proofs.lemmas.Bool.Decides.{nat_tests}
use Rattle.hex_word.specs.Words.{is_word_digit, is_word}

-- both parts of a test that passed
both : (a b : Bool) → (a && b) ≡ true → (a ≡ true) × (b ≡ true)
both true b h = (refl, h)
both false b h = cc

-- a digit of a word is one of base sixteen
digit_fits : (c : ℕ) → is_word_digit c ≡ true → digit_value c < 16
digit_fits c h = grind (arith, nat_tests, h)

-- and no plus sign
digit_is_no_plus : (c : ℕ) → is_word_digit c ≡ true → (c == 43) ≡ false
digit_is_no_plus c h = grind (arith, nat_tests, h)

-- digits of a word are digits of base sixteen
all_fit : (ds : List ℕ) → list_all is_word_digit ds ≡ true → AllDigits 16 ds
all_fit [] h = tt
all_fit (d ∷ ds) h = let b = both (is_word_digit d) (list_all is_word_digit ds) h in (digit_fits d b.0, all_fit ds b.1)

-- digits have no plus sign before them
same_without_plus : (ds : List ℕ) → list_all is_word_digit ds ≡ true → without_leading_plus ds ≡ ds
same_without_plus [] h = refl
same_without_plus (d ∷ ds) h = rw (digit_is_no_plus d (both (is_word_digit d) (list_all is_word_digit ds) h).0) refl

-- eight digits encode a number below 2 ^ 32
eight_fit : (ds : List ℕ) → length ds ≡ 8 → AllDigits 16 ds → digits_value 16 ds < 2 ^ 32
eight_fit (a ∷ b ∷ c ∷ d ∷ e ∷ f ∷ g ∷ h ∷ []) count (fa, (fb, (fc, (fd, (fe, (ff, (fg, (fh, _)))))))) = omega arith
eight_fit _ count fits = absurd (omega arith)

-- what parsing a word gives
pub parsed :
    {E : Type 0} (text : List ℕ) (r : Result ℕ E) → is_word text ≡ true → ParsesUnsigned 32 16 text r
    → result_ok r ≡ Some (digits_value 16 text)
parsed text (Ok w) h p =
    let b = both (length text == 8) (list_all is_word_digit text) h in
    ap (λ n. Some n) (rw (same_without_plus text b.1) at p.1)
parsed text (Err e) h p =
    let b = both (length text == 8) (list_all is_word_digit text) h in
    let count : length text ≡ 8 = grind (arith, nat_tests, b.0) in
    let fits = all_fit text b.1 in
    absurd (p (rw (same_without_plus text b.1) ((omega arith, fits), eight_fit text count fits)))
