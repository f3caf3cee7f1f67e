-- Worked examples. The expected values follow by hand.
use Rattle.std.proofs.Common.{◌≡◌, ◌<◌, [], ◌∷◌, Ok, Err, inl, inr, refl, sym, ap, ◌∙◌, lit<, arith}
use Rattle.std.specs.Prelude.{codes, decimal}
use Rattle.std.specs.Fmt.{digits}
use Rattle.std.specs.Str.Parse.{digits_value}
use Rattle.std.proofs.lemmas.Fmt.{digits_value-decimal}
use Rattle.edit_list.proofs.Numerals.{decimal_texts}
use Rattle.schedule_list.specs.Schedule.{tokens, IsEncoding, Encodes, Says}
use Rattle.schedule_list.proofs.Encoding.{digits_of, one_front, one_number}

-- a number alone, and numbers with each mark
pub number_is_encoded : Encodes (codes "0") 0
unfolding digits
number_is_encoded = (lit< tt, [], inl refl, refl)

pub reused_is_encoded : Encodes (codes "31=") 31
unfolding digits
reused_is_encoded = (lit< tt, codes "=", inr (inl refl), refl)

pub executed_is_encoded : Encodes (codes "7+") 7
unfolding digits
executed_is_encoded = (lit< tt, codes "+", inr (inr refl), refl)

-- there is no thread 32
pub thread_32_is_none : IsEncoding (codes "32") → ⊥
unfolding digits
thread_32_is_none (thread, encoded) =
    let same =
    one_front (decimal 32) (decimal thread) [] encoded.1 refl (digits_of thread encoded.0) (inl refl) encoded.2
    encoded.3 in
    let number : 32 ≡ thread = one_number 32 thread (lit< tt) encoded.0 same in
    let few : thread < 32 = encoded.0 in
    omega arith

-- a number has no leading zero
pub leading_zero_is_none : IsEncoding (codes "01") → ⊥
unfolding digits
leading_zero_is_none (thread, encoded) =
    let same =
    one_front (codes "01") (decimal thread) [] encoded.1 refl (digits_of thread encoded.0) (inl refl) encoded.2
    encoded.3 in
    let value : 1 ≡ thread =
    ap (digits_value 10) same ∙ digits_value-decimal decimal_texts thread (let few : thread < 32 = encoded.0 in omega arith) in
    let one : codes "01" ≡ decimal 1 = same ∙ sym (ap decimal value) in
    cc

-- any number of spaces and newlines may separate tokens
pub schedule_is_said : Says (codes " 0\n\n31= 7+\n") (Ok (0 ∷ 31 ∷ 7 ∷ []))
unfolding tokens
schedule_is_said = (number_is_encoded, (reused_is_encoded, (executed_is_encoded, tt)))

-- no token is no step
pub nothing_is_said : Says (codes " \n") (Ok [])
unfolding tokens
nothing_is_said = tt

-- tokens are numbered from 0
pub bad_token_is_said : Says (codes "7+\n0 32 x") (Err 2)
unfolding tokens
bad_token_is_said = ((7, executed_is_encoded), ((0, number_is_encoded), thread_32_is_none))
