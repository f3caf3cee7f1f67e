-- Hexadecimal digits encode exactly the bytes that are decoded from them.
use Rattle.std.proofs.Common.{◌⊎◌, inl, inr, ◌≢◌, Bool, if◌then◌else◌, ◌≡◌, ℕ, ◌+◌, ◌*◌, ◌/◌, ◌%◌, ◌<◌, ◌==◌, true, false, List, [], ◌∷◌, length, Option, Some, None, Result, Ok, Err, refl, ap, subst, ◌∙◌, arith}
use Rattle.hex.specs.Hex.{decode_of, decode_pairs, digit_or_error, hex_digit_value, pair_value, value_at, ◌>>=◌}
use Rattle.hex.specs.declared.error.FromHexError.{FromHexError}
use Rattle.hex.specs.declared.error.FromHexError.TheVariants.{OddLength, OutOfMemory}
use Rattle.hex.proofs.HexLemmas.{decode_of-even}
use Rattle.hex.proofs.Pairs.{cons_byte, decode_pairs-ok_pair}
use Rattle.edit_spec.specs.Grammar.{EncodeBytes}
use Rattle.edit_list.specs.declared.line.LineFault.{LineFault}
use Rattle.edit_list.specs.declared.line.LineFault.TheVariants as fault
use Rattle.edit_list.specs.Refusals.{WhyNoBytes}

-- if two computations in sequence succeed, so does the first
bind_ok :
    {A B : Type 0} (r : Result A FromHexError) (f : A → Result B FromHexError) (y : B) → (r >>= f) ≡ Ok y
    → (x : A) × (r ≡ Ok x) × (f x ≡ Ok y)
bind_ok (Ok x) f y h = (x, refl, h)
bind_ok (Err e) f y h = cc h

-- the value of a digit that was read
digit_read : (c i : ℕ) (o : Option ℕ) (v : ℕ) → digit_or_error c i o ≡ Ok v → o ≡ Some v
digit_read c i (Some w) v h = cc
digit_read c i None v h = cc h

-- a digit's value is below 16
small_value : (c v : ℕ) → hex_digit_value c ≡ Some v → v < 16
small_value c v h = grind (arith)

-- two digits that encode a byte are decoded to it
pair_from :
    (high low byte i : ℕ) → hex_digit_value high ≡ Some (byte / 16) → hex_digit_value low ≡ Some (byte % 16)
    → pair_value high low i ≡ Ok byte
pair_from high low byte i h l =
    let a : value_at high i ≡ Ok (byte / 16) = ap (digit_or_error high i) h in
    let b : value_at low (i + 1) ≡ Ok (byte % 16) = ap (digit_or_error low (i + 1)) l in
    let whole : byte / 16 * 16 + byte % 16 ≡ byte = omega arith in
    rw (a, b) (ap (λ (v : ℕ). Ok v) whole)

-- two digits that are decoded to a byte encode it
pair_to :
    (high low byte i : ℕ) → pair_value high low i ≡ Ok byte
    → (hex_digit_value high ≡ Some (byte / 16)) × (hex_digit_value low ≡ Some (byte % 16))
pair_to high low byte i e =
    let first = bind_ok (value_at high i) (λ (h : ℕ). value_at low (i + 1) >>= λ (l : ℕ). Ok (h * 16 + l)) byte e in
    let second = bind_ok (value_at low (i + 1)) (λ (l : ℕ). Ok (first.0 * 16 + l)) byte first.2 in
    let upper = digit_read high i (hex_digit_value high) first.0 first.1 in
    let lower = digit_read low (i + 1) (hex_digit_value low) second.0 second.1 in
    let small = small_value low second.0 lower in
    let whole : first.0 * 16 + second.0 ≡ byte = cc in
    let high_is : first.0 ≡ byte / 16 = omega arith in
    let low_is : second.0 ≡ byte % 16 = omega arith in
    (upper ∙ ap (λ (v : ℕ). Some v) high_is, lower ∙ ap (λ (v : ℕ). Some v) low_is)

pub read_encoded : (i : ℕ) (digits bytes : List ℕ) → EncodeBytes digits bytes → decode_pairs i digits ≡ Ok bytes
unfolding decode_pairs
read_encoded i [] [] s = refl
read_encoded i [] (b ∷ bytes) s = absurd s
read_encoded i (high ∷ []) [] s = absurd s
read_encoded i (high ∷ []) (b ∷ bytes) s = absurd s
read_encoded i (high ∷ low ∷ digits) [] s = absurd s
read_encoded i (high ∷ low ∷ digits) (b ∷ bytes) s =
    decode_pairs-ok_pair i high low b digits (pair_from high low b i s.0 s.1)
    ∙ ap (cons_byte b) (read_encoded (i + 2) digits bytes s.2)

pub encoded_read : (i : ℕ) (digits bytes : List ℕ) → decode_pairs i digits ≡ Ok bytes → EncodeBytes digits bytes
unfolding decode_pairs
encoded_read i [] bytes e = let none : [] ≡ bytes = cc in subst (EncodeBytes []) none tt
encoded_read i (high ∷ []) bytes e = cc
encoded_read i (high ∷ low ∷ digits) bytes e =
    let first =
    bind_ok (pair_value high low i) (λ (b : ℕ). decode_pairs (i + 2) digits >>= λ (bs : List ℕ). Ok (b ∷ bs)) bytes e in
    let second = bind_ok (decode_pairs (i + 2) digits) (λ (bs : List ℕ). Ok (first.0 ∷ bs)) bytes first.2 in
    let pair = pair_to high low first.0 i first.1 in
    let rest = encoded_read (i + 2) digits second.0 second.1 in
    let whole : first.0 ∷ second.0 ≡ bytes = cc in
    subst (EncodeBytes (high ∷ low ∷ digits)) whole (pair.0, pair.1, rest)

-- two digits for each byte
pub length_encoded : (digits bytes : List ℕ) → EncodeBytes digits bytes → length digits ≡ 2 * length bytes
length_encoded [] [] s = refl
length_encoded [] (b ∷ bytes) s = absurd s
length_encoded (high ∷ []) [] s = absurd s
length_encoded (high ∷ []) (b ∷ bytes) s = absurd s
length_encoded (high ∷ low ∷ digits) [] s = absurd s
length_encoded (high ∷ low ∷ digits) (b ∷ bytes) s = let rest = length_encoded digits bytes s.2 in omega arith

pub decoded_is_encoded : (digits bytes : List ℕ) → decode_of digits ≡ Ok bytes → EncodeBytes digits bytes
decoded_is_encoded digits bytes e = by (length digits % 2 == 1) e
  where
    by : (odd : Bool) → (if odd then Err OddLength else decode_pairs 0 digits) ≡ Ok bytes → EncodeBytes digits bytes
    by true e = cc
    by false e = encoded_read 0 digits bytes e

pub encoded_is_decoded : (digits bytes : List ℕ) → EncodeBytes digits bytes → decode_of digits ≡ Ok bytes
encoded_is_decoded digits bytes s =
    let count = length_encoded digits bytes s in
    decode_of-even digits (omega arith) ∙ read_encoded 0 digits bytes s

-- why digits gave no bytes if the decoder refuses them
pub refused_by_decoder :
    (digits : List ℕ) (error : FromHexError) (answer : LineFault)
    → (answer ≡ fault.Bad → error ≢ OutOfMemory)
    → (error ≡ OutOfMemory) ⊎ (decode_of digits ≡ Err error) → WhyNoBytes digits answer
refused_by_decoder digits error fault.Bad other (inl memory) = absurd (other refl memory)
refused_by_decoder digits error fault.Bad other (inr refused) =
    λ bytes some encoded. let read = encoded_is_decoded digits bytes encoded in cc
refused_by_decoder digits error fault.NoMemory other why = tt

-- some digits encode some bytes
pub some_bytes : (digits bytes : List ℕ) → 0 < length digits → EncodeBytes digits bytes → 0 < length bytes
some_bytes digits bytes some encoded = let count = length_encoded digits bytes encoded in omega arith
