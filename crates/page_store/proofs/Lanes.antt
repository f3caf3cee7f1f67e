-- Which lanes of a vector the bits of a word choose.
use Rattle.std.proofs.Common.{◌≡◌, ℕ, zero, suc, ◌+◌, ◌*◌, ◌/◌, ◌%◌, ◌^◌, ◌<◌, Bool, false, cond, List, [], ◌∷◌, ◌++◌, length, map, get_or, sym, ap, ◌∙◌, refl, arith, nat_eq, w8}
use Rattle.std.specs.Int.{bit_at}
use Rattle.std.specs.List.{range_with_len}
use Rattle.std.specs.Int.Bits.{bit_and}
use Rattle.std.specs.Simd.Lanes.{zip2, top, pick_l, digits_l, number_l}
use Rattle.std.proofs.Math.Nat.{pow-suc, div-div-eq-div-mul}
use Rattle.std.proofs.lemmas.Nat.{pow-add, pow_pos}
use Rattle.std.proofs.lemmas.Nat.Bits.{and_pow, bit_at-lt, bit_at_cat_low}
use Rattle.std.proofs.lemmas.List.{get_or-map}
use Rattle.std.proofs.lemmas.List.FromFn.{get_or-map-range_with_len}
use Rattle.std.proofs.lemmas.Simd.{get_or-zip2, pick_l_left, tops_compared, get_or_narrower}

-- The bytes of a word, the least one first.
abbrev pub word_bytes : ℕ → List ℕ
word_bytes word = digits_l 256 8 (number_l (2 ^ 64) (word ∷ []))

-- Which byte has the bit of a place, and the number that has only that bit.
abbrev pub byte_places : List ℕ
byte_places = map (λ k. k / 8) (range_with_len 0 64)

abbrev pub place_bits : List ℕ
place_bits = map (λ k. 2 ^ (k % 8)) (range_with_len 0 64)

pow_bytes : (i : ℕ) → 256 ^ i ≡ 2 ^ (8 * i)
pow_bytes zero = refl
pow_bytes (suc i) =
    let next : 8 * suc i ≡ 8 * i + 8 = omega arith in
    pow-suc 256 i ∙ ap (λ (n : ℕ). n * 256) (pow_bytes i) ∙ sym (pow-add 2 (8 * i) 8) ∙ ap (λ (n : ℕ). 2 ^ n) (sym next)

byte_at : (word i : ℕ) → word < 2 ^ 64 → i < 8 → get_or (word_bytes word) i 0 ≡ word / 2 ^ (8 * i) % 256
byte_at word i small lt =
    let start : 8 * 0 + i ≡ i = omega arith in
    ap (λ (n : ℕ). get_or (word_bytes word) n 0) (sym start)
    ∙ get_or_narrower (2 ^ 64) 8 256 8 (word ∷ []) 0 i refl (small, tt) lt (omega arith)
    ∙ ap (λ (n : ℕ). word / n % 256) (pow_bytes i)

-- a bit of a byte of a word
bit_of_byte : (word i j : ℕ) → j < 8 → bit_at (word / 2 ^ (8 * i) % 256) j ≡ bit_at word (8 * i + j)
bit_of_byte word i j lt =
    let high = word / 2 ^ (8 * i) in
    let parts : high / 256 * 2 ^ 8 + high % 256 ≡ high = omega arith in
    sym (bit_at_cat_low (high / 256) 8 (high % 256) j lt)
    ∙ ap (λ (n : ℕ). bit_at n j) parts
    ∙ ap (λ (n : ℕ). n % 2) (div-div-eq-div-mul word (2 ^ (8 * i)) (2 ^ j)
    ∙ ap (λ (n : ℕ). word / n) (sym (pow-add 2 (8 * i) j)))

bit_test : (b p : ℕ) → b < 2 → 0 < p → nat_eq (b * p) p ≡ nat_eq b 1
bit_test zero p lt some = grind arith
bit_test (suc zero) p lt some = grind arith
bit_test (suc (suc b)) p lt some = absurd (omega arith)

-- The lanes that are compared equal, as the vector has them.
abbrev pub lanes_of : ℕ → List Bool
lanes_of word =
    map (top 7) (zip2 (λ a b. cond (nat_eq a b) 255 0)
    (zip2 bit_and (pick_l 0 (word_bytes word ++ word_bytes word) byte_places) place_bits) place_bits)

pub length-lanes : (word : ℕ) → length (lanes_of word) ≡ 64
length-lanes word = refl

-- lanes that have a bit, compared with it
compared :
    (bytes bits : List ℕ) (k : ℕ) → k < length bytes → k < length bits → length (zip2 bit_and bytes bits) ≡ length bits
    → get_or (map (top 7) (zip2 (λ a b. cond (nat_eq a b) 255 0) (zip2 bit_and bytes bits) bits)) k false
    ≡ nat_eq (bit_and (get_or bytes k 0) (get_or bits k 0)) (get_or bits k 0)
compared bytes bits k lt_bytes lt_bits same =
    ap (λ l. get_or l k false) (tops_compared w8 nat_eq (zip2 bit_and bytes bits) bits)
    ∙ get_or-zip2 nat_eq (zip2 bit_and bytes bits) bits k 0 0 false (omega (arith, same)) lt_bits
    ∙ ap (λ n. nat_eq n (get_or bits k 0)) (get_or-zip2 bit_and bytes bits k 0 0 0 lt_bytes lt_bits)

byte_of_place : (word k : ℕ) → word < 2 ^ 64 → k < 64
    → get_or (pick_l 0 (word_bytes word ++ word_bytes word) byte_places) k 0 ≡ word / 2 ^ (8 * (k / 8)) % 256
byte_of_place word k small lt =
    ap (λ l. get_or l k 0) (pick_l_left 0 (word_bytes word) (word_bytes word) 8 byte_places refl tt)
    ∙ get_or-map (λ n. get_or (word_bytes word) n 0) byte_places k 0 0 lt
    ∙ ap (λ n. get_or (word_bytes word) n 0) (get_or-map-range_with_len (λ n. n / 8) 0 64 k k 0 lt (omega arith))
    ∙ byte_at word (k / 8) small (omega arith)

bit_of_place : (k : ℕ) → k < 64 → get_or place_bits k 0 ≡ 2 ^ (k % 8)
bit_of_place k lt = get_or-map-range_with_len (λ n. 2 ^ (n % 8)) 0 64 k k 0 lt (omega arith)

bit_alone : (byte bit word k : ℕ) → byte ≡ word / 2 ^ (8 * (k / 8)) % 256 → bit ≡ 2 ^ (k % 8)
    → nat_eq (bit_and byte bit) bit ≡ nat_eq (bit_at word k) 1
bit_alone byte bit word k byte_is bit_is =
    let place : 8 * (k / 8) + k % 8 ≡ k = omega arith in
    ap (λ n. nat_eq (bit_and n bit) bit) byte_is
    ∙ ap (λ n. nat_eq (bit_and (word / 2 ^ (8 * (k / 8)) % 256) n) n) bit_is
    ∙ ap (λ n. nat_eq n (2 ^ (k % 8))) (and_pow (word / 2 ^ (8 * (k / 8)) % 256) (k % 8))
    ∙ bit_test (bit_at (word / 2 ^ (8 * (k / 8)) % 256) (k % 8)) (2 ^ (k % 8))
    (bit_at-lt (word / 2 ^ (8 * (k / 8)) % 256) (k % 8)) (pow_pos (k % 8))
    ∙ ap (λ n. nat_eq n 1) (bit_of_byte word (k / 8) (k % 8) (omega arith) ∙ ap (bit_at word) place)

lane_bit : (word k : ℕ) → word < 2 ^ 64 → k < 64 → get_or (lanes_of word) k false ≡ nat_eq (bit_at word k) 1
lane_bit word k small lt =
    compared (pick_l 0 (word_bytes word ++ word_bytes word) byte_places) place_bits k lt lt refl
    ∙ bit_alone _ _ word k (byte_of_place word k small lt) (bit_of_place k lt)

-- They are those whose bit is set.
pub lane_chosen :
    (word k : ℕ) → word < 2 ^ 64 → k < 64 → (x y : ℕ)
    → cond (get_or (lanes_of word) k false) x y ≡ cond (nat_eq (bit_at word k) 1) x y
lane_chosen word k small lt x y = ap (λ b. cond b x y) (lane_bit word k small lt)
