-- Masks and masked bytes, word by word and mark by mark.
use Rattle.std.proofs.Common.{◌≡◌, ℕ, zero, suc, ◌+◌, ◌-◌, ◌*◌, ◌/◌, ◌%◌, ◌^◌, ◌<◌, ◌≤◌, Bool, true, false, cond, List, [], ◌∷◌, ◌++◌, length, take, drop, map, refl, sym, ap, ◌∙◌, append_assoc, arith, w64}
use Rattle.std.specs.Prelude.{slice_index_or}
use Rattle.std.specs.Int.{byte_at, bytes_low_first, to_le_bytes}
use Rattle.std.specs.Int.RustNames.{count_ones}
use Rattle.std.specs.Simd.Lanes.{mask_l}
use Rattle.std.proofs.Math.Nat.{pow-suc, div-div-eq-div-mul}
use Rattle.std.proofs.Math.Seq.{drop-cons}
use Rattle.std.proofs.lemmas.List.{drop-drop, length-drop}
use Rattle.std.proofs.lemmas.List.Sums.{sum_by-append, sum_by-cons}
use Rattle.std.proofs.lemmas.Simd.{chunk-drop, ones-mask_l}
use Rattle.thunk_spec.specs.Delta.{chosen}
use Rattle.memo_spec.specs.Encoding.{bit, mask}
use Rattle.page_store.proofs.Words.{word_marks, marks_left, IsLeft, mark_there, none_before, none_left, all_there}
use Rattle.memo_file.specs.WritingMasks.{marks_in}

-- ---- a word as bytes

few : (b : Bool) → bit b ≤ 1
few true = omega arith
few false = omega arith

low_byte : (low high n : ℕ) → low < 256 → n ≡ low + 256 * high → (n % 256 ≡ low) × (n / 256 ≡ high)
low_byte low high n small is = (omega arith, omega arith)

-- The eight first marks are the lowest byte of the number that the marks encode.
eight : (a b c d e f g h : Bool) (m : List Bool) → let n : ℕ = mask_l (a ∷ b ∷ c ∷ d ∷ e ∷ f ∷ g ∷ h ∷ m) in
    (n % 256 ≡ bit a + 2 * bit b + 4 * bit c + 8 * bit d + 16 * bit e + 32 * bit f + 64 * bit g + 128 * bit h)
    × (n / 256 ≡ mask_l m)
eight a b c d e f g h m = of (bit a) (bit b) (bit c) (bit d) (bit e) (bit f) (bit g) (bit h) (mask_l m) (few a) (few b)
    (few c) (few d) (few e) (few f) (few g) (few h)
  where
    of : (a b c d e f g h r : ℕ) → a ≤ 1 → b ≤ 1 → c ≤ 1 → d ≤ 1 → e ≤ 1 → f ≤ 1 → g ≤ 1 → h ≤ 1
        → let n : ℕ = a + 2 * (b + 2 * (c + 2 * (d + 2 * (e + 2 * (f + 2 * (g + 2 * (h + 2 * r))))))) in
        (n % 256 ≡ a + 2 * b + 4 * c + 8 * d + 16 * e + 32 * f + 64 * g + 128 * h) × (n / 256 ≡ r)
    of a b c d e f g h r p q s t u v w x =
        low_byte (a + 2 * b + 4 * c + 8 * d + 16 * e + 32 * f + 64 * g + 128 * h) r _ (omega arith) (omega arith)

byte_is : (i n : ℕ) → byte_at i n ≡ n / 256 ^ i % 256
byte_is zero n = omega arith
byte_is (suc i) n = refl

above : (i n : ℕ) → n / 256 ^ suc i ≡ n / 256 ^ i / 256
above i n = ap (λ (p : ℕ). n / p) (pow-suc 256 i) ∙ sym (div-div-eq-div-mul n (256 ^ i) 256)

bytes_from : (k i n : ℕ) (m : List Bool) → 8 * k ≤ length m → n / 256 ^ i ≡ mask_l (take (8 * k) m)
    → mask m ≡ bytes_low_first i k n ++ mask (drop (8 * k) m)
bytes_from zero i n m le e = refl
bytes_from (suc k) i n [] le e = absurd (omega arith)
bytes_from (suc k) i n (a ∷ []) le e = absurd (omega arith)
bytes_from (suc k) i n (a ∷ b ∷ []) le e = absurd (omega arith)
bytes_from (suc k) i n (a ∷ b ∷ c ∷ []) le e = absurd (omega arith)
bytes_from (suc k) i n (a ∷ b ∷ c ∷ d ∷ []) le e = absurd (omega arith)
bytes_from (suc k) i n (a ∷ b ∷ c ∷ d ∷ x ∷ []) le e = absurd (omega arith)
bytes_from (suc k) i n (a ∷ b ∷ c ∷ d ∷ x ∷ f ∷ []) le e = absurd (omega arith)
bytes_from (suc k) i n (a ∷ b ∷ c ∷ d ∷ x ∷ f ∷ g ∷ []) le e = absurd (omega arith)
bytes_from (suc k) i n (a ∷ b ∷ c ∷ d ∷ x ∷ f ∷ g ∷ h ∷ m) le e =
    let size : 8 * suc k ≡ suc (suc (suc (suc (suc (suc (suc (suc (8 * k)))))))) = omega arith in
    let all : n / 256 ^ i ≡ mask_l (a ∷ b ∷ c ∷ d ∷ x ∷ f ∷ g ∷ h ∷ take (8 * k) m) =
    e ∙ ap (λ (s : ℕ). mask_l (take s (a ∷ b ∷ c ∷ d ∷ x ∷ f ∷ g ∷ h ∷ m))) size in
    let parts = eight a b c d x f g h (take (8 * k) m) in
    let low = byte_is i n ∙ ap (λ (v : ℕ). v % 256) all ∙ parts.0 in
    let rest = bytes_from k (suc i) n m (omega arith) (above i n ∙ ap (λ (v : ℕ). v / 256) all ∙ parts.1) in
    rw (low, size) (ap (λ (l : List ℕ). (bit a + 2 * bit b + 4 * bit c + 8 * bit d + 16 * bit x + 32 * bit f + 64 * bit g
    + 128 * bit h) ∷ l) rest)

-- The marks from a word on begin with its bytes.
word_bytes : (m : List Bool) (number : ℕ) → 64 * number + 64 ≤ length m
    → mask (drop (64 * number) m) ≡ to_le_bytes w64 (mask_l (word_marks m number)) ++ mask (drop (64 * (number + 1)) m)
word_bytes m number le =
    let whole : mask_l (word_marks m number) / 256 ^ 0 ≡ mask_l (word_marks m number) = omega arith in
    bytes_from 8 0 (mask_l (word_marks m number)) (drop (64 * number) m) (simp length-drop (omega arith)) whole
    ∙ ap (λ (l : List Bool). to_le_bytes w64 (mask_l (word_marks m number)) ++ mask l)
    (drop-drop 64 (64 * number) m ∙ ap (λ (n : ℕ). drop n m) (omega arith))

-- One more word of a mask.
pub mask_step : (m : List Bool) (number word : ℕ) (out new all bytes : List ℕ) → 64 * number + 64 ≤ length m
    → word ≡ mask_l (word_marks m number) → bytes ≡ to_le_bytes w64 word → new ≡ out ++ bytes
    → out ++ mask (drop (64 * number) m) ≡ all → new ++ mask (drop (64 * (number + 1)) m) ≡ all
mask_step m number word out new all bytes le is b w h =
    rw (w, b, is) (append_assoc out (to_le_bytes w64 (mask_l (word_marks m number)))
    (mask (drop (64 * (number + 1)) m))
    ∙ sym (ap (λ (l : List ℕ). out ++ l) (word_bytes m number le)) ∙ h)

-- ---- how many marks

same : (m : List Bool) → map (λ (mark : Bool). mark) m ≡ m
same [] = refl
same (x ∷ m) = ap (λ (r : List Bool). x ∷ r) (same m)

ones_are : (m : List Bool) → count_ones (mask_l m) ≡ marks_in m
ones_are m = ap (λ (l : List Bool). count_ones (mask_l l)) (sym (same m)) ∙ ones-mask_l (λ (mark : Bool). mark) m

-- One more word of a mask is counted.
pub count_step : (m : List Bool) (number word count : ℕ) → word ≡ mask_l (word_marks m number)
    → count + marks_in (drop (64 * number) m) ≡ marks_in m
    → count + count_ones word + marks_in (drop (64 * (number + 1)) m) ≡ marks_in m
count_step m number word count is h =
    let next : 64 * number + 64 ≡ 64 * (number + 1) = omega arith in
    let split : marks_in (drop (64 * number) m)
    ≡ marks_in (word_marks m number) + marks_in (drop (64 * (number + 1)) m) =
    ap marks_in (chunk-drop (64 * number) 64 m ∙ ap (λ (n : ℕ). word_marks m number ++ drop n m) next)
    ∙ sum_by-append (λ (mark : Bool). cond mark 1 0) (word_marks m number) (drop (64 * (number + 1)) m) in
    omega (arith, split, h, ap count_ones is, ones_are (word_marks m number))

-- The bytes of a page at marked places are as many as the marks.
pub length_chosen : (m : List Bool) (page : List ℕ) → length m ≤ length page → length (chosen m page) ≡ marks_in m
length_chosen [] page le = refl
length_chosen (mark ∷ m) [] le = absurd (omega arith)
length_chosen (true ∷ m) (byte ∷ page) le = ap suc (length_chosen m page (omega arith)) ∙ omega arith
    ∙ sym (sum_by-cons (λ (mark : Bool). cond mark 1 0) true m)
length_chosen (false ∷ m) (byte ∷ page) le = length_chosen m page (omega arith)

-- ---- marked bytes

chosen_at : (m : List Bool) (page : List ℕ) (k : ℕ) → k < length m → k < length page
    → chosen (drop k m) (drop k page) ≡ cond (slice_index_or m k false)
    (slice_index_or page k 0 ∷ chosen (drop (k + 1) m) (drop (k + 1) page))
    (chosen (drop (k + 1) m) (drop (k + 1) page))
chosen_at m page k lt le =
    let next : k + 1 ≡ suc k = omega arith in
    rw (drop-cons m k false lt, drop-cons page k 0 le, next) refl

-- Places without a mark give no byte.
chosen_blank : (n : ℕ) (m : List Bool) (page : List ℕ) (k : ℕ) → k + n ≤ length m → k + n ≤ length page
    → ((j : ℕ) → k ≤ j → j < k + n → slice_index_or m j false ≡ false)
    → chosen (drop k m) (drop k page) ≡ chosen (drop (k + n) m) (drop (k + n) page)
chosen_blank zero m page k lt le blank = ap (λ (i : ℕ). chosen (drop i m) (drop i page)) (omega arith)
chosen_blank (suc n) m page k lt le blank =
    chosen_at m page k (omega arith) (omega arith)
    ∙ ap (λ (b : Bool). cond b (slice_index_or page k 0 ∷ chosen (drop (k + 1) m) (drop (k + 1) page))
    (chosen (drop (k + 1) m) (drop (k + 1) page))) (blank k (omega arith) (omega arith))
    ∙ chosen_blank n m page (k + 1) (omega arith) (omega arith) (λ j from below. blank j (omega arith) (omega arith))
    ∙ ap (λ (i : ℕ). chosen (drop i m) (drop i page)) (omega arith)

-- Marked places give each byte.
chosen_full : (n : ℕ) (m : List Bool) (page : List ℕ) (k : ℕ) → k + n ≤ length m → k + n ≤ length page
    → ((j : ℕ) → k ≤ j → j < k + n → slice_index_or m j false ≡ true)
    → chosen (drop k m) (drop k page) ≡ take n (drop k page) ++ chosen (drop (k + n) m) (drop (k + n) page)
chosen_full zero m page k lt le full = ap (λ (i : ℕ). chosen (drop i m) (drop i page)) (omega arith)
chosen_full (suc n) m page k lt le full =
    let next : k + 1 ≡ suc k = omega arith in
    chosen_at m page k (omega arith) (omega arith)
    ∙ ap (λ (b : Bool). cond b (slice_index_or page k 0 ∷ chosen (drop (k + 1) m) (drop (k + 1) page))
    (chosen (drop (k + 1) m) (drop (k + 1) page))) (full k (omega arith) (omega arith))
    ∙ ap (λ (l : List ℕ). slice_index_or page k 0 ∷ l)
    (chosen_full n m page (k + 1) (omega arith) (omega arith) (λ j from below. full j (omega arith) (omega arith)))
    ∙ ap (λ (i : ℕ). slice_index_or page k 0 ∷ (take n (drop (k + 1) page) ++ chosen (drop i m) (drop i page)))
    (omega arith)
    ∙ ap (λ (l : List ℕ). take (suc n) l ++ chosen (drop (k + suc n) m) (drop (k + suc n) page))
    (ap (λ (i : ℕ). slice_index_or page k 0 ∷ drop i page) next ∙ sym (drop-cons page k 0 (omega arith)))

-- ---- steps over the marks of a word

-- One more byte, that of the lowest mark.
pub mark_step : (m : List Bool) (page : List ℕ) (end place left t : ℕ) (out new all : List ℕ)
    → IsLeft m end place left t → end ≤ length m → end ≤ length page → place + t < end
    → new ≡ out ++ slice_index_or page (place + t) 0 ∷ [] → out ++ chosen (drop place m) (drop place page) ≡ all
    → new ++ chosen (drop (place + t + 1) m) (drop (place + t + 1) page) ≡ all
mark_step m page end place left t out new all is le room inside w h =
    let blank = chosen_blank t m page place (omega (arith, inside)) (omega (arith, inside))
    (none_before m end place left t is inside) in
    let here = chosen_at m page (place + t) (omega (arith, inside)) (omega (arith, inside))
    ∙ ap (λ (b : Bool). cond b
    (slice_index_or page (place + t) 0 ∷ chosen (drop (place + t + 1) m) (drop (place + t + 1) page))
    (chosen (drop (place + t + 1) m) (drop (place + t + 1) page))) (mark_there m end place left t is inside) in
    rw w (append_assoc out (slice_index_or page (place + t) 0 ∷ [])
    (chosen (drop (place + t + 1) m) (drop (place + t + 1) page))
    ∙ ap (λ (l : List ℕ). out ++ l) (sym (blank ∙ here)) ∙ h)

-- If no mark remains, no byte does.
pub marks_done : (m : List Bool) (page : List ℕ) (end place left : ℕ) (out all : List ℕ) → end ≤ length m
    → end ≤ length page → place ≤ end → left ≡ mask_l (marks_left m end place) → left ≡ 0
    → out ++ chosen (drop place m) (drop place page) ≡ all → out ++ chosen (drop end m) (drop end page) ≡ all
marks_done m page end place left out all le room from is none h =
    let size : place + (end - place) ≡ end = omega arith in
    ap (λ (l : List ℕ). out ++ l) (sym (chosen_blank (end - place) m page place (omega arith) (omega arith)
    (λ j from below. none_left m end place left is none j from (omega arith))
    ∙ ap (λ (n : ℕ). chosen (drop n m) (drop n page)) size)) ∙ h

-- A word in which every place is marked.
pub word_full : (m : List Bool) (page : List ℕ) (number word : ℕ) (out new all : List ℕ)
    → 64 * number + 64 ≤ length m → 64 * number + 64 ≤ length page
    → word ≡ mask_l (word_marks m number) → word ≡ 2 ^ 64 - 1 → new ≡ out ++ take 64 (drop (64 * number) page)
    → out ++ chosen (drop (64 * number) m) (drop (64 * number) page) ≡ all
    → new ++ chosen (drop (64 * (number + 1)) m) (drop (64 * (number + 1)) page) ≡ all
word_full m page number word out new all le room is full w h =
    let next : 64 * number + 64 ≡ 64 * (number + 1) = omega arith in
    rw w (append_assoc out (take 64 (drop (64 * number) page))
    (chosen (drop (64 * (number + 1)) m) (drop (64 * (number + 1)) page))
    ∙ ap (λ (l : List ℕ). out ++ l) (sym (chosen_full 64 m page (64 * number) le room
    (all_there m number word is full)
    ∙ ap (λ (n : ℕ). take 64 (drop (64 * number) page) ++ chosen (drop n m) (drop n page)) next)) ∙ h)
