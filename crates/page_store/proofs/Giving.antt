-- A page that becomes another one if some of its bytes are written, word by word of a mask.
use Rattle.std.proofs.Common.{◌≡◌, ℕ, ◌+◌, ◌-◌, ◌%◌, ◌^◌, ◌<◌, ◌≤◌, ◌==◌, Bool, true, false, not, cond, List, length, map, get_or, Decides, inl, inr, refl, ap, sym, ◌∙◌, arith, nat_eq, bit_and, w8, w64}
use Rattle.std.proofs.lemmas.Bool.{cases_lt, eqb-true, eqb-false, eq-eqb}
use Rattle.std.specs.Int.{bit_at, bit_not}
use Rattle.std.specs.Str.{bytes_eq}
use Rattle.std.specs.Simd.Lanes.{mask_l, chunk, zip2, top}
use Rattle.std.proofs.lemmas.List.{ext_get_or}
use Rattle.std.proofs.lemmas.Nat.Bits.{bit_at-zero, bit_at_ones, bit_at_and, bit_at_not, bit_at-lt, bit_at_above, same_from_bits}
use Rattle.std.proofs.lemmas.Simd.{length-chunk, get_or-chunk, length-zip2, get_or-zip2, tops_compared, mask_l-mod, bit_mask_l}
use Rattle.std.proofs.lemmas.Slice.Eq.{bytes_eq-Decides}
use Rattle.thunk_spec.specs.Delta.{chosen, spread}
use Rattle.thunk_spec.proofs.Merging.{merged, spread-chosen}
use Rattle.page_store.proofs.Picking.{length-merged, merged-at, marked_at}

-- a page has the written bytes at 64 places, once they were written at those whose bit is set in a word
abbrev pub GivesWord : List ℕ → List ℕ → ℕ → ℕ → Type 0
GivesWord page written first word =
    (k : ℕ) → k < 64
    → cond (bit_at word k == 1) (get_or written (first + k) 0) (get_or page (first + k) 0) ≡ get_or written (first + k) 0

-- all are written
pub given_all : (page written : List ℕ) (first word : ℕ) → word ≡ 18446744073709551615 → GivesWord page written first word
given_all page written first word full k lt =
    ap (λ b. cond b (get_or written (first + k) 0) (get_or page (first + k) 0))
    (ap (λ n. bit_at n k == 1) full ∙ ap (λ n. n == 1) (bit_at_ones 64 k lt))

-- two pages have the same bytes from a place on up to another
abbrev pub SameBetween : List ℕ → List ℕ → ℕ → ℕ → Type 0
SameBetween page written from to = (k : ℕ) → from ≤ k → k < to → get_or page k 0 ≡ get_or written k 0

-- these bytes, compared as lists
pub compared :
    (page written : List ℕ) (from to : ℕ) (answer : Bool)
    → from ≤ to → to ≤ length page → to ≤ length written
    → answer ≡ bytes_eq (chunk from (to - from) page) (chunk from (to - from) written)
    → Decides answer (SameBetween page written from to)
compared page written from to answer ordered fits within is =
    let n = to - from in
    let xs = chunk from n page in
    let ys = chunk from n written in
    let decides = bytes_eq-Decides xs ys in
    let long : length xs ≡ n = length-chunk from n page (omega (arith, ordered, fits)) in
    let same : length ys ≡ n = length-chunk from n written (omega (arith, ordered, within)) in (
      λ yes k after before.
          let place : from + (k - from) ≡ k = omega (arith, after) in
          let inside : k - from < n = omega (arith, after, before) in
          ap (λ p. get_or page p 0) (sym place)
          ∙ sym (get_or-chunk from n page (k - from) 0 inside)
          ∙ ap (λ l. get_or l (k - from) 0) (decides.0 (sym is ∙ yes))
          ∙ get_or-chunk from n written (k - from) 0 inside
          ∙ ap (λ p. get_or written p 0) place,
      λ equal.
          is
          ∙ decides.1 (ext_get_or 0 xs ys (long ∙ sym same)
          (λ k lt.
          let inside : k < n = omega (arith, long, lt) in
          get_or-chunk from n page k 0 inside
          ∙ equal (from + k) (omega arith) (omega (arith, inside))
          ∙ sym (get_or-chunk from n written k 0 inside))),
    )

-- whether two lists of bytes differ at a place
abbrev differ : ℕ → ℕ → Bool
differ a b = not (nat_eq a b)

as_bit : (b : Bool) → ◌≡◌ {A = ℕ} (cond (not b) 1 0) (cond b 0 1)
as_bit true = refl
as_bit false = refl

-- the places at which they differ, as the bits of a word
pub differs_at :
    (xs ys : List ℕ) (k : ℕ) → length xs ≡ 64 → length ys ≡ 64 → k < 64
    → bit_at (mask_l (map (top 7) (zip2 (λ a b. cond (differ a b) 255 0) xs ys)) % 2 ^ 64) k
    ≡ cond (nat_eq (get_or xs k 0) (get_or ys k 0)) 0 1
differs_at xs ys k many same lt =
    let long = length-zip2 differ xs ys (many ∙ sym same) in
    ap (λ ms. bit_at (mask_l ms % 2 ^ 64) k) (tops_compared w8 differ xs ys)
    ∙ ap (λ n. bit_at n k) (mask_l-mod (zip2 differ xs ys) 64 (omega (arith, long, many)))
    ∙ bit_mask_l (zip2 differ xs ys) k
    ∙ ap (λ b. cond b 1 0) (get_or-zip2 differ xs ys k 0 0 false (omega (arith, many, lt)) (omega (arith, same, lt)))
    ∙ as_bit (nat_eq (get_or xs k 0) (get_or ys k 0))

-- The places at which two pages differ, from a place on, as a word.
abbrev pub Differing : List ℕ → List ℕ → ℕ → ℕ → Type 0
Differing page written first differs =
    (k : ℕ) → k < 64
    → bit_at differs k ≡ cond (get_or page (first + k) 0 == get_or written (first + k) 0) 0 1

-- a place that isn't marked has the written byte, if no such place differs
same_unmarked :
    (page written : List ℕ) (first word differs k : ℕ) → Differing page written first differs → k < 64 → word < 2 ^ 64
    → bit_and differs (bit_not w64 word) ≡ 0 → (marked : Bool) → (bit_at word k == 1) ≡ marked
    → (same : Bool) → (get_or page (first + k) 0 == get_or written (first + k) 0) ≡ same
    → cond marked (get_or written (first + k) 0) (get_or page (first + k) 0) ≡ get_or written (first + k) 0
same_unmarked page written first word differs k each lt small none true is same equal = refl
same_unmarked page written first word differs k each lt small none false is true equal = eqb-true _ _ equal
same_unmarked page written first word differs k each lt small none false is false equal =
    let bit : bit_at differs k ≡ 1 = each k lt ∙ ap (λ b. cond b 0 1) equal in
    let free : bit_at (bit_not w64 word) k ≡ 1 - bit_at word k = bit_at_not w64 word k small lt in
    let both = bit_at_and differs (bit_not w64 word) k in
    let zero_here = ap (λ n. bit_at n k) none ∙ bit_at-zero k in
    absurd (omega (arith, bit, free, both, zero_here, eqb-false _ _ is, bit_at-lt word k))

-- no unmarked place differs, if all places have the written byte then
none_differs :
    (page written : List ℕ) (first word differs k : ℕ) → Differing page written first differs → k < 64 → word < 2 ^ 64
    → GivesWord page written first word → (marked : Bool) → (bit_at word k == 1) ≡ marked
    → bit_at (bit_and differs (bit_not w64 word)) k ≡ 0
none_differs page written first word differs k each lt small gives true is =
    let free : bit_at (bit_not w64 word) k ≡ 1 - bit_at word k = bit_at_not w64 word k small lt in
    omega (arith, bit_at_and differs (bit_not w64 word) k, free, eqb-true _ _ is)
none_differs page written first word differs k each lt small gives false is =
    let equal : get_or page (first + k) 0 ≡ get_or written (first + k) 0 =
    ap (λ b. cond b (get_or written (first + k) 0) (get_or page (first + k) 0)) (sym is) ∙ gives k lt in
    let bit = each k lt ∙ ap (λ b. cond b 0 1) (eq-eqb _ _ equal) in
    omega (arith, bit_at_and differs (bit_not w64 word) k, bit)

none_beyond : (differs other k : ℕ) → differs < 2 ^ 64 → 64 ≤ k → bit_at (bit_and differs other) k ≡ 0
none_beyond differs other k fits past = omega (arith, bit_at_and differs other k, bit_at_above differs 64 k fits past)

-- the bytes after the writing, by the places at which they differ from the written ones
pub given_marked :
    (page written : List ℕ) (first word differs : ℕ) (answer : Bool)
    → Differing page written first differs → word < 2 ^ 64 → differs < 2 ^ 64
    → answer ≡ (bit_and differs (bit_not w64 word) == 0) → Decides answer (GivesWord page written first word)
given_marked page written first word differs answer each small fits is = (
  λ yes k lt.
      same_unmarked page written first word differs k each lt small (eqb-true _ _ (sym is ∙ yes)) (bit_at word k == 1) refl
      (get_or page (first + k) 0 == get_or written (first + k) 0) refl,
  λ gives.
      is
      ∙ eq-eqb _ _ (same_from_bits (bit_and differs (bit_not w64 word)) 0 (λ k.
      elim (cases_lt k 64) [
        | inl lt ↦
            none_differs page written first word differs k each lt small gives (bit_at word k == 1) refl
            ∙ sym (bit_at-zero k)
        | inr past ↦ none_beyond differs (bit_not w64 word) k fits past ∙ sym (bit_at-zero k)
      ])),
)

-- the same at the first n places of a page
abbrev pub Gives : List Bool → List ℕ → List ℕ → ℕ → Type 0
Gives m page written n =
    (k : ℕ) → k < n → cond (get_or m k false) (get_or written k 0) (get_or page k 0) ≡ get_or written k 0

-- a word's places are among them
pub given_word :
    (m : List Bool) (page written : List ℕ) (i word n : ℕ)
    → word ≡ mask_l (chunk i 64 m) → i + 64 ≤ n → Gives m page written n → GivesWord page written i word
given_word m page written i word n is within gives k lt =
    ap (λ b. cond b (get_or written (i + k) 0) (get_or page (i + k) 0)) (marked_at m i word k is lt)
    ∙ gives (i + k) (omega arith)

-- the places of one more word
pub given_more :
    (m : List Bool) (page written : List ℕ) (i word n : ℕ)
    → word ≡ mask_l (chunk i 64 m) → n ≡ i + 64 → Gives m page written i → GivesWord page written i word
    → Gives m page written n
given_more m page written i word n is next before here k lt =
    elim (cases_lt k i) [
      | inl below ↦ before k below
      | inr from ↦
          let place : i + (k - i) ≡ k = omega arith in
          ap (λ p. cond (get_or m p false) (get_or written p 0) (get_or page p 0)) (sym place)
          ∙ ap (λ b. cond b (get_or written (i + (k - i)) 0) (get_or page (i + (k - i)) 0))
          (sym (marked_at m i word (k - i) is (omega arith)))
          ∙ here (k - i) (omega arith)
          ∙ ap (λ p. get_or written p 0) place
    ]

-- The places up to one are known to have the written bytes then, and those from there up to another aren't marked.
pub record IsGiven (m : List Bool) (page written : List ℕ) (from to : ℕ) : Type 0 where
  pub ordered : from ≤ to
  pub so_far : Gives m page written from
  pub unmarked : (k : ℕ) → from ≤ k → k < to → get_or m k false ≡ false

pub given_first : (m : List Bool) (page written : List ℕ) → IsGiven m page written 0 0
given_first m page written = record {
  ordered = omega arith;
  so_far = λ k lt. absurd (omega (arith, lt));
  unmarked = λ k after lt. absurd (omega (arith, lt));
}

-- those that aren't marked have the written bytes exactly if the pages have the same
pub given_run :
    (m : List Bool) (page written : List ℕ) (from to : ℕ)
    → IsGiven m page written from to → SameBetween page written from to → Gives m page written to
given_run m page written from to given same k lt =
    elim (cases_lt k from) [
      | inl below ↦ given.so_far k below
      | inr after ↦
          ap (λ b. cond b (get_or written k 0) (get_or page k 0)) (given.unmarked k after lt) ∙ same k after lt
    ]

pub run_given :
    (m : List Bool) (page written : List ℕ) (from to n : ℕ)
    → IsGiven m page written from to → to ≤ n → Gives m page written n → SameBetween page written from to
run_given m page written from to n given within gives k after lt =
    ap (λ b. cond b (get_or written k 0) (get_or page k 0)) (sym (given.unmarked k after lt))
    ∙ gives k (omega (arith, within, lt))

-- the places of one more word without a mark
pub given_past :
    (m : List Bool) (page written : List ℕ) (from i word : ℕ)
    → word ≡ mask_l (chunk i 64 m) → word ≡ 0 → IsGiven m page written from i → IsGiven m page written from (i + 64)
given_past m page written from i word is none given = record {
  ordered = omega (arith, given.ordered);
  so_far = given.so_far;
  unmarked = λ k after lt.
      elim (cases_lt k i) [
        | inl below ↦ given.unmarked k after below
        | inr past ↦
            let place : i + (k - i) ≡ k = omega arith in
            ap (λ p. get_or m p false) (sym place)
            ∙ sym (marked_at m i word (k - i) is (omega arith))
            ∙ ap (λ w. nat_eq (bit_at w (k - i)) 1) none
            ∙ ap (λ b. nat_eq b 1) (bit_at-zero (k - i))
      ];
}

-- the places of one more word, which have the written bytes
pub given_beyond :
    (m : List Bool) (page written : List ℕ) (from i word : ℕ)
    → word ≡ mask_l (chunk i 64 m) → IsGiven m page written from i → SameBetween page written from i
    → GivesWord page written i word → IsGiven m page written (i + 64) (i + 64)
given_beyond m page written from i word is given same here = record {
  ordered = omega arith;
  so_far = given_more m page written i word (i + 64) is refl (given_run m page written from i given same) here;
  unmarked = λ k after lt. absurd (omega (arith, after, lt));
}

-- all places
pub given_page :
    (m : List Bool) (page written : List ℕ) (n : ℕ)
    → length written ≡ length page → length m ≡ length page → length page ≤ n → Gives m page written n
    → spread m (chosen m written) page ≡ written
given_page m page written n same long all gives =
    spread-chosen m written page same long
    ∙ ext_get_or 0 (merged page written m) written (length-merged page written m ∙ sym same)
    (λ k lt.
    merged-at page written m k same ∙ gives k (omega (arith, length-merged page written m, lt)))

pub page_given :
    (m : List Bool) (page written : List ℕ) (n : ℕ)
    → length written ≡ length page → length m ≡ length page → spread m (chosen m written) page ≡ written
    → Gives m page written n
page_given m page written n same long is k lt =
    sym (merged-at page written m k same)
    ∙ ap (λ l. get_or l k 0) (sym (spread-chosen m written page same long) ∙ is)
