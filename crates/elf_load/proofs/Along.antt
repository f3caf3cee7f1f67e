-- What a loop over the program headers collects of their segments.
use Rattle.std.proofs.Common.{◌≡◌, ℕ, ◌+◌, max, Bool, true, false, cond, ◌&&◌, ◌||◌, List, [], ◌∷◌, ◌++◌, map, filter, fold, length, refl, ap, ◌∙◌, zero-add, add-zero, append-nil, length-append}
use Rattle.std.specs.List.{range_with_len, list_any}
use Rattle.std.proofs.lemmas.List.FromFn.{filter_of_map_range_with_len_more}
use Rattle.std.proofs.lemmas.List.Folds.{list_any-append}
use Rattle.std.proofs.lemmas.List.{map-append}
use Rattle.std.proofs.lemmas.List.Elements.{filter-append}
use Rattle.std.proofs.lemmas.List.Sums.{fold-append}
use Rattle.elf_spec.specs.Header.{program_header, is_segment}
use Rattle.elf_spec.specs.Segments.{touches, last_page, highest_page}
use Rattle.elf_load.specs.Header.{segments_below}
use Rattle.elf_load.proofs.Searches.{range_split}

or_false : (b : Bool) → (b || false) ≡ b
or_false true = refl
or_false false = refl

-- the segments of one more header
pub segments_more :
    (bytes : List ℕ) (i : ℕ)
    → segments_below bytes (i + 1)
    ≡ segments_below bytes i ++ cond (is_segment (program_header bytes i)) (program_header bytes i ∷ []) []
segments_more bytes i = filter_of_map_range_with_len_more is_segment (program_header bytes) 0 i i (zero-add i)

pub list_any_more :
    (number : ℕ) (bytes : List ℕ) (i : ℕ)
    → list_any (touches number) (segments_below bytes (i + 1))
    ≡ (list_any (touches number) (segments_below bytes i) ||
    (is_segment (program_header bytes i) && touches number (program_header bytes i)))
list_any_more number bytes i =
    let header = program_header bytes i in
    let before = segments_below bytes i in
    let one : list_any (touches number) (cond (is_segment header) (header ∷ []) [])
    ≡ (is_segment header && touches number header) =
    elim (is_segment header) as (λ b. list_any (touches number) (cond b (header ∷ []) [])
    ≡ (b && touches number header)) [ true ↦ or_false (touches number header) | false ↦ refl ] in
    ap (list_any (touches number)) (segments_more bytes i) ∙ list_any-append (touches number) before _
    ∙ ap (λ b. list_any (touches number) before || b) one

pub highest_more :
    (bytes : List ℕ) (i : ℕ)
    → highest_page (segments_below bytes (i + 1))
    ≡ cond (is_segment (program_header bytes i))
    (max (highest_page (segments_below bytes i)) (last_page (program_header bytes i)))
    (highest_page (segments_below bytes i))
highest_more bytes i =
    let header = program_header bytes i in
    let before = segments_below bytes i in
    ap highest_page (segments_more bytes i) ∙
    elim (is_segment header) as (λ b. highest_page (before ++ cond b (header ∷ []) [])
    ≡ cond b (max (highest_page before) (last_page header)) (highest_page before)) [
      | true ↦ ap (fold max 0) (map-append last_page before (header ∷ []))
          ∙ fold-append max 0 (map last_page before) (last_page header ∷ [])
      | false ↦ ap highest_page (append-nil before)
    ]

-- how many numbers of a range pass a test, with one more number
pub count_more :
    (test : ℕ → Bool) (n : ℕ)
    → length (filter test (range_with_len 0 (n + 1)))
    ≡ cond (test n) (length (filter test (range_with_len 0 n)) + 1) (length (filter test (range_with_len 0 n)))
count_more test n =
    let split =
    ap (filter test) (range_split 0 n 1) ∙ filter-append test (range_with_len 0 n) (range_with_len (0 + n) 1) in
    let at : 0 + n ≡ n = zero-add n in
    let before = length (filter test (range_with_len 0 n)) in
    let last : length (filter test (range_with_len (0 + n) 1)) ≡ cond (test n) 1 0 =
    ap (λ k. length (filter test (k ∷ []))) at
    ∙ (elim (test n) as (λ b. length (cond b (n ∷ []) []) ≡ cond b 1 0) [ true ↦ refl | false ↦ refl ]) in
    ap length split ∙ length-append (filter test (range_with_len 0 n)) _ ∙ ap (λ k. before + k) last
    ∙ elim (test n) as (λ b. before + cond b 1 0 ≡ cond b (before + 1) before) [ true ↦ refl | false ↦ add-zero before ]
