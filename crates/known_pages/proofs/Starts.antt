-- The pages of two inputs, and where the start memories of their setups differ.
use Rattle.std.proofs.Common.{◌≡◌, ◌<◌, ◌≤◌, ◌+◌, ◌-◌, ◌*◌, ◌++◌, ℕ, zero, suc, Bool, false, List, [], ◌∷◌, length, get_or, drop, replicate, min, inl, inr, refl, ap, sym, subst, ◌∙◌, append_assoc, arith}
use Rattle.std.proofs.lemmas.Bool.{cases_lt}
use Rattle.std.proofs.lemmas.List.{get_or_append_left, get_or-append_right, length-append}
use Rattle.std.proofs.lemmas.List.FromFn.{length-map-range_with_len, get_or-map-range_with_len}
use Rattle.std.proofs.lemmas.Simd.{length-chunk}
use Rattle.memory_spec.specs.Pages.{Memory, page_of}
use Rattle.elf_spec.specs.Image.{image_memory}
use Rattle.machine_spec.specs.declared.TheConstants.{INPUT_PAGES}
use Rattle.machine_spec.specs.Setup.{Setup, first, start_memory, header_page, input_page, input_memory, stack_memory}
use Rattle.history_spec.specs.History.{IsSameProgram}
use Rattle.run_history.proofs.Zeros.{page_of_part}
use Rattle.known_pages.specs.Alike.{is_marked, AreMarksOn}
use Rattle.known_pages.specs.Starts.{part_of}
use Rattle.known_pages.proofs.Alike.{same-size}

-- where a page of an input starts, and how many of its bytes are on it
abbrev part_start : List ℕ → ℕ → ℕ
part_start input k = min (length input) (4096 * k)

abbrev part_length : List ℕ → ℕ → ℕ
part_length input k = min (length input) (4096 * k + 4096) - part_start input k

part-length : (input : List ℕ) (k : ℕ) → length (part_of input k) ≡ part_length input k
part-length input k = length-chunk (part_start input k) (part_length input k) input (omega arith)

-- a page is its bytes, and zeros after them
page-of : (input : List ℕ) (k : ℕ) → part_of input k ++ drop (length (part_of input k)) (replicate 4096 0) ≡ input_page input k
page-of input k =
    ap (λ n. part_of input k ++ drop n (replicate 4096 0)) (part-length input k)
    ∙ page_of_part input (replicate 4096 0) (part_of input k) k (part_start input k)
    (min (length input) (4096 * k + 4096)) (part_length input k) refl refl refl refl refl

pub same-page : (a b : List ℕ) (k : ℕ) → part_of a k ≡ part_of b k → input_page b k ≡ input_page a k
same-page a b k same =
    sym (page-of b k) ∙ ap (λ (part : List ℕ). part ++ drop (length part) (replicate 4096 0)) (sym same) ∙ page-of a k

-- two memories that differ only on the header and on pages of the input
module _
    (image xs ys stack : Memory) (h g : List ℕ) (marks : List Bool)
    (many_xs : length xs ≡ INPUT_PAGES) (many_ys : length ys ≡ INPUT_PAGES)
    (header : is_marked marks (length image) ≡ false → h ≡ g)
    (pages :
    (k : ℕ) → k < INPUT_PAGES → is_marked marks (length image + 1 + k) ≡ false → get_or xs k [] ≡ get_or ys k []) where
  behind : (j p : ℕ) → p ≡ length image + 1 + j → is_marked marks p ≡ false → get_or (xs ++ stack) j [] ≡ get_or (ys ++ stack) j []
  behind j p is clean =
      elim (cases_lt j INPUT_PAGES) [
        | inl below ↦
            get_or_append_left xs stack [] j (omega (arith, many_xs))
            ∙ pages j below (subst (λ n. is_marked marks n ≡ false) is clean)
            ∙ sym (get_or_append_left ys stack [] j (omega (arith, many_ys)))
        | inr past ↦
            get_or-append_right xs stack INPUT_PAGES j [] many_xs past
            ∙ sym (get_or-append_right ys stack INPUT_PAGES j [] many_ys past)
      ]

  rest :
      (m p : ℕ) → p ≡ length image + m → is_marked marks p ≡ false
      → get_or (h ∷ (xs ++ stack)) m [] ≡ get_or (g ∷ (ys ++ stack)) m []
  rest zero p is clean = header (subst (λ n. is_marked marks n ≡ false) (let end : p ≡ length image = omega arith in end) clean)
  rest (suc j) p is clean = behind j p (omega arith) clean

  same-at :
      (p : ℕ) → is_marked marks p ≡ false
      → get_or (image ++ h ∷ (xs ++ stack)) p [] ≡ get_or (image ++ g ∷ (ys ++ stack)) p []
  same-at p clean =
      elim (cases_lt p (length image)) [
        | inl below ↦
            get_or_append_left image (h ∷ (xs ++ stack)) [] p below
            ∙ sym (get_or_append_left image (g ∷ (ys ++ stack)) [] p below)
        | inr past ↦
            get_or-append_right image (h ∷ (xs ++ stack)) (length image) p [] refl past
            ∙ rest (p - length image) p (omega arith) clean
            ∙ sym (get_or-append_right image (g ∷ (ys ++ stack)) (length image) p [] refl past)
      ]

many-pages : (input : List ℕ) → length (input_memory input) ≡ INPUT_PAGES
unfolding input_memory
many-pages input = length-map-range_with_len (input_page input) 0 INPUT_PAGES

page-at : (input : List ℕ) (k : ℕ) → k < INPUT_PAGES → get_or (input_memory input) k [] ≡ input_page input k
unfolding input_memory
page-at input k below = get_or-map-range_with_len (input_page input) 0 INPUT_PAGES k k [] below (omega arith)

start-is :
    (s : Setup) → start_memory s ≡ image_memory s.elf ++ header_page s.input ∷ (input_memory s.input ++ stack_memory)
unfolding start_memory
start-is s = simp append_assoc

pub start-size : (s : Setup) → length (image_memory s.elf) + 1 + INPUT_PAGES ≤ length (start_memory s)
start-size s =
    omega (
      arith,
      ap (λ (m : Memory). length m) (start-is s),
      length-append (image_memory s.elf) (header_page s.input ∷ (input_memory s.input ++ stack_memory)),
      length-append (input_memory s.input) stack_memory,
      many-pages s.input,
    )

same-header : (a b : List ℕ) → length a ≡ length b → header_page b ≡ header_page a
unfolding header_page
same-header a b same = rw same refl

-- marks on the header and on the pages of the input that differ are marks on the start memories
pub marks-parts :
    (a b : Setup) (marks : List Bool) (n : ℕ)
    → IsSameProgram a b → length marks ≡ length (start_memory b) → n ≡ length (image_memory b.elf)
    → (is_marked marks n ≡ false → length a.input ≡ length b.input)
    → ((k : ℕ) → k < INPUT_PAGES → is_marked marks (n + 1 + k) ≡ false → input_page b.input k ≡ input_page a.input k)
    → AreMarksOn (first a).memory (first b).memory marks
unfolding first
marks-parts a b marks n same long image header pages =
    record {
      count = long ∙ same-size a b same;
      same = λ p clean.
          ap (λ (m : Memory). page_of m p) (start-is b)
          ∙ same-at (image_memory b.elf) (input_memory b.input) (input_memory a.input) stack_memory (header_page b.input)
          (header_page a.input) marks (many-pages b.input) (many-pages a.input)
          (λ free. same-header a.input b.input (header (subst (λ k. is_marked marks k ≡ false) (sym image) free)))
          (λ k below free.
          page-at b.input k below
          ∙ pages k below (subst (λ i. is_marked marks (i + 1 + k) ≡ false) (sym image) free)
          ∙ sym (page-at a.input k below))
          p clean
          ∙ ap (λ (elf : List ℕ). page_of (image_memory elf ++ header_page a.input ∷ (input_memory a.input ++ stack_memory)) p)
          (sym same)
          ∙ ap (λ (m : Memory). page_of m p) (sym (start-is a));
    }
