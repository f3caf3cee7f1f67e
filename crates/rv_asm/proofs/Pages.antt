-- The pages that one segment touches.
use Rattle.std.proofs.Common.{map, fold, bit_or, ◌≡◌, ℕ, zero, suc, ◌+◌, ◌-◌, ◌/◌, ◌%◌, ◌<◌, ◌≤◌, Bool, true, false, cond, ◌||◌, [], ◌∷◌, ◌++◌, filter, nat_le, refl, ap, sym, ◌∙◌, arith, add-zero}
use Rattle.std.specs.List.{range_with_len}
use Rattle.std.proofs.lemmas.List.Elements.{filter-append}
use Rattle.std.proofs.lemmas.Bool.{le-leb, lt-leb, and_from, and_left}
use Rattle.memory_spec.specs.Pages.{Mapped}
use Rattle.elf_spec.specs.Segments.{touches, page_numbers, highest_page, page_permission, segment_permission}
use Rattle.rv_asm.specs.Guest.{pages_taken, guest_pages}
use Rattle.rv_asm.proofs.Headers.{guest_segment}

-- a page with its rights
abbrev pub mapped : ℕ → ℕ → Mapped
mapped number permission = record { number = number; permission = permission }

-- a range in two parts
range_split : (a m k : ℕ) → range_with_len a (m + k) ≡ range_with_len a m ++ range_with_len (a + m) k
range_split a zero k =
    let e : a ≡ a + 0 = sym (add-zero a) in
    let z : 0 + k ≡ k = omega arith in ap (λ n. range_with_len a n) z ∙ ap (λ b. range_with_len b k) e
range_split a (suc m) k =
    let s : suc m + k ≡ suc (m + k) = omega arith in
    let t : a + 1 + m ≡ a + suc m = omega arith in
    ap (λ n. range_with_len a n) s
    ∙ ap (λ rest. a ∷ rest) (range_split (a + 1) m k ∙ ap (λ b. range_with_len (a + 1) m ++ range_with_len b k) t)

-- a range in which none passes
pub filter-range_none :
    (test : ℕ → Bool) (a n : ℕ) → ((k : ℕ) → a ≤ k → k < a + n → test k ≡ false)
    → filter test (range_with_len a n) ≡ []
filter-range_none test a zero each = refl
filter-range_none test a (suc n) each =
    ap (λ b. cond b (a ∷ filter test (range_with_len (a + 1) n)) (filter test (range_with_len (a + 1) n)))
    (each a (omega arith) (omega arith))
    ∙ filter-range_none test (a + 1) n (λ k low high. each k (omega arith) (omega arith))

-- a range in which each passes
pub filter-range_all :
    (test : ℕ → Bool) (a n : ℕ) → ((k : ℕ) → a ≤ k → k < a + n → test k ≡ true)
    → filter test (range_with_len a n) ≡ range_with_len a n
filter-range_all test a zero each = refl
filter-range_all test a (suc n) each =
    ap (λ b. cond b (a ∷ filter test (range_with_len (a + 1) n)) (filter test (range_with_len (a + 1) n)))
    (each a (omega arith) (omega arith))
    ∙ ap (λ rest. a ∷ rest) (filter-range_all test (a + 1) n (λ k low high. each k (omega arith) (omega arith)))

-- a range of which those from one number on pass
pub filter-range_from :
    (test : ℕ → Bool) (m n : ℕ) → ((k : ℕ) → k < m → test k ≡ false) → ((k : ℕ) → m ≤ k → k < m + n → test k ≡ true)
    → filter test (range_with_len 0 (m + n)) ≡ range_with_len m n
filter-range_from test m n below above =
    let at : 0 + m ≡ m = omega arith in
    ap (filter test) (range_split 0 m n) ∙ filter-append test (range_with_len 0 m) (range_with_len (0 + m) n)
    ∙ ap (λ front. front ++ filter test (range_with_len (0 + m) n))
    (filter-range_none test 0 m (λ k low high. below k (omega arith)))
    ∙ ap (λ b. filter test (range_with_len b n)) at
    ∙ filter-range_all test m n above

-- a page that the segment touches, and one below it
touched :
    (base filesz memsz number : ℕ) → base % 4096 ≡ 0 → 0 < memsz → base / 4096 ≤ number
    → number < base / 4096 + pages_taken memsz
    → touches number (guest_segment base filesz memsz) ≡ true
touched base filesz memsz number aligned some low high =
    and_from _ _ (le-leb (base / 4096) number low) (le-leb number ((base + memsz - 1) / 4096) (omega arith))

untouched :
    (base filesz memsz number : ℕ) → number < base / 4096
    → touches number (guest_segment base filesz memsz) ≡ false
untouched base filesz memsz number below =
    and_left _ (nat_le number ((base + memsz - 1) / 4096)) (lt-leb (base / 4096) number below)

-- the pages that the segment touches
pub page_numbers-one :
    (base filesz memsz : ℕ) → base % 4096 ≡ 0 → 0 < memsz
    → page_numbers (guest_segment base filesz memsz ∷ []) ≡ range_with_len (base / 4096) (pages_taken memsz)
page_numbers-one base filesz memsz aligned some =
    let segment = guest_segment base filesz memsz in
    let size : highest_page (segment ∷ []) + 1 ≡ base / 4096 + pages_taken memsz = omega arith in
    let test : ℕ → Bool = λ number. touches number segment || false in
    ap (λ n. filter test (range_with_len 0 n)) size
    ∙ filter-range_from test (base / 4096) (pages_taken memsz)
    (λ k below. ap (λ b. b || false) (untouched base filesz memsz k below))
    (λ k low high. ap (λ b. b || false) (touched base filesz memsz k aligned some low high))

-- such a page has all rights
pub permission-one :
    (base filesz memsz number : ℕ) → base % 4096 ≡ 0 → 0 < memsz → base / 4096 ≤ number
    → number < base / 4096 + pages_taken memsz
    → page_permission (guest_segment base filesz memsz ∷ []) number ≡ 7
permission-one base filesz memsz number aligned some low high =
    ap (λ b. fold bit_or 0 (map segment_permission (cond b (guest_segment base filesz memsz ∷ []) [])))
    (touched base filesz memsz number aligned some low high)

-- functions that agree on a range
map-range_agree :
    {X : Type 0} (f g : ℕ → X) (a n : ℕ) → ((k : ℕ) → a ≤ k → k < a + n → f k ≡ g k)
    → map f (range_with_len a n) ≡ map g (range_with_len a n)
map-range_agree f g a zero each = refl
map-range_agree f g a (suc n) each =
    ap (λ x. x ∷ map f (range_with_len (a + 1) n)) (each a (omega arith) (omega arith))
    ∙ ap (λ rest. g a ∷ rest) (map-range_agree f g (a + 1) n (λ k low high. each k (omega arith) (omega arith)))

-- the pages of the segment with their rights
pub pages-one :
    (base filesz memsz : ℕ) → base % 4096 ≡ 0 → 0 < memsz
    → map (λ number. mapped number (page_permission (guest_segment base filesz memsz ∷ []) number))
    (page_numbers (guest_segment base filesz memsz ∷ [])) ≡ guest_pages base memsz
pages-one base filesz memsz aligned some =
    let f : ℕ → Mapped = λ number. mapped number (page_permission (guest_segment base filesz memsz ∷ []) number) in
    ap (map f) (page_numbers-one base filesz memsz aligned some)
    ∙ map-range_agree f (λ number. mapped number 7) (base / 4096) (pages_taken memsz)
    (λ k low high. ap (mapped k) (permission-one base filesz memsz k aligned some low high))
