-- Answers to the goals that the check of `pages_of` leaves open.
use Rattle.std.proofs.Common.{◌≡◌, ◌+◌, ◌<◌, length, ℕ, Bool, true, false, cond, List, [], ◌∷◌, ◌++◌, map, filter, refl, sym, ap, ◌∙◌, arith, zero-add, append-nil}
use Rattle.std.specs.List.{range_with_len, list_any}
use Rattle.std.proofs.lemmas.List.{map-append, get_or_default}
use Rattle.std.proofs.lemmas.List.Elements.{filter-append}
use Rattle.std.specs.Arc.{arc_value}
use Rattle.memory_spec.specs.Pages.{Mapped}
use Rattle.elf_spec.specs.Header.{segments}
use Rattle.elf_spec.specs.Segments.{touches, highest_page}
use Rattle.elf_spec.specs.Image.{image_pages, image_memory, image_page}
use Rattle.elf_load.specs.Touched.{touched_below, mapped_at}
use Rattle.elf_load.proofs.Searches.{range_split}
use Rattle.elf_load.proofs.loader.pages_of.Goals as goal

-- the touched pages with one more number
touched_more :
    (bytes : List ℕ) (n : ℕ)
    → touched_below bytes (n + 1) ≡ touched_below bytes n ++ cond (list_any (touches n) (segments bytes)) (n ∷ []) []
touched_more bytes n =
    let test : ℕ → Bool = λ number. list_any (touches number) (segments bytes) in
    ap (filter test) (range_split 0 n 1) ∙ filter-append test (range_with_len 0 n) (range_with_len (0 + n) 1) ∙
    ap (λ k. touched_below bytes n ++ filter test (k ∷ [])) (zero-add n)

-- the images of a list of numbers, with one more if a test holds
map-pushed :
    {X : Type 0} (f : ℕ → X) (b : Bool) (ns : List ℕ) (n : ℕ) (before : List X) → before ≡ map f ns
    → cond b (before ++ f n ∷ []) before ≡ map f (ns ++ cond b (n ∷ []) [])
map-pushed f true ns n before is = ap (λ list. list ++ f n ∷ []) is ∙ sym (map-append f ns (n ∷ []))
map-pushed f false ns n before is = is ∙ ap (map f) (sym (append-nil ns))

-- the pages' bytes are those at the pages' numbers
bytes_of_pages :
    (bytes : List ℕ) (ns : List ℕ)
    → map (image_page bytes) ns ≡ map (λ (page : Mapped). image_page bytes page.number) (map (mapped_at bytes) ns)
bytes_of_pages bytes [] = refl
bytes_of_pages bytes (n ∷ ns) = ap (λ rest. image_page bytes n ∷ rest) (bytes_of_pages bytes ns)

pub loop-number-preserved : goal.loop-number-preserved
loop-number-preserved c =
    let bytes = c.args.bytes.now in
    let n = c.loop-number.number in
    let test = list_any (touches n) (segments bytes) in
    let inside : n < length c.in_ok-marks.marks.items =
    omega (arith, c.in_ok-marks.ensures.count, c.highest_page-number-end.ensures.page, c.loop-number-test.true) in
    let marked : c.index-touched.result.now ≡ test =
    c.index-touched.ensures ∙ get_or_default c.in_ok-marks.marks.items n c.index-touched.result.now false inside
    ∙ c.in_ok-marks.ensures.each n inside in
    let more = sym (touched_more bytes n) in (
      c.loop-number.invariant.0,
      c.in_ok-add_page.ensures.mapped
          ∙ ap (λ b. cond b (c.loop-number.pages.mapped.items ++ mapped_at bytes n ∷ [])
          c.loop-number.pages.mapped.items)
          marked ∙ map-pushed (mapped_at bytes) test (touched_below bytes n) n c.loop-number.pages.mapped.items
          c.loop-number.invariant.1 ∙ ap (map (mapped_at bytes)) more,
      c.in_ok-add_page.ensures.table
          ∙ ap (λ b. cond b (c.loop-number.pages.table ++ image_page bytes n ∷ []) c.loop-number.pages.table) marked
          ∙ map-pushed (image_page bytes) test (touched_below bytes n) n c.loop-number.pages.table
          c.loop-number.invariant.2 ∙ ap (map (image_page bytes)) more,
      ap arc_value c.in_ok-add_page.ensures.zero ∙ c.loop-number.invariant.3,
    )

pub returns-clause-mapped : goal.returns-clause-mapped
unfolding image_pages
returns-clause-mapped c =
    let bytes = c.args.bytes.now in
    let all : c.loop-number.number ≡ highest_page (segments bytes) + 1 = omega arith in
    c.loop-number.invariant.1 ∙ ap (λ n. map (mapped_at bytes) (touched_below bytes n)) all

pub returns-clause-table : goal.returns-clause-table
unfolding image_pages image_memory
returns-clause-table c =
    let bytes = c.args.bytes.now in
    let all : c.loop-number.number ≡ highest_page (segments bytes) + 1 = omega arith in
    c.loop-number.invariant.2 ∙ ap (λ n. map (image_page bytes) (touched_below bytes n)) all
    ∙ bytes_of_pages bytes (touched_below bytes (highest_page (segments bytes) + 1))
