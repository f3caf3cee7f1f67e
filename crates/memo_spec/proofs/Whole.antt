-- The page map of a setup, and the size of a pool.
use Rattle.std.proofs.Common.{◌≡◌, ℕ, zero, suc, ◌+◌, ◌*◌, ◌^◌, ◌<◌, ◌≤◌, Bool, true, false, List, [], ◌∷◌, ◌++◌, length, map, refl, arith}
use Rattle.std.specs.List.{AllByRecursion, fold, range_with_len}
use Rattle.std.proofs.lemmas.List.{length-append, length-map}
use Rattle.std.proofs.lemmas.List.FromFn.{length-map-range_with_len}
use Rattle.std.proofs.lemmas.List.Elements.{recursion_from_All}
use Rattle.memory_spec.specs.Pages.{Mapped}
use Rattle.elf_spec.specs.Image.{image_pages, is_image}
use Rattle.elf_spec.proofs.Rows as image_rows
use Rattle.elf_spec.proofs.Touched.{pages_inside}
use Rattle.thunk_spec.specs.Record.{Record}
use Rattle.thunk_spec.specs.Reads.{ReadPage}
use Rattle.machine_spec.specs.Setup.{Setup, IsSetup, map_of, data_pages}
use Rattle.machine_spec.proofs.Beginning.{ascends-map_of}
use Rattle.memo_spec.specs.Encoding.{has_page, with_page, pages_read, IsReadPage, IsRecord}
use Rattle.memo_spec.proofs.Maps.{IsPageMap}
use Rattle.memo_spec.proofs.Order.{Pages, IsPage}
use Rattle.memo_spec.proofs.Chains.{bytes_of, few_reads}

abbrev IsWord : Mapped → Type 0
IsWord m = m.number < 2 ^ 32

all_append : {A : Type 0} (P : A → Type 0) (xs ys : List A) → AllByRecursion P xs → AllByRecursion P ys
    → AllByRecursion P (xs ++ ys)
all_append P [] ys p q = q
all_append P (x ∷ xs) ys p q = (p.0, all_append P xs ys p.1 q)

range_words : (n number : ℕ) → number + n < 2 ^ 32
    → AllByRecursion IsWord (map (λ k. record { number = k; permission = 6 }) (range_with_len number n))
range_words zero number lt = tt
range_words (suc n) number lt = (omega arith, range_words n (number + 1) (omega arith))

data_words : (number count : ℕ) → number + count < 2 ^ 32 → AllByRecursion IsWord (data_pages number count)
unfolding data_pages
data_words number count lt = range_words count number lt

image_words : (pages : List Mapped) → AllByRecursion (λ (p : Mapped). (1 ≤ p.number) × (p.number < 0xC0000)) pages
    → AllByRecursion IsWord pages
image_words [] h = tt
image_words (p ∷ pages) h = (omega (arith, h.0.1), image_words pages h.1)

pub is_page_map : (s : Setup) → IsSetup s → IsPageMap (map_of s)
unfolding map_of
is_page_map s h = record {
  ascends = ascends-map_of s h;
  words =
      let image = image_words (image_pages s.elf)
      (recursion_from_All (λ (p : Mapped). (1 ≤ p.number) × (p.number < 0xC0000)) (image_pages s.elf)
      (pages_inside s.elf h.elf_accepted)) in
      all_append IsWord (image_pages s.elf ++ data_pages 0xC0000 1 ++ data_pages 0xC0001 256) (data_pages 0xD0000 512)
      (all_append IsWord (image_pages s.elf ++ data_pages 0xC0000 1) (data_pages 0xC0001 256)
      (all_append IsWord (image_pages s.elf) (data_pages 0xC0000 1) image (data_words 0xC0000 1 (omega arith)))
      (data_words 0xC0001 256 (omega arith))) (data_words 0xD0000 512 (omega arith));
}

length_data : (number count : ℕ) → length (data_pages number count) ≡ count
unfolding data_pages
length_data number count = length-map-range_with_len _ number count

image_few : (bytes : List ℕ) → is_image bytes ≡ true → length (image_pages bytes) ≤ 1024
unfolding image_pages
image_few bytes h = rw length-map (image_rows.few_pages bytes h)

pub few_pages : (s : Setup) → IsSetup s → length (map_of s) < 2 ^ 16
unfolding map_of
few_pages s h =
    omega (
      arith,
      image_few s.elf h.elf_accepted,
      length-append (image_pages s.elf ++ data_pages 0xC0000 1 ++ data_pages 0xC0001 256) (data_pages 0xD0000 512),
      length-append (image_pages s.elf ++ data_pages 0xC0000 1) (data_pages 0xC0001 256),
      length-append (image_pages s.elf) (data_pages 0xC0000 1),
      length_data 0xC0000 1,
      length_data 0xC0001 256,
      length_data 0xD0000 512,
    )

-- ---- the size of a pool

with_few : (s : Pages) (page : List ℕ) (b : Bool) → has_page s page ≡ b → length (with_page s page) ≤ length s + 1
with_few s page true h = rw h (omega arith)
with_few s page false h = rw h (omega (arith, length-append s (page ∷ [])))

pub fold_few : (ps s : Pages) → length (fold with_page s ps) ≤ length s + length ps
fold_few [] s = omega arith
fold_few (p ∷ ps) s = omega (arith, fold_few ps (with_page s p), with_few s p (has_page s p) refl)

pub read_few : (pages : List Mapped) (fuel : ℕ) (rs : List Record) → length pages < 2 ^ 16
    → AllByRecursion (IsRecord pages fuel) rs → length (pages_read rs) ≤ 65535 * length rs
read_few pages fuel [] lt all = omega arith
read_few pages fuel (r ∷ rs) lt all =
    omega (
      arith,
      length-append (bytes_of r.kept.reads) (pages_read rs),
      length-map r.kept.reads
          (λ (p : ReadPage). p.bytes),
      few_reads pages r.kept.reads 0 (omega arith) all.0.reads_ascend all.0.reads,
      read_few pages fuel rs lt all.1,
    )

-- ---- the pages of a pool are pages

with_pages : (s : Pages) (page : List ℕ) (b : Bool) → has_page s page ≡ b → IsPage page → AllByRecursion IsPage s
    → AllByRecursion IsPage (with_page s page)
with_pages s page true h p all = rw h all
with_pages s page false h p all = rw h (all_append IsPage s (page ∷ []) all (p, tt))

pub fold_pages : (ps s : Pages) → AllByRecursion IsPage ps → AllByRecursion IsPage s
    → AllByRecursion IsPage (fold with_page s ps)
fold_pages [] s h all = all
fold_pages (p ∷ ps) s h all = fold_pages ps (with_page s p) h.1 (with_pages s p (has_page s p) refl h.0 all)

reads_pages : (pages : List Mapped) (reads : List ReadPage) → AllByRecursion (IsReadPage pages) reads
    → AllByRecursion IsPage (bytes_of reads)
reads_pages pages [] all = tt
reads_pages pages (p ∷ reads) all = ((all.0.size, all.0.bytes), reads_pages pages reads all.1)

pub read_pages : (pages : List Mapped) (fuel : ℕ) (rs : List Record) → AllByRecursion (IsRecord pages fuel) rs
    → AllByRecursion IsPage (pages_read rs)
read_pages pages fuel [] all = tt
read_pages pages fuel (r ∷ rs) all = all_append IsPage (bytes_of r.kept.reads) (pages_read rs)
    (reads_pages pages r.kept.reads all.0.reads) (read_pages pages fuel rs all.1)
