-- The length of a memo, part by part.
use Rattle.std.proofs.Common.{◌≡◌, ℕ, zero, suc, ◌+◌, ◌*◌, ◌^◌, ◌<◌, List, [], ◌∷◌, ◌++◌, length, drop, Some, None, refl, sym, ap, subst, ◌∙◌, arith}
use Rattle.std.specs.Prelude.{slice_get}
use Rattle.std.specs.List.{AllByRecursion, flat_map, concat, sum_by}
use Rattle.std.proofs.lemmas.List.{length-append, length-map, length-drop}
use Rattle.std.proofs.lemmas.List.Sums.{sum_by-cons}
use Rattle.std.specs.Borrow.{Bor}
use Rattle.sha2.specs.Sha256.{sha256}
use Rattle.sha2.proofs.Facts256.{length-sha256}
use Rattle.isa_spec.specs.Registers.{Registers}
use Rattle.memory_spec.specs.Pages.{Mapped}
use Rattle.thunk_spec.specs.Delta.{PageDelta}
use Rattle.thunk_spec.specs.Reads.{ReadPage}
use Rattle.thunk_spec.specs.Record.{Record}
use Rattle.machine_spec.specs.Setup.{map_of}
use Rattle.history_spec.specs.History.{History}
use Rattle.memo_spec.specs.Encoding.{head, byte, half, word, registers, end_number, page_number, mask, read_page, stored_page, record_bytes, pages_read, pool_of, body, memo_in, memo, EncodesIn, IsStoredPage, IsRecord, IsEncodable}
use Rattle.memo_spec.specs.declared.Format.TheVariants.{Version2}
use Rattle.memo_spec.proofs.Chains.{few_reads, few_stored}
use Rattle.memo_spec.proofs.Masks.{marks_again}
use Rattle.memo_spec.proofs.Order.{IsPage}
use Rattle.memo_spec.proofs.Whole.{few_pages, fold_few, read_few, fold_pages, read_pages}
use Rattle.memo_file.proofs.WritingPool.{drop_at}
use Rattle.memo_file.specs.WritingPool.{pages_lent, IsPoolOf}
use Rattle.memo_file.specs.WritingSizes.{stored_size, record_size, memo_size, HasFewPages}

length_word : (n : ℕ) → length (word n) ≡ 4
length_word n = refl

length_words : (ns : List ℕ) → length (flat_map word ns) ≡ 4 * length ns
length_words [] = refl
length_words (n ∷ ns) = omega (arith, length-append (word n) (flat_map word ns), length_word n, length_words ns)

length_registers : (r : Registers) → length r.x ≡ 32 → length (registers r) ≡ 128
length_registers r e = length_words (r.pc ∷ drop 1 r.x) ∙ omega (arith, length-drop 1 r.x, e)

length_reads : (pages : List Mapped) (pool : List (List ℕ)) (reads : List ReadPage)
    → length (flat_map (read_page pages pool) reads) ≡ 8 * length reads
length_reads pages pool [] = refl
length_reads pages pool (p ∷ reads) = omega (
  arith,
  length-append (read_page pages pool p)
      (flat_map (read_page pages pool) reads),
  length_reads pages pool reads,
)

length_stored : (pages : List Mapped) (d : PageDelta) → IsStoredPage pages d
    → length (stored_page pages d) ≡ stored_size d
length_stored pages d h =
    let m = marks_again 512 d.mask h.places in
    let number : List ℕ = word (page_number pages d.slot) in
    let a : length (stored_page pages d) ≡ length (number ++ mask d.mask) + length d.bytes =
    length-append (number ++ mask d.mask) d.bytes in
    let b : length (number ++ mask d.mask) ≡ 4 + length (mask d.mask) = length-append number (mask d.mask) in
    omega (arith, a, b, m.1)

length_delta : (pages : List Mapped) (delta : List PageDelta) → AllByRecursion (IsStoredPage pages) delta
    → length (flat_map (stored_page pages) delta) ≡ sum_by stored_size delta
length_delta pages [] all = refl
length_delta pages (d ∷ delta) all =
    omega (
      arith,
      sum_by-cons stored_size d delta,
      length-append (stored_page pages d)
          (flat_map (stored_page pages) delta),
      length_stored pages d all.0,
      length_delta pages delta all.1,
    )

eight_parts : (a b c d e f g h i : List ℕ)
    → length (a ++ b ++ c ++ d ++ e ++ f ++ g ++ h ++ i)
    ≡ length a + length b + length c + length d + length e + length f + length g + length h + length i
eight_parts a b c d e f g h i = simp length-append

length_record : (pages : List Mapped) (fuel : ℕ) (pool : List (List ℕ)) (r : Record) → IsRecord pages fuel r
    → length (record_bytes pages pool r) ≡ record_size r
length_record pages fuel pool r h =
    omega (
      arith,
      eight_parts (byte r.thread) (byte (end_number r.kept.end)) (word r.kept.count) (registers r.start)
          (registers r.kept.finish)
          (half (length r.kept.reads)) (flat_map (read_page pages pool) r.kept.reads) (half (length r.kept.delta))
          (flat_map (stored_page pages) r.kept.delta),
      length_registers r.start h.start.count,
      length_registers r.kept.finish h.finish.count,
      length_reads pages pool r.kept.reads,
      length_delta pages r.kept.delta h.delta,
    )

length_records : (pages : List Mapped) (fuel : ℕ) (pool : List (List ℕ)) (rs : List Record)
    → AllByRecursion (IsRecord pages fuel) rs
    → length (flat_map (record_bytes pages pool) rs) ≡ sum_by record_size rs
length_records pages fuel pool [] all = refl
length_records pages fuel pool (r ∷ rs) all =
    omega (
      arith,
      sum_by-cons record_size r rs,
      length-append (record_bytes pages pool r)
          (flat_map (record_bytes pages pool) rs),
      length_record pages fuel pool r all.0,
      length_records pages fuel pool
          rs all.1,
    )

length_pool : (pool : List (List ℕ)) → AllByRecursion IsPage pool → length (concat pool) ≡ 4096 * length pool
length_pool [] all = refl
length_pool (page ∷ pool) all = omega (arith, length-append page (concat pool), all.0.0, length_pool pool all.1)

-- The pages of a history's pool are pages.
pool_pages : (h : History) → IsEncodable h → AllByRecursion IsPage (pool_of h)
pool_pages h s = fold_pages (pages_read h.records) [] (read_pages (map_of h.setup) h.setup.fuel h.records s.records) tt

eleven_parts : (a c d e f g h i j k l : List ℕ)
    → length (a ++ c ++ d ++ e ++ f ++ g ++ h ++ i ++ j ++ k ++ l)
    ≡ length a + length c + length d + length e + length f + length g + length h + length i + length j +
    length k + length l
eleven_parts a c d e f g h i j k l = simp length-append

length_body : (h : History) → IsEncodable h → length (body Version2 h) + 32 ≡ memo_size h (length (pool_of h))
length_body h s =
    let parts = eleven_parts (head Version2) (word (length h.setup.elf)) h.setup.elf
    (word (length h.setup.input)) h.setup.input
    (word h.setup.fuel) (word h.setup.limit) (word (length h.records)) (word (length (pool_of h))) (concat (pool_of h))
    (flat_map (record_bytes (map_of h.setup) (pool_of h)) h.records) in
    let pages = length_pool (pool_of h) (pool_pages h s) in
    let records = length_records (map_of h.setup) h.setup.fuel (pool_of h) h.records s.records in
    ap (λ n. n + 32) parts
    ∙ sum_up (length h.setup.elf) (length h.setup.input) _ (length (pool_of h)) _ (sum_by record_size h.records) pages
    records
  where
    sum_up : (elf input pages pool records size : ℕ) → pages ≡ 4096 * pool → records ≡ size
        → 12 + 4 + elf + 4 + input + 4 + 4 + 4 + 4 + pages + records + 32 ≡ 68 + elf + input + 4096 * pool + size
    sum_up elf input pages pool records size p r = omega arith

-- The bytes that encode a history in version 2 are its memo.
pub second_is : (bytes : List ℕ) (h : History) → EncodesIn Version2 bytes h → bytes ≡ memo h
unfolding memo
second_is bytes h s = s.is

-- The length of a memo is its size.
pub length_memo : (h : History) → IsEncodable h → length (memo h) ≡ memo_size h (length (pool_of h))
unfolding memo memo_in
length_memo h s =
    let text = body Version2 h in
    length-append text (sha256 text) ∙ ap (λ n. length text + n) (length-sha256 text) ∙ length_body h s

-- ---- what is known of the records of a history that has an encoding

record_at : (pages : List Mapped) (fuel : ℕ) (rs : List Record) (k : ℕ) (r : Record)
    → AllByRecursion (IsRecord pages fuel) rs → slice_get rs k ≡ Some r → IsRecord pages fuel r
record_at pages fuel [] k r all e = absurd (differ e)
  where
    differ : None ≡ Some r → ⊥
    differ e = cc
record_at pages fuel (x ∷ rs) zero r all e = let same : x ≡ r = cc in subst (IsRecord pages fuel) same all.0
record_at pages fuel (x ∷ rs) (suc k) r all e = record_at pages fuel rs k r all.1 e

pub encoded_record : (h : History) (k : ℕ) (r : Record) → IsEncodable h → slice_get h.records k ≡ Some r
    → IsRecord (map_of h.setup) h.setup.fuel r
encoded_record h k r s e = record_at (map_of h.setup) h.setup.fuel h.records k r s.records e

pub few_of : (pages : List Mapped) (fuel : ℕ) (r : Record) → length pages < 2 ^ 16 → IsRecord pages fuel r
    → HasFewPages r
few_of pages fuel r few h = record {
  reads = omega (arith, few_reads pages r.kept.reads 0 (omega arith) h.reads_ascend h.reads, few);
  delta = omega (arith, few_stored pages r.kept.delta 0 (omega arith) h.delta_ascends h.delta, few);
}

pub few_in_record : (h : History) (k : ℕ) (r : Record) → IsEncodable h → slice_get h.records k ≡ Some r → HasFewPages r
few_in_record h k r s e = few_of (map_of h.setup) h.setup.fuel r (few_pages h.setup s.setup) (encoded_record h k r s e)

-- The read pages of a history are fewer than four bytes can count, and so are those of its pool.
pub few_read : (h : History) → IsEncodable h → length (pages_read h.records) < 2 ^ 32
few_read h s =
    omega (
      arith,
      read_few (map_of h.setup) h.setup.fuel h.records (few_pages h.setup s.setup) s.records,
      s.most_records,
      s.setup.limits.most_steps,
    )

pub few_in_pool : (h : History) → IsEncodable h → length (pool_of h) < 2 ^ 32
few_in_pool h s = omega (arith, fold_few (pages_read h.records) [], few_read h s)

-- ---- sums so far

pub sum_from : {A : Type 0} (f : A → ℕ) (xs : List A) (k : ℕ) (x : A) → slice_get xs k ≡ Some x
    → sum_by f (drop k xs) ≡ f x + sum_by f (drop (k + 1) xs)
sum_from f xs k x e = ap (sum_by f) (drop_at xs k x e) ∙ sum_by-cons f x (drop (k + 1) xs)

-- The size of a memo with a pool that is lent is the memo's length.
pub size_found : (h : History) (lent : List (Bor (List ℕ))) (places : List ℕ) (n : ℕ) → IsEncodable h
    → n ≡ length lent → IsPoolOf h (pages_lent lent) places → memo_size h n ≡ length (memo h)
size_found h lent places n s e is =
    ap (memo_size h) (e ∙ sym (length-map lent (λ (p : Bor (List ℕ)). p.now)) ∙ ap length is.pages)
    ∙ sym (length_memo h s)
