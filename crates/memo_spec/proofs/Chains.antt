-- Pages and records that were read one after the other are those of a history that has an encoding, and conversely.
use Rattle.std.proofs.Common.{◌≡◌, ℕ, zero, suc, ◌+◌, ◌^◌, ◌<◌, ◌≤◌, true, leb, eq-eqb, List, [], ◌∷◌, ◌++◌, length, map, refl, sym, ap, subst, ◌∙◌, append_assoc, arith}
use Rattle.std.specs.Prelude.{slice_index_or}
use Rattle.std.specs.List.{AllByRecursion, fold}
use Rattle.std.specs.Cmp.Derive.{both_true}
use Rattle.std.proofs.lemmas.Bool.{and_parts, leb-true, le-leb, eqb-true}
use Rattle.memory_spec.specs.Pages.{Mapped}
use Rattle.thunk_spec.specs.Delta.{PageDelta}
use Rattle.thunk_spec.specs.Reads.{ReadPage}
use Rattle.thunk_spec.specs.Record.{Record}
use Rattle.thunk_spec.specs.Ascending.{reads_ascend, deltas_ascend}
use Rattle.history_spec.specs.History.{is_numbered_after}
use Rattle.memo_spec.specs.Encoding.{with_page, has_page, index_in, IsReadPage, IsStoredPage, IsRecord, pages_read}
use Rattle.memo_spec.specs.Reading.{ReadState, RecordState, used_after}
use Rattle.memo_spec.proofs.Formats.{Chained}
use Rattle.memo_spec.proofs.Pool.{IsPool, index_back}
use Rattle.memo_spec.proofs.Order.{Pages, IsPage, read_step, write_step, fold_front, fold_append}
use Rattle.memo_spec.proofs.Pages.{FitsRead, FitsStored}
use Rattle.memo_spec.proofs.Records.{FitsRecord, start_of}

abbrev pub bytes_of : List ReadPage → Pages
bytes_of reads = map (λ (p : ReadPage). p.bytes) reads

page_at : (pool : Pages) (i : ℕ) → AllByRecursion IsPage pool → i < length pool → IsPage (slice_index_or pool i [])
page_at [] i h lt = absurd (omega arith)
page_at (p ∷ pool) zero h lt = h.0
page_at (p ∷ pool) (suc i) h lt = page_at pool i h.1 (omega arith)

-- ---- read pages

-- What holds of read pages that were read, if this part of the pool is used.
pub record AreReads (pages : List Mapped) (pool : Pages) (low : ℕ) (used : Pages) (reads : List ReadPage) (last : ℕ) :
    Type 0 where
  pub ascend : reads_ascend low reads ≡ true
  pub each : AllByRecursion (IsReadPage pages) reads
  pub more : Pages
  pub pool_is : fold with_page used (bytes_of reads) ++ more ≡ pool
  pub last_is : last ≡ length (fold with_page used (bytes_of reads))

pub reads_are : (pages : List Mapped) (pool : Pages) → IsPool pool
    → (reads : List ReadPage) (s last : ReadState) (used rest : Pages) → used ++ rest ≡ pool → s.used ≡ length used
    → Chained (FitsRead pages pool) s reads last → AreReads pages pool s.low used reads last.used
reads_are pages pool is_pool [] s last used rest e u h =
    record { ascend = refl; each = tt; more = rest; pool_is = e; last_is = ap (λ (t : ReadState). t.used) h ∙ u }
reads_are pages pool is_pool (p ∷ reads) s last used rest e u h =
    let f = h.1 in
    let b : index_in (used ++ rest) p.bytes ≡ index_in pool p.bytes = ap (λ (l : Pages). index_in l p.bytes) e in
    let n : length (used ++ rest) ≡ length pool = ap length e in
    let step = read_step used rest p.bytes (omega (arith, b, f.index, u)) (omega (arith, b, n, f.in_pool)) in
    let next : h.0.used ≡ length (with_page used p.bytes) = ap (λ (t : ReadState). t.used) f.next
    ∙ ap (λ (k : ℕ). used_after k (index_in pool p.bytes)) u ∙ ap (used_after (length used)) (sym b) ∙ sym step.2 in
    let rest_are = reads_are pages pool is_pool reads h.0 last (with_page used p.bytes) step.0 (step.1 ∙ e) next h.2 in
    let page = subst IsPage (index_back pool p.bytes f.in_pool)
    (page_at pool (index_in pool p.bytes) is_pool.pages f.in_pool) in
    record {
      ascend = both_true (le-leb _ _ f.above)
          (subst (λ (k : ℕ). reads_ascend k reads ≡ true) (ap (λ (t : ReadState). t.low) f.next) rest_are.ascend);
      each = (record { mapped = f.mapped; size = page.0; bytes = page.1 }, rest_are.each);
      more = rest_are.more;
      pool_is = rest_are.pool_is;
      last_is = rest_are.last_is;
    }

pub reads_again : (pages : List Mapped) (reads : List ReadPage) (low : ℕ) (used later : Pages)
    → reads_ascend low reads ≡ true → AllByRecursion (IsReadPage pages) reads
    → (last : ReadState) × Chained (FitsRead pages (fold with_page used (bytes_of reads ++ later)))
    (record { low = low; used = length used }) reads last
    × (last.used ≡ length (fold with_page used (bytes_of reads)))
reads_again pages [] low used later asc all = (record { low = low; used = length used }, refl, refl)
reads_again pages (p ∷ reads) low used later asc all =
    let k = and_parts _ _ asc in
    let front = fold_front (bytes_of reads ++ later) (with_page used p.bytes) in
    let w = subst (λ (l : Pages). (index_in l p.bytes ≤ length used) × (index_in l p.bytes < length l)
    × (length (with_page used p.bytes) ≡ used_after (length used) (index_in l p.bytes))) (sym front.1)
    (write_step used front.0 p.bytes (has_page used p.bytes) refl) in
    let rest = reads_again pages reads (suc p.slot) (with_page used p.bytes) later k.1 all.1 in (
      rest.0,
      (
        record { low = suc p.slot; used = length (with_page used p.bytes) },
        record {
          mapped = all.0.mapped;
          above = leb-true _ _ k.0;
          index = w.0;
          in_pool = w.1;
          next =
              ap (λ (n : ℕ). record { low = suc p.slot; used = n }) w.2;
        },
        rest.1,
      ),
      rest.2,
    )

-- ---- stored pages

pub stored_are : (pages : List Mapped) (delta : List PageDelta) (low last : ℕ)
    → Chained (FitsStored pages) low delta last → (deltas_ascend low delta ≡ true)
    × AllByRecursion (IsStoredPage pages) delta
stored_are pages [] low last h = (refl, tt)
stored_are pages (d ∷ delta) low last h =
    let rest = stored_are pages delta h.0 last h.2 in (
      both_true (le-leb _ _ h.1.above) (subst (λ (k : ℕ). deltas_ascend k delta ≡ true) h.1.next rest.0),
      (h.1.page, rest.1),
    )

pub stored_again : (pages : List Mapped) (delta : List PageDelta) (low : ℕ) → deltas_ascend low delta ≡ true
    → AllByRecursion (IsStoredPage pages) delta → (last : ℕ) × Chained (FitsStored pages) low delta last
stored_again pages [] low asc all = (low, refl)
stored_again pages (d ∷ delta) low asc all =
    let k = and_parts _ _ asc in
    let rest = stored_again pages delta (suc d.slot) k.1 all.1 in
    (rest.0, (suc d.slot, record { page = all.0; above = leb-true _ _ k.0; next = refl }, rest.1))

-- ---- the counts are short: no more pages than slots

pub few_reads : (pages : List Mapped) (reads : List ReadPage) (low : ℕ) → low ≤ length pages
    → reads_ascend low reads ≡ true → AllByRecursion (IsReadPage pages) reads → length reads + low ≤ length pages
few_reads pages [] low le asc all = omega arith
few_reads pages (p ∷ reads) low le asc all =
    let k = and_parts (leb low p.slot) (reads_ascend (suc p.slot) reads) asc in
    omega (arith, leb-true _ _ k.0, few_reads pages reads (suc p.slot) (omega (arith, all.0.mapped)) k.1 all.1)

pub few_stored : (pages : List Mapped) (delta : List PageDelta) (low : ℕ) → low ≤ length pages
    → deltas_ascend low delta ≡ true → AllByRecursion (IsStoredPage pages) delta → length delta + low ≤ length pages
few_stored pages [] low le asc all = omega arith
few_stored pages (d ∷ delta) low le asc all =
    let k = and_parts (leb low d.slot) (deltas_ascend (suc d.slot) delta) asc in
    omega (arith, leb-true _ _ k.0, few_stored pages delta (suc d.slot) (omega (arith, all.0.mapped)) k.1 all.1)

-- ---- records

pub record AreRecords (pages : List Mapped) (fuel : ℕ) (pool : Pages) (earlier : List ℕ) (used : Pages)
    (rs : List Record) (last : ℕ) : Type 0 where
  pub each : AllByRecursion (IsRecord pages fuel) rs
  pub numbered : is_numbered_after earlier rs ≡ true
  pub more : Pages
  pub pool_is : fold with_page used (pages_read rs) ++ more ≡ pool
  pub last_is : last ≡ length (fold with_page used (pages_read rs))

pub records_are : (pages : List Mapped) (fuel : ℕ) (pool : Pages) → IsPool pool
    → (rs : List Record) (s last : RecordState) (used rest : Pages) → used ++ rest ≡ pool → s.used ≡ length used
    → Chained (FitsRecord pages fuel pool) s rs last → AreRecords pages fuel pool s.earlier used rs last.used
records_are pages fuel pool is_pool [] s last used rest e u h =
    record { each = tt; numbered = refl; more = rest; pool_is = e; last_is = ap (λ (t : RecordState). t.used) h ∙ u }
records_are pages fuel pool is_pool (r ∷ rs) s last used rest e u h =
    let f = h.1 in
    let reads = reads_are pages pool is_pool r.kept.reads (start_of s) f.last used rest e u f.reads in
    let stored = stored_are pages r.kept.delta 0 f.next_slot f.delta in
    let next : h.0.used ≡ length (fold with_page used (bytes_of r.kept.reads)) = ap (λ (t : RecordState). t.used) f.next
    ∙ reads.last_is in
    let rest_are = records_are pages fuel pool is_pool rs h.0 last
    (fold with_page used (bytes_of r.kept.reads)) reads.more reads.pool_is next h.2 in
    let both = fold_append (bytes_of r.kept.reads) (pages_read rs) used in
    record {
      each = (
        record {
          thread = f.thread;
          end = f.end;
          some_turns = f.some_turns;
          most_turns = f.most_turns;
          start = f.start;
          finish = f.finish;
          reads_ascend = reads.ascend;
          reads = reads.each;
          delta_ascends = stored.0;
          delta = stored.1;
        },
        rest_are.each,
      );
      numbered = both_true (eq-eqb _ _ f.number)
          (subst (λ (l : List ℕ). is_numbered_after l rs ≡ true)
          (ap (λ (t : RecordState). t.earlier) f.next) rest_are.numbered);
      more = rest_are.more;
      pool_is = ap (λ (l : Pages). l ++ rest_are.more) both ∙ rest_are.pool_is;
      last_is = rest_are.last_is ∙ ap length (sym both);
    }

pub records_again : (pages : List Mapped) (fuel : ℕ) → length pages < 2 ^ 16 → fuel < 2 ^ 32
    → (rs : List Record) (earlier : List ℕ) (used later : Pages) → is_numbered_after earlier rs ≡ true
    → AllByRecursion (IsRecord pages fuel) rs
    → (last : RecordState) × Chained (FitsRecord pages fuel (fold with_page used (pages_read rs ++ later)))
    (record { earlier = earlier; used = length used }) rs last
    × (last.used ≡ length (fold with_page used (pages_read rs)))
records_again pages fuel few_pages few_turns [] earlier used later num all =
    (record { earlier = earlier; used = length used }, refl, refl)
records_again pages fuel few_pages few_turns (r ∷ rs) earlier used later num all =
    let k = and_parts _ _ num in
    let a = all.0 in
    let after = fold with_page used (bytes_of r.kept.reads) in
    let reads = reads_again pages r.kept.reads 0 used (pages_read rs ++ later) a.reads_ascend a.reads in
    let stored = stored_again pages r.kept.delta 0 a.delta_ascends a.delta in
    let rest = records_again pages fuel few_pages few_turns rs (earlier ++ r.thread ∷ []) after later k.1 all.1 in
    let whole : fold with_page used (bytes_of r.kept.reads ++ (pages_read rs ++ later)) ≡ fold with_page used
    (bytes_of r.kept.reads ++ pages_read rs ++ later) =
    ap (fold with_page used) (sym (append_assoc (bytes_of r.kept.reads) (pages_read rs) later)) in
    let tail : fold with_page after (pages_read rs ++ later) ≡ fold with_page used
    (bytes_of r.kept.reads ++ pages_read rs ++ later) =
    sym (fold_append (bytes_of r.kept.reads) (pages_read rs ++ later) used) ∙ whole in (
      rest.0,
      (
        record { earlier = earlier ++ r.thread ∷ []; used = length after },
        record {
          thread = a.thread;
          number = eqb-true _ _ k.0;
          end = a.end;
          some_turns = a.some_turns;
          most_turns = a.most_turns;
          few_turns = omega (arith, a.most_turns, few_turns);
          start = a.start;
          finish = a.finish;
          few_reads = omega (arith, few_reads pages r.kept.reads 0 (omega arith) a.reads_ascend a.reads, few_pages);
          few_stored = omega (arith, few_stored pages r.kept.delta 0 (omega arith) a.delta_ascends a.delta, few_pages);
          last = reads.0;
          reads = subst (λ (l : Pages). Chained (FitsRead pages l)
              (record { low = 0; used = length used }) r.kept.reads reads.0) whole reads.1;
          next_slot = stored.0;
          delta = stored.1;
          next = ap (λ (n : ℕ). record { earlier = earlier ++ r.thread ∷ []; used = n }) (sym reads.2);
        },
        subst (λ (l : Pages). Chained (FitsRecord pages fuel l)
            (record { earlier = earlier ++ r.thread ∷ []; used = length after }) rs rest.0) tail rest.1,
      ),
      rest.2 ∙ ap length (sym (fold_append (bytes_of r.kept.reads) (pages_read rs) used)),
    )
