-- A pool as it grows by one page, and the places of pages in it.
use Rattle.std.proofs.Common.{◌≡◌, ◌⊎◌, ℕ, zero, suc, ◌+◌, ◌^◌, ◌<◌, ◌≤◌, Bool, true, false, cond, ltb, List, [], ◌∷◌, ◌++◌, length, map, drop, Option, Some, None, refl, sym, ap, subst, ◌∙◌, append_assoc, arith, inl, inr}
use Rattle.std.specs.Prelude.{bytes_eq, slice_get, slice_index_or}
use Rattle.std.specs.List.{fold, concat}
use Rattle.std.specs.BTreeMap.{BTreeMap}
use Rattle.std.specs.Borrow.{Bor}
use Rattle.std.proofs.lemmas.Bool.{ltb-true, lt-ltb}
use Rattle.std.proofs.Math.ListN.{drop_of_length-le}
use Rattle.std.proofs.Math.Seq.{drop-cons}
use Rattle.std.proofs.lemmas.List.{append-nil, length-append, length-map}
use Rattle.thunk_spec.specs.Record.{Record}
use Rattle.thunk_spec.specs.Reads.{ReadPage}
use Rattle.history_spec.specs.History.{History}
use Rattle.memo_spec.specs.Encoding.{has_page, with_page, index_in, pages_read, pool_of}
use Rattle.memo_spec.proofs.Order.{Pages, has_in_front, index_push, index_new, fold_front, fold_append, write_step}
use Rattle.memo_spec.proofs.Pool.{bytes_determine}
use Rattle.memo_file.specs.WritingPool.{pages_lent, bytes_read, places_from, StandsAt, IsIndexed, IsPoolOf}
use Rattle.memo_file.proofs.Seeing.{has_push}

-- The rest of a list from a place on begins with the element there.
pub drop_at : {A : Type 0} (xs : List A) (k : ℕ) (x : A) → slice_get xs k ≡ Some x → drop k xs ≡ x ∷ drop (k + 1) xs
drop_at [] k x e = absurd cc
drop_at (y ∷ ys) zero x e = first y ys x e
  where
    first : {A : Type 0} (y : A) (ys : List A) (x : A) → Some y ≡ Some x → y ∷ ys ≡ x ∷ ys
    first y ys x e = cc
drop_at (y ∷ ys) (suc k) x e =
    let next : suc k + 1 ≡ suc (k + 1) = omega arith in
    drop_at ys k x e ∙ ap (λ n. x ∷ drop n (y ∷ ys)) (sym next)

index_of_new :
    (pool : Pages) (p q : List ℕ) (new old : Option ℕ)
    → has_page pool p ≡ false → old ≡ cond (has_page pool q) (Some (index_in pool q)) None
    → new ≡ cond (bytes_eq p q) (Some (length pool)) old
    → new ≡ cond (has_page (pool ++ p ∷ []) q) (Some (index_in (pool ++ p ∷ []) q)) None
index_of_new pool p q new old fresh o n =
    elim (bytes_determine p q) [ inl h ↦ same h.0 h.1 | inr h ↦ other h.0 (has_page pool q) refl ]
  where
    there : bytes_eq p q ≡ true → has_page (pool ++ p ∷ []) q ≡ true
    there h = has_push pool p q ∙ rw h refl

    same : bytes_eq p q ≡ true → p ≡ q
        → new ≡ cond (has_page (pool ++ p ∷ []) q) (Some (index_in (pool ++ p ∷ []) q)) None
    same h e =
        let i : index_in (pool ++ p ∷ []) q ≡ length pool = ap (index_in (pool ++ p ∷ [])) (sym e)
        ∙ index_new pool [] p fresh in
        n ∙ rw (h, there h, i) refl

    other : bytes_eq p q ≡ false → (b : Bool) → has_page pool q ≡ b
        → new ≡ cond (has_page (pool ++ p ∷ []) q) (Some (index_in (pool ++ p ∷ []) q)) None
    other h true k =
        let less : index_in pool q < length pool = ltb-true _ _
        (sym (ap (λ (l : Pages). ltb (index_in l q) (length pool)) (append-nil pool))
        ∙ sym (has_in_front pool [] q) ∙ k) in
        let i : index_in (pool ++ p ∷ []) q ≡ index_in pool q = index_push pool (p ∷ []) q less in
        let j : has_page (pool ++ p ∷ []) q ≡ true = has_push pool p q ∙ rw (h, k) refl in
        n ∙ rw (h, j, i) (o ∙ rw k refl)
    other h false k =
        let j : has_page (pool ++ p ∷ []) q ≡ false = has_push pool p q ∙ rw (h, k) refl in
        n ∙ rw (h, j) (o ∙ rw k refl)

-- A page that was appended to the others, in the map that has the index of each.
pub index_of_next :
    (pool : Pages) (p q : List ℕ) (w : ℕ) (new old : Option ℕ)
    → w ≡ length pool → has_page pool p ≡ false → old ≡ cond (has_page pool q) (Some (index_in pool q)) None
    → new ≡ cond (bytes_eq p q) (Some w) old
    → new ≡ cond (has_page (pool ++ p ∷ []) q) (Some (index_in (pool ++ p ∷ []) q)) None
index_of_next pool p q w new old is fresh o n =
    index_of_new pool p q new old fresh o (n ∙ ap (λ (k : ℕ). cond (bytes_eq p q) (Some k) old) is)

pub place_new : (pool : Pages) (page : List ℕ) → has_page pool page ≡ false
    → index_in (with_page pool page) page ≡ length pool
place_new pool page h = rw h (index_new pool [] page h)

-- A pool after a page that it has.
pub with_old : (pool : Pages) (page : List ℕ) → has_page pool page ≡ true → with_page pool page ≡ pool
with_old pool page h = rw h refl

-- A page at a place of a pool is in the pool, and this is its place.
pub stands_there : (indices : BTreeMap (Bor (List ℕ)) ℕ) (pool : Pages) (place : ℕ) (page : List ℕ)
    → IsIndexed indices pool → StandsAt pool place page
    → (with_page pool page ≡ pool) × (place ≡ index_in (with_page pool page) page)
stands_there indices pool place page ok at =
    let is : index_in pool page ≡ place = ap (index_in pool) (sym at.same) ∙ ok.once place at.within in
    let there : has_page pool page ≡ true = has_in_front pool [] page
    ∙ ap (λ (l : Pages). ltb (index_in l page) (length pool)) (append-nil pool)
    ∙ lt-ltb _ _ (omega (arith, is, at.within)) in
    let same = with_old pool page there in
    (same, sym is ∙ ap (λ (l : Pages). index_in l page) (sym same))

-- ---- pages one after the other

with_has : (pool : Pages) (page : List ℕ) → index_in (with_page pool page) page < length (with_page pool page)
with_has pool page =
    let k = write_step pool [] page (has_page pool page) refl in
    let e = append-nil (with_page pool page) in
    subst (λ (l : Pages). index_in l page < length l) e k.1

pub places_append : (pool xs ys : Pages)
    → places_from pool (xs ++ ys) ≡ places_from pool xs ++ places_from (fold with_page pool xs) ys
places_append pool [] ys = refl
places_append pool (x ∷ xs) ys =
    ap (λ (l : List ℕ). index_in (with_page pool x) x ∷ l) (places_append (with_page pool x) xs ys)

-- If pages are added one after the other, their places are those in the pool that has them all.
pub places_are : (pool pages : Pages) → places_from pool pages ≡ map (index_in (fold with_page pool pages)) pages
places_are pool [] = refl
places_are pool (page ∷ pages) =
    let front = fold_front pages (with_page pool page) in
    let here : index_in (fold with_page (with_page pool page) pages) page ≡ index_in (with_page pool page) page =
    ap (λ (l : Pages). index_in l page) front.1 ∙ index_push (with_page pool page) front.0 page (with_has pool page) in
    ap (λ (n : ℕ). n ∷ places_from (with_page pool page) pages) (sym here)
    ∙ ap (λ (l : List ℕ). index_in (fold with_page (with_page pool page) pages) page ∷ l)
    (places_are (with_page pool page) pages)

-- ---- one more read page

pub reads_from : (reads : List ReadPage) (k : ℕ) (read : ReadPage) → slice_get reads k ≡ Some read
    → bytes_read (drop k reads) ≡ read.bytes ∷ bytes_read (drop (k + 1) reads)
reads_from reads k read e = ap bytes_read (drop_at reads k read e)

pub pages_from : (rs : List Record) (k : ℕ) (r : Record) → slice_get rs k ≡ Some r
    → pages_read (drop k rs) ≡ bytes_read r.kept.reads ++ pages_read (drop (k + 1) rs)
pages_from rs k r e = ap pages_read (drop_at rs k r e)

-- After one more page, the pages to come lead to the same pool.
pub pool_step : (pool new all : Pages) (page : List ℕ) (now next : Pages) → now ≡ page ∷ next
    → new ≡ with_page pool page → fold with_page pool now ≡ all → fold with_page new next ≡ all
pool_step pool new all page now next e w h = rw w (sym (ap (fold with_page pool) e) ∙ h)

-- And to the same places.
pub places_step : (pool new : Pages) (page : List ℕ) (now next : Pages) (places more all : List ℕ) (place : ℕ)
    → now ≡ page ∷ next → new ≡ with_page pool page → place ≡ index_in (with_page pool page) page
    → more ≡ places ++ place ∷ []
    → places ++ places_from pool now ≡ all → more ++ places_from new next ≡ all
places_step pool new page now next places more all place e w i m h =
    rw (w, m, i) (append_assoc places (index_in (with_page pool page) page ∷ [])
    (places_from (with_page pool page) next)
    ∙ ap (λ (l : Pages). places ++ places_from pool l) (sym e) ∙ h)

-- After the last read page.
pub pool_met : (pool all : Pages) (reads : List ReadPage) (k : ℕ) → length reads ≤ k
    → fold with_page pool (bytes_read (drop k reads)) ≡ all → pool ≡ all
pool_met pool all reads k le h =
    ap (λ (l : List ReadPage). fold with_page pool (bytes_read l)) (sym (drop_of_length-le reads le)) ∙ h

pub places_met : (pool : Pages) (places all : List ℕ) (reads : List ReadPage) (k : ℕ) → length reads ≤ k
    → places ++ places_from pool (bytes_read (drop k reads)) ≡ all → places ≡ all
places_met pool places all reads k le h =
    sym (append-nil places)
    ∙ ap (λ (l : List ReadPage). places ++ places_from pool (bytes_read l)) (sym (drop_of_length-le reads le)) ∙ h

-- One more page makes a pool longer by one at most.
one_more : (there : Bool) (pool : Pages) (page : List ℕ)
    → length (cond there pool (pool ++ page ∷ [])) ≤ length pool + 1
one_more true pool page = omega arith
one_more false pool page = omega (arith, length-append pool (page ∷ []))

pub few_more : (old new : List (Bor (List ℕ))) (page : List ℕ) → pages_lent new ≡ with_page (pages_lent old) page
    → length new ≤ length old + 1
few_more old new page e = omega (
  arith,
  one_more (has_page (pages_lent old) page) (pages_lent old) page,
  ap length e,
  length-map old (λ (p : Bor (List ℕ)). p.now),
  length-map new (λ (p : Bor (List ℕ)). p.now),
)

-- ---- pages that are lent

lent_at : (pool : List (Bor (List ℕ))) (k : ℕ) (d : Bor (List ℕ)) → k < length pool
    → slice_index_or (pages_lent pool) k [] ≡ (slice_index_or pool k d).now
lent_at [] k d lt = absurd (omega arith)
lent_at (p ∷ pool) zero d lt = refl
lent_at (p ∷ pool) (suc k) d lt = lent_at pool k d (omega arith)

-- A page that was found equal to the one at a place.
pub lent_stands : (pool : List (Bor (List ℕ))) (place : ℕ) (page : List ℕ) (other d : Bor (List ℕ)) (b : Bool)
    → true ≡ ltb place (length pool) → other ≡ slice_index_or pool place d → b ≡ bytes_eq other.now page → b ≡ true
    → StandsAt (pages_lent pool) place page
lent_stands pool place page other d b lt is e t =
    let below : place < length pool = ltb-true _ _ (sym lt) in
    record {
      within = omega (arith, below, length-map pool (λ (p : Bor (List ℕ)). p.now));
      same = lent_at pool place d below ∙ ap (λ (p : Bor (List ℕ)). p.now) (sym is)
          ∙ reported (bytes_determine other.now page) (sym e ∙ t);
    }
  where
    reported : ((bytes_eq other.now page ≡ true) × (other.now ≡ page)) ⊎
        ((bytes_eq other.now page ≡ false) × (other.now ≡ page → ⊥)) → bytes_eq other.now page ≡ true → other.now ≡ page
    reported (inl h) t = h.1
    reported (inr h) t = absurd (differ (sym h.0 ∙ t))
      where
        differ : false ≡ true → ⊥
        differ e = cc

pub stands_for : (a b : List (Bor (List ℕ))) (place : ℕ) (x y : List ℕ) → a ≡ b → x ≡ y
    → StandsAt (pages_lent a) place x → StandsAt (pages_lent b) place y
stands_for a b place x y e f h = subst (λ (l : List (Bor (List ℕ))). StandsAt (pages_lent l) place y) e
    (subst (λ (z : List ℕ). StandsAt (pages_lent a) place z) f h)

-- One more lent page.
pub one_lent : (pages : List (Bor (List ℕ))) (k : ℕ) (d : Bor (List ℕ)) (out new all : List ℕ) → k < length pages
    → new ≡ out ++ (slice_index_or pages k d).now
    → out ++ concat (pages_lent (drop k pages)) ≡ all → new ++ concat (pages_lent (drop (k + 1) pages)) ≡ all
one_lent pages k d out new all lt w h =
    let next : k + 1 ≡ suc k = omega arith in
    let e : drop k pages ≡ slice_index_or pages k d ∷ drop (k + 1) pages = drop-cons pages k d lt
    ∙ ap (λ (n : ℕ). slice_index_or pages k d ∷ drop n pages) (sym next) in
    rw w (append_assoc out (slice_index_or pages k d).now (concat (pages_lent (drop (k + 1) pages)))
    ∙ sym (ap (λ (l : List (Bor (List ℕ))). out ++ concat (pages_lent l)) e) ∙ h)

-- ---- one more record

pub nothing_indexed : (indices : BTreeMap (Bor (List ℕ)) ℕ) → indices.entries ≡ [] → IsIndexed indices []
nothing_indexed indices e = record { index = λ q. rw e refl; once = λ i lt. absurd (omega arith) }

pub reads_within : (rs : List Record) (k : ℕ) (r : Record) → slice_get rs k ≡ Some r
    → length r.kept.reads + length (pages_read (drop (k + 1) rs)) ≡ length (pages_read (drop k rs))
reads_within rs k r e =
    let a : length (pages_read (drop k rs)) ≡ length (bytes_read r.kept.reads ++ pages_read (drop (k + 1) rs)) =
    ap length (pages_from rs k r e) in
    omega (
      arith,
      a,
      length-append (bytes_read r.kept.reads) (pages_read (drop (k + 1) rs)),
      length-map r.kept.reads
          (λ (p : ReadPage). p.bytes),
    )

pub pool_on : (rs : List Record) (k : ℕ) (r : Record) (reads : List ReadPage) (pool new all : Pages)
    → slice_get rs k ≡ Some r → reads ≡ r.kept.reads
    → new ≡ fold with_page pool (bytes_read reads) → fold with_page pool (pages_read (drop k rs)) ≡ all
    → fold with_page new (pages_read (drop (k + 1) rs)) ≡ all
pool_on rs k r reads pool new all e same w h =
    ap (λ (s : Pages). fold with_page s (pages_read (drop (k + 1) rs)))
    (w ∙ ap (λ (l : List ReadPage). fold with_page pool (bytes_read l)) same)
    ∙ sym (fold_append (bytes_read r.kept.reads) (pages_read (drop (k + 1) rs)) pool)
    ∙ ap (fold with_page pool) (sym (pages_from rs k r e)) ∙ h

pub places_on : (rs : List Record) (k : ℕ) (r : Record) (reads : List ReadPage) (pool new : Pages)
    (places more all : List ℕ) → slice_get rs k ≡ Some r → reads ≡ r.kept.reads
    → new ≡ fold with_page pool (bytes_read reads) → more ≡ places ++ places_from pool (bytes_read reads)
    → places ++ places_from pool (pages_read (drop k rs)) ≡ all
    → more ++ places_from new (pages_read (drop (k + 1) rs)) ≡ all
places_on rs k r reads pool new places more all e same w m h =
    let w2 : new ≡ fold with_page pool (bytes_read r.kept.reads) = w
    ∙ ap (λ (l : List ReadPage). fold with_page pool (bytes_read l)) same in
    let m2 : more ≡ places ++ places_from pool (bytes_read r.kept.reads) = m
    ∙ ap (λ (l : List ReadPage). places ++ places_from pool (bytes_read l)) same in
    ap (λ (l : List ℕ). l ++ places_from new (pages_read (drop (k + 1) rs))) m2
    ∙ ap (λ (s : Pages). (places ++ places_from pool (bytes_read r.kept.reads)) ++ places_from s
    (pages_read (drop (k + 1) rs))) w2
    ∙ append_assoc places (places_from pool (bytes_read r.kept.reads))
    (places_from (fold with_page pool (bytes_read r.kept.reads)) (pages_read (drop (k + 1) rs)))
    ∙ ap (λ (l : List ℕ). places ++ l) (sym (places_append pool (bytes_read r.kept.reads)
    (pages_read (drop (k + 1) rs))) ∙ ap (places_from pool) (sym (pages_from rs k r e)))
    ∙ h

-- After the last record.
pub pool_done : (h : History) (k : ℕ) (pool : Pages) (places : List ℕ) → length h.records ≤ k
    → length (pool_of h) < 2 ^ 32
    → fold with_page pool (pages_read (drop k h.records)) ≡ pool_of h
    → places ++ places_from pool (pages_read (drop k h.records)) ≡ places_from [] (pages_read h.records)
    → IsPoolOf h pool places
pool_done h k pool places le few p q =
    let none : pages_read (drop k h.records) ≡ [] = ap pages_read (drop_of_length-le h.records le) in
    let is : pool ≡ pool_of h = ap (fold with_page pool) (sym none) ∙ p in
    record {
      pages = is;
      in_order = sym (append-nil places) ∙ ap (λ (l : Pages). places ++ places_from pool l) (sym none) ∙ q
          ∙ places_are [] (pages_read h.records);
      few = omega (arith, few, ap length is);
    }
