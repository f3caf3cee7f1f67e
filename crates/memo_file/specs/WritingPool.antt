-- The pool as it grows along the read pages, and the place of each of them in it.
use Rattle.std.specs.Prelude.{◌≡◌, ◌+◌, ◌^◌, ◌<◌, ◌≤◌, ℕ, List, [], ◌∷◌, map, length, slice_get, slice_index, slice_index_or, Some, None, if◌then◌else◌}
use Rattle.std.specs.Ordering.{nat_cmp}
use Rattle.std.specs.BTreeMap.{BTreeMap, get_by}
use Rattle.std.specs.Borrow.{Bor}
use Rattle.std.specs.Cmp.Lexicographic.{slice_cmp}
use Rattle.thunk_spec.specs.Reads.{ReadPage}
use Rattle.history_spec.specs.History.{History}
use Rattle.memo_spec.specs.Encoding.{has_page, with_page, index_in, pages_read, pool_of}

-- The borrowed pages.
abbrev pub pages_lent : List (Bor (List ℕ)) → List (List ℕ)
pages_lent lent = map (λ (p : Bor (List ℕ)). p.now) lent

-- The bytes of read pages.
abbrev pub bytes_read : List ReadPage → List (List ℕ)
bytes_read reads = map (λ (p : ReadPage). p.bytes) reads

-- The place of each of some pages in a pool, to which they are added in turn.
abbrev pub places_from : List (List ℕ) → List (List ℕ) → List ℕ
places_from pool [] = []
places_from pool (page ∷ pages) = index_in (with_page pool page) page ∷ places_from (with_page pool page) pages

-- A page is at a place of a pool.
pub record StandsAt (pool : List (List ℕ)) (place : ℕ) (page : List ℕ) : Type 0 where
  pub within : place < length pool
  pub same : slice_index_or pool place [] ≡ page

-- The index of a pool: a map that has the index of each of its pages and no other page; and no two pages are equal.
pub record IsIndexed (indices : BTreeMap (Bor (List ℕ)) ℕ) (pool : List (List ℕ)) : Type 0 where
  pub index : (q : List ℕ)
      → get_by (λ k. slice_cmp nat_cmp q k.now) indices ≡ (if has_page pool q then Some (index_in pool q) else None)
  pub once : (i : ℕ) → i < length pool → index_in pool (slice_index_or pool i []) ≡ i

-- From a place on, some places are those of read pages in a pool.
pub record ArePlaced (pool : List (List ℕ)) (places : List ℕ) (start : ℕ) (reads : List ReadPage) : Type 0 where
  pub within : start + length reads ≤ length places
  pub place : (k : ℕ) (p : ReadPage) → slice_get reads k ≡ Some p
      → slice_index places (start + k) ≡ index_in pool p.bytes

-- These are the pages of a history's pool, and the places in it of all its read pages.
pub record IsPoolOf (h : History) (pool : List (List ℕ)) (places : List ℕ) : Type 0 where
  pub pages : pool ≡ pool_of h
  pub in_order : places ≡ map (index_in (pool_of h)) (pages_read h.records)
  pub few : length pool < 2 ^ 32
