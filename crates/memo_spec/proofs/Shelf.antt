-- The reader of a pool with its records agrees with its encoding, and the reader of a whole history with its own.
use Rattle.std.proofs.Common.{◌≡◌, ℕ, ◌^◌, ◌<◌, Bool, true, false, not, List, [], ◌∷◌, ◌++◌, length, refl, sym, ap, subst, ◌∙◌, append_assoc, arith}
use Rattle.std.specs.List.{AllByRecursion, flat_map}
use Rattle.std.specs.Int.{w32}
use Rattle.std.proofs.lemmas.Bool.{le-ltb}
use Rattle.std.proofs.lemmas.List.{append-nil, length-append}
use Rattle.thunk_spec.specs.Record.{Record}
use Rattle.machine_spec.specs.Setup.{Setup, map_of}
use Rattle.memo_spec.specs.Encoding.{word, has_page, index_in, record_bytes}
use Rattle.memo_spec.specs.Reader.{◌>>=◌, done, bytes_at, number_at, ruled, chain}
use Rattle.memo_spec.specs.Reading.{RecordState, pool_page_at, record_at, pool_and_records_at}
use Rattle.memo_spec.proofs.Formats.{Agrees, Chained, agrees_then, agrees_done, agrees_said, agrees_part, agrees_tested, agrees_number, agrees_bytes, agrees_chain, wide32}
use Rattle.memo_spec.proofs.Maps.{IsPageMap}
use Rattle.memo_spec.proofs.Pool.{IsPool}
use Rattle.memo_spec.proofs.Order.{Pages, IsOnce, IsPage, has_in_front, once_push, at_end}
use Rattle.memo_spec.proofs.Records.{FitsRecord, agrees_record}

-- ---- the pool

pub record FitsPool (s : Pages) (x : List ℕ × Pages) : Type 0 where
  pub page : IsPage x.0
  pub new : has_page s x.0 ≡ false
  pub next : x.1 ≡ s ++ x.0 ∷ []

abbrev put : Pages → List ℕ → List ℕ × Pages
put s page = (page, s ++ page ∷ [])

abbrev with : List ℕ → Pages → List ℕ × Pages
with page s = (page, s)

not_true : (b : Bool) → not b ≡ true → b ≡ false
not_true true e = absurd cc
not_true false e = refl

agrees_pool_page : (s : Pages) → Agrees (pool_page_at s) (λ x. x.0) (FitsPool s)
unfolding pool_page_at
agrees_pool_page s =
    agrees_said (pool_page_at s) (λ x. x.0 ++ []) (λ x. x.0)
    (λ x. (IsPage x.0 × (not (has_page s x.0) ≡ true)) × (x ≡ put s x.0)) (FitsPool s)
    (agrees_part (ruled (bytes_at 4096) (λ page. not (has_page s page))) (λ bs. bs)
    (λ bs. IsPage bs × (not (has_page s bs) ≡ true)) (λ page. done (put s page)) (λ page x. [])
    (λ page x. x ≡ put s page)
    (agrees_tested (bytes_at 4096) (λ bs. bs) IsPage (λ page. not (has_page s page)) _ (agrees_bytes 4096))
    (λ page _. agrees_done (put s page)) (λ x. x.0) (λ page x _ e. ap (λ (y : List ℕ × Pages). y.0) e))
    (λ x h. (
      record { page = h.0.0; new = not_true _ h.0.1; next = ap (λ (y : List ℕ × Pages). y.1) h.1 },
      append-nil x.0,
    ))
    (λ x h. ((h.page, ap not h.new), ap (with x.0) h.next))

pub pool_are : (pages s t : Pages) → IsOnce s → Chained FitsPool s pages t → IsOnce (s ++ pages) × (t ≡ s ++ pages)
    × AllByRecursion IsPage pages
pool_are [] s t once h = (subst IsOnce (sym (append-nil s)) once, h ∙ sym (append-nil s), tt)
pool_are (p ∷ pages) s t once h =
    let next = subst (λ (m : Pages). Chained FitsPool m pages t) h.1.next h.2 in
    let rest = pool_are pages (s ++ p ∷ []) t (once_push s p once h.1.new) next in
    let e = append_assoc s (p ∷ []) pages in
    (subst IsOnce e rest.0, rest.1 ∙ e, (h.1.page, rest.2))

pub pool_again : (pages s : Pages) → IsOnce (s ++ pages) → AllByRecursion IsPage pages
    → Chained FitsPool s pages (s ++ pages)
pool_again [] s once all = append-nil s
pool_again (p ∷ pages) s once all =
    let i : index_in (s ++ p ∷ pages) p ≡ length s = ap (index_in (s ++ p ∷ pages)) (sym (at_end s pages p))
    ∙ once (length s) (omega (arith, length-append s (p ∷ pages))) in
    let new : has_page s p ≡ false = has_in_front s (p ∷ pages) p ∙ le-ltb _ _ (omega (arith, i)) in
    let e = append_assoc s (p ∷ []) pages in
    let rest = pool_again pages (s ++ p ∷ []) (subst IsOnce (sym e) once) all.1 in (
      s ++ p ∷ [],
      record { page = all.0; new = new; next = refl },
      subst
          (λ (t : Pages). Chained FitsPool (s ++ p ∷ []) pages t) e rest,
    )

-- ---- the pool and the records

abbrev pub Shelf : Type 0
Shelf = Pages × List Record × RecordState

abbrev pub shelf : Pages → List Record × RecordState → Shelf
shelf pool x = (pool, x.0, x.1)

abbrev pub opening : RecordState
opening = record { earlier = []; used = 0 }

abbrev pub Recorded : Setup → ℕ → Pages → Shelf → Type 0
Recorded setup n pool x = ((length x.1 ≡ n) × Chained (FitsRecord (map_of setup) setup.fuel pool) opening x.1 x.2)
    × (x ≡ shelf pool (x.1, x.2))

abbrev pub Pooled : Setup → ℕ → ℕ → Shelf → Type 0
Pooled setup n count x = (y : Pages × Pages) × ((length y.0 ≡ count) × Chained FitsPool [] y.0 y.1)
    × Recorded setup n y.0 x

abbrev pub RawShelf : Setup → ℕ → Shelf → Type 0
RawShelf setup n x = (length x.0 < 2 ^ 32) × Pooled setup n (length x.0) x

abbrev pub pages_bytes : Pages → List ℕ
pages_bytes pool = flat_map (λ (page : List ℕ). page) pool

abbrev pub records_bytes : Setup → Shelf → List ℕ
records_bytes setup x = flat_map (record_bytes (map_of setup) x.0) x.1

abbrev pub nothing_once : IsOnce []
nothing_once = λ i lt. absurd (omega arith)

pub is_pool : (y : Pages × Pages) (n : ℕ) → n < 2 ^ 32 → (length y.0 ≡ n) × Chained FitsPool [] y.0 y.1 → IsPool y.0
is_pool y n lt h = let k =
    pool_are y.0 [] y.1 nothing_once h.1 in record { once = k.0; pages = k.2; few = omega (arith, h.0, lt) }

agrees_records : (setup : Setup) (n : ℕ) (pool : Pages) → IsPageMap (map_of setup) → IsPool pool
    → Agrees (chain (record_at (map_of setup) setup.fuel pool) n opening >>= λ records. done (shelf pool records))
    (λ x. flat_map (record_bytes (map_of setup) pool) x.1 ++ []) (Recorded setup n pool)
agrees_records setup n pool is_map is_p =
    agrees_part (chain (record_at (map_of setup) setup.fuel pool) n opening)
    (λ y. flat_map (record_bytes (map_of setup) pool) y.0)
    (λ y. (length y.0 ≡ n) × Chained (FitsRecord (map_of setup) setup.fuel pool) opening y.0 y.1)
    (λ records. done (shelf pool records)) (λ y x. []) (λ y x. x ≡ shelf pool y)
    (agrees_chain (record_at (map_of setup) setup.fuel pool) (record_bytes (map_of setup) pool)
    (FitsRecord (map_of setup) setup.fuel pool)
    (λ s. agrees_record (map_of setup) setup.fuel pool s is_map is_p) n opening)
    (λ y _. agrees_done (shelf pool y)) (λ x. (x.1, x.2)) (λ y x _ e. ap (λ (z : Shelf). both z.1 z.2) e)
  where
    both : List Record → RecordState → List Record × RecordState
    both a b = (a, b)

agrees_pooled : (setup : Setup) (n count : ℕ) → count < 2 ^ 32 → IsPageMap (map_of setup)
    → Agrees (chain pool_page_at count [] >>= λ pool. chain
    (record_at (map_of setup) setup.fuel pool.0) n opening >>= λ records. done (shelf pool.0 records))
    (λ x. pages_bytes x.0 ++ records_bytes setup x) (Pooled setup n count)
agrees_pooled setup n count lt is_map =
    agrees_then (chain pool_page_at count []) (λ y. flat_map (λ page. page) y.0)
    (λ y. (length y.0 ≡ count) × Chained FitsPool [] y.0 y.1)
    (λ pool. chain (record_at (map_of setup) setup.fuel pool.0) n opening >>= λ records. done (shelf pool.0 records))
    (λ y x. flat_map (record_bytes (map_of setup) y.0) x.1 ++ []) (λ y x. Recorded setup n y.0 x)
    (λ x. pages_bytes x.0 ++ records_bytes setup x) (Pooled setup n count)
    (agrees_chain pool_page_at (λ page. page) FitsPool agrees_pool_page count [])
    (λ y f. agrees_records setup n y.0 is_map (is_pool y count lt f))
    (λ y x f g. (
      (y, f, g),
      let e : x.0 ≡ y.0 = ap (λ (z : Shelf). z.0) g.1 in ap (λ (l : List ℕ). pages_bytes y.0 ++ l)
          (append-nil (flat_map (record_bytes (map_of setup) y.0) x.1))
          ∙ ap (λ (pool : Pages). pages_bytes pool ++ flat_map (record_bytes (map_of setup) pool) x.1) (sym e),
    ))
    (λ x h. h)

pub agrees_shelf : (setup : Setup) (n : ℕ) → IsPageMap (map_of setup)
    → Agrees (pool_and_records_at setup n) (λ x. word (length x.0) ++ (pages_bytes x.0 ++ records_bytes setup x))
    (RawShelf setup n)
unfolding pool_and_records_at
agrees_shelf setup n is_map =
    agrees_part (number_at w32) word (λ k. k < 2 ^ 32)
    (λ count. chain pool_page_at count [] >>= λ pool. chain
    (record_at (map_of setup) setup.fuel pool.0) n opening >>= λ records. done (shelf pool.0 records))
    (λ count x. pages_bytes x.0 ++ records_bytes setup x) (λ count x. Pooled setup n count x)
    (agrees_number w32 (2 ^ 32) wide32) (λ count lt. agrees_pooled setup n count lt is_map)
    (λ x. length x.0) (λ count x _ h. ap (λ (z : Shelf). length z.0) h.2.1 ∙ h.1.0)
