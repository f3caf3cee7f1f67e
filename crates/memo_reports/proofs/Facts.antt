-- The facts of a history's records: the pages that they write.
use Rattle.std.proofs.Common.{◌≡◌, ◌<◌, ◌+◌, ℕ, zero, suc, Bool, true, false, ◌&&◌, ltb, cond, List, [], ◌∷◌, All, length, map, get_or, Some, is_none, refl, ap, ap₂, sym, ◌∙◌, subst, arith}
use Rattle.std.specs.List.{AllByRecursion, slice_get}
use Rattle.std.proofs.lemmas.Bool.{and_parts, ltb-true}
use Rattle.memory_spec.specs.Pages.{Mapped, ascends_above}
use Rattle.thunk_spec.specs.Record.{Record}
use Rattle.machine_spec.specs.Machine.{Machine}
use Rattle.machine_spec.specs.Setup.{first}
use Rattle.machine_spec.specs.Step.{apply, fits}
use Rattle.history_spec.specs.History.{History}
use Rattle.history_spec.specs.Facts.{Fact, fact_of, bare_fact, facts_from, facts, reads_in, read_slots, written_slots}
use Rattle.history_spec.specs.Before.{fact_at, no_fact}
use Rattle.round_spec.specs.Reach.{read_at, reads_of}

-- what the fact and the record of a step have in common
module _ {X : Type 0} (g : Fact → X) (k : Record → X) (reads : ℕ → ℕ → List ℕ)
    (full : (m : Machine) (r : Record) → g (fact_of reads m r) ≡ k r)
    (bare : (r : Record) → g (bare_fact r) ≡ k r) where
  bare-keep : (rs : List Record) → map g (map bare_fact rs) ≡ map k rs
  bare-keep [] = refl
  bare-keep (r ∷ rs) = ap₂ (λ (x : X) (xs : List X). x ∷ xs) (bare r) (bare-keep rs)

  pub facts-keep : (m : Machine) (rs : List Record) → map g (facts_from reads m rs) ≡ map k rs
  facts-keep m [] = refl
  facts-keep m (r ∷ rs) = here (facts-keep (apply m r) rs) (is_none m.ending && fits m r)
    where
      here :
          map g (facts_from reads (apply m r) rs) ≡ map k rs → (b : Bool)
          → map g (cond b (fact_of reads m r ∷ facts_from reads (apply m r) rs) (map bare_fact (r ∷ rs)))
          ≡ k r ∷ map k rs
      here rest true = ap₂ (λ (x : X) (xs : List X). x ∷ xs) (full m r) rest
      here rest false = bare-keep (r ∷ rs)

pub fact-writes : (h : History) → map (λ (f : Fact). f.written) (facts h) ≡ map written_slots h.records
fact-writes h =
    facts-keep (λ (f : Fact). f.written) written_slots (reads_in h.records) (λ m r. refl) (λ r. refl)
    (first h.setup) h.records

-- what is at a place
pub get-is : {A : Type 0} (xs : List A) (i : ℕ) (x d : A) → slice_get xs i ≡ Some x → get_or xs i d ≡ x
get-is [] i x d at = cc
get-is (y ∷ xs) zero x d at = cc
get-is (y ∷ xs) (suc i) x d at = get-is xs i x d at

pub get-below : {A : Type 0} (xs : List A) (i : ℕ) (x : A) → slice_get xs i ≡ Some x → i < length xs
get-below [] i x at = cc
get-below (y ∷ xs) zero x at = omega arith
get-below (y ∷ xs) (suc i) x at = let rest = get-below xs i x at in omega arith

pub get-mapped :
    {A X : Type 0} (k : A → X) (xs : List A) (i : ℕ) (x : A) (d : X) → slice_get xs i ≡ Some x
    → get_or (map k xs) i d ≡ k x
get-mapped k [] i x d at = cc
get-mapped k (y ∷ xs) zero x d at = ap k (get-is (y ∷ xs) 0 x y at)
get-mapped k (y ∷ xs) (suc i) x d at = get-mapped k xs i x d at

map-get : {A X : Type 0} (k : A → X) (xs : List A) (i : ℕ) (d : A) → get_or (map k xs) i (k d) ≡ k (get_or xs i d)
map-get k [] i d = refl
map-get k (y ∷ xs) zero d = refl
map-get k (y ∷ xs) (suc i) d = map-get k xs i d

pub fact-written : (h : History) (i : ℕ) (r : Record) → slice_get h.records i ≡ Some r → (fact_at (facts h) i).written ≡ written_slots r
fact-written h i r at =
    sym (map-get (λ (f : Fact). f.written) (facts h) i no_fact)
    ∙ ap (λ (xs : List (List ℕ)). get_or xs i []) (fact-writes h)
    ∙ get-mapped written_slots h.records i r [] at

pub read-at : (h : History) (i : ℕ) (r : Record) → slice_get h.records i ≡ Some r → read_at (reads_of h) i ≡ read_slots r
read-at h i r at = get-mapped read_slots h.records i r [] at

pub all-get :
    {A : Type 0} (P : A → Type 0) (xs : List A) (i : ℕ) (x : A) → All P xs → slice_get xs i ≡ Some x → P x
all-get P xs i x all at = subst P (get-is xs i x x at) (all i x (get-below xs i x at))

-- the pages of a setup are few
pub pages-few :
    (low most : ℕ) (ps : List Mapped)
    → low < most → ascends_above low ps ≡ true → AllByRecursion (λ (p : Mapped). p.number < most) ps
    → low + length ps < most
pages-few low most [] below asc small = omega arith
pages-few low most (p ∷ ps) below asc small =
    let parts = and_parts (ltb low p.number) (ascends_above p.number ps) asc in
    let above : low < p.number = ltb-true low p.number parts.0 in
    let rest = pages-few p.number most ps small.0 parts.1 small.1 in
    omega arith
