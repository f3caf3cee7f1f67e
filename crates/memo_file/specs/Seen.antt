-- Which pages of a pool were seen.
use Rattle.std.specs.Prelude.{◌≡◌, ℕ, List, is_some}
use Rattle.std.specs.Ordering.{nat_cmp}
use Rattle.std.specs.BTreeMap.{BTreeMap, get_by}
use Rattle.std.specs.Borrow.{Bor}
use Rattle.std.specs.Cmp.Lexicographic.{slice_cmp}
use Rattle.memo_spec.specs.Encoding.{has_page}

-- A map has exactly the pages of a pool.
abbrev pub Knows : {X : Type 0} → BTreeMap (Bor (List ℕ)) X → List (List ℕ) → Type 0
Knows seen pool = (q : List ℕ) → is_some (get_by (λ k. slice_cmp nat_cmp q k.now) seen) ≡ has_page pool q
