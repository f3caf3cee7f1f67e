-- The groups of a shelf, and those that are shared from it.
use Rattle.std.proofs.Common.{◌≡◌, List, length, map, ap, sym, subst, ◌∙◌}
use Rattle.page_store.specs.Groups.{joined, AreGroupsOf}

-- These lists are groups of eight.
pub record AreGrouped {X Y : Type 0} (f : Y → List X) (now : List X) (items : List Y) : Type 0 where
  pub grouped : AreGroupsOf 8 (length now) (map f items)
  pub pages : joined (map f items) ≡ now

-- groups that are the same as grouped ones are groups of the same list
pub shared_groups :
    {X Y : Type 0} (f : Y → List X) (own items : List Y) (now : List X)
    → map f items ≡ map f own → AreGroupsOf 8 (length (joined (map f own))) (map f own) → joined (map f own) ≡ now
    → AreGrouped f now items
shared_groups f own items now shared is view = record {
  grouped =
      subst (λ k. AreGroupsOf 8 k (map f items)) (ap length view)
      (subst (AreGroupsOf 8 (length (joined (map f own)))) (sym shared) is);
  pages = ap joined shared ∙ view;
}
