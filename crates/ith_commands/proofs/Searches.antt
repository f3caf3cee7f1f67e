-- What a search of more entries finds determines what a search of fewer finds.
use Rattle.std.proofs.Common.{◌≡◌, ◌<◌, ◌≤◌, ℕ, zero, suc, Bool, true, false, cond, List, Some, None, slice_get, refl, ap, sym, ◌∙◌, subst, inl, inr, arith}
use Rattle.std.proofs.lemmas.Bool.{cases_lt}
use Rattle.thunk_spec.specs.Record.{Record}
use Rattle.round_report.specs.Storing.{stores, last_store}

-- a search that finds nothing among some entries finds nothing among the first of them
pub none-within :
    (records : List Record) (slot place c count : ℕ) → last_store records c slot place ≡ None → count ≤ c
    → last_store records count slot place ≡ None
none-within records slot place zero count none few =
    subst (λ (n : ℕ). last_store records n slot place ≡ None) (let same : 0 ≡ count = omega arith in same) none
none-within records slot place (suc c) count none few =
    elim (cases_lt c count) [
      | inl all ↦
          subst (λ (n : ℕ). last_store records n slot place ≡ None) (let same : suc c ≡ count = omega arith in same) none
      | inr less ↦
          by (stores slot place (slice_get records c)) refl
          (λ rest. none-within records slot place c count rest (omega arith))
    ]
  where
    by :
        (b : Bool) → stores slot place (slice_get records c) ≡ b
        → (last_store records c slot place ≡ None → last_store records count slot place ≡ None)
        → last_store records count slot place ≡ None
    by true is more =
        let no : Some c ≡ None =
        sym (ap (λ (b : Bool). cond b (Some c) (last_store records c slot place)) is) ∙ none in
        cc no
    by false is more =
        more (sym (ap (λ (b : Bool). cond b (Some c) (last_store records c slot place)) is) ∙ none)

pub some-within :
    (records : List Record) (slot place c count j : ℕ) → last_store records c slot place ≡ Some j → j < count
    → count ≤ c
    → last_store records count slot place ≡ Some j
some-within records slot place zero count j some less few = cc some
some-within records slot place (suc c) count j some less few =
    elim (cases_lt c count) [
      | inl all ↦
          subst (λ (n : ℕ). last_store records n slot place ≡ Some j) (let same : suc c ≡ count = omega arith in same) some
      | inr fewer ↦
          by (stores slot place (slice_get records c)) refl
          (λ rest. some-within records slot place c count j rest less (omega arith)) (omega arith)
    ]
  where
    same-some : (a b : ℕ) → Some a ≡ Some b → a ≡ b
    same-some a b e = cc

    by :
        (b : Bool) → stores slot place (slice_get records c) ≡ b
        → (last_store records c slot place ≡ Some j → last_store records count slot place ≡ Some j) → count ≤ c
        → last_store records count slot place ≡ Some j
    by true is more under =
        let same : c ≡ j =
        same-some c j (sym (ap (λ (b : Bool). cond b (Some c) (last_store records c slot place)) is) ∙ some) in
        absurd (omega arith)
    by false is more under =
        more (sym (ap (λ (b : Bool). cond b (Some c) (last_store records c slot place)) is) ∙ some)
