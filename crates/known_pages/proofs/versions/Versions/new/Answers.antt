-- Answers to the goals that the check of `Versions::new` leaves open.
use Rattle.std.proofs.Common.{◌≡◌, ◌+◌, ℕ, List, replicate, Option, Some, None, ap, sym, ◌∙◌, arith, rules}
use Rattle.std.specs.List.{slice_get}
use Rattle.known_pages.proofs.Entries.{get-replicate}
use Rattle.known_pages.proofs.versions.Versions.new.Goals as goal

never-known :
    (n : ℕ) (pages : List (Option ℕ)) → pages ≡ replicate n None
    → (p x : ℕ) → slice_get pages p ≡ Some (Some x) → ⊥
never-known n pages is p x at =
    let none : Some x ≡ None = get-replicate n p None (Some x) (ap (λ l. slice_get l p) (sym is) ∙ at) in cc

pub returns-clause-fresh : goal.returns-clause-fresh
returns-clause-fresh c =
    record {
      written = λ p x at.
          omega (
            arith,
            get-replicate c.args.pages p (c.args.now + 1) x
                (ap (λ (l : List ℕ). slice_get l p) (sym c.in_ok-new.ensures.written) ∙ at),
          );
      viewed = c.in_ok-new.ensures.viewed;
      pages = never-known c.args.pages c.in_ok-vec.field-0.items
          (c.in_ok-vec.ensures.items_if_clones_equal (search rules));
    }
