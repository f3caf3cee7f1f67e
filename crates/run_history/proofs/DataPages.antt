-- Data pages, one after the other.
use Rattle.std.proofs.Common.{◌≡◌, ◌<◌, ◌+◌, ◌-◌, ℕ, suc, List, [], ◌∷◌, ◌++◌, refl, ap, sym, ◌∙◌, arith, append_assoc}
use Rattle.std.proofs.lemmas.List.{append-nil}
use Rattle.memory_spec.specs.Pages.{Mapped}
use Rattle.machine_spec.specs.Setup.{data_pages}

data_pages-suc : (number count : ℕ)
    → data_pages number (suc count) ≡ (record { number = number; permission = 6 }) ∷ data_pages (number + 1) count
unfolding data_pages
data_pages-suc number count = refl

pub data_pages-none : (number count : ℕ) → count ≡ 0 → data_pages number count ≡ []
unfolding data_pages
data_pages-none number count none = rw none refl

-- with one more page, one fewer is to come
pub data_pages-next :
    (pages : List Mapped) (page : Mapped) (number i count : ℕ)
    → i < count → page ≡ record { number = number + i; permission = 6 }
    → (pages ++ page ∷ []) ++ data_pages (number + (i + 1)) (count - (i + 1)) ≡ pages ++ data_pages (number + i)
    (count - i)
data_pages-next pages page number i count below is =
    let rest : count - i ≡ suc (count - (i + 1)) = omega arith in
    let later : number + (i + 1) ≡ number + i + 1 = omega arith in
    rw (rest, later, is, data_pages-suc (number + i) (count - (i + 1)), append_assoc) refl

-- if none is to come, those that are there are all
pub data_pages-done :
    (pages all : List Mapped) (number count : ℕ) → count ≡ 0 → pages ++ data_pages number count ≡ all → pages ≡ all
data_pages-done pages all number count none is =
    sym (append-nil pages) ∙ ap (λ rest. pages ++ rest) (sym (data_pages-none number count none)) ∙ is
