-- Whether two mapped pages, and two page maps, are the same.
use Rattle.std.specs.Prelude.{Bool, ◌==◌, List}
use Rattle.std.specs.Cmp.{IsEquivalence, and_equiv, on_equiv, nat_eq_equiv}
use Rattle.std.specs.Cmp.Lexicographic.{pointwise, lists_equiv}
use Rattle.std.specs.Ordering.{eq_of_both, on}
use Rattle.memory_spec.specs.Pages.{Mapped}

-- Two mapped pages have the same number, and permit the same.
abbrev pub is_same_page : Mapped → Mapped → Bool
is_same_page = eq_of_both (on (λ page. page.number) ◌==◌) (on (λ page. page.permission) ◌==◌)

-- Two page maps have the same pages.
abbrev pub is_same_map : List Mapped → List Mapped → Bool
is_same_map = pointwise is_same_page

pub is_same_page-equiv : IsEquivalence is_same_page
is_same_page-equiv =
    and_equiv (on_equiv (λ page. page.number) nat_eq_equiv) (on_equiv (λ page. page.permission) nat_eq_equiv)

pub is_same_map-equiv : IsEquivalence is_same_map
is_same_map-equiv = lists_equiv is_same_page-equiv
