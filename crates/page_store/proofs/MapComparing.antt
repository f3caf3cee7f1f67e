-- Two lists of mapped pages are the same if they are the same page by page.
use Rattle.std.proofs.Common.{◌≡◌, Bool, List, subst, sym, Decides, arith}
use Rattle.std.proofs.lemmas.Bool.Decides.{nat_tests}
use Rattle.std.specs.Cmp.Lexicographic.{pointwise_decides}
use Rattle.memory_spec.specs.Pages.{Mapped}
use Rattle.page_store.specs.Equal.{is_same_page, is_same_map}

page_decides : (a b : Mapped) → Decides (is_same_page a b) (a ≡ b)
page_decides a b = (λ yes. grind (arith, nat_tests), λ same. grind (arith, nat_tests))

pub maps_decide : (answer : Bool) (a b : List Mapped) → answer ≡ is_same_map a b → Decides answer (a ≡ b)
maps_decide answer a b is = subst (λ r. Decides r (a ≡ b)) (sym is) (pointwise_decides page_decides a b)
