-- Lists of pages, compared slot by slot.
use Rattle.std.proofs.Common.{◌≡◌, ◌+◌, ◌<◌, ◌≤◌, ℕ, Bool, true, false, not, List, [], ◌∷◌, ◌++◌, length, take, refl, ap, sym, true≢false, ◌∙◌, arith, Decides}
use Rattle.std.proofs.lemmas.List.{take_more, take_all}
use Rattle.std.proofs.lemmas.Slice.Eq.{bytes_eq-Decides}
use Rattle.std.specs.Bool.{one_answer}
use Rattle.std.specs.Cmp.Lexicographic.{pointwise, pointwise_decides}
use Rattle.std.specs.Str.{bytes_eq}
use Rattle.memory_spec.specs.Pages.{Memory, page_of}

-- whether two lists of pages are the same is decided by a comparison page by page
pub compared : (answer : Bool) (a b : Memory) → Decides answer (a ≡ b) → answer ≡ pointwise bytes_eq a b
compared answer a b decides =
    one_answer answer (pointwise bytes_eq a b) decides (pointwise_decides bytes_eq-Decides a b)

opposite : (b c : Bool) → not b ≡ c → b ≡ not c
opposite true c is = ap not is
opposite false c is = ap not is

-- pages that don't differ are the same
pub same_page :
    (a b : Memory) (slot : ℕ) (p q : List ℕ) → p ≡ page_of a slot → q ≡ page_of b slot → not (bytes_eq p q) ≡ false
    → page_of a slot ≡ page_of b slot
same_page a b slot p q in_a in_b equal =
    sym in_a ∙ (bytes_eq-Decides p q).0 (opposite (bytes_eq p q) false equal) ∙ in_b

-- one page that differs is enough
pub differ :
    (a b : Memory) (slot : ℕ) (p q : List ℕ) → p ≡ page_of a slot → q ≡ page_of b slot → not (bytes_eq p q) ≡ true
    → Decides false (a ≡ b)
differ a b slot p q in_a in_b other = (
  λ never. absurd (true≢false (sym never)),
  λ same. sym (opposite (bytes_eq p q) true other)
      ∙ (bytes_eq-Decides p q).1 (in_a ∙ ap (λ m. page_of m slot) same ∙ sym in_b),
)

-- one more page is the same
pub same-more :
    (a b : Memory) (slot : ℕ) → slot < length a → slot < length b
    → take slot a ≡ take slot b → page_of a slot ≡ page_of b slot → take (slot + 1) a ≡ take (slot + 1) b
same-more a b slot in_a in_b before page =
    rw (take_more a slot [] in_a, take_more b slot [] in_b, before) (ap (λ p. take slot b ++ p ∷ []) page)

-- all pages are the same
pub all_same :
    (a b : Memory) (slot : ℕ) → length a ≤ slot → length a ≡ length b → take slot a ≡ take slot b
    → Decides true (a ≡ b)
all_same a b slot past long same =
    (λ h. sym (take_all slot a past) ∙ same ∙ take_all slot b (omega arith), λ is. refl)
