-- The place of the page of an address in a list of ascending pages.
use Rattle.std.proofs.Common.{◌≡◌, ℕ, ◌/◌, ◌<◌, ◌≤◌, zero, suc, true, false, ◌==◌, cond, nat_lt, List, [], ◌∷◌, length, get_or, refl, ap, arith}
use Rattle.std.proofs.lemmas.Bool.{and_parts}
use Rattle.std.proofs.lemmas.Bool.Decides.{nat_tests}
use Rattle.memory_spec.specs.Pages.{Mapped, slot_of, ascends_above, unmapped}

-- the number of the page in a slot
abbrev pub number_in_slot : List Mapped → ℕ → ℕ
number_in_slot pages k = (get_or pages k unmapped).number

-- the slot depends on the page's number alone
pub slot_of-page : (pages : List Mapped) (a b : ℕ) → a / 4096 ≡ b / 4096 → slot_of pages a ≡ slot_of pages b
slot_of-page [] a b same = refl
slot_of-page (p ∷ ps) a b same = rw (same, slot_of-page ps a b same) refl

pub slot_of-length : (pages : List Mapped) (address : ℕ) → slot_of pages address ≤ length pages
slot_of-length [] address = omega arith
slot_of-length (p ∷ ps) address =
    elim (p.number == address / 4096) as (λ b. cond b 0 (suc (slot_of ps address)) ≤ suc (length ps))
    [ true ↦ omega arith | false ↦ omega (arith, slot_of-length ps address) ]

tested : (a b : ℕ) → (a == b) ≡ true → a ≡ b
tested a b is = grind (arith, nat_tests)

below_from : (a b : ℕ) → nat_lt a b ≡ true → a < b
below_from a b is = grind (arith, nat_tests)

-- the page in an address's slot has the address's number
pub number-slot_of :
    (pages : List Mapped) (address : ℕ) → slot_of pages address < length pages
    → number_in_slot pages (slot_of pages address) ≡ address / 4096
number-slot_of [] address lt = absurd (omega arith)
number-slot_of (p ∷ ps) address lt =
    elim (p.number == address / 4096)
    as (λ b.
    (p.number == address / 4096) ≡ b
    → cond b 0 (suc (slot_of ps address)) < suc (length ps)
    → number_in_slot (p ∷ ps) (cond b 0 (suc (slot_of ps address))) ≡ address / 4096) [
      | true ↦ λ is _. tested p.number (address / 4096) is
      | false ↦ λ is within. number-slot_of ps address (omega arith)
    ] refl lt

-- each page is above the bound
above :
    (low : ℕ) (pages : List Mapped) (k : ℕ) → ascends_above low pages ≡ true → k < length pages
    → low < number_in_slot pages k
above low [] k asc lt = absurd (omega arith)
above low (p ∷ ps) zero asc lt =
    below_from low p.number (and_parts (nat_lt low p.number) (ascends_above p.number ps) asc).0
above low (p ∷ ps) (suc k) asc lt =
    let parts = and_parts (nat_lt low p.number) (ascends_above p.number ps) asc in
    omega (arith, below_from low p.number parts.0, above p.number ps k parts.1 (omega arith))

-- the numbers of the pages ascend
pub ascending :
    (low : ℕ) (pages : List Mapped) (i j : ℕ) → ascends_above low pages ≡ true → i < j → j < length pages
    → number_in_slot pages i < number_in_slot pages j
ascending low [] i j asc lt within = absurd (omega arith)
ascending low (p ∷ ps) zero zero asc lt within = absurd (omega arith)
ascending low (p ∷ ps) zero (suc j) asc lt within =
    above p.number ps j (and_parts (nat_lt low p.number) (ascends_above p.number ps) asc).1 (omega arith)
ascending low (p ∷ ps) (suc i) zero asc lt within = absurd (omega arith)
ascending low (p ∷ ps) (suc i) (suc j) asc lt within =
    ascending p.number ps i j (and_parts (nat_lt low p.number) (ascends_above p.number ps) asc).1 (omega arith)
    (omega arith)

-- the first page that has an address's number comes no later than another one
first :
    (pages : List Mapped) (k address : ℕ) → number_in_slot pages k ≡ address / 4096 → k < length pages
    → slot_of pages address ≤ k
first [] k address is lt = absurd (omega arith)
first (p ∷ ps) zero address is lt =
    elim (p.number == address / 4096)
    as (λ b. (p.number == address / 4096) ≡ b → cond b 0 (suc (slot_of ps address)) ≤ 0)
    [ true ↦ λ _. omega arith | false ↦ λ other. absurd (grind (arith, nat_tests)) ] refl
first (p ∷ ps) (suc k) address is lt =
    elim (p.number == address / 4096) as (λ b. cond b 0 (suc (slot_of ps address)) ≤ suc k)
    [ true ↦ omega arith | false ↦ omega (arith, first ps k address is (omega arith)) ]

same : (pages : List Mapped) (i j : ℕ) → i ≡ j → number_in_slot pages i ≡ number_in_slot pages j
same pages i j is = ap (number_in_slot pages) is

-- two pages with the numbers in this order are in this order
ordered :
    (pages : List Mapped) (i j : ℕ) → ascends_above 0 pages ≡ true → i < length pages
    → number_in_slot pages i < number_in_slot pages j
    → i < j
ordered pages i j asc lt below =
    let after : j < i → number_in_slot pages j < number_in_slot pages i = λ less. ascending 0 pages j i asc less lt in
    let equal : j ≡ i → number_in_slot pages j ≡ number_in_slot pages i = same pages j i in
    grind arith

-- the slot of an address whose number a page has is that page's
pub slot_of-at :
    (pages : List Mapped) (k address : ℕ) → ascends_above 0 pages ≡ true → k < length pages
    → number_in_slot pages k ≡ address / 4096
    → slot_of pages address ≡ k
slot_of-at pages k address asc lt is =
    let le = first pages k address is lt in
    let number : slot_of pages address < length pages → number_in_slot pages (slot_of pages address) ≡ address / 4096 =
    number-slot_of pages address in
    let before : slot_of pages address < k → number_in_slot pages (slot_of pages address) < number_in_slot pages k =
    λ less. ascending 0 pages (slot_of pages address) k asc less lt in
    grind arith

-- an address above a page is in a later slot, if in any
pub slot_of-later :
    (pages : List Mapped) (k address : ℕ) → ascends_above 0 pages ≡ true → k < length pages
    → number_in_slot pages k < address / 4096
    → k < slot_of pages address
slot_of-later pages k address asc lt below =
    let number : slot_of pages address < length pages → number_in_slot pages (slot_of pages address) ≡ address / 4096 =
    number-slot_of pages address in
    let order : number_in_slot pages k < number_in_slot pages (slot_of pages address) → k < slot_of pages address =
    ordered pages k (slot_of pages address) asc lt in
    grind arith

-- an address below a page is in an earlier slot, or in none
pub slot_of-earlier :
    (pages : List Mapped) (k address : ℕ) → ascends_above 0 pages ≡ true → address / 4096 < number_in_slot pages k
    → slot_of pages address < length pages → slot_of pages address < k
slot_of-earlier pages k address asc over mapped =
    ordered pages (slot_of pages address) k asc mapped (omega (arith, number-slot_of pages address mapped))
