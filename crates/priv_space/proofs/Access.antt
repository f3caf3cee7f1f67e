-- An aligned access stays inside one page.
use Rattle.std.proofs.Common.{◌≡◌, ℕ, ◌+◌, ◌%◌, ◌<◌, true, List, [], zero, suc, length, get_or, set, ap, sym, ◌∙◌, arith}
use Rattle.std.proofs.lemmas.List.{get_or-set_same, set-set, set-get_or}
use Rattle.memory_spec.specs.declared.Size.{Size}
use Rattle.memory_spec.specs.declared.Size.TheVariants.{One, Two, Four}
use Rattle.memory_spec.specs.Pages.{Mapped, Memory, slot_of, page_of}
use Rattle.memory_spec.specs.Stores.{with_byte, with_stores}
use Rattle.memory_spec.specs.Access.{byte_count, bytes_stored}
use Rattle.memory_spec.specs.Workspace.{Masks, mask_of, with_mark, marked}
use Rattle.page_store.proofs.Slots.{slot_of-page}
use Rattle.priv_space.specs.Written.{byte_of, with_number, with_marks}

-- One element is put at an address, into the page that has it.
abbrev put : {A : Type 0} → List Mapped → List (List A) → ℕ → A → List (List A)
put map m address a = set m (slot_of map address) (set (get_or m (slot_of map address) []) (address % 4096) a)

-- Numbers 0 to n are put from an address on, and into a page from an offset on.
abbrev puts : {A : Type 0} → List Mapped → List (List A) → ℕ → (ℕ → A) → ℕ → List (List A)
puts map m address f zero = put map m (address + 0) (f 0)
puts map m address f (suc n) = put map (puts map m address f n) (address + suc n) (f (suc n))

abbrev fills : {A : Type 0} → List A → ℕ → (ℕ → A) → ℕ → List A
fills page offset f zero = set page offset (f 0)
fills page offset f (suc n) = set (fills page offset f n) (offset + suc n) (f (suc n))

-- one more into a page
put_more :
    {A : Type 0} (map : List Mapped) (m : List (List A)) (p : List A) (s o address : ℕ) (a : A)
    → slot_of map address ≡ s → address % 4096 ≡ o → s < length m
    → put map (set m s p) address a ≡ set m s (set p o a)
put_more map m p s o address a slot offset lt =
    ap (λ k. set (set m s p) k (set (get_or (set m s p) k []) (address % 4096) a)) slot
    ∙ ap (λ k. set (set m s p) s (set (get_or (set m s p) s []) k a)) offset
    ∙ ap (λ page. set (set m s p) s (set page o a)) (get_or-set_same m s p [] lt)
    ∙ set-set m s p (set p o a)

-- what stays below the page's end is put into that page alone
puts-page :
    {A : Type 0} (map : List Mapped) (m : List (List A)) (address : ℕ) (f : ℕ → A) (n : ℕ)
    → address % 4096 + n < 4096 → slot_of map address < length m
    → puts map m address f n
    ≡ set m (slot_of map address) (fills (get_or m (slot_of map address) []) (address % 4096) f n)
puts-page map m address f zero inside lt =
    let same : address + 0 ≡ address = omega arith in
    let p = get_or m (slot_of map address) [] in
    ap (λ start. put map start (address + 0) (f 0)) (sym (set-get_or m (slot_of map address) []))
    ∙ put_more map m p (slot_of map address) (address % 4096) (address + 0) (f 0) (ap (slot_of map) same)
    (ap (λ a. a % 4096) same) lt
puts-page map m address f (suc n) inside lt =
    let p = fills (get_or m (slot_of map address) []) (address % 4096) f n in
    ap (λ start. put map start (address + suc n) (f (suc n))) (puts-page map m address f n (omega arith) lt)
    ∙ put_more map m p (slot_of map address) (address % 4096 + suc n) (address + suc n) (f (suc n))
    (slot_of-page map (address + suc n) address (omega arith)) (omega arith) lt

-- an aligned store writes into its page alone
pub with_stores-access :
    (map : List Mapped) (m : Memory) (address : ℕ) (size : Size) (value : ℕ)
    → address % byte_count size ≡ 0 → slot_of map address < length m
    → with_stores map m (bytes_stored address size value)
    ≡ set m (slot_of map address) (with_number (page_of m (slot_of map address)) (address % 4096) size value)
unfolding with_byte bytes_stored with_number
with_stores-access map m address One value h lt = puts-page map m address (byte_of value) 0 (omega arith) lt
with_stores-access map m address Two value h lt = puts-page map m address (byte_of value) 1 (omega arith) lt
with_stores-access map m address Four value h lt = puts-page map m address (byte_of value) 3 (omega arith) lt

-- and marks in its page's mask alone
pub marked-access :
    (map : List Mapped) (m : Masks) (address : ℕ) (size : Size) (value : ℕ)
    → address % byte_count size ≡ 0 → slot_of map address < length m
    → marked map m (bytes_stored address size value)
    ≡ set m (slot_of map address) (with_marks (mask_of m (slot_of map address)) (address % 4096) size)
unfolding with_mark bytes_stored with_marks
marked-access map m address One value h lt = puts-page map m address (λ k. true) 0 (omega arith) lt
marked-access map m address Two value h lt = puts-page map m address (λ k. true) 1 (omega arith) lt
marked-access map m address Four value h lt = puts-page map m address (λ k. true) 3 (omega arith) lt
