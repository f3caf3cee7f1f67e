-- A store stays inside the page of its address.
use Rattle.std.proofs.Common.{◌≡◌, ℕ, ◌+◌, ◌/◌, ◌%◌, ◌<◌, ◌≤◌, List, [], length, set, ap, sym, ◌∙◌, arith}
use Rattle.std.proofs.lemmas.List.{get_or-set_same, set-set, set-get_or}
use Rattle.memory_spec.specs.declared.Size.{Size}
use Rattle.memory_spec.specs.declared.Size.TheVariants.{One, Two, Four}
use Rattle.memory_spec.specs.Pages.{Mapped, Memory, slot_of, page_of}
use Rattle.memory_spec.specs.Stores.{with_byte, with_stores}
use Rattle.memory_spec.specs.Access.{byte_count, byte_stored, bytes_stored}
use Rattle.plain_machine.specs.Stored.{byte_of, with_number}
use Rattle.plain_machine.proofs.Fetching.{slot_of-same}
use Rattle.plain_machine.proofs.Laying.{unmapped_byte}

-- one more byte into a page
byte_more :
    (map : List Mapped) (m : Memory) (p : List ℕ) (s o a v : ℕ)
    → slot_of map a ≡ s → a % 4096 ≡ o → s < length m
    → with_byte map (set m s p) (record { address = a; byte = v }) ≡ set m s (set p o v)
unfolding with_byte
byte_more map m p s o a v slot offset lt =
    ap (λ k. set (set m s p) k (set (page_of (set m s p) k) (a % 4096) v)) slot
    ∙ ap (λ k. set (set m s p) s (set (page_of (set m s p) s) k v)) offset
    ∙ ap (λ page. set (set m s p) s (set page o v)) (get_or-set_same m s p [] lt)
    ∙ set-set m s p (set p o v)

-- a store into a page that is mapped changes that page alone
pub with_stores_in_page :
    (map : List Mapped) (m : Memory) (address : ℕ) (size : Size) (value : ℕ)
    → address % byte_count size ≡ 0 → slot_of map address < length m
    → with_stores map m (bytes_stored address size value)
    ≡ set m (slot_of map address) (with_number (page_of m (slot_of map address)) (address % 4096) size value)
unfolding bytes_stored with_number
with_stores_in_page map m address One value h lt =
    let s = slot_of map address in
    let p = page_of m s in
    let o = address % 4096 in
    let zero_more : address + 0 ≡ address = omega arith in
    ap (λ start. with_byte map start (byte_stored address value 0)) (sym (set-get_or m s []))
    ∙ byte_more map m p s o (address + 0) (byte_of value 0) (ap (slot_of map) zero_more) (omega arith) lt
with_stores_in_page map m address Two value h lt =
    let s = slot_of map address in
    let p = page_of m s in
    let o = address % 4096 in
    let zero_more : address + 0 ≡ address = omega arith in
    let p0 = set p o (byte_of value 0) in
    ap (λ start. with_byte map (with_byte map start (byte_stored address value 0)) (byte_stored address value 1))
    (sym (set-get_or m s []))
    ∙ ap (λ start. with_byte map start (byte_stored address value 1))
    (byte_more map m p s o (address + 0) (byte_of value 0) (ap (slot_of map) zero_more) (omega arith) lt)
    ∙ byte_more map m p0 s (o + 1) (address + 1) (byte_of value 1)
    (slot_of-same map (address + 1) address (omega arith)) (omega arith) lt
with_stores_in_page map m address Four value h lt =
    let s = slot_of map address in
    let p = page_of m s in
    let o = address % 4096 in
    let zero_more : address + 0 ≡ address = omega arith in
    let p0 = set p o (byte_of value 0) in
    let p1 = set p0 (o + 1) (byte_of value 1) in
    let p2 = set p1 (o + 2) (byte_of value 2) in
    ap (λ start. with_byte map
    (with_byte map (with_byte map (with_byte map start (byte_stored address value 0)) (byte_stored address value 1))
    (byte_stored address value 2)) (byte_stored address value 3)) (sym (set-get_or m s []))
    ∙ ap (λ start. with_byte map
    (with_byte map (with_byte map start (byte_stored address value 1)) (byte_stored address value 2))
    (byte_stored address value 3))
    (byte_more map m p s o (address + 0) (byte_of value 0) (ap (slot_of map) zero_more) (omega arith) lt)
    ∙ ap (λ start. with_byte map (with_byte map start (byte_stored address value 2)) (byte_stored address value 3))
    (byte_more map m p0 s (o + 1) (address + 1) (byte_of value 1)
    (slot_of-same map (address + 1) address (omega arith)) (omega arith) lt)
    ∙ ap (λ start. with_byte map start (byte_stored address value 3))
    (byte_more map m p1 s (o + 2) (address + 2) (byte_of value 2)
    (slot_of-same map (address + 2) address (omega arith)) (omega arith) lt)
    ∙ byte_more map m p2 s (o + 3) (address + 3) (byte_of value 3)
    (slot_of-same map (address + 3) address (omega arith)) (omega arith) lt

-- a byte of a store into a page that isn't mapped changes nothing
byte_nowhere :
    (map : List Mapped) (m : Memory) (address value k : ℕ)
    → length m ≤ slot_of map address → (address + k) / 4096 ≡ address / 4096
    → with_byte map m (byte_stored address value k) ≡ m
byte_nowhere map m address value k past same =
    let slot = slot_of-same map (address + k) address same in
    unmapped_byte map m (byte_stored address value k) (omega (arith, slot, past))

-- and neither does the store
pub with_stores_nowhere :
    (map : List Mapped) (m : Memory) (address : ℕ) (size : Size) (value : ℕ)
    → address % byte_count size ≡ 0 → length m ≤ slot_of map address
    → with_stores map m (bytes_stored address size value) ≡ m
unfolding bytes_stored
with_stores_nowhere map m address One value h past = byte_nowhere map m address value 0 past (omega arith)
with_stores_nowhere map m address Two value h past =
    ap (λ start. with_byte map start (byte_stored address value 1))
    (byte_nowhere map m address value 0 past (omega arith))
    ∙ byte_nowhere map m address value 1 past (omega arith)
with_stores_nowhere map m address Four value h past =
    ap (λ start. with_byte map
    (with_byte map (with_byte map start (byte_stored address value 1)) (byte_stored address value 2))
    (byte_stored address value 3)) (byte_nowhere map m address value 0 past (omega arith))
    ∙ ap (λ start. with_byte map (with_byte map start (byte_stored address value 2)) (byte_stored address value 3))
    (byte_nowhere map m address value 1 past (omega arith))
    ∙ ap (λ start. with_byte map start (byte_stored address value 3))
    (byte_nowhere map m address value 2 past (omega arith))
    ∙ byte_nowhere map m address value 3 past (omega arith)
