-- The bytes of a page that a put reads.
use Rattle.std.proofs.Common.{◌≡◌, ℕ, ◌+◌, ◌/◌, ◌%◌, ◌<◌, ◌≤◌, zero, suc, cond, ◌==◌, List, [], ◌∷◌, ◌++◌, length, get_or, refl, sym, ap, ◌∙◌, arith}
use Rattle.std.specs.List.{range_with_len}
use Rattle.std.specs.Simd.Lanes.{chunk}
use Rattle.std.proofs.lemmas.List.{get_or-replicate, ext_get_or}
use Rattle.std.proofs.lemmas.List.FromFn.{length-map-range_with_len, get_or-map-range_with_len}
use Rattle.std.proofs.lemmas.Simd.{length-chunk, get_or-chunk}
use Rattle.memory_spec.specs.Pages.{Mapped, Memory, page_of, slot_of, zero_page}
use Rattle.thunk_spec.specs.Put.{byte_at, bytes_at}
use Rattle.release_core.proofs.Applying.{no_byte}

same_slot : (map : List Mapped) (a b : ℕ) → a / 4096 ≡ b / 4096 → slot_of map a ≡ slot_of map b
same_slot [] a b same = refl
same_slot (page ∷ map) a b same =
    ap (λ n. cond (page.number == n) 0 (suc (slot_of map a))) same
    ∙ ap (λ s. cond (page.number == b / 4096) 0 (suc s)) (same_slot map a b same)

-- If a page has an address, it has the bytes at all addresses of the page.
pub same_page :
    (map : List Mapped) (memory : Memory) (page : List ℕ) (slot a address : ℕ)
    → page ≡ page_of memory slot → slot ≡ slot_of map address → a / 4096 ≡ address / 4096
    → get_or page (a % 4096) 0 ≡ byte_at map memory a
same_page map memory page slot a address is at same =
    ap (λ l. get_or l (a % 4096) 0) is
    ∙ ap (λ s. get_or (page_of memory s) (a % 4096) 0) (at ∙ sym (same_slot map a address same))

-- If no page has the address, its bytes are zeros.
pub no_page :
    (map : List Mapped) (memory : Memory) (a address : ℕ) → length memory ≡ length map
    → slot_of map address ≡ length map → a / 4096 ≡ address / 4096
    → get_or zero_page (a % 4096) 0 ≡ byte_at map memory a
unfolding zero_page
no_page map memory a address count past same =
    get_or-replicate 4096 (a % 4096) 0 0 (omega arith)
    ∙ sym (no_byte map memory a count (same_slot map a address same ∙ past))

-- A number of bytes of a page from an offset on are those at as many addresses, from one with this offset on.
pub page_part :
    (map : List Mapped) (memory : Memory) (page : List ℕ) (address start offset n : ℕ)
    → ((a : ℕ) → a / 4096 ≡ address / 4096 → get_or page (a % 4096) 0 ≡ byte_at map memory a)
    → length page ≡ 4096 → start / 4096 ≡ address / 4096 → offset ≡ start % 4096 → offset + n ≤ 4096
    → chunk offset n page ≡ bytes_at map memory (range_with_len start n)
page_part map memory page address start offset n same whole at place fits =
    let long = length-chunk offset n page (omega (arith, whole, fits)) in
    let count = length-map-range_with_len (byte_at map memory) start n in
    ext_get_or 0 (chunk offset n page) (bytes_at map memory (range_with_len start n)) (long ∙ sym count) (λ k lt.
    let below : k < n = omega (arith, long, lt) in
    let inside : offset + k ≡ (start + k) % 4096 = omega (arith, place, fits, below) in
    get_or-chunk offset n page k 0 below
    ∙ ap (λ o. get_or page o 0) inside
    ∙ same (start + k) (omega (arith, at, place, fits, below))
    ∙ sym (get_or-map-range_with_len (byte_at map memory) start n k (start + k) 0 below refl))

-- The bytes at some addresses, and those at the ones that follow.
pub bytes_apart :
    (map : List Mapped) (memory : Memory) (start next n m all : ℕ) → next ≡ start + n → all ≡ n + m
    → bytes_at map memory (range_with_len start all)
    ≡ bytes_at map memory (range_with_len start n) ++ bytes_at map memory (range_with_len next m)
bytes_apart map memory start next zero m all at count = rw (count, at) (grind arith)
bytes_apart map memory start next (suc n) m all at count =
    let more : all ≡ suc (n + m) = omega (arith, count) in
    ap (λ c. bytes_at map memory (range_with_len start c)) more
    ∙ ap (λ rest. byte_at map memory start ∷ rest)
    (bytes_apart map memory (start + 1) next n m (n + m) (omega (arith, at)) refl)
