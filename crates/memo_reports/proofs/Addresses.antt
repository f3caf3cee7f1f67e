-- The addresses of a setup's pages are words.
use Rattle.std.proofs.Common.{◌≡◌, ℕ, zero, suc, ◌+◌, ◌*◌, ◌^◌, ◌<◌, ◌≤◌, List, [], ◌∷◌, ◌++◌, length, map, take, get_or, All, slice_index_or, Fits, w32, sym, ap, ◌∙◌, subst, arith}
use Rattle.std.specs.List.{AllByRecursion, range_with_len}
use Rattle.std.proofs.lemmas.List.{map-append, take_more}
use Rattle.std.proofs.lemmas.List.Elements.{All-append, All-from_recursion}
use Rattle.memory_spec.specs.Pages.{Mapped, unmapped}
use Rattle.elf_spec.specs.Image.{image_pages}
use Rattle.elf_spec.proofs.Touched.{pages_inside}
use Rattle.machine_spec.specs.Setup.{Setup, IsSetup, map_of, data_pages}

abbrev IsLow : Mapped → Type 0
IsLow page = page.number < 2 ^ 20

low_range :
    (count number : ℕ) → number + count ≤ 2 ^ 20
    → AllByRecursion IsLow (map (λ n. record { number = n; permission = 6 }) (range_with_len number count))
low_range zero number most = tt
low_range (suc count) number most = (omega arith, low_range count (number + 1) (omega arith))

low_data : (number count : ℕ) → number + count ≤ 2 ^ 20 → All IsLow (data_pages number count)
unfolding data_pages
low_data number count most = All-from_recursion IsLow _ (low_range count number most)

low_image : (s : Setup) → IsSetup s → All IsLow (image_pages s.elf)
low_image s sound k d below = let inside = (pages_inside s.elf sound.elf_accepted k d below).1 in omega arith

low_pages : (s : Setup) → IsSetup s → All IsLow (map_of s)
unfolding map_of
low_pages s sound =
    All-append IsLow (image_pages s.elf ++ data_pages 0xC0000 1 ++ data_pages 0xC0001 256) (data_pages 0xD0000 512)
    (All-append IsLow (image_pages s.elf ++ data_pages 0xC0000 1) (data_pages 0xC0001 256)
    (All-append IsLow (image_pages s.elf) (data_pages 0xC0000 1) (low_image s sound) (low_data 0xC0000 1 (omega arith)))
    (low_data 0xC0001 256 (omega arith)))
    (low_data 0xD0000 512 (omega arith))

-- the address of the page in a slot is a word
pub word_address :
    (s : Setup) (pages : List Mapped) (slot address : ℕ) → IsSetup s → pages ≡ map_of s → slot < length pages
    → address ≡ (slice_index_or pages slot unmapped).number * 4096 → Fits w32 address
word_address s pages slot address sound are below is =
    let low : (slice_index_or pages slot unmapped).number < 2 ^ 20 =
    subst (All IsLow) (sym are) (low_pages s sound) slot unmapped below in
    omega arith

-- the addresses of the first pages, with one more
pub addresses_next :
    (pages whole : List Mapped) (k a : ℕ) (d : Mapped) (addresses more : List ℕ)
    → pages ≡ whole → k < length pages → a ≡ (get_or pages k d).number * 4096
    → addresses ≡ map (λ (page : Mapped). page.number * 4096) (take k whole) → more ≡ addresses ++ a ∷ []
    → more ≡ map (λ (page : Mapped). page.number * 4096) (take (k + 1) whole)
addresses_next pages whole k a d addresses more same below is so one =
    let address = λ (page : Mapped). page.number * 4096 in
    one
    ∙ ap (λ (l : List ℕ). l ++ a ∷ []) so
    ∙ ap (λ (n : ℕ). map address (take k whole) ++ n ∷ []) (is ∙ ap (λ (ps : List Mapped). address (get_or ps k d)) same)
    ∙ sym (ap (map address) (take_more whole k d (subst (λ (ps : List Mapped). k < length ps) same below))
    ∙ map-append address (take k whole) (get_or whole k d ∷ []))
