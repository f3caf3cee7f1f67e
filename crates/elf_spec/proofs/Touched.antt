-- The pages of an image are those that its segments touch.
use Rattle.std.proofs.Common.{◌≡◌, ℕ, zero, suc, ◌+◌, ◌*◌, ◌-◌, ◌/◌, ◌<◌, ◌≤◌, ◌↔◌, max, Bool, true, false, cond, ◌||◌, bit_or, List, [], ◌∷◌, get_or, map, find, Option, Some, None, option_map, ◌&&◌, filter, fold, All, Contains, nat_lt, nat_le, refl, sym, ap, ◌∙◌, subst, zero-add, arith}
use Rattle.std.specs.List.{range_with_len, list_any}
use Rattle.std.specs.List.Sorted.{IsStrictlyIncreasing}
use Rattle.std.proofs.lemmas.Bool.{and_parts, and_from, leb-true, ltb-true, ltb-false, or_parts, le-leb, lt-ltb}
use Rattle.std.proofs.lemmas.List.Kept.{IsStrictlyIncreasing-filter, AllPairs-from_increasing}
use Rattle.std.proofs.lemmas.List.FromFn.{length-range_with_len, get_or-range_with_len}
use Rattle.std.proofs.lemmas.List.Elements.{All-cons, All-nil, All-head, All-weaker, All-contains, All-map, All-filter, filter_passes}
use Rattle.std.proofs.lemmas.List.Folds.{Any-from_list_any, list_any-from_Any}
use Rattle.elf_spec.specs.Header.{ProgramHeader, is_load, is_segment, segments, program_headers, program_header, e_phnum}
use Rattle.elf_spec.specs.Segments.{page_numbers, IsTouched, page_permission, has_address, touches, first_page, last_page, highest_page, segment_permission}
use Rattle.memory_spec.specs.Pages.{Mapped, ascends_above}
use Rattle.elf_spec.specs.declared.Refusal.TheVariants.{Outside}
use Rattle.elf_spec.specs.Refusals.{refusals, outside, is_outside}
use Rattle.elf_spec.specs.Image.{image_pages, HasPageWith, is_image}
use Rattle.elf_spec.proofs.Rows.{none_at, none_given}
use Rattle.std.specs.Int.{bit_at}
use Rattle.std.proofs.lemmas.List.{length-map, get_or-map}

-- the numbers of the pages are the numbers that they were made for
numbers_of :
    (f : ℕ → ℕ) (ns : List ℕ)
    → map (λ (p : Mapped). p.number) (map (λ n. record { number = n; permission = f n }) ns) ≡ ns
numbers_of f [] = refl
numbers_of f (n ∷ ns) = ap (λ rest. n ∷ rest) (numbers_of f ns)

pub numbers-image_pages :
    (bytes : List ℕ) → map (λ (p : Mapped). p.number) (image_pages bytes) ≡ page_numbers (segments bytes)
unfolding image_pages
numbers-image_pages bytes = numbers_of (page_permission (segments bytes)) (page_numbers (segments bytes))

range_ascends : (a n : ℕ) → IsStrictlyIncreasing (range_with_len a n)
range_ascends a n k below =
    let len = length-range_with_len a n in
    let here : get_or (range_with_len a n) k 0 ≡ a + k = get_or-range_with_len a n k 0 (omega arith) in
    let next : get_or (range_with_len a n) (k + 1) 0 ≡ a + (k + 1) =
    get_or-range_with_len a n (k + 1) 0 (omega arith) in
    omega arith

pub page_numbers_ascend : (list : List ProgramHeader) → IsStrictlyIncreasing (page_numbers list)
page_numbers_ascend list = IsStrictlyIncreasing-filter _ _ (range_ascends 0 (highest_page list + 1))

-- an element of a list is one of the list with another at the front
Contains-cons : {X : Type 0} (y x : X) (xs : List X) → Contains xs x → Contains (y ∷ xs) x
Contains-cons y x xs (k, below, is) = (suc k, omega arith, is)

-- a number below the end is in a range from 0
in_range : (n k : ℕ) → k < n → Contains (range_with_len 0 n) k
in_range n k below = (k, rw length-range_with_len below, get_or-range_with_len 0 n k k below ∙ zero-add k)

-- an element that passes the test stays in a filter
Contains-filter_cons :
    {X : Type 0} (p : X → Bool) (y x : X) (xs : List X) → p x ≡ true → Contains (y ∷ xs) x
    → (Contains xs x → Contains (filter p xs) x) → Contains (filter p (y ∷ xs)) x
Contains-filter_cons {X} p y x xs passes (zero, below, is) later =
    let Kept : Bool → Type 0 = λ b. Contains (cond b (y ∷ filter p xs) (filter p xs)) x in
    let first : Contains (y ∷ filter p xs) x = (zero, omega arith, is) in
    subst Kept (sym (ap p is ∙ passes)) first
Contains-filter_cons {X} p y x xs passes (suc k, below, is) later =
    let inside : Contains (filter p xs) x = later (k, omega arith, is) in
    elim (p y) as
    (λ b. Contains (cond b (y ∷ filter p xs) (filter p xs)) x)
    [ true ↦ Contains-cons y x (filter p xs) inside | false ↦ inside ]

Contains-filter :
    {X : Type 0} (p : X → Bool) (x : X) (xs : List X) → p x ≡ true → Contains xs x → Contains (filter p xs) x
Contains-filter p x [] passes (k, below, is) = absurd (omega arith)
Contains-filter p x (y ∷ xs) passes inside =
    Contains-filter_cons p y x xs passes inside (λ later. Contains-filter p x xs passes later)

-- the fold of `max` is no lower than what it starts from, and than each element
fold_max_start : (a : ℕ) (xs : List ℕ) → a ≤ fold max a xs
fold_max_start a [] = omega arith
fold_max_start a (x ∷ xs) = let rest = fold_max_start (max a x) xs in omega arith

fold_max_each :
    (a : ℕ) (list : List ProgramHeader) (s : ProgramHeader) → Contains list s
    → last_page s ≤ fold max a (map last_page list)
fold_max_each a [] s (k, below, is) = absurd (omega arith)
fold_max_each a (x ∷ xs) s (zero, below, is) =
    let start = fold_max_start (max a (last_page x)) (map last_page xs) in
    let same : last_page x ≡ last_page s = ap last_page is in omega arith
fold_max_each a (x ∷ xs) s (suc k, below, is) = fold_max_each (max a (last_page x)) xs s (k, omega arith, is)

-- a segment that takes memory has an address on each page that it touches, and on no other
touches-from_address :
    (s : ProgramHeader) (number address : ℕ) → has_address s address ≡ true → address / 4096 ≡ number
    → touches number s ≡ true
touches-from_address s number address has is =
    let both = and_parts (nat_le s.vaddr address) (nat_lt address (s.vaddr + s.memsz)) has in
    let low : s.vaddr ≤ address = leb-true _ _ both.0 in
    let high : address < s.vaddr + s.memsz = ltb-true _ _ both.1 in
    and_from _ _ (le-leb (first_page s) number (omega arith)) (le-leb number (last_page s) (omega arith))

address-from_touches :
    (s : ProgramHeader) (number : ℕ) → 0 < s.memsz → touches number s ≡ true
    → (address : ℕ) × (has_address s address ≡ true) × (address / 4096 ≡ number)
address-from_touches s number some it =
    let both = and_parts (nat_le (first_page s) number) (nat_le number (last_page s)) it in
    let low : s.vaddr / 4096 ≤ number = leb-true _ _ both.0 in
    let high : number ≤ (s.vaddr + s.memsz - 1) / 4096 = leb-true _ _ both.1 in
    let address = max s.vaddr (4096 * number) in (
      address,
      and_from _ _ (le-leb s.vaddr address (omega arith)) (lt-ltb address (s.vaddr + s.memsz) (omega arith)),
      omega arith,
    )

-- each segment of a file takes memory
segments_take_memory : (bytes : List ℕ) → All (λ (s : ProgramHeader). 0 < s.memsz) (segments bytes)
segments_take_memory bytes =
    All-weaker (λ s. is_segment s ≡ true) (λ s. 0 < s.memsz)
    (λ s is. ltb-true _ _ (and_parts (is_load s) (nat_lt 0 s.memsz) is).1) (segments bytes)
    (filter_passes is_segment (program_headers bytes))

-- a page that some segment touches is in the list
pub passing_is_there :
    (list : List ProgramHeader) (number : ℕ) → list_any (touches number) list ≡ true
    → Contains (page_numbers list) number
passing_is_there list number passes =
    let (k, s, below, is, it) = Any-from_list_any (touches number) list passes in
    let high : number ≤ last_page s =
    leb-true _ _ (and_parts (nat_le (first_page s) number) (nat_le number (last_page s)) it).1 in
    let most : last_page s ≤ highest_page list = fold_max_each 0 list s (k, below, is) in
    Contains-filter (λ n. list_any (touches n) list) number _ passes
    (in_range (highest_page list + 1) number (omega arith))

-- a page is in the list exactly if a segment has an address on it
pub touched_is_there :
    (list : List ProgramHeader) (number : ℕ) → IsTouched list number → Contains (page_numbers list) number
touched_is_there list number (k, s, below, is, (address, has, on)) =
    passing_is_there list number
    (list_any-from_Any (touches number) list (k, s, below, is, touches-from_address s number address has on))

pub there_is_touched :
    (list : List ProgramHeader) (number : ℕ) → All (λ (s : ProgramHeader). 0 < s.memsz) list
    → Contains (page_numbers list) number → IsTouched list number
there_is_touched list number memory inside =
    let passes : list_any (touches number) list ≡ true =
    All-contains (λ n. list_any (touches n) list ≡ true) (page_numbers list) number
    (filter_passes (λ n. list_any (touches n) list) _) inside in
    let (k, s, below, is, it) = Any-from_list_any (touches number) list passes in (
      k,
      s,
      below,
      is,
      address-from_touches s number (All-contains (λ (s : ProgramHeader). 0 < s.memsz) list s memory (k, below, is)) it,
    )

pub pages_touched :
    (bytes : List ℕ) (number : ℕ)
    → Contains (map (λ (p : Mapped). p.number) (image_pages bytes)) number ↔ IsTouched (segments bytes) number
pages_touched bytes number =
    rw numbers-image_pages (
      there_is_touched (segments bytes) number (segments_take_memory bytes),
      touched_is_there (segments bytes) number,
    )

-- if no element passes, a filter keeps none
filter_none : {X : Type 0} (p : X → Bool) (xs : List X) → list_any p xs ≡ false → filter p xs ≡ []
filter_none p [] none = refl
filter_none p (x ∷ xs) none =
    elim (p x) as (λ b. (b || list_any p xs) ≡ false → cond b (x ∷ filter p xs) (filter p xs) ≡ [])
    [ true ↦ λ h. absurd (cc) | false ↦ λ h. filter_none p xs h ] none

-- a page with a right is touched by a segment
right_from_segment :
    (list : List ProgramHeader) (number : ℕ) → bit_at (page_permission list number) 0 ≡ 1 → (b : Bool)
    → list_any (touches number) list ≡ b → list_any (touches number) list ≡ true
right_from_segment list number right true is = is
right_from_segment list number right false is =
    let no_rights : bit_at (page_permission list number) 0 ≡ 0 =
    ap (λ kept. bit_at (fold bit_or 0 (map segment_permission kept)) 0) (filter_none (touches number) list is) in
    absurd (omega arith)

-- a page with a right is among the pages
pub page_with_right :
    (bytes : List ℕ) (number : ℕ) → bit_at (page_permission (segments bytes) number) 0 ≡ 1
    → HasPageWith 0 number (image_pages bytes)
unfolding image_pages
page_with_right bytes number right =
    let list = segments bytes in
    let page_of : ℕ → Mapped = λ n. record { number = n; permission = page_permission list n } in
    let (k, below, is) = passing_is_there list number (right_from_segment list number right _ refl) in (
      k,
      page_of number,
      rw length-map below,
      get_or-map page_of (page_numbers list) k number (page_of number) below ∙ ap page_of is,
      (refl, right),
    )

-- a search that finds none skips each element
find_none : {X : Type 0} (p : X → Bool) (xs : List X) → find p xs ≡ None → All (λ x. p x ≡ false) xs
find_none p [] none = All-nil _
find_none p (x ∷ xs) none =
    elim (p x) as (λ b. p x ≡ b → cond b (Some x) (find p xs) ≡ None → All (λ x. p x ≡ false) (x ∷ xs))
    [ true ↦ λ is h. absurd (cc) | false ↦ λ is h. All-cons (λ x. p x ≡ false) x xs is (find_none p xs h) ] refl
    none

option_map_none : {X Y : Type 0} (f : X → Y) (o : Option X) → option_map f o ≡ None → o ≡ None
option_map_none f None none = refl
option_map_none f (Some x) none = absurd (cc)

second_false : (x y : Bool) → x ≡ true → (x && y) ≡ false → y ≡ false
second_false true y is both = both
second_false false y is both = absurd (cc)

-- no segment of an accepted file leaves the addresses for images
segments_inside : (bytes : List ℕ) → is_image bytes ≡ true → All (λ s. is_outside s ≡ false) (segments bytes)
segments_inside bytes accepted k d below =
    let none : outside bytes ≡ None = none_at (refusals bytes) 9 (none_given bytes accepted) in
    let P : ProgramHeader → Type 0 = λ h. (is_segment h && is_outside h) ≡ false in
    let each =
    find_none (λ i. is_segment (program_header bytes i) && is_outside (program_header bytes i))
    (range_with_len 0 (e_phnum bytes)) (option_map_none Outside _ none) in
    let headers : All P (program_headers bytes) =
    All-map P (program_header bytes) (range_with_len 0 (e_phnum bytes)) each in
    second_false _ _ (filter_passes is_segment (program_headers bytes) k d below)
    (All-filter is_segment P (program_headers bytes) headers k d below)

-- an address of a segment that lies inside is on a page that lies inside
page_inside :
    (s : ProgramHeader) (address : ℕ) → is_outside s ≡ false → has_address s address ≡ true
    → (1 ≤ address / 4096) × (address / 4096 < 0xC0000)
page_inside s address inside has =
    let ends = or_parts (nat_lt s.vaddr 0x1000) (nat_lt 0xC0000000 (s.vaddr + s.memsz)) inside in
    let lowest : 0x1000 ≤ s.vaddr = ltb-false _ _ ends.0 in
    let highest : s.vaddr + s.memsz ≤ 0xC0000000 = ltb-false _ _ ends.1 in
    let both = and_parts (nat_le s.vaddr address) (nat_lt address (s.vaddr + s.memsz)) has in
    let low : s.vaddr ≤ address = leb-true _ _ both.0 in
    let high : address < s.vaddr + s.memsz = ltb-true _ _ both.1 in
    (omega arith, omega arith)

-- the pages of an accepted file lie between 0x1000 and 0xC0000000
pub pages_inside :
    (bytes : List ℕ) → is_image bytes ≡ true
    → All (λ (p : Mapped). (1 ≤ p.number) × (p.number < 0xC0000)) (image_pages bytes)
pages_inside bytes accepted k d below =
    let page = get_or (image_pages bytes) k d in
    let there : Contains (map (λ (p : Mapped). p.number) (image_pages bytes)) page.number =
    (k, rw length-map below, get_or-map (λ (p : Mapped). p.number) (image_pages bytes) k d page.number below) in
    let (j, s, within, is, (address, has, on)) = (pages_touched bytes page.number).0 there in
    let inside : is_outside s ≡ false =
    All-contains (λ s. is_outside s ≡ false) (segments bytes) s (segments_inside bytes accepted) (j, within, is) in
    let P : ℕ → Type 0 = λ n. (1 ≤ n) × (n < 0xC0000) in
    subst P on (page_inside s address inside has)

-- the rest of a list that ascends does
ascending_rest : (x : ℕ) (xs : List ℕ) → IsStrictlyIncreasing (x ∷ xs) → IsStrictlyIncreasing xs
ascending_rest x xs ascends k below =
    let e : suc k + 1 ≡ suc (k + 1) = omega arith in
    let P : ℕ → Type 0 = λ j. get_or xs k 0 < get_or (x ∷ xs) j 0 in
    subst P e (ascends (suc k) (omega arith))

-- pages whose numbers ascend, all above a number, ascend above it
ascends :
    (low : ℕ) (pages : List Mapped) → All (λ (p : Mapped). low < p.number) pages
    → IsStrictlyIncreasing (map (λ (p : Mapped). p.number) pages) → ascends_above low pages ≡ true
ascends low [] above rising = refl
ascends low (page ∷ pages) above rising =
    let numbers = map (λ (p : Mapped). p.number) pages in
    let later : All (λ (p : Mapped). page.number < p.number) pages = λ k d below.
    let far : page.number < get_or numbers k 0 =
    AllPairs-from_increasing (page.number ∷ numbers) rising 0 (suc k) 0 (omega arith)
    (omega (arith, length-map pages (λ (p : Mapped). p.number))) in
    let P : ℕ → Type 0 = λ n. page.number < n in
    subst P (get_or-map (λ (p : Mapped). p.number) pages k d 0 below) far in
    and_from _ _ (lt-ltb low page.number (All-head (λ (p : Mapped). low < p.number) page pages above))
    (ascends page.number pages later (ascending_rest page.number numbers rising))

pub image_ascends : (bytes : List ℕ) → is_image bytes ≡ true → ascends_above 0 (image_pages bytes) ≡ true
image_ascends bytes accepted =
    let above : All (λ (p : Mapped). 0 < p.number) (image_pages bytes) =
    λ k d below. (pages_inside bytes accepted k d below).0 in
    ascends 0 (image_pages bytes) above (rw numbers-image_pages (page_numbers_ascend (segments bytes)))
