-- What segments have on a page, byte by byte.
use Rattle.std.proofs.Common.{◌≡◌, ◌≤◌, ◌<◌, ◌+◌, ◌-◌, ◌*◌, ◌/◌, ℕ, min, Bool, true, false, cond, nat_le, nat_lt, List, [], ◌∷◌, Some, All, length, get_or, map, filter, find, replicate, inl, inr, refl, sym, ap, ◌∙◌, arith}
use Rattle.std.specs.List.{range_with_len, between}
use borrow.Rule.Slice.PartMut.{mid_of, put_mid}
use Rattle.std.proofs.lemmas.Bool.{cases_lt, cases_Bool, le-leb, leb-true, ltb-true, lt-ltb, le-ltb, and_from, and_parts, and_left, and_right, lt-leb, cond-true, cond-false}
use Rattle.std.proofs.lemmas.List.{ext_get_or, get_or_past, get_or-replicate, length-replicate}
use Rattle.std.proofs.lemmas.List.Edits.{length-between, get_or-between}
use Rattle.std.proofs.lemmas.List.Elements.{All-head, All-tail}
use Rattle.std.proofs.lemmas.Grind.{common_steps}
use Rattle.std.proofs.lemmas.List.FromFn.{length-map-range_with_len, get_or-map-range_with_len}
use Rattle.std.proofs.lemmas.Simd.{length-chunk}
use Rattle.memory_spec.specs.Pages.{zero_page}
use Rattle.elf_spec.specs.Header.{ProgramHeader, segments}
use Rattle.elf_spec.specs.Segments.{has_address, touches}
use Rattle.elf_spec.specs.Image.{segment_byte, image_byte, image_page}
use Rattle.elf_load.specs.declared.header.Header.{Header}
use Rattle.elf_load.specs.Header.{header_of}
use Rattle.elf_load.specs.Place.{offset_on, place_in_file}
use Rattle.elf_load.proofs.Searches.{find-filter}

-- the part of the file between a segment's places at the ends of a page fits between where the segment begins and ends
-- on the page
pub part_fits :
    (bytes : List ℕ) (segment : ProgramHeader) (start first end : ℕ)
    → first ≡ place_in_file bytes segment start → end ≡ place_in_file bytes segment (start + 4096)
    → min (segment.vaddr - start) 4096 + length (between first end bytes)
    ≤ min (segment.vaddr + segment.memsz - start) 4096
part_fits bytes segment start first end from to =
    let within : end ≤ length bytes = omega (arith, to) in
    let count = length-between bytes first end within in
    let low : min (segment.vaddr - start) 4096 + (end - first) ≤ 4096 = omega (arith, from, to) in
    let high : segment.vaddr - start + (end - first) ≤ segment.vaddr + segment.memsz - start = omega (arith, from, to) in
    omega (arith, count, low, high)

-- the part has the segment's bytes on the page, and after it the segment has zeros
pub part_has :
    (bytes : List ℕ) (segment : ProgramHeader) (start first end k : ℕ)
    → first ≡ place_in_file bytes segment start → end ≡ place_in_file bytes segment (start + 4096)
    → k < 4096 → has_address segment (start + k) ≡ true
    → get_or (between first end bytes) (k - min (segment.vaddr - start) 4096) 0
    ≡ segment_byte bytes (Some segment) (start + k)
part_has bytes segment start first end k from to inside has =
    elim (cases_lt place segment.filesz) [
      | inl below ↦
          there below
          ∙ sym (cond-true (nat_lt place segment.filesz) (get_or bytes (segment.offset + place) 0) 0
          (lt-ltb place segment.filesz below))
      | inr behind ↦
          get_or_past part index 0 (omega (arith, count, from, to, behind, low))
          ∙ sym (cond-false (nat_lt place segment.filesz) (get_or bytes (segment.offset + place) 0) 0
          (le-ltb place segment.filesz behind))
    ]
  where
    place : ℕ
    place = start + k - segment.vaddr

    index : ℕ
    index = k - min (segment.vaddr - start) 4096

    part : List ℕ
    part = between first end bytes

    both : (nat_le segment.vaddr (start + k) ≡ true) × (nat_lt (start + k) (segment.vaddr + segment.memsz) ≡ true)
    both =
        and_parts (nat_le segment.vaddr (start + k)) (nat_lt (start + k) (segment.vaddr + segment.memsz)) has

    low : segment.vaddr ≤ start + k
    low = leb-true segment.vaddr (start + k) both.0

    high : start + k < segment.vaddr + segment.memsz
    high = ltb-true (start + k) (segment.vaddr + segment.memsz) both.1

    count : length part ≡ end - first
    count = length-between bytes first end (omega (arith, to))

    there : place < segment.filesz → get_or part index 0 ≡ get_or bytes (segment.offset + place) 0
    there below = elim (cases_lt (segment.offset + place) (length bytes)) [
      | inl stored ↦
          let at : first + index ≡ segment.offset + place = omega (arith, from, low, high, below, stored) in
          get_or-between bytes first end index 0 (omega (arith, at, to, inside, low, high, below, stored))
          ∙ ap (λ i. get_or bytes i 0) at
      | inr past ↦
          get_or_past part index 0 (omega (arith, count, from, to, low, high, below, past))
          ∙ sym (get_or_past bytes (segment.offset + place) 0 past)
    ]

-- a segment that has an address touches the address's page
touches_there :
    (number address : ℕ) (segment : ProgramHeader) → address / 4096 ≡ number → has_address segment address ≡ true
    → touches number segment ≡ true
touches_there number address segment on has =
    let both = and_parts _ _ has in
    let low : segment.vaddr ≤ address = leb-true _ _ both.0 in
    let high : address < segment.vaddr + segment.memsz = ltb-true _ _ both.1 in
    let first : segment.vaddr / 4096 ≤ number = omega arith in
    let last : number ≤ (segment.vaddr + segment.memsz - 1) / 4096 = omega arith in
    and_from _ _ (le-leb _ _ first) (le-leb _ _ last)

-- the byte at an address of the first of some headers that has it
abbrev pub first_byte : List ℕ → List Header → ℕ → ℕ
first_byte bytes headers address = segment_byte bytes (find (λ s. has_address s address) (map header_of headers)) address

-- the image's byte is that of the first header on the page that has the address
byte_on_page :
    (bytes : List ℕ) (near : List Header) (number k : ℕ)
    → map header_of near ≡ filter (touches number) (segments bytes) → k < 4096
    → first_byte bytes near (4096 * number + k) ≡ image_byte bytes (4096 * number + k)
unfolding image_byte
byte_on_page bytes near number k same inside =
    let address : ℕ = 4096 * number + k in
    let on : address / 4096 ≡ number = omega (arith, inside) in
    let test : ProgramHeader → Bool = λ s. has_address s address in
    let kept : find test (filter (touches number) (segments bytes)) ≡ find test (segments bytes) =
    find-filter test (touches number) (λ s has. touches_there number address s on has) (segments bytes) in
    ap (λ o. segment_byte bytes o address) (ap (find test) same ∙ kept)

-- a page that has the first byte of each of its addresses is the image's
pub page_is :
    (bytes : List ℕ) (near : List Header) (number : ℕ) (page : List ℕ)
    → map header_of near ≡ filter (touches number) (segments bytes) → length page ≡ 4096
    → ((k : ℕ) → k < 4096 → get_or page k 0 ≡ first_byte bytes near (4096 * number + k))
    → page ≡ image_page bytes number
unfolding image_page
page_is bytes near number page same whole each =
    let start : ℕ = 4096 * number in
    ext_get_or 0 page (map (image_byte bytes) (range_with_len start 4096))
    (whole ∙ sym (length-map-range_with_len (image_byte bytes) start 4096))
    (λ k below.
    let inside : k < 4096 = omega (arith, below, whole) in
    each k inside ∙ byte_on_page bytes near number k same inside
    ∙ sym (get_or-map-range_with_len (image_byte bytes) start 4096 k (start + k) 0 inside refl))

-- the part of the file that a header has on a page is empty
abbrev pub HasNoPart : List ℕ → ℕ → Header → Type 0
HasNoPart bytes number header =
    (part : List ℕ) × (0 ≡ length part)
    × ((k : ℕ) → k < 4096 → has_address (header_of header) (4096 * number + k) ≡ true
    → get_or part (k - offset_on number header.vaddr) 0
    ≡ segment_byte bytes (Some (header_of header)) (4096 * number + k))

-- if no header has a part, the first that has an address has a zero there
no_byte :
    (bytes : List ℕ) (number k : ℕ) (headers : List Header) → k < 4096 → All (HasNoPart bytes number) headers
    → first_byte bytes headers (4096 * number + k) ≡ 0
no_byte bytes number k [] inside none = refl
no_byte bytes number k (x ∷ xs) inside none =
    let first = All-head (HasNoPart bytes number) x xs none in
    elim (cases_Bool (has_address (header_of x) (4096 * number + k))) [
      | inl has ↦
          rw has
          (sym (first.2 k inside has)
          ∙ get_or_past first.0 (k - offset_on number x.vaddr) 0 (omega (arith, first.1)))
      | inr not ↦ rw not (no_byte bytes number k xs inside (All-tail (HasNoPart bytes number) x xs none))
    ]

-- a page on which no segment has a part of the file is one of zeros
pub page_blank :
    (bytes : List ℕ) (near : List Header) (number : ℕ)
    → map header_of near ≡ filter (touches number) (segments bytes) → All (HasNoPart bytes number) near
    → image_page bytes number ≡ zero_page
unfolding zero_page
page_blank bytes near number same none =
    sym (page_is bytes near number (replicate 4096 0) same (length-replicate {A = ℕ} 4096 0)
    (λ k inside. get_or-replicate 4096 k 0 0 inside ∙ sym (no_byte bytes number k near inside none)))

-- a page into which a part was written: its bytes before the part, in it and after it
written_before :
    (start count k : ℕ) (page part : List ℕ) → start + count ≤ length page → length part ≡ count → k < start
    → get_or (put_mid start count page part) k 0 ≡ get_or page k 0
written_before start count k page part fits long before = grind (arith, common_steps)

written_in :
    (start count k : ℕ) (page part : List ℕ) → start + count ≤ length page → length part ≡ count → start ≤ k
    → k < start + count
    → get_or (put_mid start count page part) k 0 ≡ get_or part (k - start) 0
written_in start count k page part fits long from below = grind (arith, common_steps)

written_behind :
    (start count k : ℕ) (page part : List ℕ) → start + count ≤ length page → length part ≡ count → start + count ≤ k
    → get_or (put_mid start count page part) k 0 ≡ get_or page k 0
written_behind start count k page part fits long behind = grind (arith, common_steps)

length-written :
    (start count : ℕ) (page part : List ℕ) → start + count ≤ length page → length part ≡ count
    → length (put_mid start count page part) ≡ length page
length-written start count page part fits long = grind (arith, common_steps)

-- An offset on a page lies between where a segment begins and ends there exactly if the segment has its address.
has_there :
    (segment : ProgramHeader) (number start end k : ℕ) → start ≡ offset_on number segment.vaddr
    → end ≡ offset_on number (segment.vaddr + segment.memsz) → k < 4096 → start ≤ k → k < end
    → has_address segment (4096 * number + k) ≡ true
has_there segment number start end k from to inside low high =
    and_from _ _ (le-leb segment.vaddr (4096 * number + k) (omega (arith, from, inside, low)))
    (lt-ltb (4096 * number + k) (segment.vaddr + segment.memsz) (omega (arith, to, inside, high)))

not_before :
    (segment : ProgramHeader) (number start k : ℕ) → start ≡ offset_on number segment.vaddr → k < 4096 → k < start
    → has_address segment (4096 * number + k) ≡ false
not_before segment number start k from inside below =
    and_left _ _ (lt-leb segment.vaddr (4096 * number + k) (omega (arith, from, inside, below)))

not_behind :
    (segment : ProgramHeader) (number end k : ℕ) → end ≡ offset_on number (segment.vaddr + segment.memsz) → k < 4096
    → end ≤ k
    → has_address segment (4096 * number + k) ≡ false
not_behind segment number end k to inside above =
    and_right _ _ (le-ltb (4096 * number + k) (segment.vaddr + segment.memsz) (omega (arith, to, inside, above)))

-- a page into which a segment was written: its part of the file, and zeros after it
pub written_segment :
    (bytes page part copied cleared : List ℕ) (segment : ProgramHeader) (number start end k : ℕ)
    → start ≡ offset_on number segment.vaddr → end ≡ offset_on number (segment.vaddr + segment.memsz)
    → start + length part ≤ end
    → ((k : ℕ) → k < 4096 → has_address segment (4096 * number + k) ≡ true
    → get_or part (k - start) 0 ≡ segment_byte bytes (Some segment) (4096 * number + k))
    → length page ≡ 4096 → copied ≡ part
    → cleared ≡ replicate (length (mid_of (start + length part) (end - (start + length part))
    (put_mid start (start + length part - start) page copied))) 0
    → k < 4096
    → get_or (put_mid (start + length part) (end - (start + length part))
    (put_mid start (start + length part - start) page copied) cleared) k 0
    ≡ cond (has_address segment (4096 * number + k)) (segment_byte bytes (Some segment) (4096 * number + k))
    (get_or page k 0)
written_segment bytes page part copied cleared segment number start end k from to fits each whole first second inside =
    elim (cases_lt k start) [
      | inl before ↦
          written_before stop (end - stop) k middle cleared rest zeros (omega (arith, before))
          ∙ written_before start count k page copied room long before
          ∙ sym (cond-false _ _ _ (not_before segment number start k from inside before))
      | inr low ↦ elim (cases_lt k stop) [
        | inl stored ↦
            written_before stop (end - stop) k middle cleared rest zeros stored
            ∙ written_in start count k page copied room long low (omega (arith, stored))
            ∙ ap (λ l. get_or l (k - start) 0) first
            ∙ each k inside (has low (omega (arith, stored, fits)))
            ∙ sym (cond-true _ _ _ (has low (omega (arith, stored, fits))))
        | inr past ↦ elim (cases_lt k end) [
          | inl high ↦
              written_in stop (end - stop) k middle cleared rest zeros past (omega (arith, high, fits))
              ∙ ap (λ l. get_or l (k - stop) 0) second
              ∙ get_or-replicate (length (mid_of stop (end - stop) middle)) (k - stop) 0 0
              (omega (arith, past, high, room_behind))
              ∙ sym (get_or_past part (k - start) 0 (omega (arith, past)))
              ∙ each k inside (has low high)
              ∙ sym (cond-true _ _ _ (has low high))
          | inr above ↦
              written_behind stop (end - stop) k middle cleared rest zeros (omega (arith, above, fits))
              ∙ written_behind start count k page copied room long (omega (arith, past))
              ∙ sym (cond-false _ _ _ (not_behind segment number end k to inside above))
        ]
      ]
    ]
  where
    stop : ℕ
    stop = start + length part

    count : ℕ
    count = stop - start

    middle : List ℕ
    middle = put_mid start count page copied

    small : end ≤ 4096
    small = omega (arith, to)

    long : length copied ≡ count
    long = let same = ap length first in omega (arith, same)

    room : start + count ≤ length page
    room = omega (arith, fits, small, whole)

    same : length middle ≡ 4096
    same = length-written start count page copied room long ∙ whole

    rest : stop + (end - stop) ≤ length middle
    rest = omega (arith, same, fits, small)

    room_behind : length (mid_of stop (end - stop) middle) ≡ end - stop
    room_behind = length-chunk stop (end - stop) middle rest

    zeros : length cleared ≡ end - stop
    zeros =
        ap (λ (l : List ℕ). length l) second ∙ length-replicate (length (mid_of stop (end - stop) middle)) 0
        ∙ room_behind

    has : start ≤ k → k < end → has_address segment (4096 * number + k) ≡ true
    has low high = has_there segment number start end k from to inside low high

-- the first byte of headers with one more at the front
chosen :
    (bytes : List ℕ) (header : Header) (headers : List Header) (address byte : ℕ)
    → byte ≡ first_byte bytes headers address
    → cond (has_address (header_of header) address) (segment_byte bytes (Some (header_of header)) address) byte
    ≡ first_byte bytes (header ∷ headers) address
chosen bytes header headers address byte is =
    elim (cases_Bool (has_address (header_of header) address)) [
      | inl has ↦ rw has refl
      | inr not ↦ rw not is
    ]
