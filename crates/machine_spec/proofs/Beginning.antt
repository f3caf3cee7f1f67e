-- The first machine of a setup is whole.
use Rattle.std.proofs.Common.{◌≡◌, ◌<◌, ◌≤◌, ◌+◌, ◌*◌, ℕ, zero, suc, true, ltb, List, [], ◌∷◌, ◌++◌, length, map, replicate, refl, ap, sym, ◌∙◌, arith}
use Rattle.std.proofs.lemmas.List.{length-append, length-replicate}
use Rattle.std.proofs.lemmas.List.FromFn.{length-map-range_with_len}
use Rattle.std.specs.Prelude.{slice_index}
use Rattle.std.proofs.lemmas.List.Elements.{All-cons, All-nil, All-append, All-replicate, All-map, All-from_recursion, recursion_from_All}
use Rattle.std.specs.List.{All, AllByRecursion, range_with_len}
use Rattle.std.specs.Int.{to_le_bytes, w32}
use Rattle.memory_spec.specs.Pages.{Mapped, IsMemory, zero_page, ascends_above}
use Rattle.std.proofs.lemmas.Bool.Decides.{nat_tests}
use Rattle.elf_spec.specs.Image.{image_pages, image_memory, entry_of, is_image}
use Rattle.elf_spec.proofs.Touched.{pages_inside, image_ascends}
use Rattle.elf_spec.proofs.ImageMemory.{IsMemory-image}
use Rattle.guest_call.specs.Objects.{opening}
use Rattle.guest_call.proofs.Kept.{opening_kept, opening_waits}
use Rattle.machine_spec.specs.declared.states.Status.TheVariants.{Ready}
use Rattle.machine_spec.specs.Machine.{Hart}
use Rattle.machine_spec.specs.Performing.{first_hart}
use Rattle.machine_spec.specs.Setup.{Setup, IsSetup, data_pages, map_of, header_page, input_page, input_memory, stack_memory, start_memory, first}
use Rattle.machine_spec.specs.Whole.{IsTied, IsWhole, blocked_count, ended_value}

length-data_pages : (number count : ℕ) → length (data_pages number count) ≡ count
unfolding data_pages
length-data_pages number count = length-map-range_with_len {X = Mapped} _ number count

length-header_page : (input : List ℕ) → length (header_page input) ≡ 4096
unfolding header_page
length-header_page input =
    length-append (to_le_bytes w32 (length input)) (replicate 4092 0)
    ∙ ap (λ n. 4 + n) (length-replicate {A = ℕ} 4092 0)

length-input_page : (input : List ℕ) (k : ℕ) → length (input_page input k) ≡ 4096
unfolding input_page
length-input_page input k = length-map-range_with_len (λ (i : ℕ). slice_index input i) (4096 * k) 4096

length-zero_page : length zero_page ≡ 4096
unfolding zero_page
length-zero_page = length-replicate {A = ℕ} 4096 0

length-input_memory : (input : List ℕ) → length (input_memory input) ≡ 256
unfolding input_memory
length-input_memory input = length-map-range_with_len (input_page input) 0 256

length-stack_memory : length stack_memory ≡ 512
unfolding stack_memory
length-stack_memory = length-replicate {A = List ℕ} 512 zero_page

abbrev IsPage : List ℕ → Type 0
IsPage bytes = length bytes ≡ 4096

pages-input_memory : (input : List ℕ) → All IsPage (input_memory input)
unfolding input_memory
pages-input_memory input =
    All-map IsPage (input_page input) (range_with_len 0 256)
    (All-from_recursion (λ (k : ℕ). IsPage (input_page input k)) (range_with_len 0 256) (each (range_with_len 0 256)))
  where
    each : (ks : List ℕ) → AllByRecursion (λ (k : ℕ). IsPage (input_page input k)) ks
    each [] = tt
    each (k ∷ ks) = (length-input_page input k, each ks)

pages-stack_memory : All IsPage stack_memory
unfolding stack_memory
pages-stack_memory = All-replicate IsPage 512 zero_page length-zero_page

-- the start's memory is one of the start's map
pub IsMemory-start : (s : Setup) → IsMemory (map_of s) (start_memory s)
unfolding map_of start_memory
IsMemory-start s =
    let image = IsMemory-image s.elf in
    record {
      count =
          let header = length-data_pages 0xC0000 1 in
          let input = length-data_pages 0xC0001 256 in
          let stacks = length-data_pages 0xD0000 512 in
          let input_bytes = length-input_memory s.input in
          let stack_bytes = length-stack_memory in
          simp length-append (omega (arith, image.count));
      pages =
          All-append IsPage (image_memory s.elf ++ header_page s.input ∷ [] ++ input_memory s.input) stack_memory
          (All-append IsPage (image_memory s.elf ++ header_page s.input ∷ []) (input_memory s.input)
          (All-append IsPage (image_memory s.elf) (header_page s.input ∷ []) image.pages
          (All-cons IsPage (header_page s.input) [] (length-header_page s.input) (All-nil IsPage)))
          (pages-input_memory s.input))
          pages-stack_memory;
    }

-- at the start no thread waits and none has ended
IsTied-opening : (h : Hart) → h.status ≡ Ready → IsTied opening (h ∷ [])
IsTied-opening h ready =
    record {
      threads = refl;
      kept = opening_kept;
      blocked = elim [
        | zero ↦ opening_waits 0 ∙ ap blocked_count (sym ready)
        | suc u ↦ opening_waits (suc u)
      ];
      ended = elim [
        | zero ↦ λ below. ap ended_value (sym ready)
        | suc u ↦ λ below. absurd (omega arith)
      ];
    }

-- the first machine of a setup is whole
pub IsWhole-first : (s : Setup) → IsSetup s → IsWhole (first s)
unfolding first
IsWhole-first s sound =
    record {
      memory = IsMemory-start s;
      harts = (record { view = IsMemory-start s; number = omega arith }, tt);
      tied = IsTied-opening (first_hart (start_memory s) 0 (entry_of s.elf) 0xC0000000) refl;
      limits = sound.limits;
      few_steps = omega arith;
      some_ready = λ none. refl;
      steps_left = λ none. let some = sound.limits.some_steps in omega arith;
    }

-- the map ascends

-- pages that ascend from a number on, after pages below it
ascends-append :
    (low middle : ℕ) (xs ys : List Mapped)
    → ascends_above low xs ≡ true
    → AllByRecursion (λ (p : Mapped). p.number ≤ middle) xs
    → low ≤ middle
    → ascends_above middle ys ≡ true
    → ascends_above low (xs ++ ys) ≡ true
ascends-append low middle [] ys ascends below order rest = ascends-lower low middle ys order rest
  where
    ascends-lower :
        (low middle : ℕ) (ys : List Mapped) → low ≤ middle → ascends_above middle ys ≡ true
        → ascends_above low ys ≡ true
    ascends-lower low middle [] order rest = refl
    ascends-lower low middle (y ∷ ys) order rest = grind (arith, nat_tests)
ascends-append low middle (x ∷ xs) ys ascends below order rest =
    let first : ltb low x.number ≡ true = grind (arith, nat_tests) in
    let later : ascends_above x.number xs ≡ true = grind (arith, nat_tests) in
    rw first (ascends-append x.number middle xs ys later below.1 below.0 rest)

abbrev AllAtMost : ℕ → List Mapped → Type 0
AllAtMost most pages = AllByRecursion (λ (p : Mapped). p.number ≤ most) pages

at_most-weaker : (most more : ℕ) (xs : List Mapped) → most ≤ more → AllAtMost most xs → AllAtMost more xs
at_most-weaker most more [] order all = tt
at_most-weaker most more (x ∷ xs) order all =
    (let first = all.0 in omega arith, at_most-weaker most more xs order all.1)

at_most-append : (most : ℕ) (xs ys : List Mapped) → AllAtMost most xs → AllAtMost most ys → AllAtMost most (xs ++ ys)
at_most-append most [] ys all others = others
at_most-append most (x ∷ xs) ys all others = (all.0, at_most-append most xs ys all.1 others)

abbrev data_of : List ℕ → List Mapped
data_of numbers = map (λ n. record { number = n; permission = 6 }) numbers

ascends-data :
    (number count below : ℕ) → below < number → ascends_above below (data_of (range_with_len number count)) ≡ true
ascends-data number zero below order = refl
ascends-data number (suc count) below order =
    let first : ltb below number ≡ true = grind (arith, nat_tests) in
    rw first (ascends-data (number + 1) count number (omega arith))

at_most-data :
    (number count most : ℕ) → number + count ≤ most + 1 → AllAtMost most (data_of (range_with_len number count))
at_most-data number zero most order = tt
at_most-data number (suc count) most order = (omega arith, at_most-data (number + 1) count most (omega arith))

ascends-data_pages : (number count below : ℕ) → below < number → ascends_above below (data_pages number count) ≡ true
unfolding data_pages
ascends-data_pages number count below order = ascends-data number count below order

at_most-data_pages : (number count most : ℕ) → number + count ≤ most + 1 → AllAtMost most (data_pages number count)
unfolding data_pages
at_most-data_pages number count most order = at_most-data number count most order

at_most-image : (bytes : List ℕ) → is_image bytes ≡ true → AllAtMost 0xBFFFF (image_pages bytes)
at_most-image bytes accepted =
    recursion_from_All (λ (p : Mapped). p.number ≤ 0xBFFFF) (image_pages bytes)
    (λ k d below. let inside = (pages_inside bytes accepted k d below).1 in omega arith)

-- the pages of a setup are in ascending order
pub ascends-map_of : (s : Setup) → IsSetup s → ascends_above 0 (map_of s) ≡ true
unfolding map_of
ascends-map_of s sound =
    let image = image_pages s.elf in
    let image_most = at_most-image s.elf sound.elf_accepted in
    let header_most : AllAtMost 0xC0000 (image_pages s.elf ++ data_pages 0xC0000 1) =
    at_most-append 0xC0000 (image_pages s.elf) (data_pages 0xC0000 1)
    (at_most-weaker 0xBFFFF 0xC0000 (image_pages s.elf) (omega arith) image_most)
    (at_most-data_pages 0xC0000 1 0xC0000 (omega arith)) in
    let input_most : AllAtMost 0xC0100 (image_pages s.elf ++ data_pages 0xC0000 1 ++ data_pages 0xC0001 256) =
    at_most-append 0xC0100 (image_pages s.elf ++ data_pages 0xC0000 1) (data_pages 0xC0001 256)
    (at_most-weaker 0xC0000 0xC0100 (image_pages s.elf ++ data_pages 0xC0000 1) (omega arith) header_most)
    (at_most-data_pages 0xC0001 256 0xC0100 (omega arith)) in
    ascends-append 0 0xC0100 (image_pages s.elf ++ data_pages 0xC0000 1 ++ data_pages 0xC0001 256)
    (data_pages 0xD0000 512)
    (ascends-append 0 0xC0000 (image_pages s.elf ++ data_pages 0xC0000 1) (data_pages 0xC0001 256)
    (ascends-append 0 0xBFFFF (image_pages s.elf) (data_pages 0xC0000 1)
    (image_ascends s.elf sound.elf_accepted) image_most (omega arith)
    (ascends-data_pages 0xC0000 1 0xBFFFF (omega arith)))
    header_most (omega arith) (ascends-data_pages 0xC0001 256 0xC0000 (omega arith)))
    input_most (omega arith) (ascends-data_pages 0xD0000 512 0xC0100 (omega arith))
