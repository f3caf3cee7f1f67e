-- The page map of a setup has small numbers, and a history that has an encoding has its slots in it.
use Rattle.std.proofs.Common.{◌≡◌, ℕ, zero, suc, ◌+◌, ◌^◌, ◌<◌, ◌≤◌, List, [], ◌∷◌, ◌++◌, length, map, Ok, arith}
use Rattle.std.specs.Prelude.{slice_index}
use Rattle.std.specs.List.{AllByRecursion, range_with_len}
use Rattle.std.proofs.lemmas.List.Elements.{All-from_recursion, recursion_from_All}
use Rattle.memory_spec.specs.Pages.{Mapped, AreAddressable}
use Rattle.memory_spec.specs.declared.TheConstants.{PAGE_NUMBERS}
use Rattle.elf_spec.specs.Image.{image_pages}
use Rattle.elf_spec.proofs.Touched.{pages_inside}
use Rattle.thunk_spec.specs.Record.{Record}
use Rattle.thunk_spec.specs.Reads.{ReadPage}
use Rattle.thunk_spec.specs.Delta.{PageDelta}
use Rattle.machine_spec.specs.Setup.{Setup, IsSetup, map_of, data_pages}
use Rattle.history_spec.specs.History.{History, IsMappedIn, IsMapped}
use Rattle.ith_text.specs.Place.{Place}
use Rattle.memo_spec.specs.Encoding.{IsReadPage, IsStoredPage, IsRecord, IsEncodable}
use Rattle.memo_spec.specs.Reading.{history_at}
use Rattle.memo_spec.proofs.Top.{agrees_history}

abbrev IsSmall : Mapped → Type 0
IsSmall m = m.number < PAGE_NUMBERS

both : {A : Type 0} (P : A → Type 0) (xs ys : List A) → AllByRecursion P xs → AllByRecursion P ys
    → AllByRecursion P (xs ++ ys)
both P [] ys p q = q
both P (x ∷ xs) ys p q = (p.0, both P xs ys p.1 q)

range_small : (n number : ℕ) → number + n ≤ 2 ^ 20
    → AllByRecursion IsSmall (map (λ k. record { number = k; permission = 6 }) (range_with_len number n))
range_small zero number lt = tt
range_small (suc n) number lt = (omega arith, range_small n (number + 1) (omega arith))

data_small : (number count : ℕ) → number + count ≤ 2 ^ 20 → AllByRecursion IsSmall (data_pages number count)
unfolding data_pages
data_small number count lt = range_small count number lt

image_small : (pages : List Mapped) → AllByRecursion (λ (p : Mapped). (1 ≤ p.number) × (p.number < 0xC0000)) pages
    → AllByRecursion IsSmall pages
image_small [] h = tt
image_small (p ∷ pages) h = (omega (arith, h.0.1), image_small pages h.1)

small : (s : Setup) → IsSetup s → AllByRecursion IsSmall (map_of s)
unfolding map_of
small s h =
    let image = image_small (image_pages s.elf)
    (recursion_from_All (λ (p : Mapped). (1 ≤ p.number) × (p.number < 0xC0000)) (image_pages s.elf)
    (pages_inside s.elf h.elf_accepted)) in
    both IsSmall (image_pages s.elf ++ data_pages 0xC0000 1 ++ data_pages 0xC0001 256) (data_pages 0xD0000 512)
    (both IsSmall (image_pages s.elf ++ data_pages 0xC0000 1) (data_pages 0xC0001 256)
    (both IsSmall (image_pages s.elf) (data_pages 0xC0000 1) image (data_small 0xC0000 1 (omega arith)))
    (data_small 0xC0001 256 (omega arith))) (data_small 0xD0000 512 (omega arith))

pub small_pages : (s : Setup) → IsSetup s → AreAddressable (map_of s)
small_pages s h = All-from_recursion IsSmall (map_of s) (small s h)

weaker : {A : Type 0} (P Q : A → Type 0) → ((x : A) → P x → Q x) → (xs : List A) → AllByRecursion P xs
    → AllByRecursion Q xs
weaker P Q f [] h = tt
weaker P Q f (x ∷ xs) h = (f x h.0, weaker P Q f xs h.1)

mapped_in : (pages : List Mapped) (fuel : ℕ) (r : Record) → IsRecord pages fuel r → IsMappedIn (length pages) r
mapped_in pages fuel r h = record {
  reads = All-from_recursion (λ (p : ReadPage). p.slot < length pages) r.kept.reads
      (weaker (IsReadPage pages) (λ (p : ReadPage). p.slot < length pages) (λ p i. i.mapped) r.kept.reads h.reads);
  delta = All-from_recursion (λ (d : PageDelta). d.slot < length pages) r.kept.delta
      (weaker (IsStoredPage pages) (λ (d : PageDelta). d.slot < length pages) (λ d i. i.mapped) r.kept.delta h.delta);
}

encodable_is_mapped : (h : History) → IsEncodable h → IsMapped h
encodable_is_mapped h s =
    All-from_recursion (IsMappedIn (length (map_of h.setup))) h.records
    (weaker (IsRecord (map_of h.setup) h.setup.fuel) (IsMappedIn (length (map_of h.setup)))
    (mapped_in (map_of h.setup) h.setup.fuel) h.records s.records)

pub read_is_mapped : (p : Place) (h : History) (q : Place) → ((i : ℕ) → slice_index p.left i < 256)
    → history_at p ≡ Ok (h, q) → IsMapped h
read_is_mapped p h q bytes e = encodable_is_mapped h (agrees_history.takes p h q bytes e).1
