-- The page map of a setup has its system pages, so that records in the first slots are mapped.
use Rattle.std.proofs.Common.{◌≡◌, ℕ, ◌≤◌, [], ◌∷◌, ◌++◌, length, arith}
use Rattle.std.proofs.lemmas.List.{length-append}
use Rattle.std.proofs.lemmas.List.FromFn.{length-map-range_with_len}
use Rattle.std.proofs.lemmas.List.Elements.{All-from_recursion}
use Rattle.elf_spec.specs.Image.{image_pages}
use Rattle.thunk_spec.specs.Record.{Record}
use Rattle.machine_spec.specs.Setup.{Setup, map_of, data_pages}
use Rattle.history_spec.specs.History.{IsMapped, IsMappedIn}

length_data : (number count : ℕ) → length (data_pages number count) ≡ count
unfolding data_pages
length_data number count = length-map-range_with_len _ number count

many_pages : (s : Setup) → 769 ≤ length (map_of s)
unfolding map_of
many_pages s =
    omega (
      arith,
      length-append (image_pages s.elf ++ data_pages 0xC0000 1 ++ data_pages 0xC0001 256) (data_pages 0xD0000 512),
      length-append (image_pages s.elf ++ data_pages 0xC0000 1) (data_pages 0xC0001 256),
      length-append (image_pages s.elf) (data_pages 0xC0000 1),
      length_data 0xC0000 1,
      length_data 0xC0001 256,
      length_data 0xD0000 512,
    )

in_more : (n more : ℕ) (r : Record) → n ≤ more → IsMappedIn n r → IsMappedIn more r
in_more n more r few mapped = record {
  reads = λ k d below. let here = mapped.reads k d below in omega arith;
  delta = λ k d below. let here = mapped.delta k d below in omega arith;
}

pub mapped_three :
    (s : Setup) (a b c : Record) → IsMappedIn 769 a → IsMappedIn 769 b → IsMappedIn 769 c
    → IsMapped (record { setup = s; records = a ∷ b ∷ c ∷ [] })
mapped_three s a b c first second third =
    All-from_recursion (IsMappedIn (length (map_of s))) (a ∷ b ∷ c ∷ []) (
      in_more 769 _ a (many_pages s) first,
      (in_more 769 _ b (many_pages s) second, (in_more 769 _ c (many_pages s) third, tt)),
    )
