-- The machine that a setup of bytes starts as is one of words and bytes.
use Rattle.std.proofs.Common.{◌<◌, ◌+◌, ◌-◌, ◌*◌, ℕ, Bool, true, false, ltb, cond, List, [], ◌∷◌, ◌++◌, length, drop, replicate, Option, Some, None, arith}
use Rattle.std.specs.Prelude.{slice_index, find}
use Rattle.std.specs.List.{range_with_len}
use Rattle.std.specs.Int.{to_le_bytes, w32}
use Rattle.memory_spec.specs.Pages.{Mapped, zero_page}
use Rattle.elf_spec.specs.Fields.{u32_at}
use Rattle.elf_spec.specs.Header.{ProgramHeader, segments}
use Rattle.elf_spec.specs.Segments.{has_address}
use Rattle.elf_spec.specs.Image.{image_pages, image_memory, image_page, image_byte, segment_byte, entry_of}
use Rattle.machine_spec.specs.Setup.{Setup, header_page, input_page, input_memory, stack_memory, start_memory, first}
use Rattle.memo_spec.specs.Encoding.{AreBytes}
use Rattle.memo_spec.proofs.Formats.{IsBytes-drop, wide32}
use Rattle.rerun_spec.proofs.Lists.{every-at, every-append, every-replicate, every-map}
use Rattle.rerun_spec.proofs.Words.{IsWord}
use Rattle.rerun_spec.proofs.Memory.{IsByte, HasBytes}
use Rattle.rerun_spec.proofs.Deltas.{zero_page-bytes}
use Rattle.rerun_spec.proofs.Machine.{IsOfWords, first-registers}

-- the byte at a place of bytes, and zero past them
byte-at : (bytes : List ℕ) (i : ℕ) → AreBytes bytes → slice_index bytes i < 256
byte-at bytes i all = every-at IsByte bytes i 0 (omega arith) all

segment-byte :
    (bytes : List ℕ) (o : Option ProgramHeader) (address : ℕ) → AreBytes bytes → segment_byte bytes o address < 256
segment-byte bytes None address all = omega arith
segment-byte bytes (Some segment) address all =
    at (ltb (address - segment.vaddr) segment.filesz)
  where
    at : (b : Bool) → cond b (slice_index bytes (segment.offset + (address - segment.vaddr))) 0 < 256
    at true = byte-at bytes (segment.offset + (address - segment.vaddr)) all
    at false = omega arith

image-byte : (bytes : List ℕ) (address : ℕ) → AreBytes bytes → image_byte bytes address < 256
unfolding image_byte
image-byte bytes address all =
    segment-byte bytes (find (λ (segment : ProgramHeader). has_address segment address) (segments bytes)) address all

image-page : (bytes : List ℕ) (number : ℕ) → AreBytes bytes → AreBytes (image_page bytes number)
unfolding image_page
image-page bytes number all =
    every-map IsByte (image_byte bytes) (range_with_len (4096 * number) 4096) (λ address. image-byte bytes address all)

image-bytes : (bytes : List ℕ) → AreBytes bytes → HasBytes (image_memory bytes)
unfolding image_memory
image-bytes bytes all =
    every-map AreBytes (λ (page : Mapped). image_page bytes page.number) (image_pages bytes)
    (λ page. image-page bytes page.number all)

header-bytes : (input : List ℕ) → AreBytes (header_page input)
unfolding header_page
header-bytes input =
    every-append IsByte (to_le_bytes w32 (length input)) (replicate 4092 0)
    (omega arith, (omega arith, (omega arith, (omega arith, tt)))) (every-replicate IsByte 4092 0 (omega arith))

input_page-bytes : (input : List ℕ) (k : ℕ) → AreBytes input → AreBytes (input_page input k)
unfolding input_page
input_page-bytes input k all =
    every-map IsByte (λ (i : ℕ). slice_index input i) (range_with_len (4096 * k) 4096) (λ i. byte-at input i all)

input-bytes : (input : List ℕ) → AreBytes input → HasBytes (input_memory input)
unfolding input_memory
input-bytes input all =
    every-map AreBytes (input_page input) (range_with_len 0 256) (λ k. input_page-bytes input k all)

stack-bytes : HasBytes stack_memory
unfolding stack_memory
stack-bytes = every-replicate AreBytes 512 zero_page zero_page-bytes

start-bytes : (s : Setup) → AreBytes s.elf → AreBytes s.input → HasBytes (start_memory s)
unfolding start_memory
start-bytes s elf input =
    every-append AreBytes (image_memory s.elf ++ header_page s.input ∷ [] ++ input_memory s.input) stack_memory
    (every-append AreBytes (image_memory s.elf ++ header_page s.input ∷ []) (input_memory s.input)
    (every-append AreBytes (image_memory s.elf) (header_page s.input ∷ []) (image-bytes s.elf elf)
    (header-bytes s.input, tt))
    (input-bytes s.input input))
    stack-bytes

entry-word : (bytes : List ℕ) → AreBytes bytes → IsWord (entry_of bytes)
unfolding entry_of u32_at
entry-word bytes all = wide32.below (drop 24 bytes) (IsBytes-drop 24 bytes (λ i. byte-at bytes i all))

pub first-words : (s : Setup) → AreBytes s.elf → AreBytes s.input → IsOfWords (first s)
unfolding first
first-words s elf input =
    let memory : HasBytes (start_memory s) = start-bytes s elf input in
    record {
      memory = memory;
      harts = (
        record {
          regs = first-registers 0 (entry_of s.elf) 0xC0000000 (omega arith) (entry-word s.elf elf) (omega arith);
          view = memory;
        },
        tt,
      );
      members = (tt, tt);
    }
