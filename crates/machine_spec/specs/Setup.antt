-- What a run starts from: a program, an input and two limits, and the machine that they make.
use Rattle.std.specs.Prelude.{◌≡◌, ℕ, ◌*◌, ◌≤◌, Bool, true, List, [], ◌∷◌, ◌++◌, length, map, replicate, slice_index, None}
use Rattle.std.specs.List.{range_with_len}
use Rattle.std.specs.Int.{to_le_bytes, w32}
use Rattle.memory_spec.specs.Pages.{Mapped, Memory, zero_page}
use Rattle.elf_spec.specs.declared.TheConstants.{MOST_ELF_BYTES}
use Rattle.elf_spec.specs.Image.{image_pages, image_memory, entry_of, is_image}
use Rattle.thunk_spec.specs.Record.{Record}
use Rattle.guest_call.specs.Objects.{opening}
use Rattle.machine_spec.specs.declared.TheConstants.{MOST_INPUT_BYTES, HEADER, HEADER_PAGE, INPUT_PAGE, INPUT_PAGES, STACK_PAGE, STACK_PAGES}
use Rattle.machine_spec.specs.Limits.{AreLimits}
use Rattle.machine_spec.specs.Machine.{Machine}
use Rattle.machine_spec.specs.Performing.{first_hart}
use Rattle.machine_spec.specs.Schedule.{scratch_from, is_permitted_from, is_complete_from, records_from}

-- An executable file, an input, the most turns of a thunk, and the most steps of a run.
pub record Setup : Type 0 where
  pub elf : List ℕ
  pub input : List ℕ
  pub fuel : ℕ
  pub limit : ℕ

-- A setup that may be run: the file is accepted, and sizes and limits are in range.
pub record IsSetup (s : Setup) : Type 0 where
  pub elf_size : length s.elf ≤ MOST_ELF_BYTES
  pub elf_accepted : is_image s.elf ≡ true
  pub input_size : length s.input ≤ MOST_INPUT_BYTES
  pub limits : AreLimits s.fuel s.limit

-- Pages to read and write, from a number on, so many.
unfoldable pub data_pages : ℕ → ℕ → List Mapped
data_pages number count = map (λ n. record { number = n; permission = 6 }) (range_with_len number count)

-- The page map of a setup: the pages of the image, of the input's header, of the input, and of the threads' stacks.
unfoldable pub map_of : Setup → List Mapped
map_of s =
    image_pages s.elf ++ data_pages HEADER_PAGE 1 ++ data_pages INPUT_PAGE INPUT_PAGES ++ data_pages STACK_PAGE STACK_PAGES

-- The input's header page: its length as a word, and zeros.
unfoldable pub header_page : List ℕ → List ℕ
header_page input = to_le_bytes w32 (length input) ++ replicate 4092 0

-- A page of the input, zero past its end.
unfoldable pub input_page : List ℕ → ℕ → List ℕ
input_page input k = map (λ i. slice_index input i) (range_with_len (4096 * k) 4096)

-- The pages of the input.
unfoldable pub input_memory : List ℕ → Memory
input_memory input = map (input_page input) (range_with_len 0 INPUT_PAGES)

-- The stacks of all threads.
unfoldable pub stack_memory : Memory
stack_memory = replicate STACK_PAGES zero_page

-- The memory that a setup starts with.
unfoldable pub start_memory : Setup → Memory
start_memory s = image_memory s.elf ++ header_page s.input ∷ [] ++ input_memory s.input ++ stack_memory

-- The machine that a setup starts as: thread 0 alone, at the file's entry, with the address of the input header in a0.
unfoldable pub first : Setup → Machine
first s =
    record {
      frame = record { map = map_of s; fuel = s.fuel };
      limit = s.limit;
      memory = start_memory s;
      harts = first_hart (start_memory s) 0 (entry_of s.elf) HEADER ∷ [];
      objects = opening;
      output = [];
      steps = 0;
      ending = None;
    }

-- The machine from scratch: after the steps of a schedule.
abbrev pub scratch : Setup → List ℕ → Machine
scratch s schedule = scratch_from (first s) schedule

-- Whether a schedule is permitted, and whether it is complete.
abbrev pub is_permitted : Setup → List ℕ → Bool
is_permitted s schedule = is_permitted_from (first s) schedule

abbrev pub is_complete : Setup → List ℕ → Bool
is_complete s schedule = is_complete_from (first s) schedule

-- The records of the entries of a schedule, in order.
abbrev pub records : Setup → List ℕ → List Record
records s schedule = records_from (first s) schedule
