-- The slots of a record of a step are in the machine's map, so those of an honest history are in its setup's.
use Rattle.std.proofs.Common.{◌≡◌, ◌<◌, ◌+◌, ◌%◌, ℕ, suc, Bool, true, false, cond, List, [], ◌∷◌, All, length, set, refl, ap, sym, ◌∙◌, subst, arith}
use Rattle.std.proofs.lemmas.List.{length-set}
use Rattle.std.proofs.lemmas.List.Elements.{All-from_recursion}
use Rattle.std.specs.List.{AllByRecursion}
use Rattle.isa_spec.specs.Registers.{Registers}
use Rattle.memory_spec.specs.Pages.{Mapped, Memory, slot_of, on_each, zero_page}
use Rattle.memory_spec.specs.Stores.{StoredByte, with_stores}
use Rattle.memory_spec.specs.Workspace.{Masks, no_marks, mask_of, with_mark, marked, taken_at}
use Rattle.thunk_spec.specs.Thunk.{Frame, thunk}
use Rattle.thunk_spec.specs.Delta.{PageDelta, is_stored, chosen, delta_from, delta_of}
use Rattle.thunk_spec.specs.Reads.{ReadPage, reads_from, reads_of}
use Rattle.thunk_spec.specs.Record.{Record, Kept, kept_thunk}
use Rattle.thunk_spec.proofs.Truth.{length-on_each}
use Rattle.machine_spec.specs.Machine.{Machine, hart_of}
use Rattle.machine_spec.specs.Step.{step}
use Rattle.machine_spec.specs.Schedule.{record_of, records_from}
use Rattle.machine_spec.specs.Setup.{Setup, first, map_of, records}
use Rattle.history_spec.specs.History.{History, IsHonest, IsMappedIn, IsMapped, schedule_of}
use Rattle.history_spec.proofs.Scratch.{step-frame}

-- a read page in a slot below a number
abbrev IsReadBelow : ℕ → ReadPage → Type 0
IsReadBelow n p = p.slot < n

-- stored bytes in a slot below a number
abbrev IsStoredBelow : ℕ → PageDelta → Type 0
IsStoredBelow n d = d.slot < n

length-taken :
    (map : List Mapped) (taken : List Bool) (addresses : List ℕ)
    → length (taken_at map taken addresses) ≡ length taken
length-taken map taken [] = refl
length-taken map taken (a ∷ addresses) =
    length-taken map (set taken (slot_of map a) true) addresses ∙ length-set taken (slot_of map a) true

length-with_mark : (map : List Mapped) (masks : Masks) (s : StoredByte) → length (with_mark map masks s) ≡ length masks
unfolding with_mark
length-with_mark map masks s =
    length-set masks (slot_of map s.address)
    (set (mask_of masks (slot_of map s.address)) (s.address % 4096) true)

length-marked :
    (map : List Mapped) (masks : Masks) (stores : List StoredByte)
    → length (marked map masks stores) ≡ length masks
length-marked map masks [] = refl
length-marked map masks (s ∷ stores) = length-marked map (with_mark map masks s) stores ∙ length-with_mark map masks s

reads-below :
    (k n : ℕ) (taken : List Bool) (view : Memory) → k + length taken ≡ n
    → AllByRecursion (IsReadBelow n) (reads_from k taken view)
reads-below k n [] view is = tt
reads-below k n (true ∷ taken) view is = (omega arith, reads-below (suc k) n taken view (omega arith))
reads-below k n (false ∷ taken) view is = reads-below (suc k) n taken view (omega arith)

delta-below :
    (k n : ℕ) (masks : Masks) (pages : Memory) → k + length masks ≡ n
    → AllByRecursion (IsStoredBelow n) (delta_from k masks pages)
delta-below k n [] pages is = tt
delta-below k n (mask ∷ masks) [] is = tt
delta-below k n (mask ∷ masks) (page ∷ pages) is =
    let rest : AllByRecursion (IsStoredBelow n) (delta_from (suc k) masks pages) =
    delta-below (suc k) n masks pages (omega arith) in
    let d : PageDelta = record { slot = k; mask = mask; bytes = chosen mask page } in
    elim (is_stored mask)
    as (λ b. AllByRecursion (IsStoredBelow n)
    (cond b (d ∷ delta_from (suc k) masks pages) (delta_from (suc k) masks pages)))
    [ true ↦ (omega arith, rest) | false ↦ rest ]

pub kept-reads :
    (f : Frame) (view : Memory) (regs : Registers)
    → AllByRecursion (IsReadBelow (length f.map)) (kept_thunk f view regs).reads
unfolding kept_thunk reads_of
kept-reads f view regs =
    let long : length (taken_at f.map (on_each false f.map) (thunk f view regs).taken) ≡ length f.map =
    length-taken f.map (on_each false f.map) (thunk f view regs).taken ∙ length-on_each false f.map in
    reads-below 0 (length f.map) (taken_at f.map (on_each false f.map) (thunk f view regs).taken) view (omega arith)

pub kept-delta :
    (f : Frame) (view : Memory) (regs : Registers)
    → AllByRecursion (IsStoredBelow (length f.map)) (kept_thunk f view regs).delta
unfolding kept_thunk delta_of
kept-delta f view regs =
    let long : length (marked f.map (on_each no_marks f.map) (thunk f view regs).stores) ≡ length f.map =
    length-marked f.map (on_each no_marks f.map) (thunk f view regs).stores ∙ length-on_each no_marks f.map in
    delta-below 0 (length f.map) (marked f.map (on_each no_marks f.map) (thunk f view regs).stores)
    (with_stores f.map (on_each zero_page f.map) (thunk f view regs).stores) (omega arith)

-- the record of a thread's next step has its slots in the machine's map
pub record-mapped : (m : Machine) (t : ℕ) → IsMappedIn (length m.frame.map) (record_of m t)
record-mapped m t =
    let k : Kept = kept_thunk m.frame (hart_of m t).view (hart_of m t).regs in
    record {
      reads =
          All-from_recursion (IsReadBelow (length m.frame.map)) k.reads
          (kept-reads m.frame (hart_of m t).view (hart_of m t).regs);
      delta =
          All-from_recursion (IsStoredBelow (length m.frame.map)) k.delta
          (kept-delta m.frame (hart_of m t).view (hart_of m t).regs);
    }

-- and so have those of a schedule's steps
records-mapped :
    (m : Machine) (n : ℕ) (ts : List ℕ) → length m.frame.map ≡ n
    → AllByRecursion (IsMappedIn n) (records_from m ts)
records-mapped m n [] is = tt
records-mapped m n (t ∷ ts) is = (
  subst (λ (k : ℕ). IsMappedIn k (record_of m t)) is (record-mapped m t),
  records-mapped (step m t) n ts (ap (λ (f : Frame). length f.map) (step-frame m t) ∙ is),
)

pub first-map : (s : Setup) → (first s).frame.map ≡ map_of s
unfolding first
first-map s = refl

pub setup-mapped : (s : Setup) (ts : List ℕ) → All (IsMappedIn (length (map_of s))) (records s ts)
setup-mapped s ts =
    All-from_recursion (IsMappedIn (length (map_of s))) (records s ts)
    (records-mapped (first s) (length (map_of s)) ts (ap (λ (map : List Mapped). length map) (first-map s)))

-- an honest history is mapped
pub honest-mapped : (h : History) → IsHonest h → IsMapped h
honest-mapped h honest =
    subst (λ (rs : List Record). All (IsMappedIn (length (map_of h.setup))) rs) (sym honest.recorded)
    (setup-mapped h.setup (schedule_of h))
