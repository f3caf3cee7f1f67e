-- When a round continues as its history did, except for some pages.
use Rattle.std.specs.Prelude.{◌≡◌, ℕ, ⊤, Bool, true, false, not, ◌&&◌, List, [], ◌∷◌, length, Option, Some, None, is_none, option_map, slice_get, slice_index_or, slice_set, Vec}
use Rattle.std.specs.Global.{Global}
use Rattle.isa_spec.specs.Registers.{same_registers}
use Rattle.memory_spec.specs.Pages.{Memory, page_of}
use Rattle.thunk_spec.specs.Reads.{ReadPage}
use Rattle.thunk_spec.specs.Record.{Record}
use Rattle.machine_spec.specs.Machine.{Machine, hart_of, is_ready}
use Rattle.machine_spec.specs.Setup.{IsSetup, first}
use Rattle.history_spec.specs.History.{History, applied_from, can_apply_from, is_coherent}
use Rattle.history_spec.specs.Facts.{ask_of, written_slots}
use Rattle.release_core.specs.Applying.{machine_at}
use Rattle.round_spec.specs.Marks.{fits_next}
use Rattle.round_spec.specs.Rounds.{RoundState}
use Rattle.round_spec.specs.Due.{place_in}
use Rattle.round_spec.specs.Replaying.{HasReused}

-- The machine of a round is the one after the records of its entries, each of which fits where it is applied.
pub record IsApplied (w : RoundState) : Type 0 where
  pub machine : w.machine ≡ applied_from (first w.setup) w.records
  pub can : can_apply_from (first w.setup) w.records ≡ true

-- Whether the page in a slot is marked.
abbrev pub is_marked : List Bool → ℕ → Bool
is_marked marks slot = slice_index_or marks slot false

-- A machine continues as an older one did: page map, fuel, objects and threads are the same, and so are the pages that
-- aren't marked, in shared memory and in the view of each ready thread.
pub record IsLike (marks : List Bool) (old m : Machine) : Type 0 where
  pub frame : m.frame ≡ old.frame
  pub objects : m.objects ≡ old.objects
  pub count : length m.harts ≡ length old.harts
  pub status : (u : ℕ) → (hart_of m u).status ≡ (hart_of old u).status
  pub number : (u : ℕ) → (hart_of m u).number ≡ (hart_of old u).number
  pub size : length m.memory ≡ length old.memory
  pub marked : length marks ≡ length old.memory
  pub memory : (p : ℕ) → is_marked marks p ≡ false → page_of m.memory p ≡ page_of old.memory p
  pub views :
      (u p : ℕ) → is_ready (hart_of old u).status ≡ true → is_marked marks p ≡ false
      → page_of (hart_of m u).view p ≡ page_of (hart_of old u).view p

-- A round continues as a history did, which may be run and is coherent. Each thread has made as many steps as in the
-- history's machine after as many steps as the round's. Unless that machine has ended, the round's is like it.
pub record ContinuesAs (h : History) (marks : List Bool) (w : RoundState) : Type 0 where
  pub valid : IsSetup h.setup
  pub coherent : is_coherent h ≡ true
  pub numbers : (u : ℕ) → (hart_of w.machine u).number ≡ (hart_of (machine_at h (length w.records)) u).number
  pub like :
      is_none (machine_at h (length w.records)).ending ≡ true
      → IsLike marks (machine_at h (length w.records)) w.machine

-- The same for the history that a round is based on, if marks are kept.
abbrev pub IsAsMarked : RoundState → Option (Vec Bool Global) → Type 0
IsAsMarked w None = ⊤
IsAsMarked w (Some marks) = (h : History) → w.past ≡ Some h → ContinuesAs h marks.items w

-- No page is marked.
abbrev pub IsClean : List Bool → Type 0
IsClean marks = (p : ℕ) → is_marked marks p ≡ false

-- Marks are kept, and no page is marked.
abbrev pub AreClean : Option (Vec Bool Global) → Type 0
AreClean None = ⊥
AreClean (Some marks) = IsClean marks.items

-- What the marks of a round say. If marks are kept, it continues as its history did. As long as it has only reused a
-- coherent history of its own setup, they are kept and no page is marked.
pub record IsAsBefore (w : RoundState) (marks : Option (Vec Bool Global)) : Type 0 where
  pub marked : IsAsMarked w marks
  pub clean : (h : History) → is_coherent h ≡ true → HasReused h w → AreClean marks

-- Marks on the pages of two memories: a page that isn't marked is the same in both.
pub record AreMarksOn (old new : Memory) (marks : List Bool) : Type 0 where
  pub count : length marks ≡ length old
  pub same : (p : ℕ) → is_marked marks p ≡ false → page_of new p ≡ page_of old p

-- Marks with the pages in some slots marked too.
abbrev pub marked : List Bool → List ℕ → List Bool
marked marks [] = marks
marked marks (slot ∷ slots) = marked (slice_set marks slot true) slots

-- Whether none of some read pages is marked.
abbrev pub all_unmarked : List Bool → List ReadPage → Bool
all_unmarked marks [] = true
all_unmarked marks (r ∷ reads) = not (is_marked marks r.slot) && all_unmarked marks reads

-- An executed step is in the place of a history's record: that is of the same thread, and ends with the same call or
-- the same end.
pub record IsInPlace (past : Option History) (place : ℕ) (rec : Record) : Type 0 where
  pub history : History
  pub goes_by : past ≡ Some history
  pub record_there : Record
  pub there : slice_get history.records place ≡ Some record_there
  pub thread : rec.thread ≡ record_there.thread
  pub ask : ask_of rec ≡ ask_of record_there

-- Marks after an executed step in the place of a history's record: those before, with the pages marked too that the
-- step or the record writes.
pub record AreMarksAfter (past : Option History) (place : ℕ) (rec : Record) (old : Option (Vec Bool Global))
    (after : List Bool) : Type 0 where
  pub marks : List Bool
  pub were : option_map (λ v. v.items) old ≡ Some marks
  pub in_place : IsInPlace past place rec
  pub after_both : after ≡ marked (marked marks (written_slots in_place.record_there)) (written_slots rec)

-- The same, if there are any.
abbrev pub MayBeMarks : Option History → ℕ → Record → Option (Vec Bool Global) → Option (Vec Bool Global) → Type 0
MayBeMarks past place rec old None = ⊤
MayBeMarks past place rec old (Some after) = AreMarksAfter past place rec old after.items

-- The next step of a thread, which is ready, is the one of a record if its registers are the record's.
pub record IsNext (w : RoundState) (t : ℕ) (r : Record) : Type 0 where
  pub ready : is_ready (hart_of w.machine t).status ≡ true
  pub fit : fits_next w.past w.machine t ≡ same_registers r.start (hart_of w.machine t).regs

-- A thread's next step is the next one in a coherent history of the round's own setup, of which the round has only
-- reused what came before.
pub record IsRepeated (w : RoundState) (t : ℕ) : Type 0 where
  pub history : History
  pub coherent : is_coherent history ≡ true
  pub reused : HasReused history w
  pub place : place_in w.past w.machine t ≡ length w.schedule
