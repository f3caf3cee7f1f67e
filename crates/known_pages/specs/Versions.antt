-- Which versions of its history's pages the pages of a round are. Version n of a page is the page after the first n
-- steps of the history.
use Rattle.std.specs.Prelude.{◌≡◌, ◌≤◌, ◌<◌, ℕ, suc, ◌+◌, ⊤, Bool, true, false, ◌&&◌, ◌==◌, nat_le, if◌then◌else◌, List, [], ◌∷◌, length, map, replicate, Option, Some, None, is_none, slice_get, slice_set, slice_index, Box}
use Rattle.std.specs.Global.{Global}
use Rattle.guest_call.specs.declared.thread_number.TheConstants.{THREADS}
use Rattle.std.specs.Str.{bytes_eq}
use Rattle.memory_spec.specs.Pages.{Memory, page_of}
use Rattle.machine_spec.specs.declared.TheConstants.{MOST_STEPS}
use Rattle.thunk_spec.specs.Delta.{PageDelta}
use Rattle.thunk_spec.specs.Reads.{ReadPage}
use Rattle.thunk_spec.specs.Record.{Record}
use Rattle.machine_spec.specs.Machine.{Machine, hart_of, is_ready}
use Rattle.machine_spec.specs.Setup.{IsSetup, first}
use Rattle.history_spec.specs.History.{History, is_coherent}
use Rattle.history_spec.specs.Facts.{written_slots}
use Rattle.release_core.specs.Applying.{machine_at}
use Rattle.round_spec.specs.Rounds.{RoundState}
use Rattle.known_pages.specs.declared.times.PageVersion.{PageVersion}
use Rattle.known_pages.specs.declared.versions.StepVersions.{StepVersions}
use Rattle.known_pages.specs.declared.versions.Versions.{Versions}

-- A list with the same entry at each of some places.
abbrev pub with_each : {A : Type 0} → List A → List ℕ → A → List A
with_each xs [] x = xs
with_each xs (p ∷ ps) x = with_each (slice_set xs p x) ps x

-- ---- times

-- Whether something is known to have happened by a time.
abbrev pub is_by : Option ℕ → ℕ → Bool
is_by None given = false
is_by (Some at) given = nat_le at given

-- Whether a page wasn't written since a thread was given its view.
abbrev pub is_current : List ℕ → List ℕ → ℕ → ℕ → Bool
is_current written viewed t p = is_by (slice_get written p) (slice_index viewed t)

-- When a thread was given its view, after a step of a thread that resulted in this machine: of one that isn't ready,
-- when it can be given its next view. A created thread gets the next number.
abbrev pub viewed_after : Machine → ℕ → ℕ → ℕ → ℕ → ℕ
viewed_after m t u before now =
    if nat_le u (length m.harts)
    then (if is_ready (hart_of m u).status then (if u == t then now else before) else suc now)
    else before

-- Times of a machine after so many steps: unless it has ended, a page that is current in the view of a ready thread is
-- the same there as in shared memory; a ready thread was given its view by now, and any other thread gets its next one
-- after now.
pub record AreTimes (m : Machine) (steps : ℕ) (written viewed : List ℕ) : Type 0 where
  pub current :
      (u p : ℕ) → is_none m.ending ≡ true → is_ready (hart_of m u).status ≡ true → is_current written viewed u p ≡ true
      → page_of (hart_of m u).view p ≡ page_of m.memory p
  pub past : (u : ℕ) → is_ready (hart_of m u).status ≡ true → slice_index viewed u ≤ steps
  pub most : (u : ℕ) → slice_index viewed u ≤ suc steps

-- ---- versions in a history

-- The version of a page that a step finds in shared memory, by when each page was last written.
abbrev pub stored_version : List ℕ → ℕ → PageVersion
stored_version written p = record { slot = p; version = slice_get written p }

-- The version that it finds in the view of its thread, if that wasn't written since.
abbrev pub seen_version : List ℕ → List ℕ → ℕ → ℕ → PageVersion
seen_version written viewed t p =
    record { slot = p; version = if is_current written viewed t p then slice_get written p else None }

-- The versions that the step at a place of a history finds: of a page that it reads, in its thread's view; of one that
-- it writes, in shared memory. None says nothing.
pub record IsStepOf (h : History) (place : ℕ) (r : Record) (s : StepVersions) : Type 0 where
  pub seen : ℕ → Option ℕ
  pub stored : ℕ → Option ℕ
  pub read :
      s.read.items ≡ map (λ (p : ReadPage). record { slot = p.slot; version = seen p.slot }) r.kept.reads
  pub written :
      s.written.items ≡ map (λ (d : PageDelta). record { slot = d.slot; version = stored d.slot }) r.kept.delta
  pub views :
      (p x : ℕ) → seen p ≡ Some x
      → page_of (hart_of (machine_at h place) r.thread).view p ≡ page_of (machine_at h x).memory p
  pub memory :
      (p x : ℕ) → stored p ≡ Some x → page_of (machine_at h place).memory p ≡ page_of (machine_at h x).memory p

-- The same for each step that both lists have.
pub record AreStepsOf (h : History) (steps : List StepVersions) : Type 0 where
  pub each :
      (place : ℕ) → (r : Record) → (s : StepVersions)
      → slice_get h.records place ≡ Some r → slice_get steps place ≡ Some s → IsStepOf h place r s

-- ---- versions in a round

-- Pages of a machine whose versions are known: each is the page after so many first steps of the history.
abbrev pub AreOldPages : History → Machine → List (Option ℕ) → Type 0
AreOldPages h m pages =
    (p x : ℕ) → slice_get pages p ≡ Some (Some x) → page_of m.memory p ≡ page_of (machine_at h x).memory p

-- Whether a page is known to be of a version.
abbrev pub is_of_version : Option ℕ → Option (Option ℕ) → Bool
is_of_version (Some x) (Some (Some y)) = x == y
is_of_version (Some x) (Some None) = false
is_of_version (Some x) None = false
is_of_version None page = false

-- The versions of pages with that of one set, if there is any.
abbrev pub with_known : List (Option ℕ) → ℕ → Option ℕ → List (Option ℕ)
with_known pages p None = pages
with_known pages p (Some x) = slice_set pages p (Some x)

-- The versions that are known once a record fits: of the pages that it read, those that are current in its thread's
-- view.
abbrev pub learned : List ℕ → List ℕ → List (Option ℕ) → ℕ → List PageVersion → List (Option ℕ)
learned written viewed pages t [] = pages
learned written viewed pages t (v ∷ read) =
    learned written viewed
    (if is_current written viewed t v.slot then with_known pages v.slot v.version else pages) t read

-- The versions after a step of a history is reused, by the version after that step: a page that the step writes is of
-- this version if it was of the version that the step found; else its version is unknown.
abbrev pub rewritten : List (Option ℕ) → ℕ → List PageVersion → List (Option ℕ)
rewritten pages after [] = pages
rewritten pages after (v ∷ written) =
    rewritten
    (slice_set pages v.slot (if is_of_version v.version (slice_get pages v.slot) then Some after else None)) after written

-- Versions after the record at a place of the history was reused, as the last of so many steps, before its thread and
-- others were given views.
pub record AreReused (old : Versions) (place : ℕ) (r : Record) (now : ℕ) (new : Versions) : Type 0 where
  pub step : StepVersions
  pub there : slice_get old.steps.items place ≡ Some step
  pub steps : new.steps.items ≡ old.steps.items
  pub written : new.times.written.items ≡ with_each old.times.written.items (written_slots r) now
  pub viewed : new.times.viewed ≡ old.times.viewed
  pub pages :
      new.pages.items
      ≡ rewritten
      (learned old.times.written.items old.times.viewed old.pages.items r.thread step.read.items) (suc place)
      step.written.items

-- The same after a step was executed.
pub record AreExecuted (old : Versions) (r : Record) (now : ℕ) (new : Versions) : Type 0 where
  pub steps : new.steps.items ≡ old.steps.items
  pub written : new.times.written.items ≡ with_each old.times.written.items (written_slots r) now
  pub viewed : new.times.viewed ≡ old.times.viewed
  pub pages : new.pages.items ≡ with_each old.pages.items (written_slots r) None

-- Threads were given views by a step of a thread.
pub record AreGiven (m : Machine) (t now : ℕ) (old new : Versions) : Type 0 where
  pub steps : new.steps.items ≡ old.steps.items
  pub written : new.times.written.items ≡ old.times.written.items
  pub viewed :
      (u : ℕ) → u < THREADS
      → slice_index new.times.viewed u ≡ viewed_after m t u (slice_index old.times.viewed u) now
  pub count : length new.times.viewed ≡ THREADS
  pub pages : new.pages.items ≡ old.pages.items

-- Versions after a record was reused, or a step executed, of a thread that then gave views.
pub record AreMadeAgain (old : Versions) (m : Machine) (place : ℕ) (r : Record) (now : ℕ) (new : Versions) : Type 0 where
  pub made : Versions
  pub reused : AreReused old place r now made
  pub given : AreGiven m r.thread now made new

pub record AreMadeAnew (old : Versions) (m : Machine) (r : Record) (now : ℕ) (new : Versions) : Type 0 where
  pub made : Versions
  pub executed : AreExecuted old r now made
  pub given : AreGiven m r.thread now made new

-- The same for versions that may be absent.
abbrev pub MayBeMadeAgain : Option Versions → Machine → ℕ → Record → ℕ → Option Versions → Type 0
MayBeMadeAgain old m place r now None = ⊤
MayBeMadeAgain None m place r now (Some new) = ⊥
MayBeMadeAgain (Some old) m place r now (Some new) = AreMadeAgain old m place r now new

abbrev pub MayBeMadeAnew : Option Versions → Machine → Record → ℕ → Option Versions → Type 0
MayBeMadeAnew old m r now None = ⊤
MayBeMadeAnew None m r now (Some new) = ⊥
MayBeMadeAnew (Some old) m r now (Some new) = AreMadeAnew old m r now new

-- The known versions, taken out of their box.
abbrev pub unboxed : Option (Box Versions Global) → Option Versions
unboxed None = None
unboxed (Some versions) = Some versions.value

-- A history may be run and is coherent, and a round's machine has its fuel and its number of pages.
pub record IsComparable (w : RoundState) (h : History) : Type 0 where
  pub valid : IsSetup h.setup
  pub coherent : is_coherent h ≡ true
  pub fuel : w.machine.frame.fuel ≡ h.setup.fuel
  pub size : length w.machine.memory ≡ length (first h.setup).memory

-- What is known of versions is right.
pub record AreVersions (h : History) (w : RoundState) (v : Versions) : Type 0 where
  pub comparable : IsComparable w h
  pub count : length v.steps.items ≡ length h.records
  pub few : length v.steps.items ≤ MOST_STEPS
  pub steps : AreStepsOf h v.steps.items
  pub times : AreTimes w.machine (length w.schedule) v.times.written.items v.times.viewed
  pub pages : AreOldPages h w.machine v.pages.items

-- The same, if anything is known.
abbrev pub AreRight : RoundState → Option Versions → Type 0
AreRight w None = ⊤
AreRight w (Some v) = (h : History) → w.past ≡ Some h → AreVersions h w v

-- Versions of which nothing is known yet.
pub record AreFresh (now : ℕ) (v : Versions) : Type 0 where
  pub written : (p x : ℕ) → slice_get v.times.written.items p ≡ Some x → x ≡ suc now
  pub viewed : v.times.viewed ≡ replicate THREADS 0
  pub pages : (p x : ℕ) → slice_get v.pages.items p ≡ Some (Some x) → ⊥

-- Whether a page is known to be of the version that a step finds, in the view of a thread.
abbrev pub is_known : Versions → ℕ → Option PageVersion → Bool
is_known v t None = false
is_known v t (Some page) =
    is_current v.times.written.items v.times.viewed t page.slot
    && is_of_version page.version (slice_get v.pages.items page.slot)

-- The version that a step finds of the page at a place of those that it reads.
abbrev pub read_version : Option StepVersions → ℕ → Option PageVersion
read_version None k = None
read_version (Some step) k = slice_get step.read.items k

-- Whether the page at a place of those that the history's step at a place read is known to be what it read, in the view
-- of a thread.
abbrev pub knows_read : Versions → ℕ → ℕ → ℕ → Bool
knows_read v place t k = is_known v t (read_version (slice_get v.steps.items place) k)

-- A view has those of the pages that the history's step at a place read that are known to be what it read.
abbrev pub HasKnown : Versions → ℕ → ℕ → Memory → List ReadPage → Type 0
HasKnown v place t view reads =
    (k : ℕ) → (r : ReadPage) → slice_get reads k ≡ Some r → knows_read v place t k ≡ true
    → bytes_eq (page_of view r.slot) r.bytes ≡ true

-- How many of some read pages, of which the first has this place, aren't known. Pages after the first unknown one that
-- differs don't count.
abbrev pub unknown_in : (ℕ → Bool) → ℕ → Memory → List ReadPage → ℕ
unknown_in known k view [] = 0
unknown_in known k view (r ∷ reads) =
    if known k
    then unknown_in known (suc k) view reads
    else 1 + (if bytes_eq (page_of view r.slot) r.bytes then unknown_in known (suc k) view reads else 0)
