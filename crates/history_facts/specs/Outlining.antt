-- What the facts of steps need of the machine after the records before them.
use Rattle.std.specs.Prelude.{◌≡◌, ℕ, true, List, [], ◌∷◌, ◌++◌, length, slice_index}
use Rattle.guest_call.specs.declared.thread_number.TheConstants.{THREADS}
use Rattle.thunk_spec.specs.Record.{Record}
use Rattle.machine_spec.specs.Machine.{Machine, hart_of}
use Rattle.machine_spec.specs.Whole.{IsWhole}
use Rattle.release_core.specs.Applying.{can_apply}
use Rattle.history_facts.specs.declared.outline.Outline.{Outline}

-- The page map and the objects of a machine, how many threads it has, and how many steps each of them has made.
pub record IsOutlineOf (m : Machine) (outline : Outline) : Type 0 where
  pub map : outline.map ≡ m.frame.map
  pub objects : outline.objects ≡ m.objects
  pub threads : outline.threads ≡ length m.harts
  pub each : length outline.numbers ≡ THREADS
  pub numbers : (t : ℕ) → slice_index outline.numbers t ≡ (hart_of m t).number

-- A record that may be applied to a whole machine, with the machine's outline.
pub record MayBeApplied (m : Machine) (o : Outline) (r : Record) : Type 0 where
  pub outline : IsOutlineOf m o
  pub whole : IsWhole m
  pub can : can_apply m r ≡ true

-- The slots that the next thunks of some threads read, by how many steps each thread has made.
abbrev pub numbered : (ℕ → ℕ → List ℕ) → List ℕ → List ℕ → List ℕ
numbered reads numbers [] = []
numbered reads numbers (t ∷ threads) = reads t (slice_index numbers t) ++ numbered reads numbers threads
