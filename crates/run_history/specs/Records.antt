-- What holds of the records of every run, and the places of each thread's records among all.
use Rattle.std.specs.Prelude.{◌≡◌, ◌<◌, ◌≤◌, ◌==◌, ℕ, suc, true, if◌then◌else◌, List, [], ◌∷◌, length, nat_lt, slice_index_or}
use Rattle.std.specs.List.{list_all}
use Rattle.guest_call.specs.declared.thread_number.TheConstants.{THREADS}
use Rattle.machine_spec.specs.declared.TheConstants.{MOST_STEPS}
use Rattle.thunk_spec.specs.Record.{Record}
use Rattle.history_spec.specs.History.{is_numbered}

-- The places of the records of a thread in order, if the first of all records has place k.
abbrev pub places_from : ℕ → ℕ → List Record → List ℕ
places_from k t [] = []
places_from k t (r ∷ rs) = if r.thread == t then k ∷ places_from (suc k) t rs else places_from (suc k) t rs

-- There is a thread of each record's number.
abbrev pub HaveThreads : List Record → Type 0
HaveThreads rs = list_all (λ (r : Record). nat_lt r.thread THREADS) rs ≡ true

-- Records as a run makes them: the number of each is how many records of its thread come before it, there is a thread
-- of each one's number, and they are at most as many as a run can have steps.
pub record AreOfRun (rs : List Record) : Type 0 where
  pub numbered : is_numbered rs ≡ true
  pub threads : HaveThreads rs
  pub few : length rs ≤ MOST_STEPS

-- Records as a run makes them, and the places of each thread's records.
pub record IsIndexed (places : List (List ℕ)) (rs : List Record) : Type 0 where
  pub index : (t : ℕ) → t < THREADS → slice_index_or places t [] ≡ places_from 0 t rs
  pub of_run : AreOfRun rs
