-- What holds of every round that events reach.
use Rattle.std.specs.Prelude.{List, [], ◌∷◌, ◌++◌, Option, Some, ◌==◌, count_by, ⊤, ◌≡◌, ℕ, true, false, length}
use Rattle.thunk_spec.specs.Record.{Record}
use Rattle.machine_spec.specs.Machine.{hart_of, is_ready}
use Rattle.machine_spec.specs.Setup.{scratch, is_permitted, records}
use Rattle.machine_spec.specs.Whole.{IsWhole}
use Rattle.history_spec.specs.History.{History, IsSound, found, is_numbered, threads_of_records}
use Rattle.report_spec.specs.declared.Entry.{Entry}
use Rattle.report_spec.specs.Report.{threads_of}
use Rattle.round_spec.specs.Marks.{fits_next, marked, sourced}
use Rattle.round_spec.specs.Rounds.{RoundState, is_in_flight}

-- A round is at the machine from scratch: its machine is the one after its schedule, which is permitted; its records
-- are those of the steps, and the record of a reused entry is the history's own; and its marks are exact.
pub record IsFromScratch (w : RoundState) : Type 0 where
  pub machine : w.machine ≡ scratch w.setup (threads_of w.schedule)
  pub permitted : is_permitted w.setup (threads_of w.schedule) ≡ true
  pub records : w.records ≡ records w.setup (threads_of w.schedule)
  pub sources : w.records ≡ sourced w.past w.setup w.schedule
  pub marks : w.schedule ≡ marked w.past w.setup (threads_of w.schedule)

-- A thread in flight is still ready, and no record of its next step fits.
pub record IsHeld (w : RoundState) (t : ℕ) : Type 0 where
  pub ready : is_ready (hart_of w.machine t).status ≡ true
  pub unfit : fits_next w.past w.machine t ≡ false

-- There is a flag and a length for each of the 32 threads; the machine is whole; each thread in flight is held; and if
-- the history is sound, or there is none, the round is at the machine from scratch.
pub record IsInOrder (w : RoundState) : Type 0 where
  pub flags : length w.in_flight ≡ 32
  pub lengths : length w.taken_at ≡ 32
  pub whole : IsWhole w.machine
  pub held : (t : ℕ) → is_in_flight w t ≡ true → IsHeld w t
  pub scratch : IsSound w.past w.setup → IsFromScratch w

-- There is a record for each entry of a schedule, and that of a reused entry is the history's own of its thread and
-- number, which is how many entries of the thread come before it, those of the earlier threads included.
abbrev pub IsReusing : Option History → List ℕ → List Entry → List Record → Type 0
IsReusing past earlier [] [] = ⊤
IsReusing past earlier [] (r ∷ records) = ⊥
IsReusing past earlier (e ∷ schedule) [] = ⊥
IsReusing past earlier (e ∷ schedule) (r ∷ records) =
    (e.reused ≡ true → found past e.thread (count_by (λ t. t == e.thread) earlier) ≡ Some r)
    × IsReusing past (earlier ++ e.thread ∷ []) schedule records

-- A round counts right: the machine has made as many steps as there are entries, and each thread as many as there are
-- entries of it; the records are of the entries' threads, at these numbers; and that of a reused entry is the history's
-- own.
pub record IsCounted (w : RoundState) : Type 0 where
  pub steps : w.machine.steps ≡ length w.schedule
  pub threads : threads_of_records w.records ≡ threads_of w.schedule
  pub numbers : (t : ℕ) → (hart_of w.machine t).number ≡ count_by (λ u. u == t) (threads_of w.schedule)
  pub numbered : is_numbered w.records ≡ true
  pub reuses : IsReusing w.past [] w.schedule w.records
