-- What stays true of the round under the lock, and of what counts its steps.
use Rattle.std.proofs.Common.{◌≡◌, ◌+◌, ℕ, length, Option, ap, sym, subst, ◌∙◌, arith}
use Rattle.atomic_table.specs.Seated.{TableId}
use Rattle.round_spec.specs.Rounds.{RoundState}
use Rattle.propagate.specs.Committing.{Continues}
use Rattle.rerun_workers.specs.declared.watching.Counter.{Counter}
use Rattle.rerun_workers.specs.Watching.{IsCounting}

same-length : (w v : RoundState) → Continues 0 w v → length v.schedule ≡ length w.schedule
same-length w v on = let same = on.entries in omega (arith, same)

-- no entry was added
pub counted_on : (w v : RoundState) (total : ℕ) → Continues 0 w v → length w.schedule ≡ total → length v.schedule ≡ total
counted_on w v total on counted = same-length w v on ∙ counted

-- one entry was added, and counted
pub counted_more :
    (w v : RoundState) (total later : ℕ)
    → Continues 1 w v → later ≡ total + 1 → length w.schedule ≡ total → length v.schedule ≡ later
counted_more w v total later on more counted = on.entries ∙ ap (λ n. n + 1) counted ∙ sym more

pub watched_on :
    (w v : RoundState) (table : TableId) (counter : Option Counter)
    → Continues 0 w v → IsCounting table (length w.schedule) counter → IsCounting table (length v.schedule) counter
watched_on w v table counter on watched =
    subst (λ (n : ℕ). IsCounting table n counter) (sym (same-length w v on)) watched

pub watched_more :
    (w v : RoundState) (table : TableId) (counter later : Option Counter)
    → Continues 1 w v
    → ((t : TableId) (steps : ℕ) → IsCounting t steps counter → IsCounting t (steps + 1) later)
    → IsCounting table (length w.schedule) counter → IsCounting table (length v.schedule) later
watched_more w v table counter later on counts watched =
    subst (λ (n : ℕ). IsCounting table n later) (sym on.entries) (counts table (length w.schedule) watched)
