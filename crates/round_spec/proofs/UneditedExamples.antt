-- A round without an edit exists; and what counts as reuse, computed by the checker.
use Rattle.std.proofs.Common.{◌≡◌, ℕ, true, false, [], ◌∷◌, refl, ap, arith}
use Rattle.thunk_spec.specs.declared.ends.ThunkEnd.TheVariants.{Fuel}
use Rattle.thunk_spec.specs.Record.{Record}
use Rattle.machine_spec.specs.Setup.{Setup}
use Rattle.history_spec.specs.History.{History}
use Rattle.history_spec.proofs.Examples.{shortest, only_step, only-honest}
use Rattle.round_spec.specs.Rounds.{RoundState}
use Rattle.round_spec.specs.Instructions.{executed_instructions}
use Rattle.round_spec.specs.Unedited.{IsUnedited, is_all_reused, all_reused_of, OnlyReuses}
use Rattle.round_spec.proofs.Samples.{some_setup, reuses, executes}

-- The smallest honest history, and its own setup: nothing was edited.
pub unedited-only : IsUnedited only_step shortest
unedited-only = record { honest = only-honest; same = refl }

not-empty : (x : ℕ) → [] ≡ x ∷ [] → ⊥
not-empty x is = cc

not-two : (n : ℕ) → n ≡ 1 → n ≡ 2 → ⊥
not-two n one two = omega arith

-- Another input is an edit, and so is another limit.
pub edited-input : IsUnedited only_step (record shortest { input = 7 ∷ [] }) → ⊥
edited-input unedited = not-empty 7 (ap (λ (s : Setup). s.input) unedited.same)

pub edited-limit : IsUnedited only_step (record shortest { limit = 2 }) → ⊥
edited-limit unedited = not-two 1 refl (ap (λ (s : Setup). s.limit) unedited.same)

-- Two reused entries are all reused; with an executed one they aren't.
pub reused-both : is_all_reused (reuses 0 ∷ reuses 1 ∷ []) ≡ true
reused-both = refl

pub reused-one : is_all_reused (reuses 0 ∷ executes 1 ∷ []) ≡ false
reused-one = refl

-- a record of a thread that made this number of turns
abbrev counts : ℕ → ℕ → Record
counts t count =
    record {
      thread = t;
      number = 0;
      start = record { pc = 0; x = [] };
      kept = record { reads = []; delta = []; finish = record { pc = 0; x = [] }; end = Fuel; count = count };
    }

-- The reused schedule of a history is of its records' threads, in order.
pub all_reused-two :
    all_reused_of (record { setup = some_setup; records = counts 1 5 ∷ counts 0 7 ∷ [] }) ≡ reuses 1 ∷ reuses 0 ∷ []
all_reused-two = refl

-- The counts of executed entries add up, and those of reused ones don't.
pub executed-two :
    executed_instructions (executes 1 ∷ reuses 0 ∷ executes 1 ∷ []) (counts 1 5 ∷ counts 0 7 ∷ counts 1 11 ∷ []) ≡ 16
executed-two = refl

-- A round that discarded a step doesn't only reuse, nor does one that executed any.
pub discards-something : (h : History) (w : RoundState) → OnlyReuses h (record w { discarded = 1 }) → ⊥
discards-something h w only = let none : 1 ≡ 0 = only.discarded in cc

pub executes-something : (h : History) (w : RoundState) → OnlyReuses h (record w { schedule = executes 0 ∷ [] }) → ⊥
executes-something h w only = let reused : false ≡ true = only.reused in cc
