-- Entries that weren't chosen by the rule, whatever the machine is.
use Rattle.std.proofs.Common.{◌≡◌, ℕ, List, [], ◌∷◌, length, Option, refl, arith}
use Rattle.machine_spec.specs.Setup.{Setup}
use Rattle.history_spec.specs.History.{History}
use Rattle.report_spec.specs.declared.Entry.{Entry}
use Rattle.round_spec.specs.Rounds.{RoundState, taken_when}
use Rattle.round_spec.specs.Picking.{IsPicked, ArePicked, IsInFlightByRule}
use Rattle.round_spec.proofs.Samples.{reuses}

-- No entry is picked after it was made.
pub picked-later :
    (setup : Setup) (past : Option History) (schedule : List Entry) (e : Entry) → IsPicked setup past schedule 3 e 4
    → ⊥
picked-later setup past schedule e picked = let earlier = picked.earlier in absurd (omega arith)

-- A reused entry is picked and made at once.
pub picked-reused :
    (setup : Setup) (past : Option History) (schedule : List Entry) (t : ℕ)
    → IsPicked setup past schedule 3 (reuses t) 2
    → ⊥
picked-reused setup past schedule t picked = let now = picked.at_once refl in absurd (omega arith)

not-both : (n : ℕ) → n ≡ 0 → n ≡ 1 → ⊥
not-both n none one = omega arith

-- There is a point for each entry, and no more.
pub too_few_points : (setup : Setup) (past : Option History) (e : Entry) → ArePicked setup past (e ∷ []) [] → ⊥
too_few_points setup past e picked = not-both 0 refl picked.each

-- A thread that is in flight was taken by now.
pub taken-later :
    (w : RoundState) (t : ℕ) → taken_when w t ≡ 5 → length w.schedule ≡ 4 → IsInFlightByRule w t → ⊥
taken-later w t when long by_rule = let earlier = by_rule.earlier in absurd (omega arith)
