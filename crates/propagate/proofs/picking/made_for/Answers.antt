-- Answers to the goals that the check of `made_for` leaves open: no steps at first.
use Rattle.std.proofs.Common.{◌≡◌, ℕ, zero, suc, replicate, slice_index, refl, arith}
use Rattle.propagate.proofs.picking.made_for.Goals as goal

at-zeros : (n u : ℕ) → slice_index (replicate n 0) u ≡ 0
at-zeros zero u = refl
at-zeros (suc n) zero = refl
at-zeros (suc n) (suc u) = at-zeros n u

pub loop-t-init : goal.loop-t-init
loop-t-init c = record { long = refl; done = λ u low. absurd (omega (arith, low)); rest = λ u low. at-zeros 32 u }
