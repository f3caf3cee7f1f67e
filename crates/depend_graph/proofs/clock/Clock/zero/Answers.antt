-- Each count of a list of zeros is 0, also past its end.
use Rattle.std.proofs.Common.{◌≡◌, ℕ, zero, suc, replicate, slice_index, refl}
use Rattle.depend_graph.proofs.clock.Clock.zero.Goals as goal

at-zeros : (n t : ℕ) → slice_index (replicate n 0) t ≡ 0
at-zeros zero t = refl
at-zeros (suc n) zero = refl
at-zeros (suc n) (suc t) = at-zeros n t

pub returns : goal.returns
returns c = at-zeros 32
