-- Each count of the clock is 0, also past its end.
use Rattle.std.proofs.Common.{◌≡◌, ℕ, zero, suc, List, [], replicate, slice_index, get_or, refl}
use Rattle.depend_graph.proofs.threads.ThreadClocks.new.Goals as goal

at-copies :
    (clock : List ℕ) → ((u : ℕ) → slice_index clock u ≡ 0)
    → (n t u : ℕ) → slice_index (get_or (replicate n clock) t []) u ≡ 0
at-copies clock zeros zero t u = refl
at-copies clock zeros (suc n) zero u = zeros u
at-copies clock zeros (suc n) (suc t) u = at-copies clock zeros n t u

pub returns : goal.returns
returns c = at-copies c.zero.result c.zero.ensures 32
