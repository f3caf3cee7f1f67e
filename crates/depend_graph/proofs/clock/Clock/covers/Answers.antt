-- The mask of the comparison is full exactly if no count of the other is above this clock's.
use Rattle.std.proofs.Common.{◌≡◌, ℕ, ◌+◌, ◌≤◌, ◌^◌, ◌%◌, leb, nat_eq, ap, sym, get_or, length, ◌∙◌, arith, w32}
use Rattle.std.specs.Simd.Lanes.{zip2, mask_l}
use Rattle.std.proofs.lemmas.Bool.{eqb-true}
use Rattle.std.proofs.lemmas.Simd.{tops_compared, length-zip2, mask_l-mod}
use Rattle.depend_graph.proofs.Lanes.{full_says, full_where}
use Rattle.depend_graph.proofs.clock.Clock.covers.Goals as goal

pub returns-clause-covers : goal.returns-clause-covers
returns-clause-covers c =
    let theirs = c.other.inside.counts in
    let mine = c.self.inside.counts in
    let same : length theirs ≡ length mine = omega (arith, c.self.invariant, c.other.invariant) in
    let mask = mask_l (zip2 leb theirs mine) in
    let long = length-zip2 leb theirs mine same in
    let is = ap (λ ms. mask_l ms % 2 ^ 64) (tops_compared w32 leb theirs mine)
    ∙ mask_l-mod (zip2 leb theirs mine) 64 (omega (arith, long, c.other.invariant)) in
    let most : 2 ^ length theirs ≡ 4294967296 = ap (λ n. 2 ^ n) c.other.invariant in
    let only : ((t : ℕ) → get_or theirs t 0 ≤ get_or mine t 0) → mask ≡ 4294967295 =
    λ below. omega (arith, full_where theirs mine same below, most) in
    rw (← c.self.view_is, ← c.other.view_is) (
      λ full. full_says theirs mine same (ap (λ n. n + 1) (sym is ∙ eqb-true _ _ full) ∙ sym most),
      λ below. ap (λ n. nat_eq n 4294967295) (is ∙ only below),
    )
