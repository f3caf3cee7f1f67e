-- The largest count in the clocks of some things.
use Rattle.std.proofs.Common.{◌≡◌, ◌<◌, ◌+◌, ℕ, max, List, [], ◌∷◌, ◌++◌, length, take, slice_index, get_or, ap, ◌∙◌, arith}
use Rattle.std.proofs.lemmas.List.{take_more}
use Rattle.depend_graph.specs.Clocks.{largest_at}

largest_at-push :
    {K : Type 0} (clock : K → List ℕ) (ks : List K) (k : K) (t : ℕ)
    → largest_at clock (ks ++ k ∷ []) t ≡ max (largest_at clock ks t) (slice_index (clock k) t)
largest_at-push clock [] k t = omega arith
largest_at-push clock (j ∷ ks) k t = let rest = largest_at-push clock ks k t in omega arith

pub largest_more :
    {K : Type 0} (clock : K → List ℕ) (ks : List K) (i : ℕ) (d : K) (t : ℕ)
    → i < length ks
    → largest_at clock (take (i + 1) ks) t
    ≡ max (largest_at clock (take i ks) t) (slice_index (clock (get_or ks i d)) t)
largest_more clock ks i d t below =
    ap (λ xs. largest_at clock xs t) (take_more ks i d below) ∙ largest_at-push clock (take i ks) (get_or ks i d) t
