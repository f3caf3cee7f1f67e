-- Lists by slot, each slot once.
use Rattle.std.specs.Prelude.{ℕ, suc, Bool, true, nat_le, ◌&&◌, List, [], ◌∷◌}
use Rattle.thunk_spec.specs.Delta.{PageDelta}
use Rattle.thunk_spec.specs.Reads.{ReadPage}

-- The slots of deltas ascend strictly, the first from this one on.
abbrev pub deltas_ascend : ℕ → List PageDelta → Bool
deltas_ascend low [] = true
deltas_ascend low (d ∷ delta) = nat_le low d.slot && deltas_ascend (suc d.slot) delta

-- The slots of read pages ascend strictly, the first from this one on.
abbrev pub reads_ascend : ℕ → List ReadPage → Bool
reads_ascend low [] = true
reads_ascend low (r ∷ reads) = nat_le low r.slot && reads_ascend (suc r.slot) reads
