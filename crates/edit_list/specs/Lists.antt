-- Bytes that are kept in vectors.
use Rattle.std.specs.Prelude.{ℕ, List, map, Vec}
use Rattle.std.specs.Global.{Global}

-- The bytes of each of some vectors, in order.
abbrev pub bytes_of_each : List (Vec ℕ Global) → List (List ℕ)
bytes_of_each vectors = map (λ v. v.items) vectors
