-- The thread of a token, appended to others.
use Rattle.std.specs.Prelude.{ℕ, ◌≡◌, List, [], ◌∷◌, ◌++◌}
use Rattle.schedule_list.specs.Schedule.{Encodes}

-- The thread that a piece encodes was appended to others, if the piece isn't empty.
abbrev pub AddsToken : List ℕ → List ℕ → List ℕ → Type 0
AddsToken [] before after = after ≡ before
AddsToken (byte ∷ piece) before after =
    (thread : ℕ) × Encodes (byte ∷ piece) thread × (after ≡ before ++ thread ∷ [])
