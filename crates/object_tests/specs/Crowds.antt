-- Objects where no thread waits.
use Rattle.std.specs.Prelude.{ℕ, ◌≡◌}
use Rattle.guest_call.specs.Objects.{Objects, waits_at, IsKept}

-- what holds of all objects, and no thread waits
pub record AreIdle (o : Objects) : Type 0 where
  pub kept : IsKept o
  pub idle : (u : ℕ) → waits_at o u ≡ 0
