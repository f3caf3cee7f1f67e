-- Threads that wait, counted: how often a thread is in a queue, and in all queues of a table.
use Rattle.std.specs.Prelude.{ℕ, ◌+◌, ◌==◌, ◌≡◌, List, count_by, sum_by, if◌then◌else◌}
use Rattle.guest_call.specs.Effect.{Fate, Effect, waiting}

-- how often thread t is in a queue
unfoldable pub places : ℕ → List ℕ → ℕ
places t q = count_by (λ u. u == t) q

-- how often thread t is in the queues of a table's objects
unfoldable pub waits : {C : Type 0} → (C → List ℕ) → List C → ℕ → ℕ
waits queue cells t = sum_by (λ c. places t (queue c)) cells

-- how often thread u enters a queue by a call of t that has this fate
unfoldable pub entering : ℕ → Fate → ℕ → ℕ
entering t fate u = if t == u then waiting fate else 0

-- no thread is lost or doubled: each that waits after a call or was woken by it waited before or entered
abbrev pub Keeps : (ℕ → ℕ) → ℕ → Effect → (ℕ → ℕ) → Type 0
Keeps before t effect after = (u : ℕ) → after u + places u effect.woken ≡ before u + entering t effect.fate u
