-- Views that were made ahead.
use Rattle.std.specs.Prelude.{◌≡◌, ◌+◌, ℕ, List, All}
use Rattle.memory_spec.specs.Pages.{Memory}
use Rattle.guest_call.specs.declared.Call.TheVariants.{BarrierWait, RwUnlock}
use Rattle.guest_call.specs.declared.thread_number.TheConstants.{THREADS}
use Rattle.machine_spec.specs.declared.states.Asked.{Asked}
use Rattle.machine_spec.specs.declared.states.Asked.TheVariants.{Asks, Stops}

-- Each of these has the pages of this memory.
abbrev pub AreViewsOf : {V : Type 0} → (V → Memory) → Memory → List V → Type 0
AreViewsOf pages memory views = All (λ view. pages view ≡ memory) views

-- How many views a request gives at most: to its caller, to a thread that it creates, and to those that it wakes. At a
-- barrier and at the unlock of a reader-writer lock it wakes as many as a queue can hold, elsewhere one.
abbrev pub most_views : Asked → ℕ
most_views (Asks (BarrierWait b)) = THREADS + 2
most_views (Asks (RwUnlock r)) = THREADS + 2
most_views (Asks call) = 3
most_views (Stops e) = 0
