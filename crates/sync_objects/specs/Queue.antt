-- What a queue keeps, and the result of removing its first thread.
use Rattle.std.specs.Prelude.{ℕ, ◌≡◌, ◌≤◌, List, [], ◌∷◌, Option, Some, None}
use Rattle.guest_call.specs.declared.thread_number.TheConstants.{THREADS}
use Rattle.guest_call.specs.Queues.{places}

-- no number from 32 on is in a queue
abbrev pub AreThreads : List ℕ → Type 0
AreThreads q = (t : ℕ) → THREADS ≤ t → places t q ≡ 0

-- the first of a queue, if there is one, and the queue without it
abbrev pub popped : List ℕ → Option ℕ × List ℕ
popped [] = (None, [])
popped (t ∷ rest) = (Some t, rest)
