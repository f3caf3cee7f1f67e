-- Tables of 64 objects of one kind, each with a queue of threads.
use Rattle.std.specs.Prelude.{ℕ, ◌≡◌, ◌≤◌, Bool, List, length, nat_lt, slice_index_or, slice_set, if◌then◌else◌}
use Rattle.guest_call.specs.declared.TheConstants.{OBJECTS}
use Rattle.guest_call.specs.declared.thread_number.TheConstants.{THREADS}
use Rattle.guest_call.specs.Answers.{answer_einval}
use Rattle.guest_call.specs.Effect.{Effect, answers}
use Rattle.guest_call.specs.Queues.{places, waits, Keeps}

-- what a call does if its arguments are in range; else it is refused, and nothing changes
abbrev pub checked : {S : Type 0} → Bool → S → Effect × S → Effect × S
checked in_range state done = if in_range then done else (answers answer_einval, state)

-- a row done at the object of number i; a number above 63 is refused
abbrev pub at_cell : {C : Type 0} → C → (C → Effect × C) → List C → ℕ → Effect × List C
at_cell free row cells i =
    if nat_lt i OBJECTS
    then (let r = row (slice_index_or cells i free) in (r.0, slice_set cells i r.1))
    else (answers answer_einval, cells)

-- a table has 64 objects, only threads below 32 wait in it, and each in at most one place
pub record IsTable {C : Type 0} (queue : C → List ℕ) (cells : List C) : Type 0 where
  pub objects : length cells ≡ OBJECTS
  pub low : (t : ℕ) → THREADS ≤ t → waits queue cells t ≡ 0
  pub once : (t : ℕ) → waits queue cells t ≤ 1

-- a row of thread t on an object loses and doubles no thread of its queue
abbrev pub IsFair : {C : Type 0} → (C → List ℕ) → ℕ → C → Effect × C → Type 0
IsFair queue t c r = Keeps (λ u. places u (queue c)) t r.0 (λ u. places u (queue r.1))
