-- What a call does to the threads: to its caller, to those that waited, and to one that it creates.
use Rattle.std.specs.Prelude.{ℕ, ◌==◌, List, [], Option, Some, None, if◌then◌else◌}
pub use Rattle.guest_call.specs.declared.Fate.{Fate}
pub use Rattle.guest_call.specs.declared.Fate.TheVariants.{Returns, Blocks, Ends, Exits}

-- what becomes of the caller; the threads that are woken, in order, each with 0 in a0; what they get in a1, if
-- anything; and the first pc and the argument of a thread that is created
pub record Effect : Type 0 where
  pub fate : Fate
  pub woken : List ℕ
  pub reported : Option ℕ
  pub created : Option (ℕ × ℕ)

-- a fate of the caller, with these threads woken
abbrev pub wakes : Fate → List ℕ → Effect
wakes f threads = record { fate = f; woken = threads; reported = None; created = None }

-- the caller returns at once with this answer in a0, and nothing else happens
abbrev pub answers : ℕ → Effect
answers a = wakes (Returns a None) []

-- the caller waits, and nothing else happens
abbrev pub blocks : Effect
blocks = wakes Blocks []

-- the run ends with this code (POSIX.1-2017, exit)
abbrev pub exits : ℕ → Effect
exits code = wakes (Exits code) []

-- in how many queues the caller begins to wait: one if it blocks
abbrev pub waiting : Fate → ℕ
waiting (Returns a b) = 0
waiting Blocks = 1
waiting (Ends v) = 0
waiting (Exits code) = 0

-- the value with which thread u has ended, if it has, after a call of t with this fate, from what it was before
-- (POSIX.1-2017, pthread_exit)
abbrev pub ended_after : ℕ → Fate → ℕ → Option ℕ → Option ℕ
ended_after t (Returns a b) u before = before
ended_after t Blocks u before = before
ended_after t (Ends v) u before = if t == u then Some v else before
ended_after t (Exits code) u before = before
