-- Effects whose answers are words: those of the rows of mutexes, semaphores, barriers, conditions and reader-writer
-- locks.
use Rattle.std.proofs.Common.{◌<◌, ◌+◌, ℕ, Bool, true, false, not, eqb, cond, nat_lt, List, [], ◌∷◌, length, get_or, Option, Some, None, is_none, arith}
use Rattle.std.specs.Prelude.{IfSome, ⊤, ◌&&◌}
use Rattle.guest_call.specs.declared.Fate.{Fate}
use Rattle.guest_call.specs.declared.Fate.TheVariants.{Returns, Blocks, Ends, Exits}
use Rattle.guest_call.specs.Answers.{answer_eperm, answer_eagain, answer_ebusy, answer_einval, answer_eoverflow, answer_edeadlk}
use Rattle.guest_call.specs.Effect.{Effect, wakes, answers, blocks}
use Rattle.guest_call.specs.Tables.{at_cell, checked}
use Rattle.guest_call.specs.Mutexes.{Mutex, owns, owned_by, waited_for, handed_over, lock_row, trylock_row, unlock_row}
use Rattle.guest_call.specs.Semaphores.{Semaphore, largest_value, posted, sem_wait_row, sem_trywait_row, sem_init_row}
use Rattle.guest_call.specs.Barriers.{Barrier, comes, barrier_init_row}
use Rattle.guest_call.specs.Conditions.{Condition, Leaving, awaited_by, cond_wait_row, leave_row}
use Rattle.guest_call.specs.RwLocks.{RwLock, holds, is_held, reads, handed_on, let_go, rdlock_row, wrlock_row, rwunlock_row, trywrlock_row}
use Rattle.guest_call.specs.Objects.{Objects, on_pair, condition_at, leave}
use Rattle.rerun_spec.proofs.Words.{IsWord}

-- a fate whose answer is a word
abbrev pub IsFate : Fate → Type 0
IsFate (Returns a0 a1) = IsWord a0 × IfSome a1 IsWord
IsFate Blocks = ⊤
IsFate (Ends v) = IsWord v
IsFate (Exits code) = ⊤

-- if a thread is created beside these, they are fewer than 32, and its pc and argument are words
abbrev pub CreatesBeside : ℕ → Option (ℕ × ℕ) → Type 0
CreatesBeside threads None = ⊤
CreatesBeside threads (Some c) = (threads < 32) × IsWord c.0 × IsWord c.1

-- an effect of words, if there are this many threads
pub record IsEffect (threads : ℕ) (e : Effect) : Type 0 where
  pub fate : IsFate e.fate
  pub reported : IfSome e.reported IsWord
  pub created : CreatesBeside threads e.created

-- effects that do nothing else

pub wakes-effect : (n : ℕ) (f : Fate) (threads : List ℕ) → IsFate f → IsEffect n (wakes f threads)
wakes-effect n f threads is = record { fate = is; reported = tt; created = tt }

pub answers-effect : (n a : ℕ) → IsWord a → IsEffect n (answers a)
answers-effect n a word = record { fate = (word, tt); reported = tt; created = tt }

pub blocks-effect : (n : ℕ) → IsEffect n blocks
blocks-effect n = record { fate = tt; reported = tt; created = tt }

-- an effect in either case
pub either-effect :
    {C : Type 0} (n : ℕ) (b : Bool) (x y : Effect × C)
    → IsEffect n x.0 → IsEffect n y.0 → IsEffect n (cond b x y).0
either-effect n true x y left right = left
either-effect n false x y left right = right

-- rows

pub lock-effect : (n t : ℕ) (c : Mutex) → IsEffect n (lock_row t c).0
lock-effect n t c =
    either-effect n (is_none c.owner) (answers 0, owned_by t c)
    (cond (owns c.owner t) (answers answer_edeadlk, c) (blocks, waited_for t c)) (answers-effect n 0 (omega arith))
    (either-effect n (owns c.owner t) (answers answer_edeadlk, c) (blocks, waited_for t c)
    (answers-effect n answer_edeadlk (omega arith)) (blocks-effect n))

pub trylock-effect : (n t : ℕ) (c : Mutex) → IsEffect n (trylock_row t c).0
trylock-effect n t c =
    either-effect n (is_none c.owner) (answers 0, owned_by t c) (answers answer_ebusy, c)
    (answers-effect n 0 (omega arith)) (answers-effect n answer_ebusy (omega arith))

pub unlock-effect : (n t : ℕ) (c : Mutex) → IsEffect n (unlock_row t c).0
unlock-effect n t c =
    either-effect n (owns c.owner t) (wakes (Returns 0 None) (handed_over c.queue).0, (handed_over c.queue).1)
    (answers answer_eperm, c) (wakes-effect n (Returns 0 None) (handed_over c.queue).0 (omega arith, tt))
    (answers-effect n answer_eperm (omega arith))

pub sem_wait-effect : (n t : ℕ) (c : Semaphore) → IsEffect n (sem_wait_row t c).0
sem_wait-effect n t c =
    either-effect n (nat_lt 0 c.value) _ _ (answers-effect n 0 (omega arith)) (blocks-effect n)

pub sem_trywait-effect : (n : ℕ) (c : Semaphore) → IsEffect n (sem_trywait_row c).0
sem_trywait-effect n c =
    either-effect n (nat_lt 0 c.value) _ _ (answers-effect n 0 (omega arith))
    (answers-effect n answer_eagain (omega arith))

pub posted-effect : (n value : ℕ) (queue : List ℕ) → IsEffect n (posted value queue).0
posted-effect n value [] =
    either-effect n (eqb value largest_value) _ _ (answers-effect n answer_eoverflow (omega arith))
    (answers-effect n 0 (omega arith))
posted-effect n value (u ∷ rest) = wakes-effect n (Returns 0 None) (u ∷ []) (omega arith, tt)

pub sem_init-effect : (n value : ℕ) (c : Semaphore) → IsEffect n (sem_init_row value c).0
sem_init-effect n value c =
    either-effect n (eqb (length c.queue) 0) _ _ (answers-effect n 0 (omega arith))
    (answers-effect n answer_ebusy (omega arith))

pub barrier_init-effect : (n count : ℕ) (c : Barrier) → IsEffect n (barrier_init_row count c).0
barrier_init-effect n count c =
    either-effect n (eqb (length c.queue) 0) _ _ (answers-effect n 0 (omega arith))
    (answers-effect n answer_ebusy (omega arith))

pub comes-effect : (n t : ℕ) (count : Option ℕ) (queue : List ℕ) → IsEffect n (comes t count queue).0
comes-effect n t None queue = answers-effect n answer_einval (omega arith)
comes-effect n t (Some count) queue =
    either-effect n (eqb (length queue + 1) count) _ _ (wakes-effect n (Returns 1 None) queue (omega arith, tt))
    (blocks-effect n)

pub rdlock-effect : (n t : ℕ) (c : RwLock) → IsEffect n (rdlock_row t c).0
rdlock-effect n t c =
    either-effect n (owns c.writer t) _ _ (answers-effect n answer_edeadlk (omega arith))
    (either-effect n (reads c t) _ _ (answers-effect n answer_eagain (omega arith))
    (either-effect n (is_none c.writer && eqb (length c.queue) 0) _ _ (answers-effect n 0 (omega arith))
    (blocks-effect n)))

pub wrlock-effect : (n t : ℕ) (c : RwLock) → IsEffect n (wrlock_row t c).0
wrlock-effect n t c =
    either-effect n (holds c t) _ _ (answers-effect n answer_edeadlk (omega arith))
    (either-effect n (is_held c) _ _ (blocks-effect n) (answers-effect n 0 (omega arith)))

pub rwunlock-effect : (n t : ℕ) (c : RwLock) → IsEffect n (rwunlock_row t c).0
rwunlock-effect n t c =
    either-effect n (holds c t) _ _ (wakes-effect n (Returns 0 None) (handed_on (let_go t c)).0 (omega arith, tt))
    (answers-effect n answer_eperm (omega arith))

pub trywrlock-effect : (n t : ℕ) (c : RwLock) → IsEffect n (trywrlock_row t c).0
trywrlock-effect n t c =
    either-effect n (is_held c) _ _ (answers-effect n answer_ebusy (omega arith)) (answers-effect n 0 (omega arith))

-- tables

pub at_cell-effect :
    {C : Type 0} (n : ℕ) (free : C) (row : C → Effect × C) (cells : List C) (i : ℕ)
    → ((c : C) → IsEffect n (row c).0) → IsEffect n (at_cell free row cells i).0
at_cell-effect n free row cells i holds =
    either-effect n (nat_lt i 64) _ _ (holds (get_or cells i free)) (answers-effect n answer_einval (omega arith))

pub checked-effect :
    {S : Type 0} (n : ℕ) (b : Bool) (state : S) (done : Effect × S)
    → IsEffect n done.0 → IsEffect n (checked b state done).0
checked-effect n b state done is =
    either-effect n b done (answers answer_einval, state) is (answers-effect n answer_einval (omega arith))

-- a row of a condition and a mutex
abbrev OnPair : Type 0
OnPair = Effect × Condition × Mutex

pub cond_wait-effect : (n t m : ℕ) (c : Condition) (x : Mutex) → IsEffect n (cond_wait_row t m c x).0
cond_wait-effect n t m c x = at (not (owns x.owner t)) (not (eqb (length c.queue) 0) && not (eqb c.mutex m))
  where
    refused : OnPair
    refused = (answers answer_eperm, c, x)

    other : OnPair
    other = (answers answer_einval, c, x)

    waits : OnPair
    waits = (wakes Blocks (handed_over x.queue).0, awaited_by t m c, (handed_over x.queue).1)

    at : (a b : Bool) → IsEffect n (cond a refused (cond b other waits)).0
    at true b = answers-effect n answer_eperm (omega arith)
    at false true = answers-effect n answer_einval (omega arith)
    at false false = wakes-effect n Blocks (handed_over x.queue).0 tt

pub leave-effect : (n : ℕ) (leaving : Condition → Leaving) (o : Objects) (c : ℕ) → IsEffect n (leave leaving o c).0
leave-effect n leaving o c =
    checked-effect n (nat_lt c 64) o (on_pair (leave_row leaving) o c (condition_at o c).mutex)
    (wakes-effect n (Returns 0 None) _ (omega arith, tt))
