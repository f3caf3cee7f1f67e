-- No row on one object loses a thread of its queue or puts it in two places.
use Rattle.std.proofs.Common.{◌≡◌, ℕ, ◌+◌, ◌==◌, List, [], ◌∷◌, ◌++◌, length, Option, Some, None, arith}
use Rattle.std.proofs.lemmas.List.{map-append}
use Rattle.guest_call.specs.Effect.{Effect}
use Rattle.guest_call.specs.Queues.{places, entering}
use Rattle.guest_call.specs.Tables.{IsFair}
use Rattle.guest_call.specs.Mutexes.{Mutex, mutex_queue, handed_over, lock_row, trylock_row, unlock_row}
use Rattle.guest_call.specs.Semaphores.{Semaphore, semaphore_queue, sem_wait_row, sem_trywait_row, sem_post_row, sem_init_row}
use Rattle.guest_call.specs.Barriers.{Barrier, barrier_queue, barrier_init_row, comes, barrier_wait_row}
use Rattle.guest_call.specs.Conditions.{Condition, Leaving, cond_wait_row, first_leaves, signal_leaving, broadcast_leaving, admit, admit_each, leave_row}
use Rattle.guest_call.specs.RwLocks.{Waiter, RwLock, threads_of, rwlock_queue, rdlock_row, wrlock_row, trywrlock_row, first_readers, from_first_writer, readers_admitted, writer_admitted, handed_on, let_go, rwunlock_row}
use Rattle.guest_call.proofs.Counting.{tally, places-nil, places-cons, places-append, places-push, entering-returns, entering-blocks}

pub lock_fair : (t : ℕ) (c : Mutex) → IsFair mutex_queue t c (lock_row t c)
lock_fair t c u = grind (arith, places-nil, places-push, entering-returns, entering-blocks)

pub trylock_fair : (t : ℕ) (c : Mutex) → IsFair mutex_queue t c (trylock_row t c)
trylock_fair t c u = grind (arith, places-nil, entering-returns)

pub unlock_fair : (t : ℕ) (c : Mutex) → IsFair mutex_queue t c (unlock_row t c)
unlock_fair t c u = grind (arith, places-nil, places-cons, entering-returns)

pub sem_wait_fair : (t : ℕ) (c : Semaphore) → IsFair semaphore_queue t c (sem_wait_row t c)
sem_wait_fair t c u = grind (arith, places-nil, places-push, entering-returns, entering-blocks)

pub sem_trywait_fair : (t : ℕ) (c : Semaphore) → IsFair semaphore_queue t c (sem_trywait_row c)
sem_trywait_fair t c u = grind (arith, places-nil, entering-returns)

pub sem_post_fair : (t : ℕ) (c : Semaphore) → IsFair semaphore_queue t c (sem_post_row c)
sem_post_fair t c u = grind (arith, places-nil, places-cons, entering-returns)

pub sem_init_fair : (t n : ℕ) (c : Semaphore) → IsFair semaphore_queue t c (sem_init_row n c)
sem_init_fair t n c u = grind (arith, places-nil, entering-returns)

-- a queue of no threads
pub places-empty : (u : ℕ) (q : List ℕ) → length q ≡ 0 → places u q ≡ 0
places-empty u [] none = places-nil u
places-empty u (v ∷ q) none = absurd (omega arith)

pub barrier_init_fair : (t n : ℕ) (c : Barrier) → IsFair barrier_queue t c (barrier_init_row n c)
barrier_init_fair t n c u = grind (arith, places-nil, places-empty, entering-returns)

pub comes_fair :
    (t : ℕ) (n : Option ℕ) (q : List ℕ) → IsFair barrier_queue t (record { count = n; queue = q }) (comes t n q)
comes_fair t None q u = grind (arith, places-nil, entering-returns)
comes_fair t (Some n) q u = grind (arith, places-nil, places-push, entering-returns, entering-blocks)

pub barrier_wait_fair : (t : ℕ) (c : Barrier) → IsFair barrier_queue t c (barrier_wait_row t c)
barrier_wait_fair t c = comes_fair t c.count c.queue

-- a row of thread t on a condition and a mutex lost no thread of their queues and put none in two places
abbrev pub IsFairPair : ℕ → Condition → Mutex → Effect × Condition × Mutex → Type 0
IsFairPair t c x r =
    (u :
    ℕ)
    → places u r.1.queue + places u r.2.queue + places u r.0.woken
    ≡ places u c.queue + places u x.queue + entering t r.0.fate u

-- a mutex that is handed over to the first thread that waits
pub handed_places : (u : ℕ) (q : List ℕ) → places u (handed_over q).0 + places u (handed_over q).1.queue ≡ places u q
handed_places u [] = omega (arith, places-nil u)
handed_places u (v ∷ q) = omega (arith, places-nil u, places-cons u v q, places-cons u v [])

pub cond_wait_fair : (t m : ℕ) (c : Condition) (x : Mutex) → IsFairPair t c x (cond_wait_row t m c x)
cond_wait_fair t m c x u = grind (arith, places-nil, places-push, handed_places, entering-returns, entering-blocks)

-- a thread that comes to a mutex is woken or waits for it
pub admit_places :
    (u v : ℕ) (x : Mutex) → places u (admit v x).0 + places u (admit v x).1.queue ≡ places u x.queue + places u (v ∷ [])
admit_places u v x = grind (arith, places-nil, places-cons, places-push)

-- and so is each of several
pub admit_each_places :
    (u : ℕ) (q : List ℕ) (x : Mutex)
    → places u (admit_each q x).0 + places u (admit_each q x).1.queue ≡ places u x.queue + places u q
admit_each_places u [] x = omega arith
admit_each_places u (v ∷ q) x =
    let y : Mutex = (admit v x).1 in
    omega (
      arith,
      admit_places u v x,
      admit_each_places u q y,
      places-append u (admit v x).0 (admit_each q y).0,
      places-cons u v q,
      places-cons u v [],
      places-nil u,
    )

pub leave_fair : (leaving : Condition → Leaving) (t : ℕ) (c : Condition) (x : Mutex) →
    ((c : Condition) (u : ℕ) → places u (leaving c).threads + places u (leaving c).rest.queue ≡ places u c.queue) →
    IsFairPair t c x (leave_row leaving c x)
leave_fair leaving t c x leaves u =
    omega (arith, leaves c u, admit_each_places u (leaving c).threads x, entering-returns t 0 None u)

-- the first that leaves by a signal, and those that stay, are all that waited
pub first_leaves_places :
    (m u : ℕ) (q : List ℕ) → places u (first_leaves m q).threads + places u (first_leaves m q).rest.queue ≡ places u q
first_leaves_places m u [] = omega (arith, places-nil u)
first_leaves_places m u (v ∷ q) = omega (arith, places-nil u, places-cons u v q, places-cons u v [])

pub signal_leaves :
    (c : Condition) (u : ℕ)
    → places u (signal_leaving c).threads + places u (signal_leaving c).rest.queue ≡ places u c.queue
signal_leaves c u = first_leaves_places c.mutex u c.queue

-- and by a broadcast
pub broadcast_leaves :
    (c : Condition) (u : ℕ)
    → places u (broadcast_leaving c).threads + places u (broadcast_leaving c).rest.queue ≡ places u c.queue
broadcast_leaves c u = omega (arith, places-nil u)

-- one more thread that waits for a lock
pub places-awaited :
    (u : ℕ) (q : List Waiter) (w : Waiter)
    → places u (threads_of (q ++ w ∷ [])) ≡ places u (threads_of q) + tally (w.thread == u)
places-awaited u q w = simp map-append (places-push u (threads_of q) w.thread)

pub rdlock_fair : (t : ℕ) (c : RwLock) → IsFair rwlock_queue t c (rdlock_row t c)
rdlock_fair t c u = grind (arith, places-nil, places-awaited, entering-returns, entering-blocks)

pub wrlock_fair : (t : ℕ) (c : RwLock) → IsFair rwlock_queue t c (wrlock_row t c)
wrlock_fair t c u = grind (arith, places-nil, places-awaited, entering-returns, entering-blocks)

pub trywrlock_fair : (t : ℕ) (c : RwLock) → IsFair rwlock_queue t c (trywrlock_row t c)
trywrlock_fair t c u = grind (arith, places-nil, entering-returns)

-- the threads that wait to read before the first that waits to write, and those from there on, are all that wait
pub first_readers_places :
    (u : ℕ) (q : List Waiter)
    → places u (first_readers q) + places u (threads_of (from_first_writer q)) ≡ places u (threads_of q)
first_readers_places u [] = omega (arith, places-nil u)
first_readers_places u (w ∷ q) = grind (arith, places-nil, places-cons, first_readers_places u q)

pub readers_admitted_places :
    (u : ℕ) (c : RwLock)
    → places u (readers_admitted c).0 + places u (rwlock_queue (readers_admitted c).1) ≡ places u (rwlock_queue c)
readers_admitted_places u c = grind (arith, places-nil, first_readers_places)

pub writer_admitted_places :
    (u : ℕ) (c : RwLock)
    → places u (writer_admitted c).0 + places u (rwlock_queue (writer_admitted c).1) ≡ places u (rwlock_queue c)
writer_admitted_places u c = grind (arith, places-nil, places-cons)

-- a thread that gets a lock that is handed on has waited for it
pub handed_on_places :
    (u : ℕ) (c : RwLock) → places u (handed_on c).0 + places u (rwlock_queue (handed_on c).1) ≡ places u (rwlock_queue c)
handed_on_places u c =
    omega (
      arith,
      readers_admitted_places u c,
      writer_admitted_places u (readers_admitted c).1,
      places-append u (readers_admitted c).0 (writer_admitted (readers_admitted c).1).0,
    )

pub rwunlock_fair : (t : ℕ) (c : RwLock) → IsFair rwlock_queue t c (rwunlock_row t c)
rwunlock_fair t c u = grind (arith, places-nil, handed_on_places u (let_go t c), entering-returns)
