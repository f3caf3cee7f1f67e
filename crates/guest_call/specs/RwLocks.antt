-- Reader-writer locks, each held by one writer or by readers, and handed on in the order in which threads came.
use Rattle.std.specs.Prelude.{ℕ, ◌==◌, Bool, true, false, ◌&&◌, ◌||◌, List, [], ◌∷◌, ◌++◌, length, map, replicate, Option, Some, None, is_none, is_some, slice_index_or, slice_set, if◌then◌else◌}
use Rattle.std.specs.List.{list_any}
use Rattle.guest_call.specs.declared.thread_number.TheConstants.{THREADS}
use Rattle.guest_call.specs.Answers.{answer_eperm, answer_eagain, answer_ebusy, answer_edeadlk}
use Rattle.guest_call.specs.Effect.{Effect, Returns, answers, blocks, wakes}
use Rattle.guest_call.specs.Mutexes.{owns}

-- a thread that waits for a lock, and whether it wants to write (POSIX.1-2017, pthread_rwlock_wrlock)
pub record Waiter : Type 0 where
  pub thread : ℕ
  pub writes : Bool

-- the writer of a lock, if there is one, whether each thread is a reader, and the waiters, the first to come first
-- (POSIX.1-2017, pthread_rwlock_rdlock)
pub record RwLock : Type 0 where
  pub writer : Option ℕ
  pub readers : List Bool
  pub queue : List Waiter

-- no thread is a reader
unfoldable pub no_readers : List Bool
no_readers = replicate THREADS false

-- a lock as it is at the start: no thread holds it, and none waits (POSIX.1-2017, pthread_rwlock_init)
abbrev pub unheld : RwLock
unheld = record { writer = None; readers = no_readers; queue = [] }

-- the threads of some waiters
abbrev pub threads_of : List Waiter → List ℕ
threads_of queue = map (λ (w : Waiter). w.thread) queue

-- which threads wait for a lock (POSIX.1-2017, pthread_rwlock_rdlock)
abbrev pub rwlock_queue : RwLock → List ℕ
rwlock_queue c = threads_of c.queue

-- whether t is a reader (POSIX.1-2017, pthread_rwlock_rdlock)
abbrev pub reads : RwLock → ℕ → Bool
reads c t = slice_index_or c.readers t false

-- whether t holds the lock, as its writer or as a reader
abbrev pub holds : RwLock → ℕ → Bool
holds c t = owns c.writer t || reads c t

-- whether any thread is a reader
abbrev pub is_read : RwLock → Bool
is_read c = list_any (λ reader. reader) c.readers

-- whether any thread holds the lock
abbrev pub is_held : RwLock → Bool
is_held c = is_some c.writer || is_read c

-- the lock with t as its writer (POSIX.1-2017, pthread_rwlock_wrlock)
abbrev pub written_by : ℕ → RwLock → RwLock
written_by t c = record { writer = Some t; readers = c.readers; queue = c.queue }

-- the lock with t among its readers (POSIX.1-2017, pthread_rwlock_rdlock)
abbrev pub read_by : ℕ → RwLock → RwLock
read_by t c = record { writer = c.writer; readers = slice_set c.readers t true; queue = c.queue }

-- the lock with one more at the end of its queue: first in, first out
abbrev pub awaited : Waiter → RwLock → RwLock
awaited w c = record { writer = c.writer; readers = c.readers; queue = c.queue ++ w ∷ [] }

-- the lock without t, which held it (POSIX.1-2017, pthread_rwlock_unlock)
abbrev pub let_go : ℕ → RwLock → RwLock
let_go t c =
    record {
      writer = if owns c.writer t then None else c.writer;
      readers = slice_set c.readers t false;
      queue = c.queue;
    }

-- rdlock, called by t: refused if t holds the lock; t becomes a reader if there is no writer and no thread waits; else
-- it waits to read (POSIX.1-2017, pthread_rwlock_rdlock)
abbrev pub rdlock_row : ℕ → RwLock → Effect × RwLock
rdlock_row t c =
    if owns c.writer t then (answers answer_edeadlk, c)
    else if reads c t then (answers answer_eagain, c)
    else if is_none c.writer && length c.queue == 0 then (answers 0, read_by t c)
    else (blocks, awaited (record { thread = t; writes = false }) c)

-- wrlock, called by t: refused if t holds the lock; t becomes the writer if no thread holds it; else it waits to write
-- (POSIX.1-2017, pthread_rwlock_wrlock)
abbrev pub wrlock_row : ℕ → RwLock → Effect × RwLock
wrlock_row t c =
    if holds c t then (answers answer_edeadlk, c)
    else if is_held c then (blocks, awaited (record { thread = t; writes = true }) c)
    else (answers 0, written_by t c)

-- trywrlock, called by t: t becomes the writer if no thread holds the lock; else it is refused (POSIX.1-2017,
-- pthread_rwlock_trywrlock)
abbrev pub trywrlock_row : ℕ → RwLock → Effect × RwLock
trywrlock_row t c = if is_held c then (answers answer_ebusy, c) else (answers 0, written_by t c)

-- the threads of the waiters before the first that wants to write
abbrev pub first_readers : List Waiter → List ℕ
first_readers [] = []
first_readers (w ∷ rest) = if w.writes then [] else w.thread ∷ first_readers rest

-- the waiters from the first that wants to write on
abbrev pub from_first_writer : List Waiter → List Waiter
from_first_writer [] = []
from_first_writer (w ∷ rest) = if w.writes then w ∷ rest else from_first_writer rest

-- the readers, with these threads among them
abbrev pub joined_by_each : List ℕ → List Bool → List Bool
joined_by_each [] readers = readers
joined_by_each (u ∷ rest) readers = joined_by_each rest (slice_set readers u true)

-- if no writer holds a lock, the waiters before the first that wants to write become readers: these threads, and the
-- lock (POSIX.1-2017, pthread_rwlock_unlock)
abbrev pub readers_admitted : RwLock → List ℕ × RwLock
readers_admitted c =
    if is_some c.writer then ([], c)
    else (
      first_readers c.queue,
      record {
        writer = None;
        readers = joined_by_each (first_readers c.queue) c.readers;
        queue = from_first_writer c.queue;
      },
    )

-- the first waiter becomes the writer of a lock that no thread holds: this thread, if there is one, and the lock
abbrev pub first_writes : List Bool → List Waiter → List ℕ × RwLock
first_writes readers [] = ([], record { writer = None; readers = readers; queue = [] })
first_writes readers (w ∷ rest) =
    (w.thread ∷ [], record { writer = Some w.thread; readers = readers; queue = rest })

-- if no thread holds a lock, the first waiter becomes its writer: this thread, if there is one, and the lock
-- (POSIX.1-2017, pthread_rwlock_unlock)
abbrev pub writer_admitted : RwLock → List ℕ × RwLock
writer_admitted c = if is_held c then ([], c) else first_writes c.readers c.queue

-- the waiters that get a lock, and the lock after that: readers from the front, or else the first writer (POSIX.1-2017,
-- pthread_rwlock_unlock)
abbrev pub handed_on : RwLock → List ℕ × RwLock
handed_on c = let readers = readers_admitted c in let writer = writer_admitted readers.1 in (readers.0 ++ writer.0, writer.1)

-- rwunlock, called by t: refused if t doesn't hold the lock; else t releases it, and the lock is handed on
-- (POSIX.1-2017, pthread_rwlock_unlock)
abbrev pub rwunlock_row : ℕ → RwLock → Effect × RwLock
rwunlock_row t c =
    if holds c t then (wakes (Returns 0 None) (handed_on (let_go t c)).0, (handed_on (let_go t c)).1)
    else (answers answer_eperm, c)
