-- Worked examples of reader-writer locks, which the checker computes. The expected values are written out as numbers:
-- the errors from Linux's table of error numbers, negated modulo 2^32, and the rest from the table of calls by hand.
use Rattle.std.proofs.Common.{ℕ, ◌≡◌, true, List, [], ◌∷◌, Some, None, slice_index_or, refl}
use Rattle.guest_call.specs.declared.Call.TheVariants.{RdLock, WrLock, RwUnlock, TryWrLock}
use Rattle.guest_call.specs.declared.Object.TheVariants as object
use Rattle.guest_call.specs.Effect.{Effect, Returns, Blocks, answers, blocks}
use Rattle.guest_call.specs.RwLocks.{RwLock, no_readers, unheld, reads, rwlock_queue}
use Rattle.guest_call.specs.Objects.{Objects, all_unheld, opening, act, acts_on}
use Rattle.guest_call.proofs.Examples.{all_readable, effect_of, four_threads, then_call}

-- the state of lock 3
abbrev pub third : Objects → RwLock
third o = slice_index_or o.rwlocks 3 unheld

-- the caller gets 0, and these threads are woken
abbrev pub lets_in : List ℕ → Effect
lets_in threads = record { fate = Returns 0 None; woken = threads; reported = None; created = None }

-- threads 0 and 1 read
abbrev pub two_read : Objects
two_read = then_call (then_call four_threads 0 (RdLock 3)) 1 (RdLock 3)

-- while they read, thread 2 waits to write, and behind it thread 3 to read
abbrev pub two_wait : Objects
two_wait = then_call (then_call two_read 2 (WrLock 3)) 3 (RdLock 3)

-- both release it, so thread 2 writes, and thread 3 still waits to read
abbrev pub one_writes : Objects
one_writes = then_call (then_call two_wait 0 (RwUnlock 3)) 1 (RwUnlock 3)

-- thread 0 writes, and threads 1 and 2 wait to read, and thread 3 to write
abbrev pub readers_wait : Objects
readers_wait =
    then_call (then_call (then_call (then_call four_threads 0 (WrLock 3)) 1 (RdLock 3)) 2 (RdLock 3)) 3 (WrLock 3)

-- rdlock.

-- at a lock that no thread holds, and beside another reader
pub rdlock-answers-0 : effect_of four_threads 0 (RdLock 3) ≡ answers 0
unfolding all_unheld no_readers
rdlock-answers-0 = refl

pub rdlock-beside-a-reader-answers-0 : effect_of (then_call four_threads 0 (RdLock 3)) 1 (RdLock 3) ≡ answers 0
unfolding all_unheld no_readers
rdlock-beside-a-reader-answers-0 = refl

pub rdlock-makes-a-reader : reads (third two_read) 1 ≡ true
unfolding all_unheld no_readers
rdlock-makes-a-reader = refl

-- a second read lock of one thread: EAGAIN is 11 and 2^32 - 11 is 4294967285
pub rdlock-by-a-reader-is-refused : effect_of two_read 1 (RdLock 3) ≡ answers 4294967285
unfolding all_unheld no_readers
rdlock-by-a-reader-is-refused = refl

-- so too behind a writer that waits
pub rdlock-by-a-reader-is-refused-behind-a-writer : effect_of two_wait 1 (RdLock 3) ≡ answers 4294967285
unfolding all_unheld no_readers
rdlock-by-a-reader-is-refused-behind-a-writer = refl

-- by the writer: EDEADLK is 35 and 2^32 - 35 is 4294967261
pub rdlock-by-the-writer-is-refused : effect_of one_writes 2 (RdLock 3) ≡ answers 4294967261
unfolding all_unheld no_readers
rdlock-by-the-writer-is-refused = refl

-- it waits behind a writer, and behind a thread that waits to write
pub rdlock-behind-the-writer-blocks : effect_of one_writes 0 (RdLock 3) ≡ blocks
unfolding all_unheld no_readers
rdlock-behind-the-writer-blocks = refl

pub rdlock-behind-a-waiting-writer-blocks : (effect_of (then_call two_read 2 (WrLock 3)) 3 (RdLock 3)).fate ≡ Blocks
unfolding all_unheld no_readers
rdlock-behind-a-waiting-writer-blocks = refl

-- lock 63 exists, 64 doesn't: EINVAL is 22 and 2^32 - 22 is 4294967274
pub rdlock-of-lock-63-answers-0 : effect_of four_threads 0 (RdLock 63) ≡ answers 0
unfolding all_unheld no_readers
rdlock-of-lock-63-answers-0 = refl

pub rdlock-of-lock-64-is-invalid : act all_readable four_threads 1 (RdLock 64) ≡ (answers 4294967274, four_threads)
rdlock-of-lock-64-is-invalid = refl

-- wrlock.

pub wrlock-answers-0 : effect_of four_threads 0 (WrLock 3) ≡ answers 0
unfolding all_unheld no_readers
wrlock-answers-0 = refl

-- it waits for readers and for a writer
pub wrlock-beside-readers-blocks : effect_of two_read 2 (WrLock 3) ≡ blocks
unfolding all_unheld no_readers
wrlock-beside-readers-blocks = refl

pub wrlock-waits-in-order : rwlock_queue (third two_wait) ≡ 2 ∷ 3 ∷ []
unfolding all_unheld no_readers
wrlock-waits-in-order = refl

-- by the writer, and by a reader: EDEADLK
pub wrlock-by-the-writer-is-refused : effect_of one_writes 2 (WrLock 3) ≡ answers 4294967261
unfolding all_unheld no_readers
wrlock-by-the-writer-is-refused = refl

pub wrlock-by-a-reader-is-refused : effect_of two_read 0 (WrLock 3) ≡ answers 4294967261
unfolding all_unheld no_readers
wrlock-by-a-reader-is-refused = refl

pub wrlock-of-lock-64-is-invalid : act all_readable four_threads 1 (WrLock 64) ≡ (answers 4294967274, four_threads)
wrlock-of-lock-64-is-invalid = refl

-- rwunlock.

-- one reader of two: no thread is let in, and the other still reads
pub rwunlock-by-one-of-two-lets-nobody-in : effect_of two_wait 0 (RwUnlock 3) ≡ answers 0
unfolding all_unheld no_readers
rwunlock-by-one-of-two-lets-nobody-in = refl

pub rwunlock-by-one-of-two-leaves-the-other : reads (third (then_call two_wait 0 (RwUnlock 3))) 1 ≡ true
unfolding all_unheld no_readers
rwunlock-by-one-of-two-leaves-the-other = refl

-- the last reader: the writer that waits first is let in, and no other thread
pub rwunlock-by-the-last-reader-lets-the-writer-in :
    effect_of (then_call two_wait 0 (RwUnlock 3)) 1 (RwUnlock 3) ≡ lets_in (2 ∷ [])
unfolding all_unheld no_readers
rwunlock-by-the-last-reader-lets-the-writer-in = refl

pub rwunlock-makes-the-writer : (third one_writes).writer ≡ Some 2
unfolding all_unheld no_readers
rwunlock-makes-the-writer = refl

-- the writer: each reader before the next that waits to write is let in, and the writer behind them still waits
pub rwunlock-by-the-writer-lets-all-readers-in : effect_of readers_wait 0 (RwUnlock 3) ≡ lets_in (1 ∷ 2 ∷ [])
unfolding all_unheld no_readers
rwunlock-by-the-writer-lets-all-readers-in = refl

pub rwunlock-by-the-writer-leaves-a-writer-waiting :
    rwlock_queue (third (then_call readers_wait 0 (RwUnlock 3))) ≡ 3 ∷ []
unfolding all_unheld no_readers
rwunlock-by-the-writer-leaves-a-writer-waiting = refl

-- if no thread waits, none holds the lock then
pub rwunlock-with-nobody-waiting-frees-it : third (then_call (then_call four_threads 0 (WrLock 3)) 0 (RwUnlock 3)) ≡ unheld
unfolding all_unheld no_readers
rwunlock-with-nobody-waiting-frees-it = refl

-- by a thread that doesn't hold it: EPERM is 1 and 2^32 - 1 is 4294967295
pub rwunlock-by-another-is-refused : effect_of two_wait 3 (RwUnlock 3) ≡ answers 4294967295
unfolding all_unheld no_readers
rwunlock-by-another-is-refused = refl

pub rwunlock-of-lock-64-is-invalid : act all_readable four_threads 1 (RwUnlock 64) ≡ (answers 4294967274, four_threads)
rwunlock-of-lock-64-is-invalid = refl

-- trywrlock.

pub trywrlock-answers-0 : effect_of four_threads 0 (TryWrLock 3) ≡ answers 0
unfolding all_unheld no_readers
trywrlock-answers-0 = refl

pub trywrlock-makes-the-writer : (third (then_call four_threads 0 (TryWrLock 3))).writer ≡ Some 0
unfolding all_unheld no_readers
trywrlock-makes-the-writer = refl

-- by any thread, if a writer or a reader holds it: EBUSY is 16 and 2^32 - 16 is 4294967280
pub trywrlock-beside-readers-is-busy : effect_of two_read 2 (TryWrLock 3) ≡ answers 4294967280
unfolding all_unheld no_readers
trywrlock-beside-readers-is-busy = refl

pub trywrlock-by-a-reader-is-busy : effect_of two_read 0 (TryWrLock 3) ≡ answers 4294967280
unfolding all_unheld no_readers
trywrlock-by-a-reader-is-busy = refl

pub trywrlock-by-the-writer-is-busy : effect_of one_writes 2 (TryWrLock 3) ≡ answers 4294967280
unfolding all_unheld no_readers
trywrlock-by-the-writer-is-busy = refl

pub trywrlock-of-lock-64-is-invalid : act all_readable four_threads 1 (TryWrLock 64) ≡ (answers 4294967274, four_threads)
trywrlock-of-lock-64-is-invalid = refl

-- What they act on: their lock, in each case in which its number is in range.

pub rdlock-acts-on-its-lock : acts_on all_readable opening (RdLock 63) ≡ object.RwLock 63 ∷ []
rdlock-acts-on-its-lock = refl

pub rdlock-of-lock-64-acts-on-nothing : acts_on all_readable opening (RdLock 64) ≡ []
rdlock-of-lock-64-acts-on-nothing = refl

pub wrlock-acts-on-its-lock : acts_on all_readable opening (WrLock 3) ≡ object.RwLock 3 ∷ []
wrlock-acts-on-its-lock = refl

pub wrlock-of-lock-64-acts-on-nothing : acts_on all_readable opening (WrLock 64) ≡ []
wrlock-of-lock-64-acts-on-nothing = refl

-- a refusal acts on it too
pub rwunlock-that-is-refused-acts-on-its-lock : acts_on all_readable opening (RwUnlock 3) ≡ object.RwLock 3 ∷ []
rwunlock-that-is-refused-acts-on-its-lock = refl

pub rwunlock-of-lock-64-acts-on-nothing : acts_on all_readable opening (RwUnlock 64) ≡ []
rwunlock-of-lock-64-acts-on-nothing = refl

pub trywrlock-acts-on-its-lock : acts_on all_readable two_read (TryWrLock 3) ≡ object.RwLock 3 ∷ []
trywrlock-acts-on-its-lock = refl

pub trywrlock-of-lock-64-acts-on-nothing : acts_on all_readable opening (TryWrLock 64) ≡ []
trywrlock-of-lock-64-acts-on-nothing = refl
