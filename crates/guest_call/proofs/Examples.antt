-- Worked examples, which the checker computes. The expected values are written out as numbers: the errors
-- from Linux's table of error numbers, negated modulo 2^32, and the rest from the table of calls by hand.
use Rattle.std.proofs.Common.{zero, suc, ℕ, ◌≡◌, Bool, true, false, [], ◌∷◌, Some, None, slice_index_or, refl}
use Rattle.guest_call.specs.declared.Call.{Call}
use Rattle.guest_call.specs.declared.Call.TheVariants.{Exit, Put, Create, ThreadExit, Join, Yield, Lock, Unlock}
use Rattle.guest_call.specs.declared.Object.TheVariants as object
use Rattle.guest_call.specs.Numbers.{call_of}
use Rattle.guest_call.specs.Effect.{Effect, Returns, Blocks, Ends, Exits, answers}
use Rattle.guest_call.specs.Mutexes.{unlocked}
use Rattle.guest_call.specs.Objects.{Objects, all_unlocked, opening, act, acts_on}

-- every range may be read
abbrev pub all_readable : ℕ → ℕ → Bool
all_readable p n = true

-- no range may be read
abbrev pub none_readable : ℕ → ℕ → Bool
none_readable p n = false

-- the objects after one more call, whose effect is dropped
abbrev pub then_call : Objects → ℕ → Call → Objects
then_call o t call = (act all_readable o t call).1

-- what a call does if every range may be read
abbrev pub effect_of : Objects → ℕ → Call → Effect
effect_of o t call = (act all_readable o t call).0

-- thread 0 and the three that it creates at 0x10000
abbrev pub four_threads : Objects
four_threads = then_call (then_call (then_call opening 0 (Create 65536 7)) 0 (Create 65536 8)) 0 (Create 65536 9)

-- n creates at 0x10000 by thread 0
abbrev pub created_times : ℕ → Objects → Objects
created_times zero o = o
created_times (suc n) o = created_times n (then_call o 0 (Create 65536 0))

-- The numbers of the calls.

-- call 1 reads a0 and a1, by the table of calls
pub call-1-is-put : call_of 1 65568 3 ≡ Some (Put 65568 3)
call-1-is-put = refl

-- call 2 reads a0 and a1, by the table of calls
pub call-2-is-create : call_of 2 65536 5 ≡ Some (Create 65536 5)
call-2-is-create = refl

-- calls 0, 3 and 4 read a0 alone, by the table of calls
pub call-0-is-exit : call_of 0 9 5 ≡ Some (Exit 9)
call-0-is-exit = refl

pub call-3-is-thread_exit : call_of 3 9 5 ≡ Some (ThreadExit 9)
call-3-is-thread_exit = refl

pub call-4-is-join : call_of 4 9 5 ≡ Some (Join 9)
call-4-is-join = refl

-- call 5 reads neither, by the table of calls
pub call-5-is-yield : call_of 5 9 5 ≡ Some Yield
call-5-is-yield = refl

-- 6 locks and 8 unlocks, by the table of calls
pub call-6-is-lock : call_of 6 9 5 ≡ Some (Lock 9)
call-6-is-lock = refl

pub call-8-is-unlock : call_of 8 9 5 ≡ Some (Unlock 9)
call-8-is-unlock = refl

-- 22 and 2^32 - 1 are in no row of the table
pub call-22-is-bad : call_of 22 0 0 ≡ None
call-22-is-bad = refl

pub call-4294967295-is-bad : call_of 4294967295 0 0 ≡ None
call-4294967295-is-bad = refl

-- exit and yield.

-- exit ends the run with the whole of a0, also above 255
pub exit-tells-all-of-a0 :
    effect_of opening 0 (Exit 4294967295) ≡ record { fate = Exits 4294967295; woken = []; reported = None; created = None }
exit-tells-all-of-a0 = refl

-- yield answers 0
pub yield-answers-0 :
    act all_readable opening 0 Yield
    ≡ (record { fate = Returns 0 None; woken = []; reported = None; created = None }, opening)
yield-answers-0 = refl

-- put.

-- three readable bytes: 3
pub put-answers-its-length : effect_of opening 0 (Put 65568 3) ≡ answers 3
put-answers-its-length = refl

-- no bytes: 0, wherever the range lies
pub put-of-nothing-answers-0 : (act none_readable opening 0 (Put 0 0)).0 ≡ answers 0
put-of-nothing-answers-0 = refl

-- 4,096 bytes are allowed
pub put-of-4096-answers-4096 : effect_of opening 0 (Put 65536 4096) ≡ answers 4096
put-of-4096-answers-4096 = refl

-- 4,097 bytes: EINVAL is 22 and 2^32 - 22 is 4294967274, though they could be read
pub put-of-4097-is-invalid : effect_of opening 0 (Put 65536 4097) ≡ answers 4294967274
put-of-4097-is-invalid = refl

-- the length is looked at before the range
pub put-of-4097-unreadable-is-invalid : (act none_readable opening 0 (Put 65536 4097)).0 ≡ answers 4294967274
put-of-4097-unreadable-is-invalid = refl

-- a range past 2^32: EFAULT is 14 and 2^32 - 14 is 4294967282
pub put-past-the-end-is-a-fault : effect_of opening 0 (Put 4294967295 2) ≡ answers 4294967282
put-past-the-end-is-a-fault = refl

-- a range up to 2^32 itself isn't past it
pub put-up-to-the-end-is-none : effect_of opening 0 (Put 4294967294 2) ≡ answers 2
put-up-to-the-end-is-none = refl

-- a range that may not be read: EFAULT
pub put-unreadable-is-a-fault : (act none_readable opening 0 (Put 65536 4)).0 ≡ answers 4294967282
put-unreadable-is-a-fault = refl

-- put acts on the output if it appends, and on nothing else
pub put-acts-on-the-output : acts_on all_readable opening (Put 65568 3) ≡ object.Output ∷ []
put-acts-on-the-output = refl

pub put-of-nothing-acts-on-nothing : acts_on all_readable opening (Put 65568 0) ≡ []
put-of-nothing-acts-on-nothing = refl

pub put-refused-acts-on-nothing : acts_on none_readable opening (Put 65568 3) ≡ []
put-refused-acts-on-nothing = refl

pub put-too-long-acts-on-nothing : acts_on all_readable opening (Put 65536 4294967274) ≡ []
put-too-long-acts-on-nothing = refl

-- create.

-- the first thread that is created has number 1, and begins at the pc with the argument
pub create-answers-1 :
    effect_of opening 0 (Create 65536 7)
    ≡ record { fate = Returns 1 None; woken = []; reported = None; created = Some (65536, 7) }
create-answers-1 = refl

-- the next has number 2, whichever thread creates it
pub create-answers-2 :
    effect_of (then_call opening 0 (Create 65536 7)) 1 (Create 65540 8)
    ≡ record { fate = Returns 2 None; woken = []; reported = None; created = Some (65540, 8) }
create-answers-2 = refl

-- the last that fits has number 31
pub create-answers-31 : (effect_of (created_times 30 opening) 0 (Create 65536 7)).fate ≡ Returns 31 None
create-answers-31 = refl

-- 32 threads exist: EAGAIN is 11 and 2^32 - 11 is 4294967285, and nothing is created
pub create-of-a-33rd-is-refused : effect_of (created_times 31 opening) 0 (Create 65536 7) ≡ answers 4294967285
create-of-a-33rd-is-refused = refl

-- threads that have ended count
pub create-counts-ended-threads :
    effect_of (then_call (created_times 31 opening) 5 (ThreadExit 0)) 0 (Create 65536 7) ≡ answers 4294967285
create-counts-ended-threads = refl

-- 0x10002 isn't a multiple of 4: EINVAL
pub create-at-an-odd-pc-is-invalid : act all_readable opening 0 (Create 65538 0) ≡ (answers 4294967274, opening)
create-at-an-odd-pc-is-invalid = refl

-- the pc is looked at before the table
pub create-at-an-odd-pc-comes-first : effect_of (created_times 31 opening) 0 (Create 65538 0) ≡ answers 4294967274
create-at-an-odd-pc-comes-first = refl

-- create acts on the table of threads, also if it is full, but not if its pc is refused
pub create-acts-on-the-threads :
    acts_on all_readable (created_times 31 opening) (Create 65536 0) ≡ object.ThreadTable ∷ []
create-acts-on-the-threads = refl

pub create-at-an-odd-pc-acts-on-nothing : acts_on all_readable opening (Create 65538 0) ≡ []
create-at-an-odd-pc-acts-on-nothing = refl

-- thread_exit and join.

-- the join of a thread that runs blocks
pub join-of-a-running-thread-blocks :
    effect_of four_threads 0 (Join 2) ≡ record { fate = Blocks; woken = []; reported = None; created = None }
join-of-a-running-thread-blocks = refl

-- the end of a thread wakes its joiner, which gets the value
pub thread_exit-wakes-the-joiner :
    effect_of (then_call four_threads 0 (Join 2)) 2 (ThreadExit 51)
    ≡ record { fate = Ends 51; woken = 0 ∷ []; reported = Some 51; created = None }
thread_exit-wakes-the-joiner = refl

-- the end of a thread without a joiner wakes no thread
pub thread_exit-wakes-nobody : (effect_of (then_call four_threads 0 (Join 2)) 1 (ThreadExit 51)).woken ≡ []
thread_exit-wakes-nobody = refl

-- the join of a thread that has ended answers 0, with the value in a1
pub join-of-an-ended-thread-tells-its-value :
    effect_of (then_call four_threads 1 (ThreadExit 51)) 0 (Join 1)
    ≡ record { fate = Returns 0 (Some 51); woken = []; reported = None; created = None }
join-of-an-ended-thread-tells-its-value = refl

-- a second joiner is refused with EINVAL while the first waits
pub join-of-a-joined-thread-is-invalid : effect_of (then_call four_threads 0 (Join 2)) 1 (Join 2) ≡ answers 4294967274
join-of-a-joined-thread-is-invalid = refl

-- and also after the thread has ended and the first was woken: a joiner is kept forever
pub join-after-a-woken-joiner-is-invalid :
    effect_of (then_call (then_call four_threads 0 (Join 2)) 2 (ThreadExit 51)) 1 (Join 2) ≡ answers 4294967274
join-after-a-woken-joiner-is-invalid = refl

-- and after a join that didn't wait
pub join-after-a-join-is-invalid :
    effect_of (then_call (then_call four_threads 1 (ThreadExit 51)) 0 (Join 1)) 0 (Join 1) ≡ answers 4294967274
join-after-a-join-is-invalid = refl

-- a thread that joins itself: EDEADLK is 35 and 2^32 - 35 is 4294967261
pub join-of-itself-is-a-deadlock : effect_of four_threads 2 (Join 2) ≡ answers 4294967261
join-of-itself-is-a-deadlock = refl

-- that it is itself is looked at before that it has a joiner
pub join-of-itself-comes-first : effect_of (then_call four_threads 0 (Join 2)) 2 (Join 2) ≡ answers 4294967261
join-of-itself-comes-first = refl

-- thread 4 doesn't exist: ESRCH is 3 and 2^32 - 3 is 4294967293
pub join-of-no-thread-finds-none : act all_readable four_threads 0 (Join 4) ≡ (answers 4294967293, four_threads)
join-of-no-thread-finds-none = refl

-- join acts on the table of threads in each case
pub join-of-no-thread-acts-on-the-threads : acts_on all_readable opening (Join 99) ≡ object.ThreadTable ∷ []
join-of-no-thread-acts-on-the-threads = refl

-- two threads that join each other aren't detected: both wait
pub join-in-a-circle-blocks : (effect_of (then_call four_threads 0 (Join 2)) 2 (Join 0)).fate ≡ Blocks
join-in-a-circle-blocks = refl

-- lock and unlock.

-- thread 1 holds mutex 3, and then 2, 3 and 0 wait for it in this order
abbrev pub three_wait : Objects
three_wait = then_call (then_call (then_call (then_call four_threads 1 (Lock 3)) 2 (Lock 3)) 3 (Lock 3)) 0 (Lock 3)

-- a free mutex becomes the caller's
pub lock-of-a-free-mutex-answers-0 : effect_of four_threads 1 (Lock 3) ≡ answers 0
unfolding all_unlocked
lock-of-a-free-mutex-answers-0 = refl

pub lock-of-a-free-mutex-owns-it :
    slice_index_or (then_call four_threads 1 (Lock 3)).mutexes 3 unlocked ≡ record { owner = Some 1; queue = [] }
unfolding all_unlocked
lock-of-a-free-mutex-owns-it = refl

-- a mutex that another holds blocks
pub lock-of-a-held-mutex-blocks :
    effect_of (then_call four_threads 1 (Lock 3)) 2 (Lock 3)
    ≡ record { fate = Blocks; woken = []; reported = None; created = None }
unfolding all_unlocked
lock-of-a-held-mutex-blocks = refl

-- the queue is first in first out
pub lock-waits-in-order :
    slice_index_or three_wait.mutexes 3 unlocked ≡ record { owner = Some 1; queue = 2 ∷ (3 ∷ (0 ∷ [])) }
unfolding all_unlocked
lock-waits-in-order = refl

-- the caller's own mutex: EDEADLK, also while others wait
pub lock-of-its-own-mutex-is-a-deadlock : effect_of three_wait 1 (Lock 3) ≡ answers 4294967261
unfolding all_unlocked
lock-of-its-own-mutex-is-a-deadlock = refl

-- mutex 64 doesn't exist: EINVAL, and 63 does
pub lock-of-mutex-64-is-invalid : act all_readable four_threads 1 (Lock 64) ≡ (answers 4294967274, four_threads)
lock-of-mutex-64-is-invalid = refl

pub lock-of-mutex-63-answers-0 : effect_of four_threads 1 (Lock 63) ≡ answers 0
unfolding all_unlocked
lock-of-mutex-63-answers-0 = refl

pub unlock-of-mutex-64-is-invalid : effect_of four_threads 1 (Unlock 64) ≡ answers 4294967274
unlock-of-mutex-64-is-invalid = refl

-- unlock hands the mutex over to the first thread that waits, and the others stay in order
pub unlock-wakes-the-first :
    effect_of three_wait 1 (Unlock 3) ≡ record { fate = Returns 0 None; woken = 2 ∷ []; reported = None; created = None }
unfolding all_unlocked
unlock-wakes-the-first = refl

pub unlock-hands-over-to-the-first :
    slice_index_or (then_call three_wait 1 (Unlock 3)).mutexes 3 unlocked
    ≡ record { owner = Some 2; queue = 3 ∷ (0 ∷ []) }
unfolding all_unlocked
unlock-hands-over-to-the-first = refl

-- if no thread waits, the mutex is free again
pub unlock-frees : then_call (then_call four_threads 1 (Lock 3)) 1 (Unlock 3) ≡ four_threads
unfolding all_unlocked
unlock-frees = refl

-- a mutex that is free: EPERM is 1 and 2^32 - 1 is 4294967295
pub unlock-of-a-free-mutex-is-not-permitted : act all_readable opening 0 (Unlock 0) ≡ (answers 4294967295, opening)
unfolding all_unlocked
unlock-of-a-free-mutex-is-not-permitted = refl

-- nor one that another holds, also for a thread that waits for it
pub unlock-by-another-is-not-permitted : effect_of three_wait 2 (Unlock 3) ≡ answers 4294967295
unfolding all_unlocked
unlock-by-another-is-not-permitted = refl

-- a thread that ends keeps what it holds
pub thread_exit-keeps-its-mutexes :
    slice_index_or (then_call (then_call four_threads 1 (Lock 3)) 1 (ThreadExit 0)).mutexes 3 unlocked
    ≡ record { owner = Some 1; queue = [] }
unfolding all_unlocked
thread_exit-keeps-its-mutexes = refl

-- lock and unlock act on their mutex, if there is one
pub lock-acts-on-its-mutex : acts_on all_readable opening (Lock 63) ≡ object.Mutex 63 ∷ []
lock-acts-on-its-mutex = refl

pub unlock-of-mutex-64-acts-on-nothing : acts_on all_readable opening (Unlock 64) ≡ []
unlock-of-mutex-64-acts-on-nothing = refl
