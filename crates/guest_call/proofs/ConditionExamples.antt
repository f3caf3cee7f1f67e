-- Worked examples of conditions and of trylock, which the checker computes. The expected values are written out as
-- numbers: the errors from Linux's table of error numbers, negated modulo 2^32, and the rest from the table of calls by
-- hand.
use Rattle.std.proofs.Common.{◌≡◌, [], ◌∷◌, Some, None, slice_index_or, refl}
use Rattle.guest_call.specs.declared.Call.TheVariants.{Lock, TryLock, Unlock, CondWait, Signal, Broadcast}
use Rattle.guest_call.specs.declared.Object.TheVariants as object
use Rattle.guest_call.specs.Effect.{Returns, Blocks, answers}
use Rattle.guest_call.specs.Mutexes.{Mutex, unlocked}
use Rattle.guest_call.specs.Conditions.{Condition, unawaited}
use Rattle.guest_call.specs.Objects.{Objects, all_unlocked, all_unawaited, opening, act, acts_on}
use Rattle.guest_call.proofs.Examples.{all_readable, effect_of, four_threads, then_call}

-- the state of condition 0
abbrev pub condition_0 : Objects → Condition
condition_0 o = slice_index_or o.conditions 0 unawaited

-- the state of mutex 0
abbrev pub mutex_0 : Objects → Mutex
mutex_0 o = slice_index_or o.mutexes 0 unlocked

-- trylock.

-- a free mutex becomes the caller's
pub trylock-of-a-free-mutex-answers-0 : effect_of four_threads 1 (TryLock 0) ≡ answers 0
unfolding all_unlocked
trylock-of-a-free-mutex-answers-0 = refl

pub trylock-of-a-free-mutex-owns-it :
    mutex_0 (then_call four_threads 1 (TryLock 0)) ≡ record { owner = Some 1; queue = [] }
unfolding all_unlocked
trylock-of-a-free-mutex-owns-it = refl

-- one that another holds: EBUSY is 16 and 2^32 - 16 is 4294967280, and the caller doesn't wait
pub trylock-of-a-held-mutex-is-busy : effect_of (then_call four_threads 1 (Lock 0)) 2 (TryLock 0) ≡ answers 4294967280
unfolding all_unlocked
trylock-of-a-held-mutex-is-busy = refl

pub trylock-of-a-held-mutex-changes-nothing :
    mutex_0 (then_call (then_call four_threads 1 (Lock 0)) 2 (TryLock 0)) ≡ record { owner = Some 1; queue = [] }
unfolding all_unlocked
trylock-of-a-held-mutex-changes-nothing = refl

-- and so is the caller's own
pub trylock-of-its-own-mutex-is-busy : effect_of (then_call four_threads 1 (Lock 0)) 1 (TryLock 0) ≡ answers 4294967280
unfolding all_unlocked
trylock-of-its-own-mutex-is-busy = refl

-- mutex 64 doesn't exist: EINVAL is 22 and 2^32 - 22 is 4294967274
pub trylock-of-mutex-64-is-invalid : act all_readable four_threads 1 (TryLock 64) ≡ (answers 4294967274, four_threads)
trylock-of-mutex-64-is-invalid = refl

pub trylock-acts-on-its-mutex : acts_on all_readable opening (TryLock 63) ≡ object.Mutex 63 ∷ []
trylock-acts-on-its-mutex = refl

pub trylock-of-mutex-64-acts-on-nothing : acts_on all_readable opening (TryLock 64) ≡ []
trylock-of-mutex-64-acts-on-nothing = refl

-- One thread waits, is signalled while the mutex is held, and gets it by the unlock.

-- thread 1 holds mutex 0
abbrev pub locked : Objects
locked = then_call four_threads 1 (Lock 0)

-- thread 1 waits for condition 0
abbrev pub one_waits : Objects
one_waits = then_call locked 1 (CondWait 0 0)

-- thread 0 holds the mutex that thread 1 released
abbrev pub taken : Objects
taken = then_call one_waits 0 (Lock 0)

-- thread 0 has signalled
abbrev pub signalled : Objects
signalled = then_call taken 0 (Signal 0)

-- cond_wait blocks, and frees the mutex
pub cond_wait-blocks :
    effect_of locked 1 (CondWait 0 0) ≡ record { fate = Blocks; woken = []; reported = None; created = None }
unfolding all_unlocked all_unawaited
cond_wait-blocks = refl

pub cond_wait-frees-the-mutex : mutex_0 one_waits ≡ record { owner = None; queue = [] }
unfolding all_unlocked all_unawaited
cond_wait-frees-the-mutex = refl

pub cond_wait-waits : condition_0 one_waits ≡ record { mutex = 0; queue = 1 ∷ [] }
unfolding all_unlocked all_unawaited
cond_wait-waits = refl

-- another thread gets the mutex
pub lock-of-a-given-up-mutex-answers-0 : effect_of one_waits 0 (Lock 0) ≡ answers 0
unfolding all_unlocked all_unawaited
lock-of-a-given-up-mutex-answers-0 = refl

-- a signal while the mutex is held wakes no thread
pub signal-of-a-held-mutex-answers-0 : effect_of taken 0 (Signal 0) ≡ answers 0
unfolding all_unlocked all_unawaited
signal-of-a-held-mutex-answers-0 = refl

-- the thread leaves the condition, and waits for the mutex
pub signal-empties-the-condition : condition_0 signalled ≡ record { mutex = 0; queue = [] }
unfolding all_unlocked all_unawaited
signal-empties-the-condition = refl

pub signal-of-a-held-mutex-waits-for-it : mutex_0 signalled ≡ record { owner = Some 0; queue = 1 ∷ [] }
unfolding all_unlocked all_unawaited
signal-of-a-held-mutex-waits-for-it = refl

-- the unlock hands the mutex over to the thread, and wakes it
pub unlock-wakes-who-was-signalled :
    effect_of signalled 0 (Unlock 0) ≡ record { fate = Returns 0 None; woken = 1 ∷ []; reported = None; created = None }
unfolding all_unlocked all_unawaited
unlock-wakes-who-was-signalled = refl

pub unlock-hands-over-to-who-was-signalled :
    mutex_0 (then_call signalled 0 (Unlock 0)) ≡ record { owner = Some 1; queue = [] }
unfolding all_unlocked all_unawaited
unlock-hands-over-to-who-was-signalled = refl

-- cond_wait.

-- as in unlock, the first thread that waits for the mutex gets it
pub cond_wait-wakes-the-first :
    effect_of (then_call locked 2 (Lock 0)) 1 (CondWait 0 0)
    ≡ record { fate = Blocks; woken = 2 ∷ []; reported = None; created = None }
unfolding all_unlocked all_unawaited
cond_wait-wakes-the-first = refl

pub cond_wait-hands-over :
    mutex_0 (then_call (then_call locked 2 (Lock 0)) 1 (CondWait 0 0)) ≡ record { owner = Some 2; queue = [] }
unfolding all_unlocked all_unawaited
cond_wait-hands-over = refl

-- a caller that isn't the owner: EPERM is 1 and 2^32 - 1 is 4294967295, and nothing changes
pub cond_wait-of-a-free-mutex-is-not-permitted :
    act all_readable opening 0 (CondWait 0 0) ≡ (answers 4294967295, opening)
unfolding all_unlocked all_unawaited
cond_wait-of-a-free-mutex-is-not-permitted = refl

pub cond_wait-by-another-is-not-permitted : effect_of locked 2 (CondWait 0 0) ≡ answers 4294967295
unfolding all_unlocked all_unawaited
cond_wait-by-another-is-not-permitted = refl

-- another mutex than that of the waiting thread: EINVAL, and the caller keeps it
pub cond_wait-with-another-mutex-is-invalid :
    effect_of (then_call one_waits 2 (Lock 5)) 2 (CondWait 0 5) ≡ answers 4294967274
unfolding all_unlocked all_unawaited
cond_wait-with-another-mutex-is-invalid = refl

pub cond_wait-with-another-mutex-keeps-it :
    slice_index_or (then_call (then_call one_waits 2 (Lock 5)) 2 (CondWait 0 5)).mutexes 5 unlocked
    ≡ record { owner = Some 2; queue = [] }
unfolding all_unlocked all_unawaited
cond_wait-with-another-mutex-keeps-it = refl

pub cond_wait-with-another-mutex-waits-not :
    condition_0 (then_call (then_call one_waits 2 (Lock 5)) 2 (CondWait 0 5)) ≡ record { mutex = 0; queue = 1 ∷ [] }
unfolding all_unlocked all_unawaited
cond_wait-with-another-mutex-waits-not = refl

-- whether the caller owns the mutex is looked at before which mutex it is
pub cond_wait-looks-at-the-owner-first : effect_of one_waits 2 (CondWait 0 5) ≡ answers 4294967295
unfolding all_unlocked all_unawaited
cond_wait-looks-at-the-owner-first = refl

-- once no thread waits, another mutex may be used
pub cond_wait-takes-another-mutex-later :
    condition_0 (then_call (then_call signalled 2 (Lock 5)) 2 (CondWait 0 5)) ≡ record { mutex = 5; queue = 2 ∷ [] }
unfolding all_unlocked all_unawaited
cond_wait-takes-another-mutex-later = refl

-- neither condition 64 nor mutex 64 exists
pub cond_wait-at-condition-64-is-invalid : act all_readable locked 1 (CondWait 64 0) ≡ (answers 4294967274, locked)
cond_wait-at-condition-64-is-invalid = refl

pub cond_wait-with-mutex-64-is-invalid : act all_readable locked 1 (CondWait 0 64) ≡ (answers 4294967274, locked)
cond_wait-with-mutex-64-is-invalid = refl

-- signal.

-- if no thread waits, nothing happens
pub signal-of-nobody-answers-0 : act all_readable opening 0 (Signal 0) ≡ (answers 0, opening)
unfolding all_unlocked all_unawaited
signal-of-nobody-answers-0 = refl

-- if the mutex is free, the thread owns it, and is woken
pub signal-with-a-free-mutex-wakes :
    effect_of one_waits 0 (Signal 0) ≡ record { fate = Returns 0 None; woken = 1 ∷ []; reported = None; created = None }
unfolding all_unlocked all_unawaited
signal-with-a-free-mutex-wakes = refl

pub signal-with-a-free-mutex-hands-it-over :
    mutex_0 (then_call one_waits 0 (Signal 0)) ≡ record { owner = Some 1; queue = [] }
unfolding all_unlocked all_unawaited
signal-with-a-free-mutex-hands-it-over = refl

pub signal-at-condition-64-is-invalid : act all_readable opening 0 (Signal 64) ≡ (answers 4294967274, opening)
signal-at-condition-64-is-invalid = refl

-- broadcast.

-- threads 1, 2 and 3 wait for condition 0, and mutex 0 is free
abbrev pub three_await : Objects
three_await =
    then_call (then_call (then_call (then_call one_waits 2 (Lock 0)) 2 (CondWait 0 0)) 3 (Lock 0)) 3 (CondWait 0 0)

-- they wait in order
pub cond_wait-waits-in-order : condition_0 three_await ≡ record { mutex = 0; queue = 1 ∷ 2 ∷ 3 ∷ [] }
unfolding all_unlocked all_unawaited
cond_wait-waits-in-order = refl

-- a signal moves the first alone
pub signal-moves-the-first : condition_0 (then_call three_await 0 (Signal 0)) ≡ record { mutex = 0; queue = 2 ∷ 3 ∷ [] }
unfolding all_unlocked all_unawaited
signal-moves-the-first = refl

-- a broadcast with the mutex free wakes the first
pub broadcast-wakes-the-first :
    effect_of three_await 0 (Broadcast 0)
    ≡ record { fate = Returns 0 None; woken = 1 ∷ []; reported = None; created = None }
unfolding all_unlocked all_unawaited
broadcast-wakes-the-first = refl

-- and the others wait for the mutex, in order
pub broadcast-queues-the-others :
    mutex_0 (then_call three_await 0 (Broadcast 0)) ≡ record { owner = Some 1; queue = 2 ∷ 3 ∷ [] }
unfolding all_unlocked all_unawaited
broadcast-queues-the-others = refl

pub broadcast-empties-the-condition :
    condition_0 (then_call three_await 0 (Broadcast 0)) ≡ record { mutex = 0; queue = [] }
unfolding all_unlocked all_unawaited
broadcast-empties-the-condition = refl

-- if thread 0 holds the mutex, all wait for it
pub broadcast-of-a-held-mutex-queues-all :
    mutex_0 (then_call (then_call three_await 0 (Lock 0)) 0 (Broadcast 0))
    ≡ record { owner = Some 0; queue = 1 ∷ 2 ∷ 3 ∷ [] }
unfolding all_unlocked all_unawaited
broadcast-of-a-held-mutex-queues-all = refl

-- if no thread waits, nothing happens
pub broadcast-to-nobody-answers-0 : act all_readable opening 0 (Broadcast 0) ≡ (answers 0, opening)
unfolding all_unlocked all_unawaited
broadcast-to-nobody-answers-0 = refl

pub broadcast-at-condition-64-is-invalid : act all_readable opening 0 (Broadcast 64) ≡ (answers 4294967274, opening)
broadcast-at-condition-64-is-invalid = refl

-- What they act on.

-- cond_wait on the condition and the mutex, past the range check
pub cond_wait-acts-on-both : acts_on all_readable opening (CondWait 63 5) ≡ object.Condition 63 ∷ object.Mutex 5 ∷ []
cond_wait-acts-on-both = refl

pub cond_wait-with-mutex-64-acts-on-nothing : acts_on all_readable opening (CondWait 0 64) ≡ []
cond_wait-with-mutex-64-acts-on-nothing = refl

-- signal and broadcast on the mutex too, if a thread leaves
pub signal-acts-on-both : acts_on all_readable one_waits (Signal 0) ≡ object.Condition 0 ∷ object.Mutex 0 ∷ []
unfolding all_unlocked all_unawaited
signal-acts-on-both = refl

pub broadcast-acts-on-both : acts_on all_readable one_waits (Broadcast 0) ≡ object.Condition 0 ∷ object.Mutex 0 ∷ []
unfolding all_unlocked all_unawaited
broadcast-acts-on-both = refl

-- and else on the condition alone
pub signal-of-nobody-acts-on-the-condition : acts_on all_readable opening (Signal 0) ≡ object.Condition 0 ∷ []
unfolding all_unawaited
signal-of-nobody-acts-on-the-condition = refl

pub broadcast-to-nobody-acts-on-the-condition : acts_on all_readable opening (Broadcast 0) ≡ object.Condition 0 ∷ []
unfolding all_unawaited
broadcast-to-nobody-acts-on-the-condition = refl

pub signal-at-condition-64-acts-on-nothing : acts_on all_readable opening (Signal 64) ≡ []
signal-at-condition-64-acts-on-nothing = refl

pub broadcast-at-condition-64-acts-on-nothing : acts_on all_readable opening (Broadcast 64) ≡ []
broadcast-at-condition-64-acts-on-nothing = refl
