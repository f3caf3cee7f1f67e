-- Worked examples of semaphores, which the checker computes. The expected values are written out as numbers: the errors
-- from Linux's table of error numbers, negated modulo 2^32, and the rest from the table of calls by hand.
use Rattle.std.proofs.Common.{◌≡◌, [], ◌∷◌, None, slice_index_or, refl}
use Rattle.guest_call.specs.declared.Call.TheVariants.{SemWait, SemTryWait, SemPost, SemInit}
use Rattle.guest_call.specs.declared.Object.TheVariants as object
use Rattle.guest_call.specs.Effect.{Returns, Blocks, answers}
use Rattle.guest_call.specs.Semaphores.{Semaphore, unposted}
use Rattle.guest_call.specs.Objects.{Objects, all_unposted, opening, act, acts_on}
use Rattle.guest_call.proofs.Examples.{all_readable, effect_of, four_threads, then_call}

-- the state of semaphore 3
abbrev pub third : Objects → Semaphore
third o = slice_index_or o.semaphores 3 unposted

-- semaphore 3 at value 2
abbrev pub at_two : Objects
at_two = then_call four_threads 0 (SemInit 3 2)

-- threads 1 and 2 wait at semaphore 3, whose value is 0
abbrev pub two_wait : Objects
two_wait = then_call (then_call four_threads 1 (SemWait 3)) 2 (SemWait 3)

-- sem_init.

-- the value becomes the given one
pub sem_init-answers-0 : effect_of four_threads 0 (SemInit 3 2) ≡ answers 0
unfolding all_unposted
sem_init-answers-0 = refl

pub sem_init-sets-the-value : third at_two ≡ record { value = 2; queue = [] }
unfolding all_unposted
sem_init-sets-the-value = refl

-- again while no thread waits
pub sem_init-again-sets-the-value : third (then_call at_two 1 (SemInit 3 0)) ≡ record { value = 0; queue = [] }
unfolding all_unposted
sem_init-again-sets-the-value = refl

-- the largest value is allowed
pub sem_init-of-the-largest-answers-0 : effect_of four_threads 0 (SemInit 3 2147483647) ≡ answers 0
unfolding all_unposted
sem_init-of-the-largest-answers-0 = refl

-- one more isn't: EINVAL is 22 and 2^32 - 22 is 4294967274
pub sem_init-beyond-the-largest-is-invalid :
    act all_readable four_threads 0 (SemInit 3 2147483648) ≡ (answers 4294967274, four_threads)
sem_init-beyond-the-largest-is-invalid = refl

-- semaphore 64 doesn't exist: EINVAL
pub sem_init-of-semaphore-64-is-invalid :
    act all_readable four_threads 0 (SemInit 64 2) ≡ (answers 4294967274, four_threads)
sem_init-of-semaphore-64-is-invalid = refl

-- while a thread waits: EBUSY is 16 and 2^32 - 16 is 4294967280, and nothing changes
pub sem_init-while-somebody-waits-is-busy : effect_of two_wait 0 (SemInit 3 2) ≡ answers 4294967280
unfolding all_unposted
sem_init-while-somebody-waits-is-busy = refl

pub sem_init-while-somebody-waits-changes-nothing :
    third (then_call two_wait 0 (SemInit 3 2)) ≡ record { value = 0; queue = 1 ∷ 2 ∷ [] }
unfolding all_unposted
sem_init-while-somebody-waits-changes-nothing = refl

-- sem_wait.

-- a value above 0 is taken down by one
pub sem_wait-above-0-answers-0 : effect_of at_two 1 (SemWait 3) ≡ answers 0
unfolding all_unposted
sem_wait-above-0-answers-0 = refl

pub sem_wait-takes-one : third (then_call at_two 1 (SemWait 3)) ≡ record { value = 1; queue = [] }
unfolding all_unposted
sem_wait-takes-one = refl

-- at 0, the value at the start, it blocks
pub sem_wait-at-0-blocks :
    effect_of four_threads 1 (SemWait 3) ≡ record { fate = Blocks; woken = []; reported = None; created = None }
unfolding all_unposted
sem_wait-at-0-blocks = refl

-- the queue is first in first out
pub sem_wait-waits-in-order : third two_wait ≡ record { value = 0; queue = 1 ∷ 2 ∷ [] }
unfolding all_unposted
sem_wait-waits-in-order = refl

-- semaphore 63 exists, 64 doesn't
pub sem_wait-of-semaphore-63-blocks : (effect_of four_threads 1 (SemWait 63)).fate ≡ Blocks
unfolding all_unposted
sem_wait-of-semaphore-63-blocks = refl

pub sem_wait-of-semaphore-64-is-invalid :
    act all_readable four_threads 1 (SemWait 64) ≡ (answers 4294967274, four_threads)
sem_wait-of-semaphore-64-is-invalid = refl

-- sem_trywait.

-- a value above 0 is taken down by one
pub sem_trywait-above-0-answers-0 : effect_of at_two 1 (SemTryWait 3) ≡ answers 0
unfolding all_unposted
sem_trywait-above-0-answers-0 = refl

pub sem_trywait-takes-one : third (then_call at_two 1 (SemTryWait 3)) ≡ record { value = 1; queue = [] }
unfolding all_unposted
sem_trywait-takes-one = refl

-- at 0: EAGAIN is 11 and 2^32 - 11 is 4294967285, and the caller doesn't wait
pub sem_trywait-at-0-is-refused : effect_of two_wait 3 (SemTryWait 3) ≡ answers 4294967285
unfolding all_unposted
sem_trywait-at-0-is-refused = refl

pub sem_trywait-at-0-changes-nothing :
    third (then_call two_wait 3 (SemTryWait 3)) ≡ record { value = 0; queue = 1 ∷ 2 ∷ [] }
unfolding all_unposted
sem_trywait-at-0-changes-nothing = refl

pub sem_trywait-of-semaphore-64-is-invalid :
    act all_readable four_threads 1 (SemTryWait 64) ≡ (answers 4294967274, four_threads)
sem_trywait-of-semaphore-64-is-invalid = refl

-- sem_post.

-- if no thread waits, the value goes up by one
pub sem_post-answers-0 : effect_of at_two 1 (SemPost 3) ≡ answers 0
unfolding all_unposted
sem_post-answers-0 = refl

pub sem_post-adds-one : third (then_call at_two 1 (SemPost 3)) ≡ record { value = 3; queue = [] }
unfolding all_unposted
sem_post-adds-one = refl

-- if a thread waits, the first is woken, and the value stays
pub sem_post-wakes-the-first :
    effect_of two_wait 0 (SemPost 3) ≡ record { fate = Returns 0 None; woken = 1 ∷ []; reported = None; created = None }
unfolding all_unposted
sem_post-wakes-the-first = refl

pub sem_post-keeps-the-value : third (then_call two_wait 0 (SemPost 3)) ≡ record { value = 0; queue = 2 ∷ [] }
unfolding all_unposted
sem_post-keeps-the-value = refl

-- the value goes up to the largest one
pub sem_post-below-the-largest-answers-0 :
    effect_of (then_call four_threads 0 (SemInit 3 2147483646)) 1 (SemPost 3) ≡ answers 0
unfolding all_unposted
sem_post-below-the-largest-answers-0 = refl

-- at the largest: EOVERFLOW is 75 and 2^32 - 75 is 4294967221, and the value stays
pub sem_post-at-the-largest-overflows :
    effect_of (then_call four_threads 0 (SemInit 3 2147483647)) 1 (SemPost 3) ≡ answers 4294967221
unfolding all_unposted
sem_post-at-the-largest-overflows = refl

pub sem_post-at-the-largest-changes-nothing :
    third (then_call (then_call four_threads 0 (SemInit 3 2147483647)) 1 (SemPost 3))
    ≡ record { value = 2147483647; queue = [] }
unfolding all_unposted
sem_post-at-the-largest-changes-nothing = refl

pub sem_post-of-semaphore-64-is-invalid :
    act all_readable four_threads 1 (SemPost 64) ≡ (answers 4294967274, four_threads)
sem_post-of-semaphore-64-is-invalid = refl

-- What they act on: their semaphore, if the arguments are in range.

pub sem_wait-acts-on-its-semaphore : acts_on all_readable opening (SemWait 63) ≡ object.Semaphore 63 ∷ []
sem_wait-acts-on-its-semaphore = refl

pub sem_wait-of-semaphore-64-acts-on-nothing : acts_on all_readable opening (SemWait 64) ≡ []
sem_wait-of-semaphore-64-acts-on-nothing = refl

pub sem_trywait-acts-on-its-semaphore : acts_on all_readable opening (SemTryWait 3) ≡ object.Semaphore 3 ∷ []
sem_trywait-acts-on-its-semaphore = refl

pub sem_trywait-of-semaphore-64-acts-on-nothing : acts_on all_readable opening (SemTryWait 64) ≡ []
sem_trywait-of-semaphore-64-acts-on-nothing = refl

pub sem_post-acts-on-its-semaphore : acts_on all_readable opening (SemPost 3) ≡ object.Semaphore 3 ∷ []
sem_post-acts-on-its-semaphore = refl

pub sem_post-of-semaphore-64-acts-on-nothing : acts_on all_readable opening (SemPost 64) ≡ []
sem_post-of-semaphore-64-acts-on-nothing = refl

pub sem_init-acts-on-its-semaphore : acts_on all_readable opening (SemInit 3 2147483647) ≡ object.Semaphore 3 ∷ []
sem_init-acts-on-its-semaphore = refl

pub sem_init-beyond-the-largest-acts-on-nothing : acts_on all_readable opening (SemInit 3 2147483648) ≡ []
sem_init-beyond-the-largest-acts-on-nothing = refl

-- a refusal with EBUSY acts on it too
pub sem_init-while-somebody-waits-acts-on-its-semaphore :
    acts_on all_readable two_wait (SemInit 3 2) ≡ object.Semaphore 3 ∷ []
sem_init-while-somebody-waits-acts-on-its-semaphore = refl
