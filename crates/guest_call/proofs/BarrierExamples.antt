-- Worked examples of barriers, which the checker computes. The expected values are written out as numbers: the errors
-- from Linux's table of error numbers, negated modulo 2^32, and the rest from the table of calls by hand.
use Rattle.std.proofs.Common.{◌≡◌, [], ◌∷◌, Some, None, slice_index_or, refl}
use Rattle.guest_call.specs.declared.Call.TheVariants.{BarrierInit, BarrierWait}
use Rattle.guest_call.specs.declared.Object.TheVariants as object
use Rattle.guest_call.specs.Effect.{Returns, Blocks, answers}
use Rattle.guest_call.specs.Barriers.{Barrier, uninitialised}
use Rattle.guest_call.specs.Objects.{Objects, all_uninitialised, opening, act, acts_on}
use Rattle.guest_call.proofs.Examples.{all_readable, effect_of, four_threads, then_call}

-- the state of barrier 0
abbrev pub zeroth : Objects → Barrier
zeroth o = slice_index_or o.barriers 0 uninitialised

-- barrier 0 counts 3
abbrev pub of_three : Objects
of_three = then_call four_threads 0 (BarrierInit 0 3)

-- and threads 0 and 1 have come
abbrev pub two_came : Objects
two_came = then_call (then_call of_three 0 (BarrierWait 0)) 1 (BarrierWait 0)

-- barrier_init.

-- the barrier has the count that is given
pub barrier_init-answers-0 : effect_of four_threads 0 (BarrierInit 0 3) ≡ answers 0
unfolding all_uninitialised
barrier_init-answers-0 = refl

pub barrier_init-sets-the-count : zeroth of_three ≡ record { count = Some 3; queue = [] }
unfolding all_uninitialised
barrier_init-sets-the-count = refl

-- again while no thread waits
pub barrier_init-again-sets-the-count :
    zeroth (then_call of_three 1 (BarrierInit 0 2)) ≡ record { count = Some 2; queue = [] }
unfolding all_uninitialised
barrier_init-again-sets-the-count = refl

-- 1 and 32 are counts
pub barrier_init-of-1-answers-0 : effect_of four_threads 0 (BarrierInit 0 1) ≡ answers 0
unfolding all_uninitialised
barrier_init-of-1-answers-0 = refl

pub barrier_init-of-32-answers-0 : effect_of four_threads 0 (BarrierInit 0 32) ≡ answers 0
unfolding all_uninitialised
barrier_init-of-32-answers-0 = refl

-- 0 and 33 are none: EINVAL is 22 and 2^32 - 22 is 4294967274
pub barrier_init-of-0-is-invalid :
    act all_readable four_threads 0 (BarrierInit 0 0) ≡ (answers 4294967274, four_threads)
barrier_init-of-0-is-invalid = refl

pub barrier_init-of-33-is-invalid :
    act all_readable four_threads 0 (BarrierInit 0 33) ≡ (answers 4294967274, four_threads)
barrier_init-of-33-is-invalid = refl

-- barrier 64 doesn't exist, and 63 does
pub barrier_init-of-barrier-64-is-invalid :
    act all_readable four_threads 0 (BarrierInit 64 3) ≡ (answers 4294967274, four_threads)
barrier_init-of-barrier-64-is-invalid = refl

pub barrier_init-of-barrier-63-answers-0 : effect_of four_threads 0 (BarrierInit 63 3) ≡ answers 0
unfolding all_uninitialised
barrier_init-of-barrier-63-answers-0 = refl

-- while a thread waits: EBUSY is 16 and 2^32 - 16 is 4294967280, and nothing changes
pub barrier_init-while-somebody-waits-is-busy : effect_of two_came 2 (BarrierInit 0 3) ≡ answers 4294967280
unfolding all_uninitialised
barrier_init-while-somebody-waits-is-busy = refl

pub barrier_init-while-somebody-waits-changes-nothing :
    zeroth (then_call two_came 2 (BarrierInit 0 2)) ≡ record { count = Some 3; queue = 0 ∷ 1 ∷ [] }
unfolding all_uninitialised
barrier_init-while-somebody-waits-changes-nothing = refl

-- barrier_wait.

-- the first two of three block, in order
pub barrier_wait-of-the-first-blocks :
    effect_of of_three 0 (BarrierWait 0) ≡ record { fate = Blocks; woken = []; reported = None; created = None }
unfolding all_uninitialised
barrier_wait-of-the-first-blocks = refl

pub barrier_wait-waits-in-order : zeroth two_came ≡ record { count = Some 3; queue = 0 ∷ 1 ∷ [] }
unfolding all_uninitialised
barrier_wait-waits-in-order = refl

-- the third wakes both, and gets 1
pub barrier_wait-of-the-last-wakes-all :
    effect_of two_came 2 (BarrierWait 0)
    ≡ record { fate = Returns 1 None; woken = 0 ∷ 1 ∷ []; reported = None; created = None }
unfolding all_uninitialised
barrier_wait-of-the-last-wakes-all = refl

-- and the barrier is ready for the next three
pub barrier_wait-of-the-last-empties-the-queue :
    zeroth (then_call two_came 2 (BarrierWait 0)) ≡ record { count = Some 3; queue = [] }
unfolding all_uninitialised
barrier_wait-of-the-last-empties-the-queue = refl

-- at a barrier of 1 no thread blocks
pub barrier_wait-at-1-answers-1 : effect_of (then_call four_threads 0 (BarrierInit 0 1)) 3 (BarrierWait 0) ≡ answers 1
unfolding all_uninitialised
barrier_wait-at-1-answers-1 = refl

-- a barrier that isn't initialised: EINVAL
pub barrier_wait-uninitialised-is-invalid : act all_readable opening 0 (BarrierWait 0) ≡ (answers 4294967274, opening)
unfolding all_uninitialised
barrier_wait-uninitialised-is-invalid = refl

-- nor does barrier 64 exist
pub barrier_wait-at-barrier-64-is-invalid :
    act all_readable of_three 0 (BarrierWait 64) ≡ (answers 4294967274, of_three)
barrier_wait-at-barrier-64-is-invalid = refl

-- What they act on: their barrier, if the arguments are in range.

pub barrier_init-acts-on-its-barrier : acts_on all_readable opening (BarrierInit 63 32) ≡ object.Barrier 63 ∷ []
barrier_init-acts-on-its-barrier = refl

pub barrier_init-of-33-acts-on-nothing : acts_on all_readable opening (BarrierInit 0 33) ≡ []
barrier_init-of-33-acts-on-nothing = refl

pub barrier_init-of-0-acts-on-nothing : acts_on all_readable opening (BarrierInit 0 0) ≡ []
barrier_init-of-0-acts-on-nothing = refl

pub barrier_init-of-barrier-64-acts-on-nothing : acts_on all_readable opening (BarrierInit 64 3) ≡ []
barrier_init-of-barrier-64-acts-on-nothing = refl

-- also one that isn't initialised
pub barrier_wait-acts-on-its-barrier : acts_on all_readable opening (BarrierWait 0) ≡ object.Barrier 0 ∷ []
barrier_wait-acts-on-its-barrier = refl

pub barrier_wait-at-barrier-64-acts-on-nothing : acts_on all_readable opening (BarrierWait 64) ≡ []
barrier_wait-at-barrier-64-acts-on-nothing = refl
