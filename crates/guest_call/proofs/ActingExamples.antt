-- Worked examples of what calls act on, and of the numbers of the calls, which the checker computes.
use Rattle.std.proofs.Common.{◌≡◌, [], ◌∷◌, Some, refl}
use Rattle.guest_call.specs.declared.Call.TheVariants.{Exit, ThreadExit, Yield, TryLock, SemWait, SemTryWait, SemPost, SemInit, BarrierInit, BarrierWait, CondWait, Signal, Broadcast, RdLock, WrLock, RwUnlock, TryWrLock}
use Rattle.guest_call.specs.declared.Object.TheVariants as object
use Rattle.guest_call.specs.Numbers.{call_of}
use Rattle.guest_call.specs.Objects.{opening, acts_on}
use Rattle.guest_call.proofs.Examples.{all_readable}

-- exit and yield act on nothing
pub exit-acts-on-nothing : acts_on all_readable opening (Exit 0) ≡ []
exit-acts-on-nothing = refl

pub yield-acts-on-nothing : acts_on all_readable opening Yield ≡ []
yield-acts-on-nothing = refl

-- thread_exit acts on the table of threads, and on no mutex
pub thread_exit-acts-on-the-threads : acts_on all_readable opening (ThreadExit 0) ≡ object.ThreadTable ∷ []
thread_exit-acts-on-the-threads = refl

-- 7 and 9 are calls, which read a0 alone, by the table of calls
pub call-7-is-trylock : call_of 7 9 5 ≡ Some (TryLock 9)
call-7-is-trylock = refl

pub call-9-is-sem_wait : call_of 9 9 5 ≡ Some (SemWait 9)
call-9-is-sem_wait = refl

-- so are 10 to 12, of which 12 reads a1 too
pub call-10-is-sem_trywait : call_of 10 9 5 ≡ Some (SemTryWait 9)
call-10-is-sem_trywait = refl

pub call-11-is-sem_post : call_of 11 9 5 ≡ Some (SemPost 9)
call-11-is-sem_post = refl

pub call-12-is-sem_init : call_of 12 9 5 ≡ Some (SemInit 9 5)
call-12-is-sem_init = refl

-- 13 and 15 read both, and 14, 16 and 17 a0 alone
pub call-13-is-barrier_init : call_of 13 9 5 ≡ Some (BarrierInit 9 5)
call-13-is-barrier_init = refl

pub call-14-is-barrier_wait : call_of 14 9 5 ≡ Some (BarrierWait 9)
call-14-is-barrier_wait = refl

pub call-15-is-cond_wait : call_of 15 9 5 ≡ Some (CondWait 9 5)
call-15-is-cond_wait = refl

pub call-16-is-signal : call_of 16 9 5 ≡ Some (Signal 9)
call-16-is-signal = refl

pub call-17-is-broadcast : call_of 17 9 5 ≡ Some (Broadcast 9)
call-17-is-broadcast = refl

-- 18 to 21 read a0 alone
pub call-18-is-rdlock : call_of 18 9 5 ≡ Some (RdLock 9)
call-18-is-rdlock = refl

pub call-19-is-wrlock : call_of 19 9 5 ≡ Some (WrLock 9)
call-19-is-wrlock = refl

pub call-20-is-rwunlock : call_of 20 9 5 ≡ Some (RwUnlock 9)
call-20-is-rwunlock = refl

pub call-21-is-trywrlock : call_of 21 9 5 ≡ Some (TryWrLock 9)
call-21-is-trywrlock = refl
