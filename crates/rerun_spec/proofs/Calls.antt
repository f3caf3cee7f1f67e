-- What calls with words as arguments do: the values that they answer, report and give to created threads are words.
use Rattle.std.proofs.Common.{◌≡◌, ◌<◌, ◌≤◌, ◌%◌, ℕ, Bool, true, false, not, ltb, eqb, cond, nat_lt, nat_le, List, [], ◌∷◌, ◌++◌, length, Option, Some, None, is_some, refl, arith, ltb-true}
use Rattle.std.specs.Prelude.{IfSome, ⊤, ◌&&◌, option_map, find}
use Rattle.std.proofs.lemmas.Bool.Decides.{nat_tests}
use Rattle.std.specs.List.{AllByRecursion}
use Rattle.isa_spec.specs.Registers.{Registers, register}
use Rattle.guest_call.specs.declared.Call.{Call}
use Rattle.guest_call.specs.declared.Call.TheVariants.{Exit, Put, Create, ThreadExit, Join, Yield, Lock, TryLock, Unlock, SemWait, SemTryWait, SemPost, SemInit, BarrierInit, BarrierWait, CondWait, Signal, Broadcast, RdLock, WrLock, RwUnlock, TryWrLock}
use Rattle.guest_call.specs.declared.Fate.TheVariants.{Exits}
use Rattle.guest_call.specs.Answers.{answer_esrch, answer_eagain, answer_efault, answer_einval, answer_edeadlk}
use Rattle.guest_call.specs.Effect.{Effect, answers}
use Rattle.guest_call.specs.Tables.{checked}
use Rattle.guest_call.specs.Mutexes.{unlocked, lock_row, trylock_row, unlock_row}
use Rattle.guest_call.specs.Semaphores.{unposted, largest_value, sem_wait_row, sem_trywait_row, sem_post_row, sem_init_row}
use Rattle.guest_call.specs.Barriers.{uninitialised, is_count, barrier_init_row, barrier_wait_row}
use Rattle.guest_call.specs.Conditions.{cond_wait_row, signal_leaving, broadcast_leaving, leave_row}
use Rattle.guest_call.specs.RwLocks.{unheld, rdlock_row, wrlock_row, rwunlock_row, trywrlock_row}
use Rattle.guest_call.specs.Threads.{Member, fresh, member_at, creates, create_row, ended_with, thread_exit_row, joins, joined_by, join_row}
use Rattle.guest_call.specs.Objects.{Objects, on_semaphore, on_barrier, on_pair, condition_at, mutex_at, can_read, put_answer, act}
use Rattle.guest_call.specs.Numbers.{Numbered, call_table, call_of}
use Rattle.thunk_spec.specs.Put.{call_at}
use Rattle.memo_spec.specs.Encoding.{AreRegisters}
use Rattle.rerun_spec.proofs.Lists.{every-at, every-set, every-append}
use Rattle.rerun_spec.proofs.Words.{IsWord, register-word}
use Rattle.rerun_spec.proofs.Effects.{IsEffect, wakes-effect, answers-effect, blocks-effect, either-effect, lock-effect, trylock-effect, unlock-effect, sem_wait-effect, sem_trywait-effect, posted-effect, sem_init-effect, barrier_init-effect, comes-effect, at_cell-effect, checked-effect, cond_wait-effect, leave-effect, rdlock-effect, wrlock-effect, rwunlock-effect, trywrlock-effect}

-- a call that keeps only words of its arguments
abbrev pub IsCall : Call → Type 0
IsCall (Create pc argument) = IsWord pc × IsWord argument
IsCall (ThreadExit v) = IsWord v
IsCall _ = ⊤

-- the values of threads that have ended are words
abbrev pub HasValue : Member → Type 0
HasValue c = IfSome c.value IsWord

abbrev pub AreMembers : List Member → Type 0
AreMembers members = AllByRecursion HasValue members

-- the table of threads

-- a row of the table of threads
abbrev OnThreads : Type 0
OnThreads = Effect × List Member

create-effect :
    (pc argument : ℕ) (members : List Member) → IsWord pc → IsWord argument
    → IsEffect (length members) (create_row pc argument members).0
create-effect pc argument members word other = at (not (eqb (pc % 4) 0)) (ltb (length members) 32) refl
  where
    refused : OnThreads
    refused = (answers answer_einval, members)

    full : OnThreads
    full = (answers answer_eagain, members)

    made : OnThreads
    made = (creates (length members) pc argument, members ++ fresh ∷ [])

    at :
        (a b : Bool) → ltb (length members) 32 ≡ b
        → IsEffect (length members) (cond a refused (cond (not b) full made)).0
    at true b is = answers-effect (length members) answer_einval (omega arith)
    at false false is = answers-effect (length members) answer_eagain (omega arith)
    at false true is =
        let few : length members < 32 = ltb-true (length members) 32 is in
        record { fate = (omega arith, tt); reported = tt; created = (few, word, other) }

either-members :
    (b : Bool) (x y : OnThreads) → AreMembers x.1 → AreMembers y.1 → AreMembers (cond b x y).1
either-members true x y left right = left
either-members false x y left right = right

create-members :
    (pc argument : ℕ) (members : List Member) → AreMembers members → AreMembers (create_row pc argument members).1
create-members pc argument members all =
    either-members (not (eqb (pc % 4) 0)) _ _ all
    (either-members (not (ltb (length members) 32)) _ _ all (every-append HasValue members (fresh ∷ []) all (tt, tt)))

exit-members :
    (t v : ℕ) (members : List Member) → IsWord v → AreMembers members → AreMembers (thread_exit_row t v members).1
exit-members t v members word all = every-set HasValue members t (ended_with v (member_at members t)) word all

joins-effect : (n : ℕ) (value : Option ℕ) → IfSome value IsWord → IsEffect n (joins value)
joins-effect n (Some v) word = record { fate = (omega arith, word); reported = tt; created = tt }
joins-effect n None word = blocks-effect n

join-effect : (n t u : ℕ) (members : List Member) → AreMembers members → IsEffect n (join_row t u members).0
join-effect n t u members all =
    either-effect n (not (ltb u (length members))) _ _ (answers-effect n answer_esrch (omega arith))
    (either-effect n (eqb u t) _ _ (answers-effect n answer_edeadlk (omega arith))
    (either-effect n (is_some (member_at members u).joiner) _ _ (answers-effect n answer_einval (omega arith))
    (joins-effect n (member_at members u).value (every-at HasValue members u fresh tt all))))

join-members : (t u : ℕ) (members : List Member) → AreMembers members → AreMembers (join_row t u members).1
join-members t u members all =
    either-members (not (ltb u (length members))) _ _ all
    (either-members (eqb u t) _ _ all
    (either-members (is_some (member_at members u).joiner) _ _ all
    (every-set HasValue members u (joined_by t (member_at members u)) (every-at HasValue members u fresh tt all) all)))

-- what put answers
put-word : (readable : ℕ → ℕ → Bool) (p n : ℕ) → IsWord (put_answer readable p n)
put-word readable p n = at (ltb 4096 n) (eqb n 0) (not (can_read readable p n)) refl
  where
    at : (a b d : Bool) → ltb 4096 n ≡ a → IsWord (cond a answer_einval (cond b 0 (cond d answer_efault n)))
    at true b d is = omega arith
    at false true d is = omega arith
    at false false true is = omega arith
    at false false false is = let few : n ≤ 4096 = grind (arith, nat_tests) in omega arith

-- all calls

pub act-effect :
    (readable : ℕ → ℕ → Bool) (o : Objects) (t : ℕ) (call : Call)
    → IsCall call → AreMembers o.threads → IsEffect (length o.threads) (act readable o t call).0
act-effect readable o t (Exit code) is all = wakes-effect (length o.threads) (Exits code) [] tt
act-effect readable o t (Put p n) is all =
    answers-effect (length o.threads) (put_answer readable p n) (put-word readable p n)
act-effect readable o t (Create pc argument) is all = create-effect pc argument o.threads is.0 is.1
act-effect readable o t (ThreadExit v) is all = record { fate = is; reported = is; created = tt }
act-effect readable o t (Join u) is all = join-effect (length o.threads) t u o.threads all
act-effect readable o t Yield is all = answers-effect (length o.threads) 0 (omega arith)
act-effect readable o t (Lock m) is all =
    at_cell-effect (length o.threads) unlocked (lock_row t) o.mutexes m (lock-effect (length o.threads) t)
act-effect readable o t (TryLock m) is all =
    at_cell-effect (length o.threads) unlocked (trylock_row t) o.mutexes m (trylock-effect (length o.threads) t)
act-effect readable o t (Unlock m) is all =
    at_cell-effect (length o.threads) unlocked (unlock_row t) o.mutexes m (unlock-effect (length o.threads) t)
act-effect readable o t (SemWait s) is all =
    at_cell-effect (length o.threads) unposted (sem_wait_row t) o.semaphores s
    (sem_wait-effect (length o.threads) t)
act-effect readable o t (SemTryWait s) is all =
    at_cell-effect (length o.threads) unposted sem_trywait_row o.semaphores s
    (sem_trywait-effect (length o.threads))
act-effect readable o t (SemPost s) is all =
    at_cell-effect (length o.threads) unposted sem_post_row o.semaphores s
    (λ c. posted-effect (length o.threads) c.value c.queue)
act-effect readable o t (SemInit s n) is all =
    checked-effect (length o.threads) (nat_le n largest_value) o (on_semaphore (sem_init_row n) o s)
    (at_cell-effect (length o.threads) unposted (sem_init_row n) o.semaphores s (sem_init-effect (length o.threads) n))
act-effect readable o t (BarrierInit b n) is all =
    checked-effect (length o.threads) (is_count n) o (on_barrier (barrier_init_row n) o b)
    (at_cell-effect (length o.threads) uninitialised (barrier_init_row n) o.barriers b
    (barrier_init-effect (length o.threads) n))
act-effect readable o t (BarrierWait b) is all =
    at_cell-effect (length o.threads) uninitialised (barrier_wait_row t) o.barriers b
    (λ c. comes-effect (length o.threads) t c.count c.queue)
act-effect readable o t (CondWait c m) is all =
    checked-effect (length o.threads) (nat_lt c 64 && nat_lt m 64) o (on_pair (cond_wait_row t m) o c m)
    (cond_wait-effect (length o.threads) t m (condition_at o c) (mutex_at o m))
act-effect readable o t (Signal c) is all = leave-effect (length o.threads) signal_leaving o c
act-effect readable o t (Broadcast c) is all = leave-effect (length o.threads) broadcast_leaving o c
act-effect readable o t (RdLock r) is all =
    at_cell-effect (length o.threads) unheld (rdlock_row t) o.rwlocks r (rdlock-effect (length o.threads) t)
act-effect readable o t (WrLock r) is all =
    at_cell-effect (length o.threads) unheld (wrlock_row t) o.rwlocks r (wrlock-effect (length o.threads) t)
act-effect readable o t (RwUnlock r) is all =
    at_cell-effect (length o.threads) unheld (rwunlock_row t) o.rwlocks r (rwunlock-effect (length o.threads) t)
act-effect readable o t (TryWrLock r) is all =
    at_cell-effect (length o.threads) unheld (trywrlock_row t) o.rwlocks r (trywrlock-effect (length o.threads) t)

-- a call that is refused if its arguments are out of range
checked-members :
    (b : Bool) (o : Objects) (r : Effect × Objects) → AreMembers o.threads → AreMembers r.1.threads
    → AreMembers (checked b o r).1.threads
checked-members true o r before after = after
checked-members false o r before after = before

pub act-members :
    (readable : ℕ → ℕ → Bool) (o : Objects) (t : ℕ) (call : Call)
    → IsCall call → AreMembers o.threads → AreMembers (act readable o t call).1.threads
act-members readable o t (Exit code) is all = all
act-members readable o t (Put p n) is all = all
act-members readable o t (Create pc argument) is all = create-members pc argument o.threads all
act-members readable o t (ThreadExit v) is all = exit-members t v o.threads is all
act-members readable o t (Join u) is all = join-members t u o.threads all
act-members readable o t Yield is all = all
act-members readable o t (Lock m) is all = all
act-members readable o t (TryLock m) is all = all
act-members readable o t (Unlock m) is all = all
act-members readable o t (SemWait s) is all = all
act-members readable o t (SemTryWait s) is all = all
act-members readable o t (SemPost s) is all = all
act-members readable o t (SemInit s n) is all =
    checked-members (nat_le n largest_value) o (on_semaphore (sem_init_row n) o s) all all
act-members readable o t (BarrierInit b n) is all =
    checked-members (is_count n) o (on_barrier (barrier_init_row n) o b) all all
act-members readable o t (BarrierWait b) is all = all
act-members readable o t (CondWait c m) is all =
    checked-members (nat_lt c 64 && nat_lt m 64) o (on_pair (cond_wait_row t m) o c m) all all
act-members readable o t (Signal c) is all =
    checked-members (nat_lt c 64) o (on_pair (leave_row signal_leaving) o c (condition_at o c).mutex) all all
act-members readable o t (Broadcast c) is all =
    checked-members (nat_lt c 64) o (on_pair (leave_row broadcast_leaving) o c (condition_at o c).mutex) all all
act-members readable o t (RdLock r) is all = all
act-members readable o t (WrLock r) is all = all
act-members readable o t (RwUnlock r) is all = all
act-members readable o t (TryWrLock r) is all = all

-- the call of words

found-call :
    (test : Numbered → Bool) (a0 a1 : ℕ) (lines : List Numbered)
    → AllByRecursion (λ (line : Numbered). IsCall (line.call a0 a1)) lines
    → IfSome (option_map (λ (line : Numbered). line.call a0 a1) (find test lines)) IsCall
found-call test a0 a1 [] all = tt
found-call test a0 a1 (line ∷ lines) all =
    elim (test line)
    as (λ b. IfSome (option_map (λ (x : Numbered). x.call a0 a1) (cond b (Some line) (find test lines))) IsCall)
    [ true ↦ all.0 | false ↦ found-call test a0 a1 lines all.1 ]

call_of-call : (a7 a0 a1 : ℕ) → IsWord a0 → IsWord a1 → IfSome (call_of a7 a0 a1) IsCall
call_of-call a7 a0 a1 word other =
    found-call (λ (line : Numbered). eqb line.number a7) a0 a1 call_table (
      tt,
      (
        tt,
        (
          (word, other),
          (
            word,
            (
              tt,
              (
                tt,
                (
                  tt,
                  (
                    tt,
                    (
                      tt,
                      (tt, (tt, (tt, (tt, (tt, (tt, (tt, (tt, (tt, (tt, (tt, (tt, (tt, tt))))))))))))),
                    ),
                  ),
                ),
              ),
            ),
          ),
        ),
      ),
    )

pub call_at-call : (r : Registers) → AreRegisters r → IfSome (call_at r) IsCall
call_at-call r regs =
    call_of-call (register r 17) (register r 10) (register r 11) (register-word r 10 regs) (register-word r 11 regs)
