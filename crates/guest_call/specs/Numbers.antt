-- The table of environment calls: which number in a7 is which call, and which of a0 and a1 it reads.
use Rattle.std.specs.Prelude.{ℕ, List, [], ◌∷◌, Option, option_map, find, ◌==◌}
use Rattle.guest_call.specs.declared.Call.{Call}
use Rattle.guest_call.specs.declared.Call.TheVariants.{Exit, Put, Create, ThreadExit, Join, Yield, Lock, TryLock, Unlock, SemWait, SemTryWait, SemPost, SemInit, BarrierInit, BarrierWait, CondWait, Signal, Broadcast, RdLock, WrLock, RwUnlock, TryWrLock}

-- one line of the table: a number, and the call that it makes of a0 and a1
pub record Numbered : Type 0 where
  pub number : ℕ
  pub call : ℕ → ℕ → Call

-- the calls by number (each call's POSIX function is given at `Call`)
abbrev pub call_table : List Numbered
call_table =
    record { number = 0; call = λ a0 a1. Exit a0 }
    ∷ (record { number = 1; call = λ a0 a1. Put a0 a1 }
    ∷ (record { number = 2; call = λ a0 a1. Create a0 a1 }
    ∷ (record { number = 3; call = λ a0 a1. ThreadExit a0 }
    ∷ (record { number = 4; call = λ a0 a1. Join a0 }
    ∷ (record { number = 5; call = λ a0 a1. Yield }
    ∷ (record { number = 6; call = λ a0 a1. Lock a0 }
    ∷ (record { number = 7; call = λ a0 a1. TryLock a0 }
    ∷ (record { number = 8; call = λ a0 a1. Unlock a0 }
    ∷ (record { number = 9; call = λ a0 a1. SemWait a0 }
    ∷ (record { number = 10; call = λ a0 a1. SemTryWait a0 }
    ∷ (record { number = 11; call = λ a0 a1. SemPost a0 }
    ∷ (record { number = 12; call = λ a0 a1. SemInit a0 a1 }
    ∷ (record { number = 13; call = λ a0 a1. BarrierInit a0 a1 }
    ∷ (record { number = 14; call = λ a0 a1. BarrierWait a0 }
    ∷ (record { number = 15; call = λ a0 a1. CondWait a0 a1 }
    ∷ (record { number = 16; call = λ a0 a1. Signal a0 }
    ∷ (record { number = 17; call = λ a0 a1. Broadcast a0 }
    ∷ (record { number = 18; call = λ a0 a1. RdLock a0 }
    ∷ (record { number = 19; call = λ a0 a1. WrLock a0 }
    ∷ (record { number = 20; call = λ a0 a1. RwUnlock a0 }
    ∷ (record { number = 21; call = λ a0 a1. TryWrLock a0 }
    ∷ [])))))))))))))))))))))

-- the call that a7, a0 and a1 make, or None if the table has no such number: a bad call
abbrev pub call_of : ℕ → ℕ → ℕ → Option Call
call_of a7 a0 a1 =
    option_map (λ (line : Numbered). line.call a0 a1) (find (λ (line : Numbered). line.number == a7) call_table)
