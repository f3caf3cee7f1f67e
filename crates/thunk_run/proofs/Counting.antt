-- How many turns a thunk makes.
use Rattle.std.proofs.Common.{◌≤◌, ℕ, zero, suc, List, arith}
use Rattle.isa_spec.specs.Registers.{Registers}
use Rattle.memory_spec.specs.Pages.{Mapped, Memory}
use Rattle.memory_spec.specs.Stores.{with_stores}
use Rattle.thunk_spec.specs.declared.ends.Outcome.{Outcome}
use Rattle.thunk_spec.specs.declared.ends.Outcome.TheVariants as outcome
use Rattle.thunk_spec.specs.Turn.{Turn, turn}
use Rattle.thunk_spec.specs.Thunk.{Frame, Thunk, thunk, turns, followed}
use Rattle.thunk_spec.specs.Record.{kept_thunk}
use Rattle.thunk_run.specs.Running.{IsWithinFuel}

-- a turn and what follows it have at least one turn, and at most one more than the bound of what follows
followed-within :
    (fuel : ℕ) (o : Outcome) (map : List Mapped) (memory : Memory) (t : Turn) (rest : Memory → Registers → Thunk)
    → ((other : Memory) (r : Registers) → (rest other r).count ≤ fuel)
    → IsWithinFuel (suc fuel) (followed o map memory t rest).count
followed-within fuel outcome.Next map memory t rest few =
    record { some = λ _. omega arith; most = omega (arith, few (with_stores map memory t.stores) t.regs) }
followed-within fuel outcome.Call map memory t rest few = record { some = λ _. omega arith; most = omega arith }
followed-within fuel (outcome.Trap cause) map memory t rest few = record { some = λ _. omega arith; most = omega arith }

turns-within :
    (map : List Mapped) (fuel : ℕ) (memory : Memory) (r : Registers) → IsWithinFuel fuel (turns map fuel memory r).count
turns-within map zero memory r = record { some = λ some. omega (arith, some); most = omega arith }
turns-within map (suc fuel) memory r =
    followed-within fuel (turn map memory r).outcome map memory (turn map memory r) (turns map fuel)
    (λ other s. (turns-within map fuel other s).most)

-- what is kept of a thunk has a number of turns from 1 to the fuel
pub kept_within :
    (f : Frame) (view : Memory) (r : Registers) → IsWithinFuel f.fuel (kept_thunk f view r).count
unfolding kept_thunk thunk
kept_within f view r = turns-within f.map f.fuel view r
