-- What is true under one fuel is true under each other one under which its thunk may have ended so.
use Rattle.std.proofs.Common.{◌≡◌, ◌≤◌, ℕ, zero, suc, true, List, refl, ap, sym, ◌∙◌, arith}
use Rattle.std.proofs.Math.Dec.{leb-suc-suc, eqb-suc-suc}
use Rattle.std.proofs.lemmas.Bool.{leb-true, eqb-true, le-leb}
use Rattle.isa_spec.specs.Registers.{Registers}
use Rattle.memory_spec.specs.Pages.{Mapped, Memory}
use Rattle.memory_spec.specs.Stores.{with_stores}
use Rattle.thunk_spec.specs.declared.ends.Outcome.{Outcome}
use Rattle.thunk_spec.specs.declared.ends.Outcome.TheVariants as outcome
use Rattle.thunk_spec.specs.declared.ends.ThunkEnd.{ThunkEnd}
use Rattle.thunk_spec.specs.declared.ends.ThunkEnd.TheVariants as thunk_end
use Rattle.thunk_spec.specs.Thunk.{Frame, Thunk, thunk, turns, followed, after_turn, with_put}
use Rattle.thunk_spec.specs.Turn.{Turn, turn}
use Rattle.thunk_spec.specs.Record.{Kept, kept, kept_thunk, IsTrue, may_end}

-- one more turn, within a fuel that is one more
within-more : (fuel : ℕ) (end : ThunkEnd) (count : ℕ) → may_end (suc fuel) end (suc count) ≡ may_end fuel end count
unfolding may_end
within-more fuel thunk_end.Call count = leb-suc-suc count fuel
within-more fuel (thunk_end.Trap cause) count = leb-suc-suc count fuel
within-more fuel thunk_end.Fuel count = eqb-suc-suc count fuel

-- a count within a fuel isn't above it
pub within-most : (fuel : ℕ) (end : ThunkEnd) (count : ℕ) → may_end fuel end count ≡ true → count ≤ fuel
unfolding may_end
within-most fuel thunk_end.Call count within = leb-true count fuel within
within-most fuel (thunk_end.Trap cause) count within = leb-true count fuel within
within-most fuel thunk_end.Fuel count within =
    let same : count ≡ fuel = eqb-true count fuel within in omega arith

-- a turn that ended so and its rest are the same under another fuel, if the rest is
followed-within :
    (map : List Mapped) (fuel other : ℕ) (o : Outcome) (memory : Memory) (t : Turn)
    → ((m : Memory) (r : Registers)
    → may_end other (turns map fuel m r).end (turns map fuel m r).count ≡ true
    → turns map other m r ≡ turns map fuel m r)
    → may_end (suc other) (followed o map memory t (turns map fuel)).end
    (followed o map memory t (turns map fuel)).count ≡ true
    → followed o map memory t (turns map other) ≡ followed o map memory t (turns map fuel)
followed-within map fuel other outcome.Next memory t rest within =
    let later : Thunk = turns map fuel (with_stores map memory t.stores) t.regs in
    ap (after_turn t)
    (rest (with_stores map memory t.stores) t.regs (sym (within-more other later.end later.count) ∙ within))
followed-within map fuel other outcome.Call memory t rest within = refl
followed-within map fuel other (outcome.Trap cause) memory t rest within = refl

-- a turn and what follows it are at least one turn
followed-some :
    (map : List Mapped) (o : Outcome) (memory : Memory) (t : Turn) (rest : Memory → Registers → Thunk)
    → 1 ≤ (followed o map memory t rest).count
followed-some map outcome.Next memory t rest = omega arith
followed-some map outcome.Call memory t rest = omega arith
followed-some map (outcome.Trap cause) memory t rest = omega arith

turns-within :
    (map : List Mapped) (fuel other : ℕ) (memory : Memory) (r : Registers)
    → may_end other (turns map fuel memory r).end (turns map fuel memory r).count ≡ true
    → turns map other memory r ≡ turns map fuel memory r
unfolding may_end
turns-within map zero zero memory r within = refl
turns-within map zero (suc other) memory r within =
    absurd (let none : 0 ≡ suc other = eqb-true 0 (suc other) within in omega arith)
turns-within map (suc fuel) zero memory r within =
    let t : Turn = turn map memory r in
    let made : Thunk = followed t.outcome map memory t (turns map fuel) in
    let some : 1 ≤ made.count = followed-some map t.outcome memory t (turns map fuel) in
    let none : made.count ≤ 0 = within-most 0 made.end made.count within in
    absurd (omega arith)
turns-within map (suc fuel) (suc other) memory r within =
    followed-within map fuel other (turn map memory r).outcome memory (turn map memory r)
    (turns-within map fuel other) within

-- a thunk is the same under each fuel under which it may have ended so
thunk-within :
    (f : Frame) (fuel : ℕ) (view : Memory) (r : Registers)
    → may_end fuel (thunk f view r).end (thunk f view r).count ≡ true
    → thunk (record f { fuel = fuel }) view r ≡ thunk f view r
unfolding thunk
thunk-within f fuel view r within = ap (with_put f.map view) (turns-within f.map f.fuel fuel view r within)

-- what is true is true under each fuel under which its thunk may have ended so
pub IsTrue-within :
    (f : Frame) (fuel : ℕ) (start : Registers) (k : Kept)
    → IsTrue f start k → may_end fuel k.end k.count ≡ true
    → IsTrue (record f { fuel = fuel }) start k
unfolding kept_thunk
IsTrue-within f fuel start k honest within =
    record {
      same = λ view whole h.
          let is : kept f.map view (thunk f view start) ≡ k = honest.same view whole h in
          let ended : may_end fuel (thunk f view start).end (thunk f view start).count ≡ true =
          ap (λ (kept : Kept). may_end fuel kept.end kept.count) is ∙ within in
          ap (kept f.map view) (thunk-within f fuel view start ended) ∙ is;
    }

-- a thunk ended within its own fuel
followed-own :
    (map : List Mapped) (fuel : ℕ) (o : Outcome) (memory : Memory) (t : Turn) (rest : Memory → Registers → Thunk)
    → ((m : Memory) (r : Registers) → may_end fuel (rest m r).end (rest m r).count ≡ true)
    → may_end (suc fuel) (followed o map memory t rest).end (followed o map memory t rest).count ≡ true
unfolding may_end
followed-own map fuel outcome.Next memory t rest within =
    let later : Thunk = rest (with_stores map memory t.stores) t.regs in
    within-more fuel later.end later.count ∙ within (with_stores map memory t.stores) t.regs
followed-own map fuel outcome.Call memory t rest within = le-leb 1 (suc fuel) (omega arith)
followed-own map fuel (outcome.Trap cause) memory t rest within = le-leb 1 (suc fuel) (omega arith)

turns-own :
    (map : List Mapped) (fuel : ℕ) (memory : Memory) (r : Registers)
    → may_end fuel (turns map fuel memory r).end (turns map fuel memory r).count ≡ true
unfolding may_end
turns-own map zero memory r = refl
turns-own map (suc fuel) memory r =
    followed-own map fuel (turn map memory r).outcome memory (turn map memory r) (turns map fuel)
    (turns-own map fuel)

pub kept-within :
    (f : Frame) (view : Memory) (r : Registers)
    → may_end f.fuel (kept_thunk f view r).end (kept_thunk f view r).count ≡ true
unfolding kept_thunk thunk
kept-within f view r = turns-own f.map f.fuel view r
