-- The result of turns made one after the other is that of the thunk of them all.
use Rattle.std.proofs.Common.{◌≡◌, ℕ, ◌+◌, ◌-◌, ◌<◌, suc, Bool, true, slice_set, List, [], ◌∷◌, ◌++◌, ap, sym, ◌∙◌, refl, arith, add_assoc}
use Rattle.isa_spec.specs.declared.Cause.{Cause}
use Rattle.isa_spec.specs.Registers.{Registers}
use Rattle.memory_spec.specs.Pages.{Mapped, Memory, slot_of}
use Rattle.memory_spec.specs.Stores.{StoredByte, with_stores, with_byte}
use Rattle.memory_spec.specs.Workspace.{Workspace, Masks, marked, with_mark, taken_at, after_taking, after_storing}
use Rattle.thunk_spec.specs.declared.ends.Outcome.{Outcome}
use Rattle.thunk_spec.specs.declared.ends.Outcome.TheVariants as outcome
use Rattle.thunk_spec.specs.declared.ends.ThunkEnd.{ThunkEnd}
use Rattle.thunk_spec.specs.declared.ends.ThunkEnd.TheVariants as thunk_end
use Rattle.thunk_spec.specs.Turn.{Turn, turn}
use Rattle.thunk_spec.specs.Thunk.{Thunk, turns, followed, after_turn, last_turn}
use Rattle.rv_step.specs.Step.{Makes}
use Rattle.thunk_run.specs.TurnsOutcome.{TurnsOutcome, outcome_by, outcome_after, counted}

pub with_stores-append :
    (map : List Mapped) (memory : Memory) (xs ys : List StoredByte)
    → with_stores map memory (xs ++ ys) ≡ with_stores map (with_stores map memory xs) ys
with_stores-append map memory [] ys = refl
with_stores-append map memory (x ∷ xs) ys = with_stores-append map (with_byte map memory x) xs ys

pub marked-append :
    (map : List Mapped) (masks : Masks) (xs ys : List StoredByte)
    → marked map masks (xs ++ ys) ≡ marked map (marked map masks xs) ys
marked-append map masks [] ys = refl
marked-append map masks (x ∷ xs) ys = marked-append map (with_mark map masks x) xs ys

pub taken_at-append :
    (map : List Mapped) (taken : List Bool) (xs ys : List ℕ)
    → taken_at map taken (xs ++ ys) ≡ taken_at map (taken_at map taken xs) ys
taken_at-append map taken [] ys = refl
taken_at-append map taken (x ∷ xs) ys = taken_at-append map (slice_set taken (slot_of map x) true) xs ys

-- the result of a turn, and then of the rest of its thunk
pub outcome_by-after_turn :
    (w : Workspace) (t : Turn) (rest : Thunk)
    → outcome_by w (after_turn t rest) ≡ counted 1 (outcome_by (after_storing (after_taking w t.taken) t.stores) rest)
outcome_by-after_turn w t rest =
    rw (
      with_stores-append w.map w.memory t.stores rest.stores,
      marked-append w.map w.stored t.stores
          rest.stores,
      taken_at-append w.map w.taken t.taken rest.taken,
    )
    (ap (λ (n : ℕ). record {
      regs = rest.regs;
      end = rest.end;
      count = n;
      workspace = record {
        map = w.map;
        view = w.view;
        memory = with_stores w.map (with_stores w.map w.memory t.stores) rest.stores;
        stored = marked w.map (marked w.map w.stored t.stores) rest.stores;
        taken = taken_at w.map (taken_at w.map w.taken t.taken) rest.taken;
      };
    }) (omega arith))

followed-next :
    (o : Outcome) (map : List Mapped) (memory : Memory) (t : Turn) (rest : Memory → Registers → Thunk)
    → o ≡ outcome.Next → followed o map memory t rest ≡ after_turn t (rest (with_stores map memory t.stores) t.regs)
followed-next o map memory t rest e = rw e refl

followed-call :
    (o : Outcome) (map : List Mapped) (memory : Memory) (t : Turn) (rest : Memory → Registers → Thunk)
    → o ≡ outcome.Call → followed o map memory t rest ≡ last_turn thunk_end.Call t
followed-call o map memory t rest e = rw e refl

followed-trap :
    (o : Outcome) (cause : Cause) (map : List Mapped) (memory : Memory) (t : Turn) (rest : Memory → Registers → Thunk)
    → o ≡ outcome.Trap cause → followed o map memory t rest ≡ last_turn (thunk_end.Trap cause) t
followed-trap o cause map memory t rest e = rw e refl

-- turns that were counted in two parts
pub counted-twice : (a b : ℕ) (l : TurnsOutcome) → counted a (counted b l) ≡ counted (a + b) l
counted-twice a b l = ap (λ (n : ℕ). record l { count = n }) (sym (add_assoc a b l.count))

-- one more turn was made, and its thunk continues
pub turns-next :
    (fuel count : ℕ) (w after : Workspace) (r registers : Registers) (o : Outcome)
    → count < fuel → Makes (turn w.map w.memory r) w o registers after → o ≡ outcome.Next
    → counted (count + 1) (outcome_after (fuel - (count + 1)) after registers)
    ≡ counted count (outcome_after (fuel - count) w r)
turns-next fuel count w after r registers o lt made next =
    let left : fuel - count ≡ suc (fuel - (count + 1)) = omega arith in
    rw (left, made.workspace_is, made.regs_are)
    (sym
    (ap (λ (t : Thunk). counted count (outcome_by w t))
    (followed-next (turn w.map w.memory r).outcome w.map w.memory (turn w.map w.memory r)
    (turns w.map (fuel - (count + 1))) (sym made.outcome_is ∙ next))
    ∙ ap (counted count)
    (outcome_by-after_turn w (turn w.map w.memory r)
    (turns w.map (fuel - (count + 1)) (with_stores w.map w.memory (turn w.map w.memory r).stores)
    (turn w.map w.memory r).regs))
    ∙ counted-twice count 1
    (outcome_after (fuel - (count + 1))
    (after_storing (after_taking w (turn w.map w.memory r).taken) (turn w.map w.memory r).stores)
    (turn w.map w.memory r).regs)))

last-turn :
    (fuel count : ℕ) (w after : Workspace) (r registers : Registers) (o : Outcome) (end : ThunkEnd)
    → count < fuel → Makes (turn w.map w.memory r) w o registers after
    → followed (turn w.map w.memory r).outcome w.map w.memory (turn w.map w.memory r) (turns w.map (fuel - (count + 1)))
    ≡ last_turn end (turn w.map w.memory r)
    → counted count (outcome_after (fuel - count) w r)
    ≡ record { regs = registers; end = end; count = count + 1; workspace = after }
last-turn fuel count w after r registers o end lt made ended =
    let left : fuel - count ≡ suc (fuel - (count + 1)) = omega arith in
    rw (left, made.workspace_is, made.regs_are) (ap (λ (t : Thunk). counted count (outcome_by w t)) ended)

-- the last turn called
pub turns-call :
    (fuel count : ℕ) (w after : Workspace) (r registers : Registers) (o : Outcome)
    → count < fuel → Makes (turn w.map w.memory r) w o registers after → o ≡ outcome.Call
    → counted count (outcome_after (fuel - count) w r)
    ≡ record { regs = registers; end = thunk_end.Call; count = count + 1; workspace = after }
turns-call fuel count w after r registers o lt made call =
    last-turn fuel count w after r registers o thunk_end.Call lt made
    (followed-call (turn w.map w.memory r).outcome w.map w.memory (turn w.map w.memory r)
    (turns w.map (fuel - (count + 1))) (sym made.outcome_is ∙ call))

-- the last turn trapped
pub turns-trap :
    (fuel count : ℕ) (w after : Workspace) (r registers : Registers) (o : Outcome) (cause : Cause)
    → count < fuel → Makes (turn w.map w.memory r) w o registers after → o ≡ outcome.Trap cause
    → counted count (outcome_after (fuel - count) w r)
    ≡ record { regs = registers; end = thunk_end.Trap cause; count = count + 1; workspace = after }
turns-trap fuel count w after r registers o cause lt made trap =
    last-turn fuel count w after r registers o (thunk_end.Trap cause) lt made
    (followed-trap (turn w.map w.memory r).outcome cause w.map w.memory (turn w.map w.memory r)
    (turns w.map (fuel - (count + 1))) (sym made.outcome_is ∙ trap))
