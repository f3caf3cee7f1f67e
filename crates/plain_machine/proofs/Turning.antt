-- The result of turns made one after the other is that of the thunk of them all.
use Rattle.std.proofs.Common.{◌≡◌, ℕ, ◌+◌, ◌-◌, ◌<◌, suc, List, [], ap, sym, subst, ◌∙◌, refl, arith, add_assoc}
use Rattle.isa_spec.specs.Registers.{Registers}
use Rattle.memory_spec.specs.Pages.{Mapped, Memory, IsMemory, on_each}
use Rattle.memory_spec.specs.Stores.{with_stores}
use Rattle.memory_spec.specs.Workspace.{Workspace, Masks, no_marks, marked}
use Rattle.thunk_spec.specs.declared.ends.Outcome.{Outcome}
use Rattle.thunk_spec.specs.declared.ends.Outcome.TheVariants as outcome
use Rattle.thunk_spec.specs.declared.ends.ThunkEnd.TheVariants as thunk_end
use Rattle.thunk_spec.specs.Turn.{Turn, turn}
use Rattle.thunk_spec.specs.Put.{put_addresses, bytes_at}
use Rattle.thunk_spec.specs.Thunk.{Frame, Thunk, thunk, turns, followed, after_turn}
use Rattle.rv_step.specs.Step.{Makes}
use Rattle.plain_machine.specs.declared.thunk.ThunkResult.{ThunkResult}
use Rattle.plain_machine.specs.Stored.{bytes_of}
use Rattle.plain_machine.specs.Merging.{merged}
use Rattle.plain_machine.specs.Turning.{TurnsOutcome, outcome_by, outcome_after, counted, IsDone}
use Rattle.plain_machine.proofs.Laying.{with_stores-append, marked-append}
use Rattle.plain_machine.proofs.Merging.{with_stores-merged}

-- the result of a turn, and then of the rest of its thunk
outcome_by-after_turn :
    (map : List Mapped) (memory : Memory) (stored : Masks) (t : Turn) (rest : Thunk)
    → outcome_by map memory stored (after_turn t rest)
    ≡ counted 1 (outcome_by map (with_stores map memory t.stores) (marked map stored t.stores) rest)
outcome_by-after_turn map memory stored t rest =
    rw (with_stores-append map memory t.stores rest.stores, marked-append map stored t.stores rest.stores)
    (ap (λ (n : ℕ). record {
      regs = rest.regs;
      end = rest.end;
      count = n;
      memory = with_stores map (with_stores map memory t.stores) rest.stores;
      stored = marked map (marked map stored t.stores) rest.stores;
    }) (omega arith))

followed-next :
    (o : Outcome) (map : List Mapped) (memory : Memory) (t : Turn) (rest : Memory → Registers → Thunk)
    → o ≡ outcome.Next → followed o map memory t rest ≡ after_turn t (rest (with_stores map memory t.stores) t.regs)
followed-next o map memory t rest e = rw e refl

counted-twice : (a b : ℕ) (l : TurnsOutcome) → counted a (counted b l) ≡ counted (a + b) l
counted-twice a b l = ap (λ (n : ℕ). record l { count = n }) (sym (add_assoc a b l.count))

-- one more turn was made, and its thunk continues
pub turns-next :
    (fuel count : ℕ) (w after : Workspace) (r registers : Registers) (o : Outcome)
    → count < fuel → Makes (turn w.map w.memory r) w o registers after → o ≡ outcome.Next
    → counted (count + 1) (outcome_after after.map (fuel - (count + 1)) after.memory after.stored registers)
    ≡ counted count (outcome_after w.map (fuel - count) w.memory w.stored r)
turns-next fuel count w after r registers o lt made next =
    let left : fuel - count ≡ suc (fuel - (count + 1)) = omega arith in
    rw (left, made.workspace_is, made.regs_are)
    (sym
    (ap (λ (t : Thunk). counted count (outcome_by w.map w.memory w.stored t))
    (followed-next (turn w.map w.memory r).outcome w.map w.memory (turn w.map w.memory r)
    (turns w.map (fuel - (count + 1))) (sym made.outcome_is ∙ next))
    ∙ ap (counted count)
    (outcome_by-after_turn w.map w.memory w.stored (turn w.map w.memory r)
    (turns w.map (fuel - (count + 1)) (with_stores w.map w.memory (turn w.map w.memory r).stores)
    (turn w.map w.memory r).regs))
    ∙ counted-twice count 1
    (outcome_after w.map (fuel - (count + 1)) (with_stores w.map w.memory (turn w.map w.memory r).stores)
    (marked w.map w.stored (turn w.map w.memory r).stores)
    (turn w.map w.memory r).regs)))

-- the result of turns on a copy of a view, with the bytes of the put, is that of the thunk on this view
pub is-done :
    (f : Frame) (view : Memory) (start : Registers) (work after : Workspace) (d : ThunkResult)
    → IsMemory f.map view
    → work ≡ record { map = f.map; view = []; memory = view; stored = on_each no_marks f.map; taken = [] }
    → after.map ≡ work.map
    → record { regs = d.regs; end = d.end; count = d.count; memory = after.memory; stored = after.stored }
    ≡ outcome_after work.map f.fuel work.memory work.stored start
    → d.put.items ≡ bytes_at f.map after.memory (put_addresses f.map d.end d.regs)
    → ((shared : Memory) → IsMemory after.map shared
    → with_stores after.map shared (bytes_of d.stores.items) ≡ merged after.stored after.memory shared)
    → IsDone f view start d
unfolding thunk
is-done f view start work after d whole is same left put applies =
    let map_is : after.map ≡ f.map = same ∙ ap (λ (w : Workspace). w.map) is in
    let all : record {
      regs = d.regs;
      end = d.end;
      count = d.count;
      memory = after.memory;
      stored = after.stored;
    } ≡ outcome_after f.map f.fuel view (on_each no_marks f.map) start =
    left ∙ ap (λ (w : Workspace). outcome_after w.map f.fuel w.memory w.stored start) is in
    record {
      regs = ap (λ (l : TurnsOutcome). l.regs) all;
      end = ap (λ (l : TurnsOutcome). l.end) all;
      count = ap (λ (l : TurnsOutcome). l.count) all;
      put = put ∙ ap (λ (l : TurnsOutcome). bytes_at f.map l.memory (put_addresses f.map l.end l.regs)) all;
      applies = λ shared also.
          subst (λ (map : List Mapped). with_stores map shared (bytes_of d.stores.items) ≡ merged after.stored after.memory shared)
          map_is (applies shared (subst (λ (map : List Mapped). IsMemory map shared) (sym map_is) also))
          ∙ ap (λ (l : TurnsOutcome). merged l.stored l.memory shared) all
          ∙ with_stores-merged f.map (turns f.map f.fuel view start).stores view shared whole also;
    }
