-- Steps and applied records keep registers words and memories bytes, and the record of a step can be encoded.
use Rattle.std.proofs.Common.{◌≡◌, ◌<◌, ℕ, true, List, [], ◌∷◌, length, set, Option, Some, None, refl, sym, ◌∙◌, subst, arith}
use Rattle.std.specs.Prelude.{IfSome, ⊤}
use Rattle.std.proofs.lemmas.List.{length-set}
use Rattle.std.specs.List.{AllByRecursion}
use Rattle.isa_spec.specs.Words.{sum_of}
use Rattle.isa_spec.specs.Registers.{Registers, with_register}
use Rattle.memory_spec.specs.Pages.{Memory}
use Rattle.memory_spec.specs.Stores.{with_stores}
use Rattle.guest_call.specs.declared.Call.{Call}
use Rattle.guest_call.specs.declared.Fate.{Fate}
use Rattle.guest_call.specs.declared.Fate.TheVariants.{Returns, Blocks, Ends, Exits}
use Rattle.guest_call.specs.Effect.{Effect}
use Rattle.guest_call.specs.Objects.{act}
use Rattle.thunk_spec.specs.declared.ends.ThunkEnd.{ThunkEnd}
use Rattle.thunk_spec.specs.declared.ends.ThunkEnd.TheVariants as thunk_end
use Rattle.thunk_spec.specs.Put.{call_at, is_readable}
use Rattle.thunk_spec.specs.Thunk.{thunk}
use Rattle.thunk_spec.specs.Delta.{masked}
use Rattle.thunk_spec.specs.Record.{Record, kept_thunk, put_of}
use Rattle.machine_spec.specs.Machine.{Hart, Machine, nobody, hart_in, hart_of, is_ready}
use Rattle.machine_spec.specs.Performing.{answered, returned, fated, woken, first_registers, first_hart, with_created, settled}
use Rattle.machine_spec.specs.Schedule.{record_of}
use Rattle.machine_spec.specs.declared.states.Asked.{Asked}
use Rattle.machine_spec.specs.declared.states.Asked.TheVariants.{Asks, Stops}
use Rattle.machine_spec.specs.Step.{advanced, written, asked_call, asked, done_as_asked, finished, step, apply}
use Rattle.machine_spec.specs.Whole.{IsHartOf, IsWhole}
use Rattle.machine_spec.proofs.Harts.{ready-below, length-woken}
use Rattle.machine_spec.proofs.Steps.{hart-at}
use Rattle.memo_spec.specs.Encoding.{AreRegisters, IsRecord}
use Rattle.rerun_spec.proofs.Lists.{every-below, every-changed, every-append, every-replicate}
use Rattle.rerun_spec.proofs.Words.{IsWord, sum-word, moved-registers, written-registers}
use Rattle.rerun_spec.proofs.Memory.{HasBytes, with_stores-bytes, masked-bytes}
use Rattle.rerun_spec.proofs.Turns.{IsThunk, thunk-fits}
use Rattle.rerun_spec.proofs.Deltas.{kept-reads_ascend, kept-read_pages, kept-deltas_ascend, kept-stored_pages}
use Rattle.rerun_spec.proofs.Effects.{IsFate, CreatesBeside, IsEffect}
use Rattle.rerun_spec.proofs.Calls.{IsCall, AreMembers, act-effect, act-members, call_at-call}

-- a hart of words, with a view of bytes
pub record IsHart (h : Hart) : Type 0 where
  pub regs : AreRegisters h.regs
  pub view : HasBytes h.view

-- a machine of words and bytes: memory, harts, and the values of threads that have ended
pub record IsOfWords (m : Machine) : Type 0 where
  pub memory : HasBytes m.memory
  pub harts : AllByRecursion IsHart m.harts
  pub members : AreMembers m.objects.threads

-- harts after an effect

answered-registers :
    (r : Registers) (a0 : ℕ) (a1 : Option ℕ)
    → AreRegisters r → IsWord a0 → IfSome a1 IsWord → AreRegisters (answered r a0 a1)
answered-registers r a0 None regs word reported =
    moved-registers (with_register r 10 a0) (sum_of r.pc 4) (written-registers r 10 a0 regs word) (sum-word r.pc 4)
answered-registers r a0 (Some a1) regs word reported =
    moved-registers (with_register (with_register r 10 a0) 11 a1) (sum_of r.pc 4)
    (written-registers (with_register r 10 a0) 11 a1 (written-registers r 10 a0 regs word) reported) (sum-word r.pc 4)

returned-hart :
    (memory : Memory) (a0 : ℕ) (a1 : Option ℕ) (h : Hart)
    → HasBytes memory → IsWord a0 → IfSome a1 IsWord → IsHart h → IsHart (returned memory a0 a1 h)
returned-hart memory a0 a1 h bytes word reported is =
    record { regs = answered-registers h.regs a0 a1 is.regs word reported; view = bytes }

fated-hart : (f : Fate) (memory : Memory) (h : Hart) → IsFate f → HasBytes memory → IsHart h → IsHart (fated f memory h)
fated-hart (Returns a0 a1) memory h words bytes is = returned-hart memory a0 a1 h bytes words.0 words.1 is
fated-hart Blocks memory h words bytes is = record { regs = is.regs; view = is.view }
fated-hart (Ends v) memory h words bytes is = record { regs = is.regs; view = is.view }
fated-hart (Exits code) memory h words bytes is = is

woken-harts :
    (memory : Memory) (reported : Option ℕ) (us : List ℕ) (hs : List Hart)
    → HasBytes memory → IfSome reported IsWord → AllByRecursion IsHart hs
    → AllByRecursion IsHart (woken memory reported us hs)
woken-harts memory reported [] hs bytes word all = all
woken-harts memory reported (u ∷ us) hs bytes word all =
    woken-harts memory reported us (set hs u (returned memory 0 reported (hart_in hs u))) bytes word
    (every-changed IsHart (returned memory 0 reported) hs u nobody
    (λ h is. returned-hart memory 0 reported h bytes (omega arith) word is) all)

pub first-registers :
    (t pc argument : ℕ) → t < 32 → IsWord pc → IsWord argument → AreRegisters (first_registers t pc argument)
unfolding first_registers
first-registers t pc argument few word other =
    record {
      pc = word;
      count = refl;
      zero = refl;
      words = (
        omega arith,
        (
          omega arith,
          (
            omega arith,
            (
              omega arith,
              (
                omega arith,
                (
                  omega arith,
                  (
                    omega arith,
                    (omega arith, (omega arith, (omega arith, (other, every-replicate IsWord 21 0 (omega arith))))),
                  ),
                ),
              ),
            ),
          ),
        ),
      );
    }

created-harts :
    (memory : Memory) (c : Option (ℕ × ℕ)) (hs : List Hart)
    → HasBytes memory → CreatesBeside (length hs) c → AllByRecursion IsHart hs
    → AllByRecursion IsHart (with_created memory c hs)
created-harts memory None hs bytes words all = all
created-harts memory (Some c) hs bytes words all =
    every-append IsHart hs (first_hart memory (length hs) c.0 c.1 ∷ []) all
    (record { regs = first-registers (length hs) c.0 c.1 words.0 words.1 words.2; view = bytes }, tt)

settled-harts :
    (e : Effect) (memory : Memory) (t : ℕ) (hs : List Hart)
    → IsEffect (length hs) e → HasBytes memory → AllByRecursion IsHart hs
    → AllByRecursion IsHart (settled e memory t hs)
settled-harts e memory t hs words bytes all =
    let count : length (woken memory e.reported e.woken (set hs t (fated e.fate memory (hart_in hs t)))) ≡ length hs =
    length-woken memory e.reported e.woken (set hs t (fated e.fate memory (hart_in hs t)))
    ∙ length-set hs t (fated e.fate memory (hart_in hs t)) in
    created-harts memory e.created (woken memory e.reported e.woken (set hs t (fated e.fate memory (hart_in hs t)))) bytes
    (subst (λ (n : ℕ). CreatesBeside n e.created) (sym count) words.created)
    (woken-harts memory e.reported e.woken (set hs t (fated e.fate memory (hart_in hs t))) bytes words.reported
    (every-changed IsHart (fated e.fate memory) hs t nobody
    (λ h is. fated-hart e.fate memory h words.fate bytes is) all))

-- what a thunk requests has words
abbrev AsksWords : Asked → Type 0
AsksWords (Asks call) = IsCall call
AsksWords (Stops e) = ⊤

asked_call-words : (t : ℕ) (r : Registers) (o : Option Call) → IfSome o IsCall → AsksWords (asked_call t r o)
asked_call-words t r (Some call) is = is
asked_call-words t r None is = tt

asked-words : (t : ℕ) (e : ThunkEnd) (r : Registers) → AreRegisters r → AsksWords (asked t e r)
asked-words t thunk_end.Call r regs = asked_call-words t r (call_at r) (call_at-call r regs)
asked-words t (thunk_end.Trap cause) r regs = tt
asked-words t thunk_end.Fuel r regs = tt

done-words :
    (m : Machine) (t : ℕ) (a : Asked)
    → length m.objects.threads ≡ length m.harts → IsOfWords m → AsksWords a → IsOfWords (done_as_asked m t a)
done-words m t (Asks call) count words is =
    record {
      memory = words.memory;
      harts =
          settled-harts (act (is_readable m.frame.map) m.objects t call).0 m.memory t m.harts
          (subst (λ (n : ℕ). IsEffect n (act (is_readable m.frame.map) m.objects t call).0) count
          (act-effect (is_readable m.frame.map) m.objects t call is words.members))
          words.memory words.harts;
      members = act-members (is_readable m.frame.map) m.objects t call is words.members;
    }
done-words m t (Stops e) count words is =
    record { memory = words.memory; harts = words.harts; members = words.members }

finished-words :
    (m : Machine) (t : ℕ) (memory : Memory) (regs : Registers) (e : ThunkEnd) (put : List ℕ)
    → length m.objects.threads ≡ length m.harts → IsOfWords m → HasBytes memory → AreRegisters regs
    → IsOfWords (finished m t memory regs e put)
unfolding finished
finished-words m t memory regs e put count words bytes fit =
    done-words (written m t memory regs put) t (asked t e regs)
    (count ∙ sym (length-set m.harts t (advanced (hart_of m t) regs)))
    (record {
      memory = bytes;
      harts =
          every-changed IsHart (λ (h : Hart). advanced h regs) m.harts t nobody
          (λ h is. record { regs = fit; view = is.view }) words.harts;
      members = words.members;
    })
    (asked-words t e regs fit)

-- the hart of a ready thread
ready-hart :
    (m : Machine) (t : ℕ) → IsOfWords m → is_ready (hart_of m t).status ≡ true → IsHart (hart_of m t)
ready-hart m t words ready = every-below IsHart m.harts t nobody (ready-below m.harts t ready) words.harts

ready-thunk :
    (m : Machine) (t : ℕ) → IsOfWords m → is_ready (hart_of m t).status ≡ true
    → IsThunk m.frame.fuel (thunk m.frame (hart_of m t).view (hart_of m t).regs)
ready-thunk m t words ready =
    let here : IsHart (hart_of m t) = ready-hart m t words ready in
    thunk-fits m.frame (hart_of m t).view (hart_of m t).regs here.view here.regs

pub step-words :
    (m : Machine) (t : ℕ) → IsWhole m → IsOfWords m → is_ready (hart_of m t).status ≡ true → IsOfWords (step m t)
unfolding step
step-words m t whole words ready =
    let done : IsThunk m.frame.fuel (thunk m.frame (hart_of m t).view (hart_of m t).regs) =
    ready-thunk m t words ready in
    finished-words m t (with_stores m.frame.map m.memory (thunk m.frame (hart_of m t).view (hart_of m t).regs).stores)
    (thunk m.frame (hart_of m t).view (hart_of m t).regs).regs
    (thunk m.frame (hart_of m t).view (hart_of m t).regs).end
    (thunk m.frame (hart_of m t).view (hart_of m t).regs).put
    whole.tied.threads words
    (with_stores-bytes m.frame.map m.memory (thunk m.frame (hart_of m t).view (hart_of m t).regs).stores words.memory
    done.stores)
    done.regs

pub apply-words :
    (m : Machine) (r : Record) → IsWhole m → IsOfWords m → IsRecord m.frame.map m.frame.fuel r → IsOfWords (apply m r)
unfolding apply
apply-words m r whole words is =
    finished-words m r.thread (masked m.memory r.kept.delta) r.kept.finish r.kept.end
    (put_of m.frame.map (hart_of m r.thread).view r.kept) whole.tied.threads words
    (masked-bytes m.frame.map m.memory r.kept.delta is.delta words.memory) is.finish

-- the record of a ready thread's step
pub record-encoded :
    (m : Machine) (t : ℕ)
    → IsWhole m → IsOfWords m → is_ready (hart_of m t).status ≡ true
    → IsRecord m.frame.map m.frame.fuel (record_of m t)
unfolding kept_thunk
record-encoded m t whole words ready =
    let below : t < length m.harts = ready-below m.harts t ready in
    let here : IsHart (hart_of m t) = ready-hart m t words ready in
    let hart : IsHartOf m.frame.map m.steps (hart_of m t) = hart-at m.frame.map m.steps m.harts t below whole.harts in
    let done : IsThunk m.frame.fuel (thunk m.frame (hart_of m t).view (hart_of m t).regs) =
    ready-thunk m t words ready in
    record {
      thread = let count = whole.tied.threads in let few = whole.tied.kept.few_threads in omega arith;
      end = done.end;
      some_turns = done.some_turns whole.limits.some_fuel;
      most_turns = done.most_turns;
      start = here.regs;
      finish = done.regs;
      reads_ascend = kept-reads_ascend m.frame (hart_of m t).view (hart_of m t).regs;
      reads = kept-read_pages m.frame (hart_of m t).view (hart_of m t).regs hart.view here.view;
      delta_ascends = kept-deltas_ascend m.frame (hart_of m t).view (hart_of m t).regs;
      delta = kept-stored_pages m.frame (hart_of m t).view (hart_of m t).regs done.stores;
    }
