-- A step, part by part.
use Rattle.std.proofs.Common.{◌≡◌, ℕ, ◌+◌, List, ◌++◌, Option, set, refl, ap, ◌∙◌, arith}
use Rattle.memory_spec.specs.Pages.{Memory, IsMemory}
use Rattle.memory_spec.specs.Stores.{with_stores}
use Rattle.guest_call.specs.Objects.{Objects}
use Rattle.machine_spec.specs.declared.states.End.{End}
use Rattle.machine_spec.specs.Machine.{Machine, Hart, hart_of}
use Rattle.machine_spec.specs.declared.states.Asked.{Asked}
use Rattle.machine_spec.specs.Step.{advanced, asked, end_after, step}
use Rattle.plain_machine.specs.declared.machine.StepResult.{StepResult}
use Rattle.plain_machine.specs.declared.thunk.ThunkResult.{ThunkResult}
use Rattle.plain_machine.specs.Stored.{bytes_of}
use Rattle.plain_machine.specs.Turning.{IsDone}
use Rattle.machine_calls.specs.Doing.{harts_after, objects_after, own_end, effect_made}
use Rattle.machine_calls.proofs.Finishing.{finished-parts}
use Rattle.plain_machine.specs.Making.{thunk_of, IsMade}

-- the machine's parts, if a thunk in code was run on the thread's view, each as the code makes it, are the machine
-- after a step
pub stepped :
    (m : Machine) (t : ℕ) (d : ThunkResult) (memory : Memory) (before done : List Hart) (objects : Objects) (output : List ℕ)
    (ending : Option End) (a : Asked)
    → IsMemory m.frame.map m.memory
    → IsDone m.frame (hart_of m t).view (hart_of m t).regs d
    → memory ≡ with_stores m.frame.map m.memory (bytes_of d.stores.items)
    → before ≡ set m.harts t (advanced (hart_of m t) d.regs)
    → a ≡ asked t d.end d.regs
    → output ≡ m.output ++ d.put.items
    → done ≡ harts_after m.frame.map m.objects memory t before a
    → objects ≡ objects_after m.frame.map m.objects t a
    → ending ≡ end_after (own_end m.frame.map m.objects t a) done m.limit (m.steps + 1)
    → record {
      frame = m.frame;
      limit = m.limit;
      memory = memory;
      harts = done;
      objects = objects;
      output = output;
      steps = m.steps + 1;
      ending = ending;
    } ≡ step m t
unfolding step
stepped m t d memory before done objects output ending a whole is is_memory is_before is_asked is_output is_done
    is_objects is_ending =
    finished-parts m t memory d.regs d.end d.put.items output before done objects (m.steps + 1) ending a is_before
    is_asked is_output (omega arith) is_done is_objects is_ending
    ∙ rw (is_memory ∙ is.applies m.memory whole, is.regs, is.end, is.put) refl

-- and what is reported of it
pub reported :
    (m : Machine) (t : ℕ) (d : ThunkResult) (made : StepResult)
    → IsDone m.frame (hart_of m t).view (hart_of m t).regs d
    → made.count ≡ d.count
    → made.asked ≡ asked t d.end d.regs
    → made.effect ≡ effect_made m.frame.map m.objects t made.asked
    → IsMade m t made
reported m t d made is count asks effect =
    let same : made.asked ≡ asked t (thunk_of m t).end (thunk_of m t).regs =
    asks ∙ ap (λ e. asked t e d.regs) is.end ∙ ap (asked t (thunk_of m t).end) is.regs in
    record {
      count = count ∙ is.count;
      asks = same;
      effect = effect ∙ ap (effect_made m.frame.map m.objects t) same;
    }
