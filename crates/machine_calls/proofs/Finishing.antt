-- What follows the writing of a thunk, part by part.
use Rattle.std.proofs.Common.{◌≡◌, ℕ, suc, List, ◌++◌, Option, set, refl, sym}
use Rattle.isa_spec.specs.Registers.{Registers}
use Rattle.memory_spec.specs.Pages.{Memory}
use Rattle.guest_call.specs.Objects.{Objects}
use Rattle.thunk_spec.specs.declared.ends.ThunkEnd.{ThunkEnd}
use Rattle.machine_spec.specs.declared.states.End.{End}
use Rattle.machine_spec.specs.Machine.{Machine, Hart, hart_of}
use Rattle.machine_spec.specs.declared.states.Asked.{Asked}
use Rattle.machine_spec.specs.declared.states.Asked.TheVariants.{Asks, Stops}
use Rattle.machine_spec.specs.Step.{advanced, written, asked, end_after, done_as_asked, finished}
use Rattle.machine_calls.specs.Doing.{harts_after, objects_after, own_end}

-- what was requested is done part by part
done-parts :
    (m : Machine) (t : ℕ) (a : Asked)
    → done_as_asked m t a
    ≡ record m {
      harts = harts_after m.frame.map m.objects m.memory t m.harts a;
      objects = objects_after m.frame.map m.objects t a;
      ending = end_after (own_end m.frame.map m.objects t a)
          (harts_after m.frame.map m.objects m.memory t m.harts a) m.limit m.steps;
    }
done-parts m t (Asks call) = refl
done-parts m t (Stops e) = refl

-- the machine's parts, each as the code makes it, are the machine after a thunk that was written
pub finished-parts :
    (m : Machine) (t : ℕ) (memory : Memory) (regs : Registers) (end : ThunkEnd) (put output : List ℕ)
    (before done : List Hart) (objects : Objects) (steps : ℕ) (ending : Option End) (a : Asked)
    → before ≡ set m.harts t (advanced (hart_of m t) regs)
    → a ≡ asked t end regs
    → output ≡ m.output ++ put
    → steps ≡ suc m.steps
    → done ≡ harts_after m.frame.map m.objects memory t before a
    → objects ≡ objects_after m.frame.map m.objects t a
    → ending ≡ end_after (own_end m.frame.map m.objects t a) done m.limit steps
    → record {
      frame = m.frame;
      limit = m.limit;
      memory = memory;
      harts = done;
      objects = objects;
      output = output;
      steps = steps;
      ending = ending;
    } ≡ finished m t memory regs end put
unfolding finished
finished-parts m t memory regs end put output before done objects steps ending a is_before is_asked is_output is_steps
    is_done is_objects is_ending =
    rw (is_objects, is_ending, is_done, is_output, is_steps, is_before, is_asked)
    (sym (done-parts (written m t memory regs put) t (asked t end regs)))
