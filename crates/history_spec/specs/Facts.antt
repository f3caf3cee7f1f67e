-- What each step of a history does, as far as other steps can depend on it.
use Rattle.std.specs.Prelude.{ℕ, Bool, false, List, [], ◌∷◌, ◌++◌, map, length, find, Option, Some, None, is_some, is_none, ◌&&◌, if◌then◌else◌}
use Rattle.guest_call.specs.declared.Object.{Object}
use Rattle.guest_call.specs.declared.Fate.{Fate}
use Rattle.guest_call.specs.declared.Fate.TheVariants.{Returns, Blocks, Ends, Exits}
use Rattle.guest_call.specs.Effect.{Effect, exits}
use Rattle.guest_call.specs.Objects.{Objects, act, acts_on}
use Rattle.thunk_spec.specs.Put.{is_readable}
use Rattle.thunk_spec.specs.Delta.{PageDelta}
use Rattle.thunk_spec.specs.Reads.{ReadPage}
use Rattle.thunk_spec.specs.Record.{Record}
use Rattle.machine_spec.specs.declared.states.Asked.{Asked}
use Rattle.machine_spec.specs.declared.states.Asked.TheVariants.{Asks, Stops}
use Rattle.machine_spec.specs.Machine.{Machine, hart_of}
use Rattle.machine_spec.specs.Step.{asked, apply, fits}
use Rattle.machine_spec.specs.Setup.{first}
use Rattle.history_spec.specs.History.{History, is_of}

-- What a step does: its thread, the objects on which its call acts, the threads to which it gives a view, the slots of
-- the pages that it writes, those of the pages that the next thunks of these threads read, and whether it ends the run.
pub record Fact : Type 0 where
  pub thread : ℕ
  pub objects : List Object
  pub given : List ℕ
  pub written : List ℕ
  pub opened : List ℕ
  pub last : Bool

-- What a record's thunk requests.
abbrev pub ask_of : Record → Asked
ask_of r = asked r.thread r.kept.end r.kept.finish

-- The effect of what was requested, and the objects after it: for an end, an exit with code 0 and the same objects.
abbrev pub acted : Machine → ℕ → Asked → Effect × Objects
acted m t (Asks call) = act (is_readable m.frame.map) m.objects t call
acted m t (Stops e) = (exits 0, m.objects)

-- The effect of what a record's thunk requests.
abbrev pub effect_of : Machine → Record → Effect
effect_of m r = (acted m r.thread (ask_of r)).0

-- The objects on which what was requested acts.
abbrev pub acting_on : Machine → Asked → List Object
acting_on m (Asks call) = acts_on (is_readable m.frame.map) m.objects call
acting_on m (Stops e) = []

-- The objects on which what a record's thunk requests acts.
abbrev pub objects_of : Machine → Record → List Object
objects_of m r = acting_on m (ask_of r)

-- The caller, if its call returns at once.
abbrev pub returning : ℕ → Fate → List ℕ
returning t (Returns a b) = t ∷ []
returning t Blocks = []
returning t (Ends v) = []
returning t (Exits code) = []

-- The thread that is created, if one is.
abbrev pub starting : ℕ → Option (ℕ × ℕ) → List ℕ
starting n None = []
starting n (Some c) = n ∷ []

-- The threads to which an effect gives a view: the caller, if its call returns, those that it wakes, and the one that
-- it creates.
abbrev pub served : Effect → ℕ → ℕ → List ℕ
served e t n = returning t e.fate ++ (e.woken ++ starting n e.created)

-- The threads to which a record's step gives a view.
abbrev pub served_by : Machine → Record → List ℕ
served_by m r = served (effect_of m r) r.thread (length m.harts)

-- The slots that the next thunks of some threads read, by what each thunk of a thread at a number reads.
abbrev pub read_by : (ℕ → ℕ → List ℕ) → Machine → List ℕ → List ℕ
read_by reads m [] = []
read_by reads m (u ∷ us) = reads u (hart_of m u).number ++ read_by reads m us

-- The slots of the pages that a record has read.
abbrev pub read_slots : Record → List ℕ
read_slots r = map (λ (p : ReadPage). p.slot) r.kept.reads

-- The slots of the pages that a record writes.
abbrev pub written_slots : Record → List ℕ
written_slots r = map (λ (d : PageDelta). d.slot) r.kept.delta

-- The fact of a record's step on a machine, by what the thunks of the history read.
abbrev pub fact_of : (ℕ → ℕ → List ℕ) → Machine → Record → Fact
fact_of reads m r =
    record {
      thread = r.thread;
      objects = objects_of m r;
      given = served_by m r;
      written = written_slots r;
      opened = read_by reads (apply m r) (served_by m r);
      last = is_some (apply m r).ending;
    }

-- The fact of a record that doesn't fit, that follows an end, or that follows such a one: its thread and the pages that
-- it writes, and no more.
abbrev pub bare_fact : Record → Fact
bare_fact r =
    record { thread = r.thread; objects = []; given = []; written = written_slots r; opened = []; last = false }

-- The facts of records applied one after the other, as far as each fits and no end came before it.
abbrev pub facts_from : (ℕ → ℕ → List ℕ) → Machine → List Record → List Fact
facts_from reads m [] = []
facts_from reads m (r ∷ rs) =
    if is_none m.ending && fits m r then fact_of reads m r ∷ facts_from reads (apply m r) rs else map bare_fact (r ∷ rs)

-- What the thunk of a thread at a number reads, if it is in the history.
abbrev pub reads_of_found : Option Record → List ℕ
reads_of_found None = []
reads_of_found (Some r) = read_slots r

-- What the thunk of a thread at a number reads, in some records.
abbrev pub reads_in : List Record → ℕ → ℕ → List ℕ
reads_in rs t number = reads_of_found (find (is_of t number) rs)

-- The facts of a history.
abbrev pub facts : History → List Fact
facts h = facts_from (reads_in h.records) (first h.setup) h.records
