-- The counts of the records of executed entries add up to the instructions in the report.
use Rattle.std.proofs.Common.{◌≡◌, ◌+◌, cond, List, [], ◌∷◌, Option, refl, ap, ◌∙◌}
use Rattle.thunk_spec.specs.Record.{kept_thunk}
use Rattle.thunk_spec.specs.Thunk.{Frame, thunk}
use Rattle.isa_spec.specs.Registers.{Registers}
use Rattle.memory_spec.specs.Pages.{Memory}
use Rattle.machine_spec.specs.Machine.{Machine, hart_of}
use Rattle.machine_spec.specs.Step.{step}
use Rattle.machine_spec.specs.Schedule.{records_from}
use Rattle.machine_spec.specs.Setup.{Setup, IsSetup, first}
use Rattle.history_spec.specs.History.{History, IsSound}
use Rattle.report_spec.specs.declared.Entry.{Entry}
use Rattle.report_spec.specs.Report.{threads_of, instructions_from}
use Rattle.round_spec.specs.declared.events.Event.{Event}
use Rattle.round_spec.specs.Rounds.{round_after}
use Rattle.round_spec.specs.Instructions.{executed_instructions}
use Rattle.round_spec.specs.Keeping.{IsFromScratch}
use Rattle.round_spec.proofs.Leaving.{round-setup, round-scratch}

kept-count : (f : Frame) (view : Memory) (r : Registers) → (kept_thunk f view r).count ≡ (thunk f view r).count
unfolding kept_thunk
kept-count f view r = refl

pub executed-records :
    (m : Machine) (es : List Entry)
    → executed_instructions es (records_from m (threads_of es)) ≡ instructions_from m es
executed-records m [] = refl
executed-records m (e ∷ es) =
    ap (λ n. cond e.reused 0 n + executed_instructions es (records_from (step m e.thread) (threads_of es)))
    (kept-count m.frame (hart_of m e.thread).view (hart_of m e.thread).regs)
    ∙ ap (λ n. cond e.reused 0 (thunk m.frame (hart_of m e.thread).view (hart_of m e.thread).regs).count + n)
    (executed-records (step m e.thread) es)

-- the sum that a round keeps is the one in its report
pub round-executed :
    (setup : Setup) (past : Option History) (es : List Event)
    → IsSetup setup → IsSound past setup
    → executed_instructions (round_after setup past es).schedule (round_after setup past es).records
    ≡ instructions_from (first setup) (round_after setup past es).schedule
round-executed setup past es valid sound =
    let s : IsFromScratch (round_after setup past es) = round-scratch setup past es valid sound in
    ap (executed_instructions (round_after setup past es).schedule) s.records
    ∙ executed-records (first (round_after setup past es).setup) (round_after setup past es).schedule
    ∙ ap (λ (x : Setup). instructions_from (first x) (round_after setup past es).schedule) (round-setup setup past es)
