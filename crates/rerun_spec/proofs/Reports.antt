-- Without lists of edits there is one report, that of a run from scratch; reports and workers' steps count right; and
-- what is reported of a round as it was made is its report.
use Rattle.std.proofs.Common.{◌≡◌, ℕ, min, Bool, true, false, ◌&&◌, List, [], ◌∷◌, ◌++◌, length, map, drop, slice_get, sum, All, Option, Some, None, refl, ap, sym, ◌∙◌, arith}
use Rattle.std.specs.List.{AllByRecursion, list_all}
use Rattle.std.proofs.lemmas.List.{length-map, map-append}
use Rattle.std.proofs.lemmas.List.Folds.{list_all-append}
use Rattle.machine_spec.specs.Machine.{Machine}
use Rattle.machine_spec.specs.Step.{step}
use Rattle.machine_spec.specs.Limits.{Limits}
use Rattle.machine_spec.specs.Setup.{Setup, IsSetup, first, scratch}
use Rattle.machine_spec.specs.Choice.{alone}
use Rattle.report_spec.specs.declared.Entry.{Entry}
use Rattle.history_spec.specs.History.{History}
use Rattle.report_spec.specs.Report.{Extras, threads_of, instructions_from, data_of, report_text, report}
use Rattle.round_spec.specs.Marks.{marked_from}
use Rattle.round_spec.specs.Schedules.{events_in}
use Rattle.round_spec.specs.Instructions.{executed_instructions}
use Rattle.round_spec.proofs.Agreeing.{one_worker-nothing}
use Rattle.round_spec.proofs.Executed.{round-executed}
use Rattle.round_spec.proofs.Leaving.{round-setup, round-past}
use Rattle.rerun_spec.specs.declared.Asked.{Asked}
use Rattle.rerun_spec.specs.Inputs.{AreInputs, AreRerunInputs, AreShort}
use Rattle.rerun_spec.specs.Rounds.{limits_of, with_limits, Found, Round, made, IsMade, Beginning, from_scratch, after_memo, CanBegin, round_on, rounds_after, after_rounds, entries_of, IsUneditedRerun}
use Rattle.rerun_spec.specs.Reports.{all_executed, extras_of, extras_in, made_extras, report_of, reports_of, is_exit, exits, all_exit, data_as_made, made_report, made_reports, made_exits, all_made_exit}
use Rattle.rerun_spec.proofs.Inputs.{only-input}
use Rattle.rerun_spec.proofs.Rounds.{IsSoundlyMade, each-made, each-round, count-after, scratch-begins, round-threads, round-entries, round-machine, round-alone}
use Rattle.rerun_spec.proofs.Going.{rounds-later, rounds-one}

-- without a history nothing is reused
pub marks-nothing : (m : Machine) (ts : List ℕ) → marked_from None m ts ≡ all_executed ts
marks-nothing m [] = refl
marks-nothing m (t ∷ ts) =
    ap (λ (es : List Entry). record { thread = t; reused = false } ∷ es) (marks-nothing (step m t) ts)

-- the one round if there is no list
only-round :
    (b : Beginning) (inputs : List (List ℕ)) (f : Found) → AreInputs b.setup.input [] inputs
    → rounds_after b inputs (f ∷ []) ≡ round_on b b.setup.input f ∷ []
only-round b inputs f are =
    ap (λ (is : List (List ℕ)). rounds_after b is (f ∷ [])) (only-input b.setup.input inputs are)

first-report :
    (setup : Setup) (asked : Asked) (f : Found)
    → reports_of (round_on (from_scratch setup asked) setup.input f ∷ [])
    ≡ report 0 setup (all_executed (threads_of f.entries)) (extras_of asked None setup f.progress) f.worker_steps ∷ []
unfolding reports_of
first-report setup asked f =
    ap (λ (es : List Entry). report 0 setup es (extras_of asked None setup f.progress) f.worker_steps ∷ []) (marks-nothing (first setup) (threads_of f.entries))

pub only-report :
    (setup : Setup) (asked : Asked) (inputs : List (List ℕ)) (f : Found)
    → AreInputs setup.input [] inputs
    → reports_of (rounds_after (from_scratch setup asked) inputs (f ∷ []))
    ≡ report 0 setup (all_executed (threads_of f.entries)) (extras_of asked None setup f.progress) f.worker_steps ∷ []
only-report setup asked inputs f are =
    ap (λ (rs : List Round). reports_of rs) (only-round (from_scratch setup asked) inputs f are) ∙ first-report setup asked f

and-true : (b : Bool) → (b && true) ≡ b
and-true true = refl
and-true false = refl

first-exits :
    (setup : Setup) (asked : Asked) (f : Found)
    → all_exit (round_on (from_scratch setup asked) setup.input f ∷ [])
    ≡ is_exit (scratch setup (threads_of f.entries)).ending
unfolding all_exit
first-exits setup asked f = and-true (is_exit (scratch setup (threads_of f.entries)).ending)

pub only-exits :
    (setup : Setup) (asked : Asked) (inputs : List (List ℕ)) (f : Found)
    → AreInputs setup.input [] inputs
    → all_exit (rounds_after (from_scratch setup asked) inputs (f ∷ []))
    ≡ is_exit (scratch setup (threads_of f.entries)).ending
only-exits setup asked inputs f are =
    ap (λ (rs : List Round). all_exit rs) (only-round (from_scratch setup asked) inputs f are) ∙ first-exits setup asked f

-- one worker makes it as the choice says, and all steps are its own
pub record IsAlone (setup : Setup) (f : Found) : Type 0 where
  pub threads : threads_of f.entries ≡ alone setup
  pub worker_steps : f.worker_steps ≡ length (alone setup) ∷ []

only-share : (worker_steps : List ℕ) (steps : ℕ) → length worker_steps ≡ 1 → sum worker_steps ≡ steps → worker_steps ≡ steps ∷ []
only-share [] steps one all = absurd (omega arith)
only-share (share ∷ []) steps one all = let same : share ≡ steps = omega arith in ap (λ (n : ℕ). n ∷ []) same
only-share (share ∷ other ∷ worker_steps) steps one all = absurd (omega arith)

alone-first :
    (setup : Setup) (asked : Asked) (f : Found) → IsSetup setup → IsMade 1 (round_on (from_scratch setup asked) setup.input f)
    → IsAlone setup f
alone-first setup asked f valid made =
    let r = round_on (from_scratch setup asked) setup.input f in
    let threads : threads_of f.entries ≡ alone setup =
    round-alone r (record { can = scratch-begins setup asked valid; made = made }) ∙ one_worker-nothing setup in
    record {
      threads = threads;
      worker_steps =
          only-share f.worker_steps (length (alone setup)) made.each
          (made.steps ∙ sym (length-map f.entries (λ (e : Entry). e.thread))
          ∙ ap (λ (ts : List ℕ). length ts) threads);
    }

pub only-alone :
    (setup : Setup) (asked : Asked) (inputs : List (List ℕ)) (f : Found)
    → IsSetup setup → AreInputs setup.input [] inputs
    → All (IsMade 1) (rounds_after (from_scratch setup asked) inputs (f ∷ []))
    → IsAlone setup f
only-alone setup asked inputs f valid are made =
    let each = each-made 1 (rounds_after (from_scratch setup asked) inputs (f ∷ [])) made in
    let here : AllByRecursion (IsMade 1) (round_on (from_scratch setup asked) setup.input f ∷ []) =
    rw (only-round (from_scratch setup asked) inputs f are) at each in
    alone-first setup asked f valid here.0

pub alone-report :
    (setup : Setup) (asked : Asked) (inputs : List (List ℕ)) (f : Found)
    → IsSetup setup → AreInputs setup.input [] inputs
    → All (IsMade 1) (rounds_after (from_scratch setup asked) inputs (f ∷ []))
    → reports_of (rounds_after (from_scratch setup asked) inputs (f ∷ []))
    ≡ report 0 setup (all_executed (alone setup)) (extras_of asked None setup f.progress) (length (alone setup) ∷ []) ∷ []
alone-report setup asked inputs f valid are made =
    let is = only-alone setup asked inputs f valid are made in
    only-report setup asked inputs f are
    ∙ ap (λ (ts : List ℕ). report 0 setup (all_executed ts) (extras_of asked None setup f.progress) f.worker_steps ∷ []) is.threads
    ∙ ap (λ (worker_steps : List ℕ). report 0 setup (all_executed (alone setup)) (extras_of asked None setup f.progress) worker_steps ∷ []) is.worker_steps

pub alone-exits :
    (setup : Setup) (asked : Asked) (inputs : List (List ℕ)) (f : Found)
    → IsSetup setup → AreInputs setup.input [] inputs
    → All (IsMade 1) (rounds_after (from_scratch setup asked) inputs (f ∷ []))
    → all_exit (rounds_after (from_scratch setup asked) inputs (f ∷ [])) ≡ is_exit (scratch setup (alone setup)).ending
alone-exits setup asked inputs f valid are made =
    only-exits setup asked inputs f are
    ∙ ap (λ (ts : List ℕ). is_exit (scratch setup ts).ending) (only-alone setup asked inputs f valid are made).threads

-- without lists a rerun is one round, without an edit if its limits are the memo's
pub only-rerun :
    (h : History) (limits : Limits) (asked : Asked) (inputs : List (List ℕ)) (f : Found) → AreRerunInputs h.setup.input [] inputs
    → rounds_after (after_memo h limits asked) inputs (f ∷ [])
    ≡ record { number = 1; setup = with_limits h.setup limits; past = Some h; asked = asked; found = f } ∷ []
only-rerun h limits asked inputs f are = ap (λ (is : List (List ℕ)). rounds_after (after_memo h limits asked) is (f ∷ [])) are

pub only-unedited :
    (h : History) (asked : Asked) (inputs : List (List ℕ)) (f : Found) → AreRerunInputs h.setup.input [] inputs
    → IsUneditedRerun h (limits_of h.setup) asked inputs (f ∷ [])
    (record { number = 1; setup = h.setup; past = Some h; asked = asked; found = f })
only-unedited h asked inputs f are =
    record {
      first = ap (λ (rs : List Round). slice_get rs 0) (only-rerun h (limits_of h.setup) asked inputs f are);
      same_input = refl;
      same_limits = refl;
    }

-- counts
pub reports-count :
    (b : Beginning) (inputs : List (List ℕ)) (found : List Found)
    → length (reports_of (rounds_after b inputs found)) ≡ min (length inputs) (length found)
unfolding reports_of
reports-count b inputs found = length-map (rounds_after b inputs found) report_of ∙ count-after b inputs found

pub made-count :
    (b : Beginning) (inputs : List (List ℕ)) (found : List Found)
    → length (made_reports (rounds_after b inputs found)) ≡ min (length inputs) (length found)
unfolding made_reports
made-count b inputs found = length-map (rounds_after b inputs found) made_report ∙ count-after b inputs found

pub worker_steps-steps : (workers : ℕ) (r : Round) → IsMade workers r → sum r.found.worker_steps ≡ length (entries_of r)
worker_steps-steps workers r is =
    is.steps
    ∙ sym (length-map r.found.entries (λ (e : Entry). e.thread))
    ∙ sym (ap (λ (ts : List ℕ). length ts) (round-threads r))
    ∙ length-map (entries_of r) (λ (e : Entry). e.thread)

pub worker_steps-made : (workers : ℕ) (r : Round) → IsMade workers r → sum r.found.worker_steps ≡ length (made r).schedule
worker_steps-made workers r is = is.steps ∙ sym (ap (λ (es : List Entry). length es) is.stands)

-- a round's instructions, report and exit are those of the round as it was made
instructions-made :
    (workers : ℕ) (r : Round) → IsSoundlyMade workers r
    → executed_instructions (made r).schedule (made r).records ≡ instructions_from (first r.setup) (made r).schedule
instructions-made workers r is = round-executed r.setup r.past (events_in r.found.entries) is.can.valid is.can.sound

pub round-instructions :
    (workers : ℕ) (r : Round) → IsSoundlyMade workers r
    → executed_instructions (made r).schedule (made r).records ≡ instructions_from (first r.setup) (entries_of r)
round-instructions workers r is =
    instructions-made workers r is ∙ ap (instructions_from (first r.setup)) (round-entries workers r is)

-- what is reported only on request depends on the round's own setup and history
extras-made : (r : Round) → made_extras r ≡ extras_in r
extras-made r =
    ap (λ (p : Option History). extras_of r.asked p (made r).setup r.found.progress) (round-past r.setup r.past (events_in r.found.entries))
    ∙ ap (λ (s : Setup). extras_of r.asked r.past s r.found.progress) (round-setup r.setup r.past (events_in r.found.entries))

-- what was made is reported as the machine from scratch is, under the same schedule
reported-made :
    (workers : ℕ) (r : Round) → IsSoundlyMade workers r
    → data_as_made (made r) (made_extras r) r.found.worker_steps ≡ data_of r.setup (made r).schedule (extras_in r) r.found.worker_steps
reported-made workers r is =
    let es = (made r).schedule in
    let worker_steps = r.found.worker_steps in
    let machine : (made r).machine ≡ scratch r.setup (threads_of es) =
    round-machine workers r is
    ∙ ap (λ (l : List Entry). scratch r.setup (threads_of l)) (sym (round-entries workers r is)) in
    ap (λ (n : ℕ). record {
      ending = (made r).machine.ending;
      schedule = es;
      extras = made_extras r;
      instructions = n;
      worker_steps = worker_steps;
      memory = (made r).machine.memory;
      output = (made r).machine.output;
    }) (instructions-made workers r is)
    ∙ ap (λ (m : Machine). record {
      ending = m.ending;
      schedule = es;
      extras = made_extras r;
      instructions = instructions_from (first r.setup) es;
      worker_steps = worker_steps;
      memory = m.memory;
      output = m.output;
    }) machine
    ∙ ap (λ (extras : Extras). data_of r.setup es extras worker_steps) (extras-made r)

report-reported :
    (number : ℕ) (s : Setup) (es : List Entry) (extras : Extras) (worker_steps : List ℕ)
    → report_text number (data_of s es extras worker_steps) ≡ report number s es extras worker_steps
unfolding report
report-reported number s es extras worker_steps = refl

pub report-entries :
    (workers : ℕ) (r : Round)
    → IsSoundlyMade workers r → report_of r ≡ report r.number r.setup (made r).schedule (extras_in r) r.found.worker_steps
report-entries workers r is =
    ap (λ (es : List Entry). report r.number r.setup es (extras_in r) r.found.worker_steps) (sym (round-entries workers r is))

pub report-made : (workers : ℕ) (r : Round) → IsSoundlyMade workers r → made_report r ≡ report_of r
report-made workers r is =
    ap (report_text r.number) (reported-made workers r is)
    ∙ report-reported r.number r.setup (made r).schedule (extras_in r) r.found.worker_steps
    ∙ sym (report-entries workers r is)

pub exit-made : (workers : ℕ) (r : Round) → IsSoundlyMade workers r → made_exits r ≡ exits r
exit-made workers r is =
    ap (λ (m : Machine). is_exit m.ending) (round-machine workers r is ∙ ap (scratch r.setup) (round-threads r))

-- the same holds of all rounds that were soundly made
all-reports-made :
    (workers : ℕ) (rounds : List Round) → AllByRecursion (IsSoundlyMade workers) rounds
    → map made_report rounds ≡ map report_of rounds
all-reports-made workers [] each = refl
all-reports-made workers (r ∷ rounds) each =
    ap (λ (text : List ℕ). text ∷ map made_report rounds) (report-made workers r each.0)
    ∙ ap (λ (texts : List (List ℕ)). report_of r ∷ texts) (all-reports-made workers rounds each.1)

all-exits-made :
    (workers : ℕ) (rounds : List Round) → AllByRecursion (IsSoundlyMade workers) rounds
    → list_all made_exits rounds ≡ list_all exits rounds
all-exits-made workers [] each = refl
all-exits-made workers (r ∷ rounds) each =
    ap (λ (b : Bool). b && list_all made_exits rounds) (exit-made workers r each.0)
    ∙ ap (λ (b : Bool). exits r && b) (all-exits-made workers rounds each.1)

pub reports-made :
    (b : Beginning) (inputs : List (List ℕ)) (found : List Found) (workers : ℕ)
    → CanBegin b → AreShort inputs → All (IsMade workers) (rounds_after b inputs found)
    → made_reports (rounds_after b inputs found) ≡ reports_of (rounds_after b inputs found)
unfolding made_reports reports_of
reports-made b inputs found workers can short made =
    all-reports-made workers (rounds_after b inputs found) (each-round b inputs found workers can short made)

pub exits-made :
    (b : Beginning) (inputs : List (List ℕ)) (found : List Found) (workers : ℕ)
    → CanBegin b → AreShort inputs → All (IsMade workers) (rounds_after b inputs found)
    → all_made_exit (rounds_after b inputs found) ≡ all_exit (rounds_after b inputs found)
unfolding all_made_exit all_exit
exits-made b inputs found workers can short made =
    all-exits-made workers (rounds_after b inputs found) (each-round b inputs found workers can short made)

-- rounds that are reported one after the other
pub made-later :
    (b : Beginning) (inputs : List (List ℕ)) (found more : List Found)
    → made_reports (rounds_after b inputs (found ++ more))
    ≡ made_reports (rounds_after b inputs found)
    ++ made_reports (rounds_after (after_rounds b inputs found) (drop (length found) inputs) more)
unfolding made_reports
made-later b inputs found more =
    ap (map made_report) (rounds-later b inputs found more)
    ∙ map-append made_report (rounds_after b inputs found)
    (rounds_after (after_rounds b inputs found) (drop (length found) inputs) more)

pub made-one :
    (b : Beginning) (inputs : List (List ℕ)) (found : List Found) (input : List ℕ) (f : Found)
    → slice_get inputs (length found) ≡ Some input
    → made_reports (rounds_after b inputs (found ++ f ∷ []))
    ≡ made_reports (rounds_after b inputs found) ++ made_report (round_on (after_rounds b inputs found) input f) ∷ []
unfolding made_reports
made-one b inputs found input f is =
    ap (map made_report) (rounds-one b inputs found input f is)
    ∙ map-append made_report (rounds_after b inputs found) (round_on (after_rounds b inputs found) input f ∷ [])

pub exits-one :
    (b : Beginning) (inputs : List (List ℕ)) (found : List Found) (input : List ℕ) (f : Found)
    → slice_get inputs (length found) ≡ Some input
    → all_made_exit (rounds_after b inputs (found ++ f ∷ []))
    ≡ (all_made_exit (rounds_after b inputs found) && made_exits (round_on (after_rounds b inputs found) input f))
unfolding all_made_exit
exits-one b inputs found input f is =
    let r = round_on (after_rounds b inputs found) input f in
    ap (list_all made_exits) (rounds-one b inputs found input f is)
    ∙ list_all-append made_exits (rounds_after b inputs found) (r ∷ [])
    ∙ ap (λ (c : Bool). list_all made_exits (rounds_after b inputs found) && c) (and-true (made_exits r))
