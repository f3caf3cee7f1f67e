-- A round as its workers made it, and the page map of its history and of the one that it is based on.
use Rattle.std.proofs.Common.{◌≡◌, ◌+◌, ℕ, Bool, true, List, length, Option, Some, None, ap, sym, ◌∙◌, subst}
use Rattle.elf_spec.specs.Image.{image_pages}
use Rattle.thunk_spec.specs.Record.{Record}
use Rattle.machine_spec.specs.Machine.{Machine}
use Rattle.machine_spec.specs.Setup.{Setup}
use Rattle.history_spec.specs.History.{History}
use Rattle.report_spec.specs.declared.Entry.{Entry}
use Rattle.report_spec.specs.Report.{ReportData, Extras, no_extras, report_text}
use Rattle.round_spec.specs.Rounds.{RoundState, history_of}
use Rattle.round_spec.specs.Instructions.{executed_instructions}
use Rattle.round_spec.specs.Schedules.{IsBySchedule, events_in, round_by}
use Rattle.round_spec.proofs.Leaving.{round-past}
use Rattle.round_spec.specs.Workers.{IsMadeBy}
use Rattle.round_spec.specs.Watching.{IsProgress}
use Rattle.propagate.specs.Consistency.{IsOfMap}
use Rattle.propagate.proofs.Mapped.{same_image}
use Rattle.rerun_spec.specs.Rounds.{Found, Round, Beginning, made, resulting_history, round_on, with_input}
use Rattle.rerun_spec.specs.Reports.{extras_of, made_extras, data_as_made, is_exit}
use Rattle.rerun_spec.proofs.Ending.{resulting-own}
use Rattle.round_report.specs.Short.{short_text}
use Rattle.propagate.specs.Executing.{IsCostOf}
use Rattle.ith_commands.specs.Counting.{IsCounted}
use Rattle.ith_top.specs.Making.{text_by, round_text_by, IsMadeOn}
use Rattle.ith_top.specs.declared.report.Form.{Form}
use Rattle.ith_top.specs.declared.report.Form.TheVariants as form

-- what is reported of a round, part by part
abbrev data_of : Machine → List Entry → Extras → List Record → List ℕ → ReportData
data_of m schedule extras records worker_steps =
    record {
      ending = m.ending;
      schedule = schedule;
      extras = extras;
      instructions = executed_instructions schedule records;
      worker_steps = worker_steps;
      memory = m.memory;
      output = m.output;
    }

-- a round that is where its schedule leads, as it was made
record IsAlike (r : Round) (w : RoundState) : Type 0 where
  pub schedule : (made r).schedule ≡ w.schedule
  pub machine : (made r).machine ≡ w.machine
  pub records : (made r).records ≡ w.records
  pub setup : (made r).setup ≡ w.setup
  pub past : (made r).past ≡ w.past

alike_of :
    (r : Round) (w : RoundState)
    → w.setup ≡ r.setup → w.past ≡ r.past → r.found.entries ≡ w.schedule → IsBySchedule w → IsAlike r w
alike_of r w setup past entries by =
    let is : round_by w.setup w.past w.schedule ≡ made r =
    ap (λ (s : Setup). round_by s w.past w.schedule) setup
    ∙ ap (λ (p : Option History). round_by r.setup p w.schedule) past
    ∙ ap (round_by r.setup r.past) (sym entries) in
    record {
      schedule = ap (λ (v : RoundState). v.schedule) (sym is) ∙ by.schedule;
      machine = ap (λ (v : RoundState). v.machine) (sym is) ∙ by.machine;
      records = ap (λ (v : RoundState). v.records) (sym is) ∙ by.records;
      setup = resulting-own r ∙ sym setup;
      past = round-past r.setup r.past (events_in r.found.entries) ∙ sym past;
    }

alike-reported :
    (r : Round) (w : RoundState) (extras : Extras) (worker_steps : List ℕ)
    → IsAlike r w → data_as_made w extras worker_steps ≡ data_as_made (made r) extras worker_steps
alike-reported r w extras worker_steps alike =
    ap (λ (m : Machine). data_of m w.schedule extras w.records worker_steps) (sym alike.machine)
    ∙ ap (λ (es : List Entry). data_of (made r).machine es extras w.records worker_steps) (sym alike.schedule)
    ∙ ap (λ (rs : List Record). data_of (made r).machine (made r).schedule extras rs worker_steps) (sym alike.records)

-- and so is what is reported of it only on request
alike-extras :
    (r : Round) (w : RoundState) → IsAlike r w → extras_of r.asked w.past w.setup r.found.progress ≡ made_extras r
alike-extras r w alike =
    ap (λ (p : Option History). extras_of r.asked p w.setup r.found.progress) (sym alike.past)
    ∙ ap (λ (s : Setup). extras_of r.asked (made r).past s r.found.progress) (sym alike.setup)

abbrev the_history : Setup → List Record → History
the_history s rs = record { setup = s; records = rs }

alike-resulting : (r : Round) (w : RoundState) → IsAlike r w → history_of w ≡ resulting_history r
alike-resulting r w alike =
    ap (λ (s : Setup). the_history s w.records) (sym alike.setup)
    ∙ ap (the_history (resulting_history r).setup) (sym alike.records)

-- and so is what it cost
alike-cost :
    (workers : ℕ) (r : Round) (w : RoundState)
    → IsAlike r w → IsCostOf workers r.setup r.past w r.found.turns → IsCounted workers r
alike-cost workers r w alike cost =
    record {
      alone = λ one. cost.alone one
          ∙ ap (λ (es : List Entry). executed_instructions es w.records) (sym alike.schedule)
          ∙ ap (executed_instructions (made r).schedule) (sym alike.records);
      idle = cost.idle;
    }

-- and so is the text of its report
alike-text :
    (way : Form) (r : Round) (w : RoundState) (text : List ℕ) → IsAlike r w
    → text ≡ text_by way r.number (data_as_made w (extras_of r.asked w.past w.setup r.found.progress) r.found.worker_steps)
    → text ≡ round_text_by way r
unfolding short_text
alike-text form.Report r w text alike is =
    is
    ∙ ap (λ (e : Extras). report_text r.number (data_as_made w e r.found.worker_steps)) (alike-extras r w alike)
    ∙ ap (report_text r.number) (alike-reported r w (made_extras r) r.found.worker_steps alike)
alike-text form.Line r w text alike is =
    is ∙ ap (short_text r.number) (alike-reported r w no_extras r.found.worker_steps alike)

-- what workers made of a round: its text, its end and its history
pub made_on :
    (workers : ℕ) (way : Form) (b : Beginning) (input : List ℕ) (w : RoundState) (f : Found) (t u : ℕ) (text : List ℕ)
    (exit : Bool) (next : Beginning)
    → w.setup ≡ with_input b.setup input → w.past ≡ b.past → IsBySchedule w → f.entries ≡ w.schedule
    → IsMadeBy workers (with_input b.setup input) b.past w.schedule f.worker_steps
    → (b.asked.progress ≡ true → IsProgress workers (length w.schedule) f.progress)
    → IsCostOf workers (with_input b.setup input) b.past w f.turns
    → u ≡ t + f.turns
    → text ≡ text_by way b.number (data_as_made w (extras_of b.asked w.past w.setup f.progress) f.worker_steps)
    → exit ≡ is_exit w.machine.ending
    → next ≡ record { number = b.number + 1; past = Some (history_of w); setup = b.setup; asked = b.asked }
    → IsMadeOn workers way b input t u text exit next
made_on workers way b input w f t u text exit next setup past by entries is watched cost rise texts exits leaves =
    let r = round_on b input f in
    let alike : IsAlike r w = alike_of r w setup past entries by in
    record {
      found = f;
      made = subst (λ (es : List Entry). IsMadeBy workers (with_input b.setup input) b.past es f.worker_steps) (sym entries) is;
      watched = λ yes. subst (λ (es : List Entry). IsProgress workers (length es) f.progress) (sym entries) (watched yes);
      counted = alike-cost workers r w alike cost;
      turns = rise;
      is_text = alike-text way r w text alike texts;
      is_exit = exits ∙ ap (λ (m : Machine). is_exit m.ending) (sym alike.machine);
      is_next = leaves ∙ ap (λ (h : History). record {
        number = b.number + 1;
        past = Some h;
        setup = b.setup;
        asked = b.asked;
      }) (alike-resulting r w alike);
    }

-- a setup of the same executable has the same page map
of_same_elf : (past : Option History) (s t : Setup) → s.elf ≡ t.elf → IsOfMap past s → IsOfMap past t
of_same_elf None s t same is = tt
of_same_elf (Some h) s t same is = is ∙ same_image s t (ap image_pages same)

-- a round that is based on a history of its page map stays on that map
pub round_map :
    (b : Beginning) (input : List ℕ) (w : RoundState) → w.setup ≡ with_input b.setup input → w.past ≡ b.past
    → IsOfMap b.past b.setup → IsOfMap w.past w.setup
round_map b input w setup past is =
    subst (λ (p : Option History). IsOfMap p w.setup) (sym past)
    (of_same_elf b.past b.setup w.setup (sym (ap (λ (s : Setup). s.elf) setup)) is)

-- and its own history is of that map
pub left_map :
    (workers : ℕ) (way : Form) (b : Beginning) (input : List ℕ) (t u : ℕ) (text : List ℕ) (exit : Bool) (next : Beginning)
    → IsMadeOn workers way b input t u text exit next → IsOfMap next.past next.setup
left_map workers way b input t u text exit next on =
    let r = round_on b input on.found in
    subst (λ (n : Beginning). IsOfMap n.past n.setup) (sym on.is_next)
    (same_image (resulting_history r).setup b.setup (ap image_pages (ap (λ (s : Setup). s.elf) (resulting-own r))))
