-- How a `replay` command ends, from how its parts did.
use Rattle.std.specs.Prelude.{Ok}
use Rattle.schedule_list.specs.Schedule.{Says}
use Rattle.std.proofs.Common.{◌≡◌, ◌+◌, ◌≤◌, ℕ, Bool, true, false, List, [], length, Option, Some, sym, ap, subst, ◌∙◌, inl, inr}
use Rattle.elf_spec.specs.declared.TheConstants.{MOST_ELF_BYTES}
use Rattle.machine_spec.specs.declared.TheConstants.{MOST_INPUT_BYTES}
use Rattle.machine_spec.specs.declared.states.End.{End}
use Rattle.machine_spec.specs.Machine.{Machine}
use Rattle.machine_spec.specs.Setup.{Setup, first, scratch}
use Rattle.memory_spec.specs.Pages.{Memory}
use Rattle.report_spec.specs.declared.Entry.{Entry as Executed}
use Rattle.report_spec.specs.Report.{ReportData, no_extras, threads_of, data_of}
use Rattle.rerun_spec.specs.Reports.{is_exit, all_executed}
use Rattle.plain_machine.specs.declared.replaying.Outcome.{Outcome}
use Rattle.plain_machine.specs.Replaying.{IsOutcomeOf}
use Rattle.round_report.specs.Replay.{replay_text, replay_of}
use Rattle.schedule_list.specs.declared.TheConstants.{MOST_SCHEDULE_BYTES}
use Rattle.ith_host.specs.World.{World, Stays, AsksNothing, IsContent}
use Rattle.ith_words.specs.Words.{Replays, ReplayLine}
use Rattle.ith_commands.specs.declared.status.Status.{Status}
use Rattle.ith_commands.specs.declared.status.Status.TheVariants as status
use Rattle.ith_commands.specs.Statuses.{status_in}
use Rattle.ith_commands.specs.Files.{files_named, Reads, Quiet}
use Rattle.ith_commands.specs.Contents.{ReplayContents, AreReplayContents, replay_setup_of}
use Rattle.ith_commands.specs.Ends.{Prints, HasReplay, Token, RefusesSchedule, text_of_replay, IsReplayed, EndsEarly, ReplayEnds, Ends}
use Rattle.ith_commands.specs.Counting.{turns_of_replay, ReplaySpends}
use Rattle.ith_commands.specs.Refusals.{WhyNoSetup, WhyNoThreads, WhyUnreplayed, WhyUnprinted}
use Rattle.ith_commands.specs.Playing.{IsAskedReplay, ReportsReplay}
use Rattle.ith_commands.proofs.Worlds.{content_before, reads_then}
use Rattle.ith_commands.proofs.Printing.{prints_after}
use Rattle.ith_commands.proofs.Ending.{cut_ends}
use Rattle.ith_commands.proofs.OneText.{unstated}
use Rattle.ith_commands.proofs.Permitting.{executed-turns, executed-threads}

-- all files were read
pub replay_read :
    (line : ReplayLine) (a b : World) (elf input schedule : List ℕ)
    → Stays a b
    → IsContent a line.elf elf → length elf ≤ MOST_ELF_BYTES
    → IsContent a line.input input → length input ≤ MOST_INPUT_BYTES
    → IsContent b line.schedule schedule → length schedule ≤ MOST_SCHEDULE_BYTES
    → AreReplayContents a line (record { elf = elf; input = input; schedule = schedule })
replay_read line a b elf input schedule stays first first_within second second_within third third_within =
    record {
      elf = first;
      elf_within = first_within;
      input = second;
      input_within = second_within;
      schedule = content_before a b line.schedule schedule stays third;
      schedule_within = third_within;
    }

-- all files were read, and no setup was made of the executable
pub replay_refused :
    (line : ReplayLine) (a b : World) (contents : ReplayContents) (s : Status)
    → Reads (files_named (Replays line)) a b → AreReplayContents a line contents → WhyNoSetup contents.elf s
    → EndsEarly (Replays line) a b s
replay_refused line a b contents status.Image reads are why =
    record { asked = reads.asked; contents = contents; read = are; refused = why; stays = reads.stays }
replay_refused line a b contents status.NoMemory reads are why = cut_ends (files_named (Replays line)) a b reads
replay_refused line a b contents _ reads are why = absurd why

-- why the text of a schedule encodes no threads
pub unsaid_unreplayed : (setup : Setup) (text : List ℕ) (s : Status) → WhyNoThreads text s → WhyUnreplayed setup text s
unsaid_unreplayed setup text status.Schedule why = (Token why.0, why.1)
unsaid_unreplayed setup text status.NoMemory why = tt
unsaid_unreplayed setup text _ why = absurd why

-- the executable is accepted, and the schedule comes to no end
pub replay_endless :
    (line : ReplayLine) (a b c : World) (setup : Setup) (text : List ℕ) (s : Status)
    → IsAskedReplay line a b setup text → Quiet b c → WhyUnreplayed setup text s → Ends (Some (Replays line)) a c s
replay_endless line a b c setup text status.Schedule is quiet why =
    let reads = reads_then (files_named (Replays line)) a b c is.reads quiet in
    inr
    (record {
      asked = reads.asked;
      contents = is.contents;
      read = is.read;
      why = why.0;
      refused = subst (λ (t : List ℕ). RefusesSchedule (replay_setup_of line is.contents) t why.0) is.is_text
          (subst (λ (s : Setup). RefusesSchedule s text why.0) is.is_setup why.1);
      stays = reads.stays;
    })
replay_endless line a b c setup text status.NoMemory is quiet why =
    inl (cut_ends (files_named (Replays line)) a c (reads_then (files_named (Replays line)) a b c is.reads quiet))
replay_endless line a b c setup text _ is quiet why = absurd why

-- what is reported of a replay, part by part
abbrev form : List Executed → Option End → ℕ → Memory → List ℕ → ReportData
form entries ending instructions memory output =
    record {
      ending = ending;
      schedule = entries;
      extras = no_extras;
      instructions = instructions;
      worker_steps = [];
      memory = memory;
      output = output;
    }

-- the text of a replayed schedule is that of the machine from scratch
pub replay_reported :
    (setup : Setup) (threads text : List ℕ) (o : Outcome)
    → IsOutcomeOf setup threads o → ReportsReplay threads o text → text ≡ replay_of setup threads
replay_reported setup threads text o is tells =
    let entries = all_executed threads in
    let reported : ReportData = data_of setup entries no_extras [] in
    let machine : scratch setup threads ≡ scratch setup (threads_of entries) =
    ap (scratch setup) (sym (executed-threads threads)) in
    let ending : Some o.ending ≡ reported.ending = sym is.ending ∙ ap (λ (m : Machine). m.ending) machine in
    let turns : o.instructions ≡ reported.instructions =
    is.instructions ∙ sym (executed-turns (first setup) threads) in
    let memory : o.memory ≡ reported.memory = is.memory ∙ ap (λ (m : Machine). m.memory) machine in
    let output : o.output.items ≡ reported.output = is.output ∙ ap (λ (m : Machine). m.output) machine in
    tells
    ∙ ap (λ (e : Option End). replay_text (form entries e o.instructions o.memory o.output.items)) ending
    ∙ ap (λ (n : ℕ). replay_text (form entries reported.ending n o.memory o.output.items)) turns
    ∙ ap (λ (m : Memory). replay_text (form entries reported.ending reported.instructions m o.output.items)) memory
    ∙ ap (λ (l : List ℕ). replay_text (form entries reported.ending reported.instructions reported.memory l)) output

-- what was replayed
record IsReplay (line : ReplayLine) (a : World) (has : HasReplay line a) (o : Outcome) (text : List ℕ) : Type 0 where
  pub of : IsOutcomeOf (replay_setup_of line has.contents) has.threads o
  pub is_text : text ≡ text_of_replay line a has

has_replay :
    (line : ReplayLine) (a b : World) (setup : Setup) (said threads text : List ℕ) (o : Outcome)
    → IsAskedReplay line a b setup said → Says said (Ok threads) → IsOutcomeOf setup threads o
    → ReportsReplay threads o text → (has : HasReplay line a) × IsReplay line a has o text
has_replay line a b setup said threads text o is says of tells =
    let whole : IsOutcomeOf (replay_setup_of line is.contents) threads o =
    subst (λ (s : Setup). IsOutcomeOf s threads o) is.is_setup of in (
      record {
        contents = is.contents;
        read = is.read;
        threads = threads;
        can = record {
          said = subst (λ (t : List ℕ). Says t (Ok threads)) is.is_text says;
          permitted = whole.permitted;
          complete = whole.complete;
        };
      },
      record { of = whole; is_text = replay_reported (replay_setup_of line is.contents) threads text o whole tells },
    )

-- it was printed, and the counter rose by the turns of its steps
replayed :
    (line : ReplayLine) (a b d c : World) (setup : Setup) (said threads text : List ℕ) (o : Outcome) (exits : Bool)
    (before after : ℕ)
    → IsAskedReplay line a b setup said → Quiet b d → Says said (Ok threads) → IsOutcomeOf setup threads o
    → ReportsReplay threads o text → AsksNothing d c → Prints d c text → is_exit (Some o.ending) ≡ exits
    → after ≡ before + o.instructions
    → (done : IsReplayed line exits a c) × (after ≡ before + turns_of_replay line a done.has)
replayed line a b d c setup said threads text o exits before after is quiet says of tells none prints ends cost =
    let it = has_replay line a b setup said threads text o is says of tells in
    let reads = reads_then (files_named (Replays line)) a b d is.reads quiet in (
      record {
        asked = none ∙ reads.asked;
        has = it.0;
        prints = prints_after a d c (text_of_replay line a it.0) reads.stays (subst (Prints d c) it.1.is_text prints);
        ends = ap is_exit it.1.of.ending ∙ ends;
      },
      cost ∙ ap (λ (n : ℕ). before + n) it.1.of.instructions,
    )

pub replay_spent :
    (line : ReplayLine) (a b d c : World) (setup : Setup) (said threads text : List ℕ) (o : Outcome) (exits : Bool)
    (before after : ℕ)
    → IsAskedReplay line a b setup said → Quiet b d → Says said (Ok threads) → IsOutcomeOf setup threads o
    → ReportsReplay threads o text → AsksNothing d c → Prints d c text → is_exit (Some o.ending) ≡ exits
    → after ≡ before + o.instructions
    → ReplaySpends line a c before after (status_in (Ok exits))
replay_spent line a b d c setup said threads text o true before after is quiet says of tells none prints ends cost =
    replayed line a b d c setup said threads text o true before after is quiet says of tells none prints ends cost
replay_spent line a b d c setup said threads text o false before after is quiet says of tells none prints ends cost =
    replayed line a b d c setup said threads text o false before after is quiet says of tells none prints ends cost

-- so the command line ends
pub replay_ends :
    (line : ReplayLine) (a c : World) (before after : ℕ) (exits : Bool)
    → ReplaySpends line a c before after (status_in (Ok exits)) → Ends (Some (Replays line)) a c (status_in (Ok exits))
replay_ends line a c before after true spent = inr spent.0
replay_ends line a c before after false spent = inr spent.0

-- it wasn't printed whole
pub replay_unprinted :
    (line : ReplayLine) (a b d c : World) (setup : Setup) (said threads text : List ℕ) (o : Outcome) (s : Status)
    → IsAskedReplay line a b setup said → Quiet b d → Says said (Ok threads) → IsOutcomeOf setup threads o
    → ReportsReplay threads o text → AsksNothing d c → WhyUnprinted text d c s → Ends (Some (Replays line)) a c s
replay_unprinted line a b d c setup said threads text o s is quiet says of tells none why =
    let it = has_replay line a b setup said threads text o is says of tells in
    unstated (Replays line) (HasReplay line a) (text_of_replay line a) it.0 (λ s. ReplayEnds line a c s) a d c s
    (reads_then (files_named (Replays line)) a b d is.reads quiet) none (λ part. part)
    (subst (λ (l : List ℕ). WhyUnprinted l d c s) it.1.is_text why)
