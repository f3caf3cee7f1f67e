-- If its files are stated and accepted, a command line is done, or the host's memory ran out.
use Rattle.std.proofs.Common.{◌≡◌, ◌<◌, ◌≤◌, ℕ, true, false, List, [], ◌∷◌, ◌++◌, length, Option, Some, None, ◌⊎◌, inl, inr, refl, sym, ap, ◌∙◌, subst, arith}
use Rattle.std.specs.Prelude.{IfSome, Ok, Err}
use Rattle.elf_spec.specs.declared.TheConstants.{MOST_ELF_BYTES}
use Rattle.edit_spec.specs.declared.TheConstants.{MOST_LIST_BYTES}
use Rattle.machine_spec.specs.declared.TheConstants.{MOST_INPUT_BYTES}
use Rattle.memo_spec.specs.declared.TheConstants.{MOST_MEMO_BYTES}
use Rattle.memo_spec.specs.declared.Refusal.{Refusal as MemoRefusal}
use Rattle.memo_spec.specs.Encoding.{Encodes}
use Rattle.memo_spec.specs.Reading.{reading}
use Rattle.memo_spec.proofs.Laws.{one_history, encoded_is_read}
use Rattle.history_spec.specs.History.{History}
use Rattle.machine_spec.specs.Setup.{Setup, is_permitted, is_complete}
use Rattle.schedule_list.specs.declared.TheConstants.{MOST_SCHEDULE_BYTES}
use Rattle.schedule_list.specs.Schedule.{tokens}
use Rattle.schedule_list.proofs.Saying.{one_thing}
use Rattle.ith_host.specs.World.{World, Rose}
use Rattle.elf_spec.specs.Image.{is_image}
use Rattle.rerun_spec.specs.Inputs.{AreInputs, AreRerunInputs}
use Rattle.rerun_spec.proofs.Inputs.{inputs-unrefused, rerun-unrefused}
use Rattle.ith_words.specs.Words.{Text, Line, Runs, Reruns, Replays, Shows, Explains, FindsRaces, Audits, Generates, RunLine, RerunLine, ReplayLine, AuditLine, GenerateLine}
use Rattle.ith_commands.specs.declared.status.Status.{Status}
use Rattle.ith_commands.specs.declared.status.Status.TheVariants as status
use Rattle.ith_commands.specs.Statuses.{code_of}
use Rattle.ith_commands.specs.Files.{Named, StopsAt, FailedToRead, IsLong, files_named, lists_named, memo_named}
use Rattle.ith_commands.specs.Contents.{AreLists, ReplayContents, AreReplayContents, replay_setup_of, CanBeReplayed, IsMemoContent, IsMemoOf, as_rerun, as_show}
use Rattle.ith_commands.specs.Ends.{OfNone, IsUnkept, IsUnprinted, ScheduleRefusal, Token, Entry, Incomplete, RefusesSchedule, IsMemoRefused, IsRerunMemoRefused, IsRerunListRefused, IsReplayImageRefused, RefusesImage, RefusesList, TextEnds, EndsBy, RoundsEnd, ReplayEnds, AuditEnds, GenerateEnds, Answers}
use Rattle.ith_top.specs.Completing.{AreStated, HasNoFault, AreAccepted, IsAcceptedMemo, AreRerunAccepted, IsReplayAccepted, IsCompleted, IsReported, IsListed, IsJudged, Completes}
use Rattle.ith_commands.proofs.Permitting.{first-permitted}

none_there : (fact : Named → Type 0) (earlier : List Named) (file : Named) (later : List Named)
    → OfNone fact (earlier ++ file ∷ later) → fact file → ⊥
none_there fact [] file later none there = none.0 there
none_there fact (first ∷ earlier) file later none there = none_there fact earlier file later none.1 there

none_stops : (fact : Named → Type 0) (files : List Named) (a b : World) → OfNone fact files → StopsAt fact files a b → ⊥
none_stops fact files a b none stops =
    none_there fact stops.earlier stops.file stops.later (subst (OfNone fact) stops.are none) stops.cause

-- a file whose content is stated has that content
content-reported : (reported : Option (List ℕ)) (bytes content : List ℕ) → reported ≡ Some bytes → IfSome reported (λ t. t ≡ content)
    → bytes ≡ content
content-reported reported bytes content is says = let h =
    subst (λ (o : Option (List ℕ)). IfSome o (λ t. t ≡ content)) is says in h

short-reported : (reported : Option (List ℕ)) (bytes : List ℕ) (most : ℕ) → reported ≡ Some bytes → length bytes ≤ most
    → IfSome reported (λ t. most < length t) → ⊥
short-reported reported bytes most is within long =
    let h = subst (λ (o : Option (List ℕ)). IfSome o (λ t. most < length t)) is long in absurd (omega arith)

-- the same of edit lists
lists-reported :
    (before : World) (names : List Text) (reported lists : List (List ℕ))
    → AreStated before names reported → AreLists before names lists → reported ≡ lists
lists-reported before [] [] [] is says = refl
lists-reported before [] [] (list ∷ lists) is says = absurd says
lists-reported before [] (t ∷ reported) lists is says = absurd is
lists-reported before (name ∷ names) [] lists is says = absurd is
lists-reported before (name ∷ names) (t ∷ reported) [] is says = absurd says
lists-reported before (name ∷ names) (t ∷ reported) (list ∷ lists) is says =
    let first : t ≡ list = content-reported (before.files name) t list is.0 says.0.0 in
    let rest : reported ≡ lists = lists-reported before names reported lists is.1 says.1 in
    rw (first, rest) refl

lists-short :
    (before : World) (names : List Text) (reported : List (List ℕ))
    → AreStated before names reported → AreLists before names reported → OfNone (IsLong before) (lists_named names)
lists-short before [] reported is within = tt
lists-short before (name ∷ names) [] is within = absurd is
lists-short before (name ∷ names) (t ∷ reported) is within =
    (short-reported (before.files name) t MOST_LIST_BYTES is.0 within.0.1, lists-short before names reported is.1 within.1)

-- if the contents of all files are stated and within their limits, no file is too long
run-short : (line : RunLine) (before : World) → AreAccepted line before
    → OfNone (IsLong before) (files_named (Runs line))
run-short line before are = (
  short-reported (before.files line.elf) are.contents.elf MOST_ELF_BYTES are.elf are.read.contents.elf_within,
  (
    short-reported (before.files line.input) are.contents.input MOST_INPUT_BYTES are.input are.read.contents.input_within,
    lists-short before line.edits are.contents.lists are.lists are.read.contents.lists,
  ),
)

memo-short : (name : Text) (before : World) → IsAcceptedMemo name before → IsLong before (memo_named name) → ⊥
memo-short name before is = short-reported (before.files name) is.memo MOST_MEMO_BYTES is.stated is.read.within

-- writing and printing fail only by a fault
unfailing :
    (line : Line) (before after : World) → HasNoFault line before after
    → IsUnprinted line before after ⊎ IsUnkept line before after → ⊥
unfailing line before after none fails =
    elim fails [
      | inl unprinted ↦ none.prints unprinted.part.cause
      | inr unkept ↦
          let never = subst (λ (name : Option Text). IfSome name
          (λ n. Rose (before.write_faults n) (after.write_faults n) → ⊥)) unkept.is_named none.writes in
          never unkept.cause
    ]

-- a file that is accepted as a memo of a history isn't refused
accepted-taken : (memo : List ℕ) (h : History) (why : MemoRefusal) → IsMemoOf memo h → reading memo ≡ Err why → ⊥
accepted-taken memo h why is refused =
    let taken : reading memo ≡ Ok h = encoded_is_read memo h is in
    absurd (let no : Ok h ≡ Err why = sym taken ∙ refused in cc)

unrefused :
    (name : Text) (before : World) (memo : List ℕ) (why : MemoRefusal)
    → IsAcceptedMemo name before → IsMemoContent before name memo → reading memo ≡ Err why → ⊥
unrefused name before memo why is read refused =
    let same : is.memo ≡ memo = content-reported (before.files name) is.memo memo is.stated read.content in
    accepted-taken is.memo is.history why is.accepted (ap reading same ∙ refused)

-- nothing ends a command line of these files before anything is made for it: no file is too long, if its content is
-- stated and within its limit, and none is refused
record IsFree (files : List Named) (image memo list : Type 0) (before : World) : Type 0 where
  pub takes_image : image → ⊥
  pub takes_memo : memo → ⊥
  pub takes_lists : list → ⊥
  pub short : OfNone (IsLong before) files

-- so it ends early only if the host's memory ran out
early :
    (files : List Named) (image memo list : Type 0) (before after : World) (s : Status)
    → IsFree files image memo list before → OfNone (FailedToRead before after) files
    → EndsBy files image memo list before after s → code_of s ≡ code_of status.NoMemory
early files image memo list before after status.Image free none ends = absurd (free.takes_image ends)
early files image memo list before after status.Memo free none ends = absurd (free.takes_memo ends)
early files image memo list before after status.EditList free none ends = absurd (free.takes_lists ends)
early files image memo list before after status.ReadFault free none ends =
    absurd (none_stops (FailedToRead before after) files before after none ends.stops)
early files image memo list before after status.NoMemory free none ends = refl
early files image memo list before after status.TooLarge free none ends =
    absurd (none_stops (IsLong before) files before after free.short ends.stops)
early files image memo list before after _ free none ends = absurd ends

-- and else it is completed
completed :
    (line : Line) (before after : World) (answer : ℕ) (s : Status)
    → answer ≡ code_of s → HasNoFault line before after → RoundsEnd line before after s
    → IsCompleted line before after answer
completed line before after answer status.Finished is none ends = inl is
completed line before after answer status.Unfinished is none ends = inr (inl is)
completed line before after answer status.WriteFault is none ends = absurd (unfailing line before after none ends)
completed line before after answer status.NoMemory is none ends = inr (inr (inl is))
completed line before after answer status.TooLarge is none ends = inr (inr (inr (is, ends)))
completed line before after answer _ is none ends = absurd ends

-- or its text is printed whole
listed :
    (whole part : Type 0) (answer : ℕ) (s : Status) → answer ≡ code_of s → (part → ⊥) → TextEnds whole part s
    → IsListed answer
listed whole part answer status.Finished is none ends = inl is
listed whole part answer status.WriteFault is none ends = absurd (none ends)
listed whole part answer _ is none ends = absurd ends

run-free :
    (line : RunLine) (before after : World) → AreAccepted line before
    → IsFree (files_named (Runs line)) (RefusesImage (Runs line) before after) ⊥ (RefusesList (Runs line) before after) before
run-free line before after are =
    record {
      takes_image = λ ends.
          let same : are.contents.elf ≡ ends.contents.elf =
          content-reported (before.files line.elf) are.contents.elf ends.contents.elf are.elf ends.read.elf in
          let taken : is_image are.contents.elf ≡ true = are.read.accepted in
          let refused : is_image are.contents.elf ≡ false = ap is_image same ∙ ends.refused in
          absurd (cc);
      takes_memo = λ ends. ends;
      takes_lists = λ ends.
          let input : are.contents.input ≡ ends.contents.input =
          content-reported (before.files line.input) are.contents.input ends.contents.input are.input
          ends.read.contents.input in
          let lists : are.contents.lists ≡ ends.contents.lists =
          lists-reported before line.edits are.contents.lists ends.contents.lists are.lists ends.read.contents.lists in
          let edited : AreInputs ends.contents.input ends.contents.lists are.inputs =
          subst (λ (i : List ℕ). AreInputs i ends.contents.lists are.inputs) input
          (subst (λ (ls : List (List ℕ)). AreInputs are.contents.input ls are.inputs) lists are.edited) in
          inputs-unrefused ends.contents.input ends.contents.lists are.inputs ends.place ends.why edited ends.refused;
      short = run-short line before are;
    }

-- a memo is that of one history
one-memo : (memo other : List ℕ) (h k : History) → memo ≡ other → IsMemoOf memo h → IsMemoOf other k → h ≡ k
one-memo memo other h k same is also =
    one_history memo h k (is.format, is.encodes)
    (subst (λ (m : List ℕ). Encodes m k) (sym same) (also.format, also.encodes))

-- edit lists that are accepted aren't refused
rerun-unlisted :
    (line : RerunLine) (before after : World) → AreRerunAccepted line before → IsRerunListRefused line before after → ⊥
rerun-unlisted line before after are ends =
    let same : are.memo.memo ≡ ends.memo =
    content-reported (before.files line.memo) are.memo.memo ends.memo are.memo.stated ends.read.content in
    let one : are.memo.history ≡ ends.history =
    one-memo are.memo.memo ends.memo are.memo.history ends.history same are.memo.accepted ends.accepted in
    let lists : are.lists ≡ ends.lists =
    lists-reported before line.edits are.lists ends.lists are.lists_stated ends.lists_read in
    let edited : AreRerunInputs ends.history.setup.input ends.lists are.inputs =
    subst (λ (h : History). AreRerunInputs h.setup.input ends.lists are.inputs) one
    (subst (λ (ls : List (List ℕ)). AreRerunInputs are.memo.history.setup.input ls are.inputs) lists are.edited) in
    rerun-unrefused ends.history.setup.input ends.lists are.inputs ends.place ends.why edited ends.refused

-- if the contents of all files of a rerun are stated and within their limits, none is too long
rerun-short : (line : RerunLine) (before : World) → AreRerunAccepted line before
    → OfNone (IsLong before) (files_named (Reruns line))
rerun-short line before are = (
  memo-short line.memo before are.memo,
  lists-short before line.edits are.lists are.lists_stated are.lists_read,
)

rerun-free :
    (line : RerunLine) (before after : World) → AreRerunAccepted line before
    → IsFree (files_named (Reruns line)) ⊥ (IsRerunMemoRefused line before after) (IsRerunListRefused line before after)
    before
rerun-free line before after are =
    record {
      takes_image = λ ends. ends;
      takes_memo = λ ends. unrefused line.memo before ends.memo ends.why are.memo ends.read ends.refused;
      takes_lists = λ ends. rerun-unlisted line before after are ends;
      short = rerun-short line before are;
    }

memo-free :
    (name : Text) (before after : World) → IsAcceptedMemo name before
    → IsFree (memo_named name ∷ []) ⊥ (IsMemoRefused (as_show name) before after) ⊥ before
memo-free name before after is =
    record {
      takes_image = λ ends. ends;
      takes_memo = λ ends. unrefused name before ends.memo ends.why is ends.read ends.refused;
      takes_lists = λ ends. ends;
      short = (memo-short name before is, tt);
    }

-- a schedule to replay whose threads are permitted and come to an end isn't refused
schedule-unrefused :
    (setup : Setup) (text threads : List ℕ) (why : ScheduleRefusal) → CanBeReplayed setup text threads
    → RefusesSchedule setup text why → ⊥
schedule-unrefused setup text threads (Token i) can refused =
    let same : Ok threads ≡ Err i = one_thing (tokens text) (Ok threads) (Err i) can.said refused in absurd (cc)
schedule-unrefused setup text threads (Entry i) can refused =
    let same : Ok threads ≡ Ok refused.0 = one_thing (tokens text) (Ok threads) (Ok refused.0) can.said refused.1 in
    let one : threads ≡ refused.0 = cc in
    first-permitted setup refused.0 i (subst (λ (ts : List ℕ). is_permitted setup ts ≡ true) one can.permitted) refused.2
schedule-unrefused setup text threads Incomplete can refused =
    let same : Ok threads ≡ Ok refused.0 = one_thing (tokens text) (Ok threads) (Ok refused.0) can.said refused.1 in
    let one : threads ≡ refused.0 = cc in
    let whole : is_complete setup refused.0 ≡ true =
    subst (λ (ts : List ℕ). is_complete setup ts ≡ true) one can.complete in
    let cut : is_complete setup refused.0 ≡ false = refused.3 in
    absurd (cc)

-- if the contents of all files of a replay are stated and within their limits, none is too long
replay-short : (line : ReplayLine) (before : World) → IsReplayAccepted line before
    → OfNone (IsLong before) (files_named (Replays line))
replay-short line before are = (
  short-reported (before.files line.elf) are.contents.elf MOST_ELF_BYTES are.elf are.read.contents.elf_within,
  (
    short-reported (before.files line.input) are.contents.input MOST_INPUT_BYTES are.input are.read.contents.input_within,
    (
      short-reported (before.files line.schedule) are.contents.schedule MOST_SCHEDULE_BYTES are.schedule
          are.read.contents.schedule_within,
      tt,
    ),
  ),
)

abbrev with_contents : List ℕ → List ℕ → List ℕ → ReplayContents
with_contents elf input schedule = record { elf = elf; input = input; schedule = schedule }

-- the contents that were read are the stated ones
replay-same :
    (line : ReplayLine) (before : World) (are : IsReplayAccepted line before) (c : ReplayContents)
    → AreReplayContents before line c → are.contents ≡ c
replay-same line before are c read =
    let elf : are.contents.elf ≡ c.elf = content-reported (before.files line.elf) are.contents.elf c.elf are.elf read.elf in
    let input : are.contents.input ≡ c.input =
    content-reported (before.files line.input) are.contents.input c.input are.input read.input in
    let schedule : are.contents.schedule ≡ c.schedule =
    content-reported (before.files line.schedule) are.contents.schedule c.schedule are.schedule read.schedule in
    ap (λ (l : List ℕ). with_contents l are.contents.input are.contents.schedule) elf
    ∙ ap (λ (l : List ℕ). with_contents c.elf l are.contents.schedule) input
    ∙ ap (with_contents c.elf c.input) schedule

nothing-free : (before : World) → IsFree [] ⊥ ⊥ ⊥ before
nothing-free before =
    record { takes_image = λ ends. ends; takes_memo = λ ends. ends; takes_lists = λ ends. ends; short = tt }

replay-free :
    (line : ReplayLine) (before after : World) → IsReplayAccepted line before
    → IsFree (files_named (Replays line)) (IsReplayImageRefused line before after) ⊥ ⊥ before
replay-free line before after are =
    record {
      takes_image = λ ends.
          let same : are.contents ≡ ends.contents = replay-same line before are ends.contents ends.read in
          let taken : is_image are.contents.elf ≡ true = are.read.accepted in
          let refused : is_image are.contents.elf ≡ false =
          ap (λ (c : ReplayContents). is_image c.elf) same ∙ ends.refused in
          absurd (cc);
      takes_memo = λ ends. ends;
      takes_lists = λ ends. ends;
      short = replay-short line before are;
    }

replayed :
    (line : ReplayLine) (before after : World) (answer : ℕ) (s : Status)
    → answer ≡ code_of s → ReplayEnds line before after s → IsReplayAccepted line before
    → HasNoFault (Replays line) before after → IsReported answer
replayed line before after answer status.Finished is ends are none = inl is
replayed line before after answer status.Unfinished is ends are none = inr (inl is)
replayed line before after answer status.WriteFault is ends are none = absurd (none.prints ends.part.cause)
replayed line before after answer status.Schedule is ends are none =
    let same : are.contents ≡ ends.contents = replay-same line before are ends.contents ends.read.contents in
    absurd
    (schedule-unrefused (replay_setup_of line ends.contents) ends.contents.schedule are.threads ends.why
    (subst (λ (c : ReplayContents). CanBeReplayed (replay_setup_of line c) c.schedule are.threads) same are.can)
    ends.refused)
replayed line before after answer _ is ends are none = absurd ends

generated :
    (line : GenerateLine) (before after : World) (answer : ℕ) (s : Status)
    → answer ≡ code_of s → GenerateEnds line before after s → HasNoFault (Generates line) before after → IsReported answer
generated line before after answer status.Finished is ends none = inl is
generated line before after answer status.Unfinished is ends none = inr (inl is)
generated line before after answer status.WriteFault is ends none = absurd (none.prints ends.part.cause)
generated line before after answer _ is ends none = absurd ends

judged :
    (line : AuditLine) (before after : World) (answer : ℕ) (s : Status)
    → answer ≡ code_of s → AuditEnds line before after s → HasNoFault (Audits line) before after → IsJudged answer
judged line before after answer status.Finished is ends none = inl is
judged line before after answer status.Untrue is ends none = inr (inl is)
judged line before after answer status.WriteFault is ends none = absurd (none.prints ends.part.cause)
judged line before after answer _ is ends none = absurd ends

pub complete : (line : Option Line) (before after : World) (answer : ℕ) → Answers line before after answer
    → Completes line before after answer
complete None before after answer answers = tt
complete (Some (Runs line)) before after answer (s, is, ends) =
    λ are none. elim ends [
      | inl soon ↦ inr (inr (inl
          (is ∙ early _ _ _ _ before after s (run-free line before after are) none.reads soon)))
      | inr late ↦ completed (Runs line) before after answer s is none late
    ]
complete (Some (Reruns line)) before after answer (s, is, ends) =
    λ are none. elim ends [
      | inl soon ↦ inr (inr (inl
          (is ∙ early _ _ _ _ before after s (rerun-free line before after are) none.reads soon)))
      | inr late ↦ completed (Reruns line) before after answer s is none late
    ]
complete (Some (Replays line)) before after answer (s, is, ends) =
    λ are none. elim ends [
      | inl soon ↦ inr (inr (is ∙ early _ _ _ _ before after s (replay-free line before after are) none.reads soon))
      | inr late ↦ replayed line before after answer s is late are none
    ]
complete (Some (Generates line)) before after answer (s, is, ends) =
    λ none. elim ends [
      | inl soon ↦ inr (inr (is ∙ early [] ⊥ ⊥ ⊥ before after s (nothing-free before) tt soon))
      | inr late ↦ generated line before after answer s is late none
    ]
complete (Some (Explains line)) before after answer (s, is, ends) =
    λ are none. elim ends [
      | inl soon ↦ inr (is ∙ early _ _ _ _ before after s (rerun-free (as_rerun line) before after are) none.reads soon)
      | inr late ↦ listed _ _ answer s is (λ part. none.prints part.part.cause) late
    ]
complete (Some (FindsRaces line)) before after answer (s, is, ends) =
    λ memo none. elim ends [
      | inl soon ↦ inr (is ∙ early _ _ _ _ before after s (memo-free line.memo before after memo) none.reads soon)
      | inr late ↦ listed _ _ answer s is (λ part. none.prints part.part.cause) late
    ]
complete (Some (Shows line)) before after answer (s, is, ends) =
    λ memo none. elim ends [
      | inl soon ↦ inr (is ∙ early _ _ _ _ before after s (memo-free line.memo before after memo) none.reads soon)
      | inr late ↦ listed _ _ answer s is (λ part. none.prints part.part.cause) late
    ]
complete (Some (Audits line)) before after answer (s, is, ends) =
    λ memo none. elim ends [
      | inl soon ↦ inr (inr
          (is ∙ early _ _ _ _ before after s (memo-free line.memo before after memo) none.reads soon))
      | inr late ↦ judged line before after answer s is late none
    ]
