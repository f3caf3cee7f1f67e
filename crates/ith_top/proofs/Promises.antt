-- The promises on the rounds of a plan.
use Rattle.std.proofs.Common.{◌≡◌, ◌<◌, ◌≤◌, arith, ℕ, List, [], ◌∷◌, Option, Some, None, length, sym, ap, ◌∙◌, subst}
use Rattle.std.specs.Prelude.{All, slice_get}
use Rattle.std.specs.List.{AllByRecursion}
use Rattle.std.proofs.lemmas.List.Elements.{All-from_recursion, recursion_from_All}
use Rattle.machine_spec.specs.Limits.{Limits}
use Rattle.machine_spec.specs.Setup.{Setup, IsSetup}
use Rattle.history_spec.specs.History.{History, IsHonest, IsSameProgram}
use Rattle.memo_spec.specs.Encoding.{AreBytes, IsEncodable}
use Rattle.round_spec.specs.Rounds.{RoundState}
use Rattle.round_spec.specs.Schedules.{events_in}
use Rattle.round_spec.proofs.Workers.{workers-permitted, workers-complete}
use Rattle.round_spec.proofs.ByWorkers.{reexecutes-made}
use Rattle.rerun_spec.specs.Inputs.{AreShort}
use Rattle.rerun_spec.specs.declared.Asked.{Asked}
use Rattle.rerun_spec.specs.Rounds.{Found, Round, Beginning, IsMade, resulting_history, limits_of, with_input, with_limits, asked_by, nothing_asked, from_scratch, after_memo, CanBegin, round_on, after_round, rounds_after, last_history, IsUneditedRerun}
use Rattle.rerun_spec.proofs.Rounds.{IsSoundlyMade, each-round, each-made, each-short, at-place, with-short, first-past, scratch-begins, memo-begins, round-made, round-found, round-alone, round-honest}
use Rattle.rerun_spec.proofs.Repeating.{IsAgain, repeated-after, rerun-again, again-reuses, again-instructions, after-schedule, after-machine}
use Rattle.rerun_spec.proofs.Reports.{reports-made, exits-made}
use Rattle.rerun_spec.proofs.Ending.{resulting-own}
use Rattle.rerun_spec.specs.Encoded.{IsEncodedPast}
use Rattle.rerun_spec.proofs.Events.{round-encoded}
use Rattle.ith_host.specs.World.{World}
use Rattle.ith_words.specs.Words.{Line, Runs, Reruns, Replays, Shows, Explains, FindsRaces, Audits, Generates, RerunLine}
use Rattle.ith_commands.specs.Contents.{Plan, IsRerunPlan, IsPlan, setup_of, as_rerun, workers_of, limits_for}
use Rattle.rerun_spec.specs.Making.{OnlyRepeats}
use Rattle.ith_commands.specs.Rounds.{IsPromised, ArePromised, BeginsHonestly, CanBeKept, rounds_of}
use Rattle.ith_commands.specs.Ends.{last_history_of}
use Rattle.ith_commands.specs.Playing.{AreFound, CanBePlayed, CanBeEncoded}

-- the promises on a round hold of each that was soundly made
promised : (workers : ℕ) (r : Round) → IsSoundlyMade workers r → IsPromised workers r
promised workers r is =
    record {
      entries = is.made.stands;
      permitted = workers-permitted workers r.setup r.past r.found.entries r.found.worker_steps is.can is.made;
      complete = workers-complete workers r.setup r.past r.found.entries r.found.worker_steps is.can is.made;
      marks = round-found workers r is;
      alone = λ one. round-alone r (subst (λ (n : ℕ). IsSoundlyMade n r) one is);
      picked = is.made.picked is.can.sound;
      least = reexecutes-made workers r.setup r.past r.found.entries r.found.worker_steps is.can.valid is.made;
      setup = resulting-own r;
      honest = round-honest workers r is;
      records = ap (λ (w : RoundState). w.records) (round-made workers r is);
    }

each-promised :
    (workers : ℕ) (rounds : List Round) → AllByRecursion (IsSoundlyMade workers) rounds
    → AllByRecursion (IsPromised workers) rounds
each-promised workers [] all = tt
each-promised workers (r ∷ rounds) all = (promised workers r all.0, each-promised workers rounds all.1)

again_repeats : (workers : ℕ) (h : History) (r : Round) → IsAgain h r → IsMade workers r → OnlyRepeats h r
again_repeats workers h r again made =
    record { reuses = again-reuses workers h r again made; instructions = again-instructions workers h r again made }

-- if the first round has the setup of the history that it is based on, it only repeats that history
abbrev Unedited : Beginning → List (List ℕ) → List Found → Type 0
Unedited b inputs found = (r : Round) (h : History) → slice_get (rounds_after b inputs found) 0 ≡ Some r
    → r.past ≡ Some h → r.setup ≡ h.setup → OnlyRepeats h r

-- the promises on rounds hold of those of a beginning whose rounds may be made
promised_after :
    (workers : ℕ) (b : Beginning) (inputs : List (List ℕ)) (found : List Found)
    → CanBegin b → AreShort inputs → All (IsMade workers) (rounds_after b inputs found) → Unedited b inputs found
    → ArePromised workers (rounds_after b inputs found)
promised_after workers b inputs found can short made unedited =
    record {
      each = All-from_recursion (IsPromised workers) (rounds_after b inputs found)
          (each-promised workers (rounds_after b inputs found) (each-round b inputs found workers can short made));
      reports = reports-made b inputs found workers can short made;
      exits = exits-made b inputs found workers can short made;
      repeated = λ before after repeated.
          let is = repeated-after b inputs found workers before after can short made repeated in
          record {
            repeats = again_repeats workers (resulting_history before) after is.again is.made;
            schedule = after-schedule workers before after is;
            machine = after-machine workers before after is;
          };
      unedited = unedited;
    }

-- from scratch there is no history to be based on
none_unedited :
    (s : Setup) (asked : Asked) (inputs : List (List ℕ)) (found : List Found)
    → Unedited (from_scratch s asked) inputs found
none_unedited s asked inputs found r h first past same =
    let none : None ≡ Some h = sym (first-past (from_scratch s asked) inputs found r first) ∙ past in absurd (cc)

-- after a memo there is the memo's history
memo_unedited :
    (workers : ℕ) (h : History) (limits : Limits) (asked : Asked) (inputs : List (List ℕ)) (found : List Found) → IsHonest h
    → All (IsMade workers) (rounds_after (after_memo h limits asked) inputs found)
    → Unedited (after_memo h limits asked) inputs found
memo_unedited workers h limits asked inputs found honest made r k first past same =
    let is : Some h ≡ Some k = sym (first-past (after_memo h limits asked) inputs found r first) ∙ past in
    let one : h ≡ k = cc in
    let its : r.setup ≡ h.setup = same ∙ ap (λ (x : History). x.setup) (sym one) in
    let unedited : IsUneditedRerun h limits asked inputs found r =
    record {
      first = first;
      same_input = ap (λ (s : Setup). s.input) its;
      same_limits = ap limits_of its;
    } in
    let rounds = rounds_after (after_memo h limits asked) inputs found in
    let this : IsMade workers r = at-place (IsMade workers) rounds 0 r (each-made workers rounds made) first in
    subst (λ (x : History). OnlyRepeats x r) one
    (again_repeats workers h r (rerun-again h limits asked inputs found r honest unedited) this)

-- rounds from scratch
pub promised_from_scratch :
    (workers : ℕ) (s : Setup) (asked : Asked) (p : Plan) (found : List Found)
    → p.beginning ≡ from_scratch s asked → CanBePlayed p → CanBeEncoded p → AreFound workers p found
    → ArePromised workers (rounds_of p found)
promised_from_scratch workers s asked p found begins playable encoded are =
    let valid : IsSetup s = subst (λ (b : Beginning). IsSetup b.setup) begins encoded.valid in
    let made : All (IsMade workers) (rounds_after (from_scratch s asked) p.inputs found) =
    subst (λ (b : Beginning). All (IsMade workers) (rounds_after b p.inputs found)) begins are.made in
    subst (λ (b : Beginning). ArePromised workers (rounds_after b p.inputs found)) (sym begins)
    (promised_after workers (from_scratch s asked) p.inputs found (scratch-begins s asked valid) playable.short made
    (none_unedited s asked p.inputs found))

-- rounds that are based on a memo
promised_rerun :
    (line : RerunLine) (a : World) (p : Plan) (found : List Found)
    → IsRerunPlan line a p → CanBePlayed p → CanBeEncoded p → AreFound line.workers p found
    → BeginsHonestly p.beginning → ArePromised line.workers (rounds_of p found)
promised_rerun line a p found is playable encoded are honest =
    let h = is.history in
    let limits = limits_for line h in
    let true_of : IsHonest h = subst (λ (b : Beginning). BeginsHonestly b) is.beginning honest in
    let valid : IsSetup (with_limits h.setup limits) =
    subst (λ (b : Beginning). IsSetup b.setup) is.beginning encoded.valid in
    let made : All (IsMade line.workers) (rounds_after (after_memo h limits (asked_by line.reach line.progress)) p.inputs found) =
    subst (λ (b : Beginning). All (IsMade line.workers) (rounds_after b p.inputs found)) is.beginning are.made in
    subst (λ (b : Beginning). ArePromised line.workers (rounds_after b p.inputs found)) (sym is.beginning)
    (promised_after line.workers (after_memo h limits (asked_by line.reach line.progress)) p.inputs found
    (memo-begins h limits (asked_by line.reach line.progress) true_of valid.limits) playable.short made (memo_unedited line.workers h limits (asked_by line.reach line.progress) p.inputs found true_of made))

-- the rounds of a command line begin as its plan states
pub promised_of :
    (line : Line) (a : World) (p : Plan) (found : List Found)
    → IsPlan line a p → CanBePlayed p → CanBeEncoded p → AreFound (workers_of line) p found
    → BeginsHonestly p.beginning → ArePromised (workers_of line) (rounds_of p found)
promised_of (Runs line) a p found is playable encoded are honest =
    promised_from_scratch line.workers (setup_of line is.contents) (asked_by line.reach line.progress) p found is.beginning playable encoded are
promised_of (Reruns line) a p found is playable encoded are honest =
    promised_rerun line a p found is playable encoded are honest
promised_of (Replays line) a p found is playable encoded are honest = absurd is
promised_of (Shows line) a p found is playable encoded are honest = absurd is
promised_of (FindsRaces line) a p found is playable encoded are honest = absurd is
promised_of (Explains line) a p found is playable encoded are honest =
    promised_rerun (as_rerun line) a p found is playable encoded are honest
promised_of (Audits line) a p found is playable encoded are honest = absurd is
promised_of (Generates line) a p found is playable encoded are honest =
    promised_from_scratch line.workers _ nothing_asked p found is.beginning playable encoded are

any_after :
    (workers : ℕ) (b : Beginning) (inputs : List (List ℕ)) (found : List Found)
    → IsSetup b.setup → AreBytes b.setup.elf → IsEncodedPast b.past b.setup
    → AllByRecursion (λ i. length i ≤ 1048576) inputs → AllByRecursion AreBytes inputs
    → AllByRecursion (IsMade workers) (rounds_after b inputs found)
    → AllByRecursion CanBeKept (rounds_after b inputs found)
any_after workers b [] found valid elf known short bytes made = tt
any_after workers b (input ∷ inputs) [] valid elf known short bytes made = tt
any_after workers b (input ∷ inputs) (f ∷ found) valid elf known short bytes made =
    let r = round_on b input f in
    let may : IsSetup r.setup = with-short b.setup input valid short.0 in
    let left : IsEncodable (resulting_history r) =
    round-encoded r.setup r.past (events_in f.entries)
    (record { valid = may; elf_bytes = elf; input_bytes = bytes.0; past = known_on b.past b.setup input known })
    made.0.ended in
    let own = resulting-own r in
    let same : IsSameProgram (resulting_history r).setup b.setup = ap (λ (s : Setup). s.elf) own in (
      record { ended = made.0.ended; encoded = left },
      any_after workers (after_round b input f) inputs found valid elf
          (left, same) short.1 bytes.1 made.1,
    )
  where
    known_on : (past : Option History) (s : Setup) (input : List ℕ) → IsEncodedPast past s
        → IsEncodedPast past (with_input s input)
    known_on None s input known = tt
    known_on (Some h) s input known = known

-- what holds of the rounds of any plan
pub each_kept :
    (workers : ℕ) (p : Plan) (found : List Found) → CanBePlayed p → CanBeEncoded p → AreFound workers p found
    → All CanBeKept (rounds_of p found)
each_kept workers p found playable encoded are =
    All-from_recursion CanBeKept (rounds_of p found)
    (any_after workers p.beginning p.inputs found encoded.valid encoded.elf encoded.past
    (each-short p.inputs playable.short)
    (recursion_from_All AreBytes p.inputs encoded.inputs)
    (recursion_from_All (IsMade workers) (rounds_of p found) are.made))

-- so the last one's history can be encoded
last_kept :
    (b : Beginning) (inputs : List (List ℕ)) (found : List Found) → 0 < length inputs → length found ≡ length inputs
    → AllByRecursion CanBeKept (rounds_after b inputs found)
    → IsEncodable (last_history b inputs found)
last_kept b [] found some all any = let no : ⊥ = omega arith in absurd no
last_kept b (input ∷ inputs) [] some all any = let no : ⊥ = omega arith in absurd no
last_kept b (input ∷ []) (f ∷ found) some all any = any.0.encoded
last_kept b (input ∷ next ∷ inputs) (f ∷ found) some all any =
    last_kept (after_round b input f) (next ∷ inputs) found (omega arith) (omega arith) any.1

pub last_encoded :
    (workers : ℕ) (p : Plan) (found : List Found) → CanBePlayed p → CanBeEncoded p → AreFound workers p found
    → length found ≡ length p.inputs → IsEncodable (last_history_of p found)
last_encoded workers p found playable encoded are all =
    last_kept p.beginning p.inputs found playable.some all
    (recursion_from_All CanBeKept (rounds_of p found) (each_kept workers p found playable encoded are))
