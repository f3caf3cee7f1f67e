-- Each round of a beginning that workers make may be made, and follows the one before it.
use Rattle.std.proofs.Common.{◌≡◌, ◌≢◌, ◌≤◌, ◌+◌, ◌-◌, ℕ, zero, suc, min, true, List, [], ◌∷◌, length, map, take, sum, replicate, slice_get, slice_index_or, fold, All, Option, Some, None, is_some, refl, ap, sym, ◌∙◌, subst, arith}
use Rattle.std.specs.List.{AllByRecursion, range_with_len}
use Rattle.std.proofs.lemmas.Option.{same_Some}
use Rattle.std.proofs.lemmas.List.{length-replicate}
use Rattle.std.proofs.lemmas.List.Elements.{All-from_recursion, recursion_from_All}
use Rattle.edit_spec.specs.Editing.{longest_input}
use Rattle.machine_spec.specs.Limits.{Limits, AreLimits}
use Rattle.machine_spec.specs.Setup.{Setup, IsSetup, first, scratch, is_permitted, is_complete, records}
use Rattle.history_spec.specs.History.{History, IsHonest, IsSound, CanGoBy, schedule_of, threads_of_records}
use Rattle.history_spec.proofs.Scratch.{records-threads}
use Rattle.report_spec.specs.Report.{threads_of, instructions_from}
use Rattle.round_spec.specs.Rounds.{RoundState, opening}
use Rattle.round_spec.specs.Instructions.{executed_instructions}
use Rattle.round_spec.specs.Alone.{one_worker, lone_round}
use Rattle.round_spec.specs.OneWorker.{made_by, executed_in}
use Rattle.round_spec.proofs.Picks.{marked-threads}
use Rattle.round_spec.proofs.Lone.{rounds-made}
use Rattle.round_spec.proofs.Workers.{lone-made, workers-round, workers-permitted, workers-complete, workers-marks, workers-honest, workers-alone}
use Rattle.round_spec.proofs.Cost.{rounds-cost}
use Rattle.rerun_spec.specs.declared.Asked.{Asked}
use Rattle.rerun_spec.specs.Inputs.{AreInputs, AreShort}
use Rattle.rerun_spec.specs.Rounds.{with_input, with_limits, Found, Round, made, IsMade, IsPickedByRule, resulting_history, Beginning, from_scratch, after_memo, CanBegin, round_on, after_round, rounds_after, after_rounds, last_history, schedule_in, entries_of, machine_of}

-- a round that its workers made, based on a history that it can be based on
pub record IsSoundlyMade (workers : ℕ) (r : Round) : Type 0 where
  pub can : CanGoBy r.past r.setup
  pub made : IsMade workers r

-- a setup with another short input may be run, if it may be
pub with-short : (s : Setup) (input : List ℕ) → IsSetup s → length input ≤ longest_input → IsSetup (with_input s input)
with-short s input valid short =
    record {
      elf_size = valid.elf_size;
      elf_accepted = valid.elf_accepted;
      input_size = short;
      limits = valid.limits;
    }

-- a history that is sound is so for any input
sound-any : (past : Option History) (s : Setup) (input : List ℕ) → IsSound past s → IsSound past (with_input s input)
sound-any None s input sound = tt
sound-any (Some h) s input sound = sound

-- a round as its workers make it is the one that their schedule makes
pub round-made :
    (workers : ℕ) (r : Round) → IsSoundlyMade workers r → made r ≡ made_by r.setup r.past (schedule_in r)
round-made workers r is = workers-round workers r.setup r.past r.found.entries r.found.worker_steps is.can is.made

pub round-honest : (workers : ℕ) (r : Round) → IsSoundlyMade workers r → IsHonest (resulting_history r)
round-honest workers r is = workers-honest workers r.setup r.past r.found.entries r.found.worker_steps is.can is.made

pub resulting-setup : (workers : ℕ) (r : Round) → IsSoundlyMade workers r → (resulting_history r).setup ≡ r.setup
resulting-setup workers r is = ap (λ (w : RoundState). w.setup) (round-made workers r is)

-- the first round of a beginning can be based on its history, and each round that follows on its own
first-can :
    (b : Beginning) (input : List ℕ) (f : Found) → CanBegin b → length input ≤ longest_input
    → CanGoBy (round_on b input f).past (round_on b input f).setup
first-can b input f can short =
    record { valid = with-short b.setup input can.valid short; sound = sound-any b.past b.setup input can.sound }

goes-on :
    (b : Beginning) (input : List ℕ) (f : Found) (workers : ℕ)
    → CanBegin b → IsSoundlyMade workers (round_on b input f) → CanBegin (after_round b input f)
goes-on b input f workers can is =
    let same = resulting-setup workers (round_on b input f) is in
    record {
      valid = can.valid;
      sound = (
        round-honest workers (round_on b input f) is,
        ap (λ (t : Setup). t.elf) same,
      );
    }

-- all of some inputs are short
abbrev pub EachShort : List (List ℕ) → Type 0
EachShort inputs = AllByRecursion (λ i. length i ≤ longest_input) inputs

pub each-short : (inputs : List (List ℕ)) → AreShort inputs → EachShort inputs
each-short inputs short = recursion_from_All (λ i. length i ≤ longest_input) inputs short

-- this many workers made each of some rounds
abbrev pub EachMade : ℕ → List Round → Type 0
EachMade workers rounds = AllByRecursion (IsMade workers) rounds

pub each-made : (workers : ℕ) (rounds : List Round) → All (IsMade workers) rounds → EachMade workers rounds
each-made workers rounds made = recursion_from_All (IsMade workers) rounds made

first-made :
    (b : Beginning) (input : List ℕ) (f : Found) (workers : ℕ)
    → CanBegin b → length input ≤ longest_input → IsMade workers (round_on b input f)
    → IsSoundlyMade workers (round_on b input f)
first-made b input f workers can short made = record { can = first-can b input f can short; made = made }

each-after :
    (b : Beginning) (inputs : List (List ℕ)) (found : List Found) (workers : ℕ)
    → CanBegin b → EachShort inputs → EachMade workers (rounds_after b inputs found)
    → AllByRecursion (IsSoundlyMade workers) (rounds_after b inputs found)
each-after b [] found workers can short made = tt
each-after b (input ∷ inputs) [] workers can short made = tt
each-after b (input ∷ inputs) (f ∷ found) workers can short made =
    let here = first-made b input f workers can short.0 made.0 in (
      here,
      each-after (after_round b input f) inputs found workers (goes-on b input f workers can here) short.1 made.1,
    )

later-after :
    (b : Beginning) (inputs : List (List ℕ)) (found : List Found) (workers : ℕ)
    → CanBegin b → EachShort inputs → EachMade workers (rounds_after b inputs found)
    → CanBegin (after_rounds b inputs found)
later-after b [] found workers can short made = can
later-after b (input ∷ inputs) [] workers can short made = can
later-after b (input ∷ inputs) (f ∷ found) workers can short made =
    later-after (after_round b input f) inputs found workers
    (goes-on b input f workers can (first-made b input f workers can short.0 made.0)) short.1 made.1

pub each-round :
    (b : Beginning) (inputs : List (List ℕ)) (found : List Found) (workers : ℕ)
    → CanBegin b → AreShort inputs → All (IsMade workers) (rounds_after b inputs found)
    → AllByRecursion (IsSoundlyMade workers) (rounds_after b inputs found)
each-round b inputs found workers can short made =
    each-after b inputs found workers can (each-short inputs short)
    (each-made workers (rounds_after b inputs found) made)

pub later-round :
    (b : Beginning) (inputs : List (List ℕ)) (found : List Found) (workers : ℕ)
    → CanBegin b → AreShort inputs → All (IsMade workers) (rounds_after b inputs found)
    → CanBegin (after_rounds b inputs found)
later-round b inputs found workers can short made =
    later-after b inputs found workers can (each-short inputs short)
    (each-made workers (rounds_after b inputs found) made)

-- what holds of every round that was soundly made
pub each-holds :
    (P : Round → Type 0) → ((workers : ℕ) (r : Round) → IsSoundlyMade workers r → P r)
    → (b : Beginning) (inputs : List (List ℕ)) (found : List Found) (workers : ℕ)
    → CanBegin b → AreShort inputs → All (IsMade workers) (rounds_after b inputs found)
    → All P (rounds_after b inputs found)
each-holds P holds b inputs found workers can short made = λ k d below.
    holds workers (slice_index_or (rounds_after b inputs found) k d)
    (All-from_recursion (IsSoundlyMade workers) (rounds_after b inputs found)
    (each-round b inputs found workers can short made) k d below)

-- a setup with other limits in range may be run, if it may be
pub with-limits :
    (s : Setup) (limits : Limits) → IsSetup s → AreLimits limits.fuel limits.steps → IsSetup (with_limits s limits)
with-limits s limits valid within =
    record {
      elf_size = valid.elf_size;
      elf_accepted = valid.elf_accepted;
      input_size = valid.input_size;
      limits = within;
    }

-- what beginnings from scratch and after a memo require
pub scratch-begins : (s : Setup) (asked : Asked) → IsSetup s → CanBegin (from_scratch s asked)
scratch-begins s asked valid = record { valid = valid; sound = tt }

pub memo-begins :
    (h : History) (limits : Limits) (asked : Asked) → IsHonest h → AreLimits limits.fuel limits.steps
    → CanBegin (after_memo h limits asked)
memo-begins h limits asked honest within =
    record {
      valid = with-limits h.setup limits honest.valid within;
      sound = (honest, refl);
    }

-- the last one's history is honest
honest-after :
    (b : Beginning) (input : List ℕ) (inputs : List (List ℕ)) (f : Found) (found : List Found) (workers : ℕ)
    → CanBegin b → EachShort (input ∷ inputs) → EachMade workers (rounds_after b (input ∷ inputs) (f ∷ found))
    → IsHonest (last_history b (input ∷ inputs) (f ∷ found))
honest-after b input [] f found workers can short made =
    round-honest workers (round_on b input f) (first-made b input f workers can short.0 made.0)
honest-after b input (next ∷ inputs) f [] workers can short made =
    round-honest workers (round_on b input f) (first-made b input f workers can short.0 made.0)
honest-after b input (next ∷ inputs) f (g ∷ found) workers can short made =
    honest-after (after_round b input f) next inputs g found workers
    (goes-on b input f workers can (first-made b input f workers can short.0 made.0)) short.1 made.1

pub last-honest :
    (b : Beginning) (inputs : List (List ℕ)) (found : List Found) (workers : ℕ)
    → CanBegin b → AreShort inputs → All (IsMade workers) (rounds_after b inputs found) → inputs ≢ [] → found ≢ []
    → IsHonest (last_history b inputs found)
last-honest b [] found workers can short made some one = absurd (some refl)
last-honest b (input ∷ inputs) [] workers can short made some one = absurd (one refl)
last-honest b (input ∷ inputs) (f ∷ found) workers can short made some one =
    honest-after b input inputs f found workers can (each-short (input ∷ inputs) short)
    (each-made workers (rounds_after b (input ∷ inputs) (f ∷ found)) made)

-- the parts of a round that was soundly made
pub round-threads : (r : Round) → threads_of (entries_of r) ≡ schedule_in r
round-threads r = marked-threads r.past (first r.setup) (schedule_in r)

pub round-permitted :
    (workers : ℕ) (r : Round) → IsSoundlyMade workers r → is_permitted r.setup (threads_of (entries_of r)) ≡ true
round-permitted workers r is =
    ap (is_permitted r.setup) (round-threads r)
    ∙ workers-permitted workers r.setup r.past r.found.entries r.found.worker_steps is.can is.made

pub round-complete :
    (workers : ℕ) (r : Round) → IsSoundlyMade workers r → is_complete r.setup (threads_of (entries_of r)) ≡ true
round-complete workers r is =
    ap (is_complete r.setup) (round-threads r)
    ∙ workers-complete workers r.setup r.past r.found.entries r.found.worker_steps is.can is.made

pub round-entries : (workers : ℕ) (r : Round) → IsSoundlyMade workers r → (made r).schedule ≡ entries_of r
round-entries workers r is = ap (λ (w : RoundState). w.schedule) (round-made workers r is)

pub round-found : (workers : ℕ) (r : Round) → IsSoundlyMade workers r → r.found.entries ≡ entries_of r
round-found workers r is = workers-marks workers r.setup r.past r.found.entries r.found.worker_steps is.can is.made

pub round-picked : (workers : ℕ) (r : Round) → IsSoundlyMade workers r → IsPickedByRule r
round-picked workers r is = is.made.picked is.can.sound

pub round-machine :
    (workers : ℕ) (r : Round) → IsSoundlyMade workers r
    → (made r).machine ≡ scratch r.setup (threads_of (entries_of r))
round-machine workers r is =
    ap (λ (w : RoundState). w.machine) (round-made workers r is) ∙ ap (scratch r.setup) (sym (round-threads r))

pub round-records :
    (workers : ℕ) (r : Round) → IsSoundlyMade workers r
    → (made r).records ≡ records r.setup (threads_of (entries_of r))
round-records workers r is =
    ap (λ (w : RoundState). w.records) (round-made workers r is) ∙ ap (records r.setup) (sym (round-threads r))

pub resulting-schedule : (workers : ℕ) (r : Round) → IsSoundlyMade workers r → schedule_of (resulting_history r) ≡ schedule_in r
resulting-schedule workers r is =
    ap (λ (w : RoundState). threads_of_records w.records) (round-made workers r is)
    ∙ records-threads (first r.setup) (schedule_in r)

pub round-ends : (workers : ℕ) (r : Round) → IsSoundlyMade workers r → is_some (machine_of r).ending ≡ true
round-ends workers r is = workers-complete workers r.setup r.past r.found.entries r.found.worker_steps is.can is.made

-- what one worker makes
pub round-lone : (r : Round) → IsMade 1 r → made r ≡ lone_round r.setup r.past
round-lone r is = workers-alone r.setup r.past r.found.entries r.found.worker_steps is

pub round-alone : (r : Round) → IsSoundlyMade 1 r → schedule_in r ≡ one_worker r.setup r.past
round-alone r is =
    ap threads_of (is.made.alone refl)
    ∙ ap (λ (w : RoundState). threads_of w.schedule)
    (rounds-made r.setup r.past r.setup.limit is.can.valid is.can.sound)
    ∙ marked-threads r.past (first r.setup) (one_worker r.setup r.past)

pub round-cost :
    (r : Round) → IsSoundlyMade 1 r
    → executed_in r.setup.limit (opening r.setup r.past) ≡ instructions_from (first r.setup) (entries_of r)
round-cost r is =
    rounds-cost r.setup r.past r.setup.limit is.can.valid is.can.sound
    ∙ ap (λ (w : RoundState). instructions_from (first r.setup) w.schedule) (sym (round-lone r is.made))
    ∙ ap (instructions_from (first r.setup)) (round-entries 1 r is)

pub alone-holds :
    (P : Round → Type 0) → ((r : Round) → IsSoundlyMade 1 r → P r)
    → (b : Beginning) (inputs : List (List ℕ)) (found : List Found)
    → CanBegin b → AreShort inputs → All (IsMade 1) (rounds_after b inputs found) → All P (rounds_after b inputs found)
alone-holds P holds b inputs found can short made = λ k d below.
    holds (slice_index_or (rounds_after b inputs found) k d)
    (All-from_recursion (IsSoundlyMade 1) (rounds_after b inputs found)
    (each-round b inputs found 1 can short made) k d below)

-- any number of workers can make the rounds as one worker makes them
zeros-sum : (n a : ℕ) → fold (λ (s : ℕ) (x : ℕ). s + x) a (replicate n 0) ≡ a
zeros-sum zero a = refl
zeros-sum (suc n) a = let rest = zeros-sum n (a + 0) in omega arith

-- the steps of each worker if the first of the workers makes all steps
abbrev worker_steps_of_first : ℕ → ℕ → List ℕ
worker_steps_of_first workers steps = steps ∷ replicate (workers - 1) 0

worker_steps-count : (workers steps : ℕ) → 1 ≤ workers → length (worker_steps_of_first workers steps) ≡ workers
worker_steps-count workers steps some =
    let rest : length (replicate {A = ℕ} (workers - 1) 0) ≡ workers - 1 = length-replicate (workers - 1) 0 in
    omega arith

worker_steps-sum : (workers steps : ℕ) → sum (worker_steps_of_first workers steps) ≡ steps
worker_steps-sum workers steps = let rest = zeros-sum (workers - 1) (0 + steps) in omega arith

abbrev found_alone : ℕ → Setup → Option History → Found
found_alone workers s past =
    record {
      entries = (lone_round s past).schedule;
      worker_steps = worker_steps_of_first workers (length (lone_round s past).schedule);
      progress = length (lone_round s past).schedule ∷ [];
      turns = executed_instructions (lone_round s past).schedule (lone_round s past).records;
    }

alone-made :
    (workers : ℕ) (b : Beginning) (input : List ℕ) → IsSetup b.setup → length input ≤ longest_input → 1 ≤ workers
    → IsMade workers (round_on b input (found_alone workers (with_input b.setup input) b.past))
alone-made workers b input valid short some =
    let s = with_input b.setup input in
    let steps = length (lone_round s b.past).schedule in
    lone-made workers s b.past (worker_steps_of_first workers steps) (with-short b.setup input valid short)
    (worker_steps-count workers steps some) (worker_steps-sum workers steps)

some-after :
    (b : Beginning) (inputs : List (List ℕ)) (workers : ℕ) → IsSetup b.setup → EachShort inputs → 1 ≤ workers
    → (found : List Found) × (length found ≡ length inputs) × EachMade workers (rounds_after b inputs found)
some-after b [] workers valid short some = ([], refl, tt)
some-after b (input ∷ inputs) workers valid short some =
    let f = found_alone workers (with_input b.setup input) b.past in
    let rest = some-after (after_round b input f) inputs workers valid short.1 some in (
      f ∷ rest.0,
      ap (λ (n : ℕ). suc n) rest.1,
      (alone-made workers b input valid short.0 some, rest.2),
    )

pub some-made :
    (b : Beginning) (inputs : List (List ℕ)) (workers : ℕ) → IsSetup b.setup → AreShort inputs → 1 ≤ workers
    → (found : List Found) × (length found ≡ length inputs) × All (IsMade workers) (rounds_after b inputs found)
some-made b inputs workers valid short some =
    let is = some-after b inputs workers valid (each-short inputs short) some in
    (is.0, is.1, All-from_recursion (IsMade workers) (rounds_after b inputs is.0) is.2)

-- numbers, setups, what was found, and which lines are requested
pub numbers-after :
    (b : Beginning) (inputs : List (List ℕ)) (found : List Found)
    → map (λ (r : Round). r.number) (rounds_after b inputs found)
    ≡ range_with_len b.number (min (length inputs) (length found))
numbers-after b [] found = let none : min 0 (length found) ≡ 0 = omega arith in rw none refl
numbers-after b (input ∷ inputs) [] = let none : min (suc (length inputs)) 0 ≡ 0 = omega arith in rw none refl
numbers-after b (input ∷ inputs) (f ∷ found) =
    let more : min (suc (length inputs)) (suc (length found)) ≡ suc (min (length inputs) (length found)) =
    omega arith in
    ap (λ (ns : List ℕ). b.number ∷ ns) (numbers-after (after_round b input f) inputs found)
    ∙ ap (range_with_len b.number) (sym more)

pub setups-after :
    (b : Beginning) (inputs : List (List ℕ)) (found : List Found)
    → map (λ (r : Round). r.setup) (rounds_after b inputs found) ≡ map (with_input b.setup) (take (length found) inputs)
setups-after b [] [] = refl
setups-after b [] (f ∷ found) = refl
setups-after b (input ∷ inputs) [] = refl
setups-after b (input ∷ inputs) (f ∷ found) =
    ap (λ (ss : List Setup). with_input b.setup input ∷ ss) (setups-after (after_round b input f) inputs found)

pub founds-after :
    (b : Beginning) (inputs : List (List ℕ)) (found : List Found)
    → map (λ (r : Round). r.found) (rounds_after b inputs found) ≡ take (length inputs) found
founds-after b [] found = refl
founds-after b (input ∷ inputs) [] = refl
founds-after b (input ∷ inputs) (f ∷ found) =
    ap (λ (fs : List Found). f ∷ fs) (founds-after (after_round b input f) inputs found)

asked-each :
    (b : Beginning) (inputs : List (List ℕ)) (found : List Found)
    → AllByRecursion (λ (r : Round). r.asked ≡ b.asked) (rounds_after b inputs found)
asked-each b [] found = tt
asked-each b (input ∷ inputs) [] = tt
asked-each b (input ∷ inputs) (f ∷ found) = (refl, asked-each (after_round b input f) inputs found)

pub asked-after :
    (b : Beginning) (inputs : List (List ℕ)) (found : List Found)
    → All (λ (r : Round). r.asked ≡ b.asked) (rounds_after b inputs found)
asked-after b inputs found =
    All-from_recursion (λ (r : Round). r.asked ≡ b.asked) (rounds_after b inputs found) (asked-each b inputs found)

pub count-after :
    (b : Beginning) (inputs : List (List ℕ)) (found : List Found)
    → length (rounds_after b inputs found) ≡ min (length inputs) (length found)
count-after b [] found = omega arith
count-after b (input ∷ inputs) [] = omega arith
count-after b (input ∷ inputs) (f ∷ found) =
    let rest = count-after (after_round b input f) inputs found in omega arith

-- the round at a place
pub at-after :
    (b : Beginning) (inputs : List (List ℕ)) (found : List Found) (place : ℕ) (input : List ℕ) (f : Found)
    → slice_get inputs place ≡ Some input → slice_get found place ≡ Some f
    → (r : Round) × (slice_get (rounds_after b inputs found) place ≡ Some r) × (r.number ≡ b.number + place)
    × (r.setup ≡ with_input b.setup input) × (r.found ≡ f)
at-after b [] found place input f is there = absurd (let no : None ≡ Some input = is in cc)
at-after b (x ∷ inputs) [] place input f is there = absurd (let no : None ≡ Some f = there in cc)
at-after b (x ∷ inputs) (y ∷ found) zero input f is there = (
  round_on b x y,
  refl,
  omega arith,
  ap (with_input b.setup) (same_Some x input is),
  same_Some y f there,
)
at-after b (x ∷ inputs) (y ∷ found) (suc place) input f is there =
    let rest = at-after (after_round b x y) inputs found place input f is there in (
      rest.0,
      rest.1,
      (let later : rest.0.number ≡ b.number + 1 + place = rest.2 in omega arith),
      rest.3,
      rest.4,
    )

pub first-past :
    (b : Beginning) (inputs : List (List ℕ)) (found : List Found) (r : Round)
    → slice_get (rounds_after b inputs found) 0 ≡ Some r
    → r.past ≡ b.past
first-past b [] found r is = let no : None ≡ Some r = is in cc
first-past b (input ∷ inputs) [] r is = let no : None ≡ Some r = is in cc
first-past b (input ∷ inputs) (f ∷ found) r is =
    ap (λ (q : Round). q.past) (sym (same_Some (round_on b input f) r is))

pub first-setup :
    (b : Beginning) (lists inputs : List (List ℕ)) (found : List Found) (r : Round)
    → AreInputs b.setup.input lists inputs → slice_get (rounds_after b inputs found) 0 ≡ Some r → r.setup ≡ b.setup
first-setup b lists [] found r are is = absurd are
first-setup b lists (input ∷ inputs) [] r are is = absurd (let no : None ≡ Some r = is in cc)
first-setup b lists (input ∷ inputs) (f ∷ found) r are is =
    ap (λ (q : Round). q.setup) (sym (same_Some (round_on b input f) r is)) ∙ ap (with_input b.setup) are.0

-- one round and the next after it
pub record IsNext (s : Setup) (before after : Round) : Type 0 where
  pub left : after.past ≡ Some (resulting_history before)
  pub before_setup : before.setup ≡ with_input s before.setup.input
  pub after_setup : after.setup ≡ with_input s after.setup.input

next-of :
    (b : Beginning) (x y : List ℕ) (f g : Found) (before after : Round)
    → round_on b x f ≡ before → round_on (after_round b x f) y g ≡ after → IsNext b.setup before after
next-of b x y f g before after one next =
    record {
      left = sym (ap (λ (r : Round). r.past) next) ∙ ap (λ (r : Round). Some (resulting_history r)) one;
      before_setup = subst (λ (r : Round). r.setup ≡ with_input b.setup r.setup.input) one refl;
      after_setup = subst (λ (r : Round). r.setup ≡ with_input b.setup r.setup.input) next refl;
    }

pub next-after :
    (b : Beginning) (inputs : List (List ℕ)) (found : List Found) (place : ℕ) (before after : Round)
    → slice_get (rounds_after b inputs found) place ≡ Some before
    → slice_get (rounds_after b inputs found) (suc place) ≡ Some after
    → IsNext b.setup before after
next-after b [] found place before after one next = absurd (let no : None ≡ Some before = one in cc)
next-after b (x ∷ inputs) [] place before after one next = absurd (let no : None ≡ Some before = one in cc)
next-after b (x ∷ []) (f ∷ found) zero before after one next = absurd (let no : None ≡ Some after = next in cc)
next-after b (x ∷ y ∷ inputs) (f ∷ []) zero before after one next = absurd (let no : None ≡ Some after = next in cc)
next-after b (x ∷ y ∷ inputs) (f ∷ g ∷ found) zero before after one next =
    next-of b x y f g before after (same_Some (round_on b x f) before one)
    (same_Some (round_on (after_round b x f) y g) after next)
next-after b (x ∷ inputs) (f ∷ found) (suc place) before after one next =
    next-after (after_round b x f) inputs found place before after one next

-- what holds of each element holds of the one at a place
pub at-place :
    {A : Type 0} (P : A → Type 0) (xs : List A) (place : ℕ) (x : A) → AllByRecursion P xs → slice_get xs place ≡ Some x
    → P x
at-place P [] place x all is = absurd (let no : None ≡ Some x = is in cc)
at-place P (y ∷ xs) zero x all is = subst P (same_Some y x is) all.0
at-place P (y ∷ xs) (suc place) x all is = at-place P xs place x all.1 is
