-- Each round that workers made has an end and has made a step; and each is of its setup, whatever it is based on.
use Rattle.std.proofs.Common.{◌≡◌, ◌≢◌, ℕ, Bool, true, false, cond, List, [], ◌∷◌, ◌++◌, slice_index_or, All, Option, Some, None, is_some, refl, ap, sym, ◌∙◌}
use Rattle.std.specs.List.{AllByRecursion}
use Rattle.std.proofs.lemmas.List.Elements.{All-from_recursion}
use Rattle.thunk_spec.specs.Record.{Record}
use Rattle.machine_spec.specs.declared.states.End.{End}
use Rattle.machine_spec.specs.Setup.{Setup, IsSetup, first}
use Rattle.history_spec.specs.History.{History, IsSameProgram, schedule_of}
use Rattle.report_spec.specs.Report.{threads_of}
use Rattle.round_spec.specs.declared.events.Event.{Event}
use Rattle.round_spec.specs.declared.events.Event.TheVariants.{Take, Reuse, Commit, GiveBack, Stop}
use Rattle.round_spec.specs.Marks.{record_for}
use Rattle.round_spec.specs.Schedules.{events_in}
use Rattle.round_spec.specs.Rounds.{RoundState, opening, is_in_flight, is_finished, can_take, can_reuse, taken, reused_by, committed, given_back, happens, all_happen}
use Rattle.round_spec.specs.Keeping.{IsCounted}
use Rattle.round_spec.proofs.Counting.{round-counted}
use Rattle.round_spec.proofs.Leaving.{round-setup}
use Rattle.round_spec.specs.Working.{ReexecutesLeast}
use Rattle.round_spec.proofs.ByWorkers.{reexecutes-made}
use Rattle.rerun_spec.specs.Inputs.{AreShort}
use Rattle.rerun_spec.specs.Rounds.{with_input, Found, Round, made, IsMade, resulting_history, schedule_in, Beginning, IsOfProgram, round_on, after_round, rounds_after, after_rounds}
use Rattle.rerun_spec.proofs.Rounds.{EachShort, each-short, with-short}

-- a round is made by the events of its entries
made-setup : (r : Round) → (made r).setup ≡ r.setup
made-setup r = round-setup r.setup r.past (events_in r.found.entries)

pub round-counts : (r : Round) → IsSetup r.setup → IsCounted (made r)
round-counts r valid = round-counted r.setup r.past (events_in r.found.entries) valid

pub round-stops : (workers : ℕ) (r : Round) → IsMade workers r → is_some (made r).machine.ending ≡ true
round-stops workers r is = is.ended

pub round-stands : (workers : ℕ) (r : Round) → IsMade workers r → (made r).schedule ≡ r.found.entries
round-stands workers r is = is.stands

-- the history is of the schedule that was found
pub resulting-found :
    (workers : ℕ) (r : Round) → IsSetup r.setup → IsMade workers r → schedule_of (resulting_history r) ≡ schedule_in r
resulting-found workers r valid is = (round-counts r valid).threads ∙ ap threads_of is.stands

-- the round executes no more steps than it must
pub round-least : (workers : ℕ) (r : Round) → IsSetup r.setup → IsMade workers r → ReexecutesLeast (made r)
round-least workers r valid is =
    reexecutes-made workers r.setup r.past r.found.entries r.found.worker_steps valid is

-- a round that has made no step has no end
abbrev IsYoung : RoundState → Type 0
IsYoung w = w.schedule ≡ [] → w.machine.ending ≡ None

more-some : {A : Type 0} (xs : List A) (x : A) → xs ++ x ∷ [] ≢ []
more-some [] x = λ none. cc
more-some (y ∷ xs) x = λ none. cc

young-by : (b : Bool) (v w : RoundState) → IsYoung v → IsYoung w → IsYoung (cond b v w)
young-by true v w one other = one
young-by false v w one other = other

young-reused : (w : RoundState) (t : ℕ) (o : Option Record) → IsYoung w → IsYoung (reused_by w t o)
young-reused w t None young = young
young-reused w t (Some r) young = λ none. absurd (more-some w.schedule (record { thread = t; reused = true }) none)

young-happens : (w : RoundState) (e : Event) → IsYoung w → IsYoung (happens w e)
unfolding happens
young-happens w (Take t) young = young-by (can_take w t) (taken w t) w young young
young-happens w (Reuse t) young =
    young-by (can_reuse w t) (reused_by w t (record_for w.past w.machine t)) w
    (young-reused w t (record_for w.past w.machine t) young) young
young-happens w (Commit t) young =
    young-by (is_in_flight w t) (cond (is_finished w) (given_back w t) (committed w t)) w
    (young-by (is_finished w) (given_back w t) (committed w t) young
    (λ none. absurd (more-some w.schedule (record { thread = t; reused = false }) none))) young
young-happens w (GiveBack t) young = young-by (is_in_flight w t) (given_back w t) w young young
young-happens w Stop young = young

young-all : (w : RoundState) (es : List Event) → IsYoung w → IsYoung (all_happen w es)
young-all w [] young = young
young-all w (e ∷ es) young = young-all (happens w e) es (young-happens w e young)

young-first : (s : Setup) (past : Option History) → IsYoung (opening s past)
unfolding first
young-first s past = λ none. refl

pub round-steps : (workers : ℕ) (r : Round) → IsMade workers r → (made r).schedule ≢ []
round-steps workers r is = λ none.
    let young : IsYoung (made r) =
    young-all (opening r.setup r.past) (events_in r.found.entries) (young-first r.setup r.past) in
    let ending : (made r).machine.ending ≡ None = young none in
    let no : false ≡ true = sym (ap (λ (e : Option End). is_some e) ending) ∙ is.ended in
    cc

-- what holds of every round
each-valid :
    (b : Beginning) (inputs : List (List ℕ)) (found : List Found) → IsSetup b.setup → EachShort inputs
    → AllByRecursion (λ (r : Round). IsSetup r.setup) (rounds_after b inputs found)
each-valid b [] found valid short = tt
each-valid b (input ∷ inputs) [] valid short = tt
each-valid b (input ∷ inputs) (f ∷ found) valid short =
    (with-short b.setup input valid short.0, each-valid (after_round b input f) inputs found valid short.1)

pub all-valid :
    (b : Beginning) (inputs : List (List ℕ)) (found : List Found) → IsSetup b.setup → AreShort inputs
    → All (λ (r : Round). IsSetup r.setup) (rounds_after b inputs found)
all-valid b inputs found valid short =
    All-from_recursion (λ (r : Round). IsSetup r.setup) (rounds_after b inputs found)
    (each-valid b inputs found valid (each-short inputs short))

pub valid-holds :
    (P : Round → Type 0) → ((r : Round) → IsSetup r.setup → P r)
    → (b : Beginning) (inputs : List (List ℕ)) (found : List Found) → IsSetup b.setup → AreShort inputs
    → All P (rounds_after b inputs found)
valid-holds P holds b inputs found valid short = λ k d below.
    holds (slice_index_or (rounds_after b inputs found) k d) (all-valid b inputs found valid short k d below)

-- what holds of every round that workers made
pub made-holds :
    (P : Round → Type 0) → ((workers : ℕ) (r : Round) → IsMade workers r → P r)
    → (b : Beginning) (inputs : List (List ℕ)) (found : List Found) (workers : ℕ)
    → All (IsMade workers) (rounds_after b inputs found) → All P (rounds_after b inputs found)
made-holds P holds b inputs found workers made = λ k d below.
    holds workers (slice_index_or (rounds_after b inputs found) k d) (made k d below)

pub valid-made-holds :
    (P : Round → Type 0) → ((workers : ℕ) (r : Round) → IsSetup r.setup → IsMade workers r → P r)
    → (b : Beginning) (inputs : List (List ℕ)) (found : List Found) (workers : ℕ)
    → IsSetup b.setup → AreShort inputs → All (IsMade workers) (rounds_after b inputs found)
    → All P (rounds_after b inputs found)
valid-made-holds P holds b inputs found workers valid short made = λ k d below.
    holds workers (slice_index_or (rounds_after b inputs found) k d)
    (all-valid b inputs found valid short k d below) (made k d below)

pub resulting-own : (r : Round) → (resulting_history r).setup ≡ r.setup
resulting-own r = made-setup r

-- its history is of the same program
program-left :
    (b : Beginning) (input : List ℕ) (f : Found) → IsSameProgram (resulting_history (round_on b input f)).setup b.setup
program-left b input f =
    ap (λ (t : Setup). t.elf) (resulting-own (round_on b input f))

program-each :
    (b : Beginning) (inputs : List (List ℕ)) (found : List Found)
    → AllByRecursion (λ r. IsSameProgram (resulting_history r).setup b.setup) (rounds_after b inputs found)
program-each b [] found = tt
program-each b (input ∷ inputs) [] = tt
program-each b (input ∷ inputs) (f ∷ found) =
    (program-left b input f, program-each (after_round b input f) inputs found)

pub same-program :
    (b : Beginning) (inputs : List (List ℕ)) (found : List Found)
    → All (λ r. IsSameProgram (resulting_history r).setup b.setup) (rounds_after b inputs found)
same-program b inputs found =
    All-from_recursion (λ r. IsSameProgram (resulting_history r).setup b.setup) (rounds_after b inputs found)
    (program-each b inputs found)

-- so each round is based on a history of its program
other-input :
    (past : Option History) (s : Setup) (input : List ℕ)
    → IsOfProgram past s → IsOfProgram past (with_input s input)
other-input None s input of = tt
other-input (Some h) s input of = of

past-each :
    (b : Beginning) (inputs : List (List ℕ)) (found : List Found) → IsOfProgram b.past b.setup
    → AllByRecursion (λ (r : Round). IsOfProgram r.past r.setup) (rounds_after b inputs found)
past-each b [] found of = tt
past-each b (input ∷ inputs) [] of = tt
past-each b (input ∷ inputs) (f ∷ found) of = (
  other-input b.past b.setup input of,
  past-each (after_round b input f) inputs found (program-left b input f),
)

pub same-past :
    (b : Beginning) (inputs : List (List ℕ)) (found : List Found) → IsOfProgram b.past b.setup
    → All (λ (r : Round). IsOfProgram r.past r.setup) (rounds_after b inputs found)
same-past b inputs found of =
    All-from_recursion (λ (r : Round). IsOfProgram r.past r.setup) (rounds_after b inputs found)
    (past-each b inputs found of)

pub later-past :
    (b : Beginning) (inputs : List (List ℕ)) (found : List Found) → IsOfProgram b.past b.setup
    → IsOfProgram (after_rounds b inputs found).past b.setup
later-past b [] found of = of
later-past b (input ∷ inputs) [] of = of
later-past b (input ∷ inputs) (f ∷ found) of =
    later-past (after_round b input f) inputs found (program-left b input f)
