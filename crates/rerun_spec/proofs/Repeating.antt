-- A round on the input of the round before it, or on the input and limits of its memo, reuses every step.
use Rattle.std.proofs.Common.{◌≡◌, ◌≢◌, ℕ, suc, List, [], ◌∷◌, All, Option, Some, None, ap, sym, ◌∙◌, subst}
use Rattle.std.proofs.lemmas.Option.{same_Some}
use Rattle.machine_spec.specs.Limits.{Limits}
use Rattle.machine_spec.specs.Setup.{Setup, first, scratch}
use Rattle.history_spec.specs.History.{History, IsHonest, schedule_of}
use Rattle.report_spec.specs.Report.{instructions_from}
use Rattle.round_spec.specs.declared.events.Pick.TheVariants as pick
use Rattle.round_spec.specs.Marks.{marked}
use Rattle.round_spec.specs.Rounds.{opening}
use Rattle.round_spec.specs.Schedules.{round_by}
use Rattle.round_spec.specs.Choice.{pick_of}
use Rattle.round_spec.specs.Alone.{after_picks}
use Rattle.round_spec.specs.Unedited.{IsUnedited, OnlyReuses}
use Rattle.round_spec.specs.OneWorker.{executed_in}
use Rattle.round_spec.proofs.Unedited.{unedited-marks, reused-instructions, unedited-never_runs, unedited-executed}
use Rattle.round_spec.proofs.Workers.{workers-threads, workers-reuse}
use Rattle.round_spec.specs.Workers.{IsMadeBy}
use Rattle.rerun_spec.specs.declared.Asked.{Asked}
use Rattle.rerun_spec.specs.Inputs.{AreShort}
use Rattle.rerun_spec.specs.Rounds.{limits_of, with_input, with_limits, Found, Round, made, IsMade, resulting_history, Beginning, after_memo, CanBegin, round_on, rounds_after, schedule_in, entries_of, machine_of, IsRepeated, IsUneditedRerun}
use Rattle.rerun_spec.proofs.Rounds.{IsSoundlyMade, round-honest, resulting-setup, resulting-schedule, each-round, IsNext, next-after, at-place}

-- a round that is based on an honest history, with that history's setup
pub record IsAgain (h : History) (r : Round) : Type 0 where
  pub honest : IsHonest h
  pub past : r.past ≡ Some h
  pub setup : h.setup ≡ r.setup

-- so does a round on the input of the round before it
pub record IsAfter (workers : ℕ) (before after : Round) : Type 0 where
  pub again : IsAgain (resulting_history before) after
  pub made : IsMade workers after
  pub setup : after.setup ≡ before.setup
  pub schedule : schedule_of (resulting_history before) ≡ schedule_in before

pub repeated-after :
    (b : Beginning) (inputs : List (List ℕ)) (found : List Found) (workers : ℕ) (before after : Round)
    → CanBegin b → AreShort inputs → All (IsMade workers) (rounds_after b inputs found)
    → IsRepeated (rounds_after b inputs found) before after → IsAfter workers before after
repeated-after b inputs found workers before after can short made repeated =
    let rounds = rounds_after b inputs found in
    let each = each-round b inputs found workers can short made in
    let next : IsNext b.setup before after =
    next-after b inputs found repeated.place before after repeated.one repeated.next in
    let is : IsSoundlyMade workers before =
    at-place (IsSoundlyMade workers) rounds repeated.place before each repeated.one in
    let its : IsSoundlyMade workers after =
    at-place (IsSoundlyMade workers) rounds (suc repeated.place) after each repeated.next in
    let same : after.setup ≡ before.setup =
    next.after_setup ∙ ap (with_input b.setup) repeated.same ∙ sym next.before_setup in
    record {
      again = record {
        honest = round-honest workers before is;
        past = next.left;
        setup = resulting-setup workers before is ∙ sym same;
      };
      made = its.made;
      setup = same;
      schedule = resulting-schedule workers before is;
    }

-- so does the first round of a rerun on the memo's input with its limits
rerun-round :
    (h : History) (limits : Limits) (asked : Asked) (r : Round) (input : List ℕ) (f : Found)
    → round_on (after_memo h limits asked) input f ≡ r → r.setup.input ≡ h.setup.input
    → limits_of r.setup ≡ limits_of h.setup → IsHonest h → IsAgain h r
rerun-round h limits asked r input f is same_input same_limits honest =
    let made : with_input (with_limits h.setup limits) input ≡ r.setup = ap (λ (q : Round). q.setup) is in
    let asked : limits_of h.setup ≡ limits = sym same_limits ∙ sym (ap limits_of made) in
    let read : h.setup.input ≡ input = sym same_input ∙ sym (ap (λ (s : Setup). s.input) made) in
    record {
      honest = honest;
      past = sym (ap (λ (q : Round). q.past) is);
      setup = ap (with_limits h.setup) asked ∙ ap (with_input (with_limits h.setup limits)) read ∙ made;
    }

pub rerun-again :
    (h : History) (limits : Limits) (asked : Asked) (inputs : List (List ℕ)) (found : List Found) (r : Round)
    → IsHonest h → IsUneditedRerun h limits asked inputs found r → IsAgain h r
rerun-again h limits asked [] found r honest rerun = absurd (let no : None ≡ Some r = rerun.first in cc)
rerun-again h limits asked (input ∷ inputs) [] r honest rerun = absurd (let no : None ≡ Some r = rerun.first in cc)
rerun-again h limits asked (input ∷ inputs) (f ∷ found) r honest rerun =
    rerun-round h limits asked r input f (same_Some (round_on (after_memo h limits asked) input f) r rerun.first) rerun.same_input
    rerun.same_limits honest

-- what holds of the history's own setup holds of the round's
carried :
    (C : Setup → Option History → Type 0) (h : History) (r : Round)
    → IsAgain h r → C h.setup (Some h) → C r.setup r.past
carried C h r again holds =
    subst (λ (p : Option History). C r.setup p) (sym again.past)
    (subst (λ (s : Setup). C s (Some h)) again.setup holds)

-- its workers made it, based on that history
again-unedited : (h : History) (r : Round) → IsAgain h r → IsUnedited h r.setup
again-unedited h r again = record { honest = again.honest; same = again.setup }

again-made :
    (workers : ℕ) (h : History) (r : Round)
    → IsAgain h r → IsMade workers r → IsMadeBy workers r.setup (Some h) r.found.entries r.found.worker_steps
again-made workers h r again is =
    subst (λ (p : Option History). IsMadeBy workers r.setup p r.found.entries r.found.worker_steps) again.past is

-- its schedule is the history's
pub again-schedule :
    (workers : ℕ) (h : History) (r : Round) → IsAgain h r → IsMade workers r → schedule_in r ≡ schedule_of h
again-schedule workers h r again is =
    workers-threads workers h r.setup r.found.entries r.found.worker_steps (again-unedited h r again)
    (again-made workers h r again is)

-- the round only reuses the history
pub again-reuses : (workers : ℕ) (h : History) (r : Round) → IsAgain h r → IsMade workers r → OnlyReuses h (made r)
again-reuses workers h r again is =
    subst (λ (p : Option History). OnlyReuses h (round_by r.setup p r.found.entries)) (sym again.past)
    (workers-reuse workers h r.setup r.found.entries r.found.worker_steps (again-unedited h r again)
    (again-made workers h r again is))

pub again-instructions :
    (workers : ℕ) (h : History) (r : Round) → IsAgain h r → IsMade workers r
    → instructions_from (first r.setup) (entries_of r) ≡ 0
again-instructions workers h r again is =
    ap (λ (ts : List ℕ). instructions_from (first r.setup) (marked r.past r.setup ts))
    (again-schedule workers h r again is)
    ∙ carried (λ s p. instructions_from (first s) (marked p s (schedule_of h)) ≡ 0) h r again
    (ap (instructions_from (first h.setup)) (unedited-marks h again.honest)
    ∙ reused-instructions (first h.setup) (schedule_of h))

-- nothing is executed
pub again-never_runs :
    (h : History) (r : Round) (n t : ℕ) → IsAgain h r
    → pick_of (after_picks n (opening r.setup r.past)) ≢ pick.Run t
again-never_runs h r n t again =
    carried (λ s p. pick_of (after_picks n (opening s p)) ≢ pick.Run t) h r again
    (unedited-never_runs h n t again.honest)

pub again-executed : (h : History) (r : Round) → IsAgain h r → executed_in r.setup.limit (opening r.setup r.past) ≡ 0
again-executed h r again =
    carried (λ s p. executed_in s.limit (opening s p) ≡ 0) h r again (unedited-executed h again.honest)

-- its machine is the history's
pub again-machine :
    (workers : ℕ) (h : History) (r : Round) → IsAgain h r → IsMade workers r
    → machine_of r ≡ scratch h.setup (schedule_of h)
again-machine workers h r again is =
    ap (λ (s : Setup). scratch s (schedule_in r)) (sym again.setup)
    ∙ ap (scratch h.setup) (again-schedule workers h r again is)

-- schedule and machine are those of the round before
pub after-schedule :
    (workers : ℕ) (before after : Round) → IsAfter workers before after → schedule_in after ≡ schedule_in before
after-schedule workers before after is =
    again-schedule workers (resulting_history before) after is.again is.made ∙ is.schedule

pub after-machine :
    (workers : ℕ) (before after : Round) → IsAfter workers before after → machine_of after ≡ machine_of before
after-machine workers before after is =
    ap (λ (s : Setup). scratch s (schedule_in after)) is.setup
    ∙ ap (scratch before.setup) (after-schedule workers before after is)
