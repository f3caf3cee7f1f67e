-- Each entry of the round of one worker was chosen by the rule.
use Rattle.std.proofs.Common.{◌≡◌, ◌<◌, ◌≤◌, ◌+◌, ℕ, zero, suc, Bool, true, false, not, ◌&&◌, ◌||◌, eqb, cond, List, [], ◌∷◌, length, take, get_or, Option, Some, None, is_some, find, refl, ap, sym, ◌∙◌, subst, inl, inr, arith}
use Rattle.std.proofs.lemmas.Bool.{eq-eqb}
use Rattle.std.proofs.lemmas.List.FromFn.{length-range_with_len, get_or-range_with_len}
use Rattle.std.proofs.lemmas.Option.{slice_get_within, get_or_from_slice_get}
use Rattle.std.specs.List.{position_or_len, range_with_len, slice_get, take-map}
use Rattle.thunk_spec.specs.Record.{Record}
use Rattle.machine_spec.specs.Machine.{Machine, hart_of, is_ready}
use Rattle.machine_spec.specs.Step.{step, can_step}
use Rattle.machine_spec.specs.Schedule.{scratch_from}
use Rattle.machine_spec.specs.Setup.{Setup, IsSetup, first, scratch}
use Rattle.machine_spec.specs.Whole.{IsWhole}
use Rattle.machine_spec.proofs.Beginning.{IsWhole-first}
use Rattle.machine_spec.proofs.Steps.{step-whole}
use Rattle.history_spec.specs.History.{History, IsSound, is_of, past_records, found}
use Rattle.history_spec.proofs.Scratch.{and-left, and-right}
use Rattle.report_spec.specs.declared.Entry.{Entry}
use Rattle.round_spec.specs.Marks.{is_fitting, fits_next, marked_from, marked}
use Rattle.round_spec.specs.Rounds.{RoundState, none_in_flight, is_in_flight_of}
use Rattle.round_spec.specs.Due.{place_in, is_due}
use Rattle.round_spec.specs.Choice.{choice_by}
use Rattle.round_spec.specs.Alone.{guided_from, one_worker, lone_round}
use Rattle.round_spec.specs.Picking.{is_ready_and_due, any_thread, is_picked_on, machine_after, IsPicked, ArePicked}
use Rattle.round_spec.proofs.Happening.{none_in_flight-none}
use Rattle.round_spec.proofs.Lists.{none-any, range-all}
use Rattle.round_spec.proofs.Choosing.{IsChosen, choice_by-chosen, free-is_ready, free-of}
use Rattle.round_spec.proofs.Lone.{rounds-made}
use Rattle.round_spec.proofs.Picks.{marked-threads, marked-length, guided-over, guided-next, Stands, Over, Goes, stands}

-- each entry is the choice after those before it
abbrev AllChosen : Option History → Machine → List ℕ → Type 0
AllChosen past m [] = Unit {0}
AllChosen past m (t ∷ ts) = (choice_by past m none_in_flight ≡ Some t) × AllChosen past (step m t) ts

guided-chosen : (past : Option History) (n : ℕ) (m : Machine) → IsWhole m → AllChosen past m (guided_from past n m)
guided-chosen past zero m whole = tt
guided-chosen past (suc n) m whole =
    by (stands past m whole) (λ t can. guided-chosen past n (step m t) (step-whole m t whole can))
  where
    by :
        Stands past m → ((t : ℕ) → can_step m t ≡ true → AllChosen past (step m t) (guided_from past n (step m t)))
        → AllChosen past m (guided_from past (suc n) m)
    by (Over e is) later = subst (AllChosen past m) (sym (guided-over past (suc n) m e is)) tt
    by (Goes t none chosen can) later =
        subst (AllChosen past m) (sym (guided-next past n m t none chosen)) (chosen, later t can)

chosen-at :
    (past : Option History) (m : Machine) (ts : List ℕ) (i d : ℕ)
    → AllChosen past m ts → i < length ts
    → choice_by past (scratch_from m (take i ts)) none_in_flight ≡ Some (get_or ts i d)
chosen-at past m [] i d all below = absurd (omega arith)
chosen-at past m (t ∷ ts) zero d all below = all.0
chosen-at past m (t ∷ ts) (suc i) d all below = chosen-at past (step m t) ts i d all.1 (omega arith)

marked-at :
    (past : Option History) (m : Machine) (ts : List ℕ) (i d : ℕ) (e : Entry)
    → i < length ts → get_or (marked_from past m ts) i e ≡ e → e.thread ≡ get_or ts i d
marked-at past m [] i d e below is = absurd (omega arith)
marked-at past m (t ∷ ts) zero d e below is = ap (λ (x : Entry). x.thread) (sym is)
marked-at past m (t ∷ ts) (suc i) d e below is = marked-at past (step m t) ts i d e (omega arith) is

after-marked :
    (setup : Setup) (past : Option History) (ts : List ℕ) (i : ℕ)
    → machine_after setup (marked past setup ts) i ≡ scratch setup (take i ts)
after-marked setup past ts i =
    ap (scratch setup)
    (sym (take-map (λ (e : Entry). e.thread) i (marked past setup ts))
    ∙ ap (take i) (marked-threads past (first setup) ts))

-- a thread without a place has no record
find-none : (p : Record → Bool) (rs : List Record) → is_some (find p rs) ≡ false → position_or_len p rs ≡ length rs
find-none p [] none = refl
find-none p (r ∷ rs) none =
    elim (p r)
    as (λ b. is_some (cond b (Some r) (find p rs)) ≡ false → cond (not b) (1 + position_or_len p rs) 0
    ≡ suc (length rs)) [
      | true ↦ λ h. absurd (cc)
      | false ↦ λ h. let rest = find-none p rs h in omega arith
    ]
    none

place-none : (p : Record → Bool) (rs : List Record) → length rs ≤ position_or_len p rs → find p rs ≡ None
place-none p [] far = refl
place-none p (r ∷ rs) far =
    elim (p r)
    as (λ b. suc (length rs) ≤ cond (not b) (1 + position_or_len p rs) 0 → cond b (Some r) (find p rs) ≡ None) [
      | true ↦ λ h. absurd (omega arith)
      | false ↦ λ h. place-none p rs (omega arith)
    ]
    far

and-false : (a b : Bool) → (a ≡ true → b ≡ false) → (a && b) ≡ false
and-false true b never = never refl
and-false false b never = refl

none-thread : (m : Machine) (p : ℕ → Bool) → ((v : ℕ) → p v ≡ false) → any_thread m p ≡ false
none-thread m p never =
    none-any p (range_with_len 0 (length m.harts)) (range-all (λ v. p v ≡ false) (length m.harts) 0 never)

right-due :
    (past : Option History) (m : Machine) (in_flight : List Bool) (u : ℕ) → IsChosen past m in_flight u
    → (is_due past m u || not (any_thread m (is_ready_and_due past m))) ≡ true
right-due past m in_flight u chosen =
    elim chosen.due [
      | inl due ↦ rw due refl
      | inr nobody ↦
          let none : any_thread m (is_ready_and_due past m) ≡ false =
          none-thread m (is_ready_and_due past m)
          (λ v. and-false (is_ready (hart_of m v).status) (is_due past m v) (nobody v)) in
          either (is_due past m u) none
    ]
  where
    either :
        (b : Bool) → any_thread m (is_ready_and_due past m) ≡ false
        → (b || not (any_thread m (is_ready_and_due past m))) ≡ true
    either true none = refl
    either false none = rw none refl

unfit-past :
    (past : Option History) (m : Machine) (v : ℕ) → length (past_records past) ≤ place_in past m v
    → fits_next past m v ≡ false
unfit-past past m v far = ap (is_fitting m) (place-none (is_of v (hart_of m v).number) (past_records past) far)

right-fit :
    (past : Option History) (m : Machine) (in_flight : List Bool) (u : ℕ) (b : Bool)
    → ((v : ℕ) → is_in_flight_of in_flight v ≡ true → fits_next past m v ≡ false)
    → IsChosen past m in_flight u → is_some (found past u (hart_of m u).number) ≡ b
    → (b || not (any_thread m (λ v. is_ready_and_due past m v && fits_next past m v))) ≡ true
right-fit past m in_flight u true held chosen is = refl
right-fit past m in_flight u false held chosen is =
    let place : place_in past m u ≡ length (past_records past) =
    find-none (is_of u (hart_of m u).number) (past_records past) is in
    let none : any_thread m (λ v. is_ready_and_due past m v && fits_next past m v) ≡ false =
    none-thread m (λ v. is_ready_and_due past m v && fits_next past m v)
    (λ v. and-false (is_ready_and_due past m v) (fits_next past m v)
    (λ both. unfit v (is_in_flight_of in_flight v) refl place
    (and-left (is_ready (hart_of m v).status) (is_due past m v) both)
    (and-right (is_ready (hart_of m v).status) (is_due past m v) both))) in
    rw none refl
  where
    unfit :
        (v : ℕ) (b : Bool) → is_in_flight_of in_flight v ≡ b → place_in past m u ≡ length (past_records past)
        → is_ready (hart_of m v).status ≡ true → is_due past m v ≡ true → fits_next past m v ≡ false
    unfit v true is_in_flight place ready due = held v is_in_flight
    unfit v false inside place ready due =
        unfit-past past m v (let least = chosen.least v (free-of m in_flight v ready inside) due in omega arith)

-- a chosen thread is chosen by the rule, if no record of a thread in flight fits
pub chosen-picked :
    (past : Option History) (m : Machine) (in_flight : List Bool) (u : ℕ)
    → ((v : ℕ) → is_in_flight_of in_flight v ≡ true → fits_next past m v ≡ false)
    → IsChosen past m in_flight u
    → is_picked_on past m u (hart_of m u).number ≡ true
unfolding is_picked_on
chosen-picked past m in_flight u held chosen =
    let number : eqb (hart_of m u).number (hart_of m u).number ≡ true =
    eq-eqb (hart_of m u).number (hart_of m u).number refl in
    rw (
      free-is_ready m in_flight u chosen.free,
      number,
      right-due past m in_flight u chosen,
      right-fit past m in_flight u
          (is_some (found past u (hart_of m u).number)) held chosen refl,
    ) refl

pub guided-picked :
    (setup : Setup) (past : Option History) (i : ℕ) (e : Entry)
    → IsSetup setup
    → i < length (marked past setup (one_worker setup past))
    → get_or (marked past setup (one_worker setup past)) i e ≡ e
    → IsPicked setup past (marked past setup (one_worker setup past)) i e i
guided-picked setup past i e valid below is =
    let long = marked-length past (first setup) (one_worker setup past) in
    let thread : e.thread ≡ get_or (one_worker setup past) i 0 =
    marked-at past (first setup) (one_worker setup past) i 0 e (omega arith) is in
    let chosen : choice_by past (scratch setup (take i (one_worker setup past))) none_in_flight ≡ Some e.thread =
    chosen-at past (first setup) (one_worker setup past) i 0
    (guided-chosen past setup.limit (first setup) (IsWhole-first setup valid)) (omega arith)
    ∙ ap (λ (t : ℕ). Some t) (sym thread) in
    record {
      earlier = omega arith;
      at_once = λ _. refl;
      by_rule =
          subst (λ (m : Machine). is_picked_on past m e.thread (hart_of m e.thread).number ≡ true)
          (sym (after-marked setup past (one_worker setup past) i))
          (chosen-picked past (scratch setup (take i (one_worker setup past))) none_in_flight e.thread
          (λ v is_in_flight. absurd (let none = none_in_flight-none v in cc))
          (choice_by-chosen past (scratch setup (take i (one_worker setup past))) none_in_flight e.thread chosen));
    }

lone-picked :
    (setup : Setup) (past : Option History) (i : ℕ) (e : Entry)
    → IsSetup setup → IsSound past setup
    → i < length (lone_round setup past).schedule
    → get_or (lone_round setup past).schedule i e ≡ e
    → IsPicked setup past (lone_round setup past).schedule i e i
lone-picked setup past i e valid sound =
    subst (λ (w : RoundState). i < length w.schedule → get_or w.schedule i e ≡ e → IsPicked setup past w.schedule i e i)
    (sym (rounds-made setup past setup.limit valid sound))
    (guided-picked setup past i e valid)

-- each of them was picked when the schedule was as long as its place
pub lone-points :
    (setup : Setup) (past : Option History) → IsSetup setup → IsSound past setup
    → (lone_round setup past).picked ≡ range_with_len 0 (length (lone_round setup past).schedule)
lone-points setup past valid sound =
    ap (λ (w : RoundState). w.picked) (rounds-made setup past setup.limit valid sound)
    ∙ ap (range_with_len 0)
    (sym (ap (λ (w : RoundState). length w.schedule) (rounds-made setup past setup.limit valid sound)
    ∙ marked-length past (first setup) (one_worker setup past)))

pub lone-all_picked :
    (setup : Setup) (past : Option History) → IsSetup setup → IsSound past setup
    → ArePicked setup past (lone_round setup past).schedule (lone_round setup past).picked
lone-all_picked setup past valid sound =
    subst (ArePicked setup past (lone_round setup past).schedule) (sym (lone-points setup past valid sound))
    (record {
      each = length-range_with_len 0 (length (lone_round setup past).schedule);
      by_rule = λ i e there. at i e (slice_get_within (lone_round setup past).schedule i e there) there;
    })
  where
    at :
        (i : ℕ) (e : Entry) → i < length (lone_round setup past).schedule
        → slice_get (lone_round setup past).schedule i ≡ Some e
        → IsPicked setup past (lone_round setup past).schedule i e
        (get_or (range_with_len 0 (length (lone_round setup past).schedule)) i 0)
    at i e below there =
        let now : i ≡ get_or (range_with_len 0 (length (lone_round setup past).schedule)) i 0 =
        (let is = get_or-range_with_len 0 (length (lone_round setup past).schedule) i 0 below in omega arith) in
        subst (λ (n : ℕ). IsPicked setup past (lone_round setup past).schedule i e n) now
        (lone-picked setup past i e valid sound below
        (get_or_from_slice_get (lone_round setup past).schedule i e e there))
