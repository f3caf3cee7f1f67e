-- Whichever history it is based on, the round of one worker never waits, comes to an end, and discards nothing.
use Rattle.std.proofs.Common.{◌≡◌, ◌≢◌, ◌≤◌, ◌+◌, ℕ, zero, suc, Bool, true, false, cond, List, [], ◌∷◌, ◌++◌, length, Option, Some, None, is_some, is_none, refl, ap, sym, ◌∙◌, subst, arith}
use Rattle.thunk_spec.specs.Record.{Record}
use Rattle.machine_spec.specs.declared.states.End.{End}
use Rattle.machine_spec.specs.Machine.{Machine, hart_of, is_ready}
use Rattle.machine_spec.specs.Step.{step, apply, can_step}
use Rattle.machine_spec.specs.Schedule.{record_of}
use Rattle.machine_spec.specs.Setup.{Setup, IsSetup, first}
use Rattle.machine_spec.specs.Whole.{IsWhole}
use Rattle.machine_spec.proofs.Alone.{step-limit, step-steps, first-limit}
use Rattle.machine_spec.proofs.Beginning.{IsWhole-first}
use Rattle.machine_spec.proofs.Steps.{step-whole, can_step-ready}
use Rattle.history_spec.specs.History.{History}
use Rattle.history_spec.proofs.Applying.{fits-can_step, apply-limit, apply-whole}
use Rattle.history_spec.proofs.Numbers.{apply-steps}
use Rattle.report_spec.specs.declared.Entry.{Entry}
use Rattle.round_spec.specs.declared.events.Pick.{Pick}
use Rattle.round_spec.specs.declared.events.Pick.TheVariants as pick
use Rattle.round_spec.specs.Marks.{record_for, is_fitting, fits_next}
use Rattle.round_spec.specs.Rounds.{RoundState, opening}
use Rattle.round_spec.specs.Choice.{pick_of}
use Rattle.round_spec.specs.Alone.{after_pick, after_picks, lone_round}
use Rattle.round_spec.proofs.Picks.{lone_state, after-reuse, after-run, pick-over, pick-chosen, running, below-32, Stands, Over, Goes, stands}

-- how a round continues from a whole machine: it is finished and stays as it is, or one more step is made
data GoesOn (setup : Setup) (past : Option History) (m : Machine) (w : RoundState) : Type 0 where
  Ended : is_some m.ending ≡ true → pick_of w ≡ pick.Over → GoesOn setup past m w
  Stepped :
      (next : Machine) (schedule : List Entry) (rs : List Record) (picked : List ℕ)
      → after_pick w (pick_of w) ≡ lone_state setup past next schedule rs picked → IsWhole next
      → next.limit ≡ m.limit → next.steps ≡ suc m.steps → pick_of w ≢ pick.Hold → GoesOn setup past m w

not-hold : (p : Pick) (t : ℕ) (b : Bool) → p ≡ cond b (pick.Reuse t) (pick.Run t) → p ≢ pick.Hold
not-hold p t true is = λ hold. cc
not-hold p t false is = λ hold. cc

-- the chosen thread's record is applied if it fits, true or not, and else its step is made
chosen-goes :
    (setup : Setup) (past : Option History) (m : Machine) (schedule : List Entry) (rs : List Record) (picked : List ℕ)
    (t : ℕ)
    (o : Option Record) (b : Bool)
    → IsWhole m → m.ending ≡ None → can_step m t ≡ true
    → record_for past m t ≡ o → is_fitting m o ≡ b
    → pick_of (lone_state setup past m schedule rs picked) ≡ cond b (pick.Reuse t) (pick.Run t)
    → GoesOn setup past m (lone_state setup past m schedule rs picked)
chosen-goes setup past m schedule rs picked t None true whole none can there fit is_pick = absurd (cc)
chosen-goes setup past m schedule rs picked t (Some r) true whole none can there fit is_pick =
    Stepped (apply m r) (schedule ++ record { thread = t; reused = true } ∷ []) (rs ++ r ∷ [])
    (picked ++ length schedule ∷ [])
    (ap (after_pick (lone_state setup past m schedule rs picked)) is_pick
    ∙ after-reuse setup past m schedule rs picked t r (running m none) (can_step-ready m t can) there fit)
    (apply-whole m r whole (fits-can_step m r (ap (λ (e : Option End). is_none e) none) fit))
    (apply-limit m r) (apply-steps m r) (not-hold (pick_of (lone_state setup past m schedule rs picked)) t true is_pick)
chosen-goes setup past m schedule rs picked t o false whole none can there fit is_pick =
    let ready : is_ready (hart_of m t).status ≡ true = can_step-ready m t can in
    Stepped (step m t) (schedule ++ record { thread = t; reused = false } ∷ []) (rs ++ record_of m t ∷ [])
    (picked ++ length schedule ∷ [])
    (ap (after_pick (lone_state setup past m schedule rs picked)) is_pick
    ∙ after-run setup past m schedule rs picked t (running m none) ready (below-32 m t whole ready)
    (ap (is_fitting m) there ∙ fit))
    (step-whole m t whole can) (step-limit m t) (step-steps m t)
    (not-hold (pick_of (lone_state setup past m schedule rs picked)) t false is_pick)

goes-on :
    (setup : Setup) (past : Option History) (m : Machine) (schedule : List Entry) (rs : List Record) (picked : List ℕ)
    → IsWhole m → GoesOn setup past m (lone_state setup past m schedule rs picked)
goes-on setup past m schedule rs picked whole = by (stands past m whole)
  where
    by : Stands past m → GoesOn setup past m (lone_state setup past m schedule rs picked)
    by (Over e is) =
        let ended : is_some m.ending ≡ true = ap (λ (o : Option End). is_some o) is in
        Ended ended (pick-over setup past m schedule rs picked ended)
    by (Goes t none chosen can) =
        chosen-goes setup past m schedule rs picked t (record_for past m t)
        (fits_next past m t) whole none can refl refl
        (pick-chosen setup past m schedule rs picked t (running m none) chosen)

-- after any number of picks no thread is in flight, nothing was discarded, the round wasn't stopped, and its machine is
-- whole
record IsLone (setup : Setup) (past : Option History) (w : RoundState) : Type 0 where
  machine : Machine
  schedule : List Entry
  kept : List Record
  points : List ℕ
  is : w ≡ lone_state setup past machine schedule kept points
  whole : IsWhole machine

stays-lone :
    (setup : Setup) (past : Option History) (n : ℕ) (m : Machine) (schedule : List Entry) (rs : List Record)
    (picked : List ℕ)
    → IsWhole m → IsLone setup past (after_picks n (lone_state setup past m schedule rs picked))
stays-lone setup past zero m schedule rs picked whole =
    record { machine = m; schedule = schedule; kept = rs; points = picked; is = refl; whole = whole }
stays-lone setup past (suc n) m schedule rs picked whole =
    by (goes-on setup past m schedule rs picked whole) (stays-lone setup past n m schedule rs picked whole)
    (λ next more kept points whole_next. stays-lone setup past n next more kept points whole_next)
  where
    by :
        GoesOn setup past m (lone_state setup past m schedule rs picked)
        → IsLone setup past (after_picks n (lone_state setup past m schedule rs picked))
        → ((next : Machine) (more : List Entry) (kept : List Record) (points : List ℕ) → IsWhole next
        → IsLone setup past (after_picks n (lone_state setup past next more kept points)))
        → IsLone setup past (after_picks (suc n) (lone_state setup past m schedule rs picked))
    by (Ended ended is_pick) same later =
        subst (λ (p : Pick).
        IsLone setup past (after_picks n (after_pick (lone_state setup past m schedule rs picked) p)))
        (sym is_pick) same
    by (Stepped next more kept points is whole_next limit steps waits) same later =
        subst (λ (w : RoundState). IsLone setup past (after_picks n w)) (sym is)
        (later next more kept points whole_next)

-- a round that has ended stays as it is
over-stays :
    (setup : Setup) (past : Option History) (n : ℕ) (m : Machine) (schedule : List Entry) (rs : List Record)
    (picked : List ℕ)
    → is_some m.ending ≡ true
    → after_picks n (lone_state setup past m schedule rs picked) ≡ lone_state setup past m schedule rs picked
over-stays setup past zero m schedule rs picked ended = refl
over-stays setup past (suc n) m schedule rs picked ended =
    ap (λ (p : Pick). after_picks n (after_pick (lone_state setup past m schedule rs picked) p))
    (pick-over setup past m schedule rs picked ended)
    ∙ over-stays setup past n m schedule rs picked ended

-- each pick makes one more step until there is an end, so the limit is reached
comes-to-end :
    (setup : Setup) (past : Option History) (n : ℕ) (m : Machine) (schedule : List Entry) (rs : List Record)
    (picked : List ℕ)
    → IsWhole m → m.limit ≤ m.steps + n
    → is_some (after_picks n (lone_state setup past m schedule rs picked)).machine.ending ≡ true
comes-to-end setup past zero m schedule rs picked whole enough = ended m.ending refl
  where
    ended : (e : Option End) → m.ending ≡ e → is_some m.ending ≡ true
    ended (Some e) is = ap (λ (o : Option End). is_some o) is
    ended None is = absurd (let left = whole.steps_left is in omega arith)
comes-to-end setup past (suc n) m schedule rs picked whole enough =
    by (goes-on setup past m schedule rs picked whole)
    (λ next more kept points whole_next few. comes-to-end setup past n next more kept points whole_next few)
  where
    by :
        GoesOn setup past m (lone_state setup past m schedule rs picked)
        → ((next : Machine) (more : List Entry) (kept : List Record) (points : List ℕ) → IsWhole next
        → next.limit ≤ next.steps + n
        → is_some (after_picks n (lone_state setup past next more kept points)).machine.ending ≡ true)
        → is_some (after_picks (suc n) (lone_state setup past m schedule rs picked)).machine.ending ≡ true
    by (Ended ended is_pick) later =
        ap (λ (w : RoundState). is_some w.machine.ending) (over-stays setup past (suc n) m schedule rs picked ended)
        ∙ ended
    by (Stepped next more kept points is whole_next limit steps waits) later =
        ap (λ (w : RoundState). is_some (after_picks n w).machine.ending) is
        ∙ later next more kept points whole_next (omega arith)

lone-from :
    (setup : Setup) (past : Option History) (n : ℕ) → IsSetup setup
    → IsLone setup past (after_picks n (opening setup past))
lone-from setup past n valid = stays-lone setup past n (first setup) [] [] [] (IsWhole-first setup valid)

pub lone-ends :
    (setup : Setup) (past : Option History) → IsSetup setup
    → is_some (lone_round setup past).machine.ending ≡ true
lone-ends setup past valid =
    comes-to-end setup past setup.limit (first setup) [] [] [] (IsWhole-first setup valid) (first-limit setup)

pub lone-discarded :
    (setup : Setup) (past : Option History) (n : ℕ) → IsSetup setup → (after_picks n (opening setup past)).discarded ≡ 0
lone-discarded setup past n valid = ap (λ (w : RoundState). w.discarded) (lone-from setup past n valid).is

pub never-hold :
    (setup : Setup) (past : Option History) (n : ℕ)
    → IsSetup setup → pick_of (after_picks n (opening setup past)) ≢ pick.Hold
never-hold setup past n valid =
    let lone = lone-from setup past n valid in
    subst (λ (w : RoundState). pick_of w ≢ pick.Hold) (sym lone.is)
    (by lone.machine lone.schedule lone.kept lone.points
    (goes-on setup past lone.machine lone.schedule lone.kept lone.points lone.whole))
  where
    by :
        (m : Machine) (schedule : List Entry) (rs : List Record) (picked : List ℕ)
        → GoesOn setup past m (lone_state setup past m schedule rs picked)
        → pick_of (lone_state setup past m schedule rs picked) ≢ pick.Hold
    by m schedule rs picked (Ended ended is_pick) = λ hold. cc
    by m schedule rs picked (Stepped next more kept points is whole limit steps waits) = waits
