-- The round of one worker is the one that its schedule makes, pick by pick.
use Rattle.std.proofs.Common.{◌≡◌, ◌<◌, ℕ, zero, suc, Bool, true, false, cond, List, [], ◌∷◌, ◌++◌, length, get_or, set, Option, Some, None, is_some, refl, ap, sym, ◌∙◌, arith}
use Rattle.std.proofs.lemmas.List.{get_or-set_same}
use Rattle.std.specs.List.{range_with_len}
use Rattle.thunk_spec.specs.Record.{Record}
use Rattle.machine_spec.specs.declared.states.End.{End}
use Rattle.machine_spec.specs.Machine.{Machine, hart_of, is_ready}
use Rattle.machine_spec.specs.Step.{step, apply, fits, can_step}
use Rattle.machine_spec.specs.Schedule.{record_of}
use Rattle.machine_spec.specs.Setup.{Setup, first, scratch, records}
use Rattle.machine_spec.specs.Choice.{chosen_first}
use Rattle.machine_spec.specs.Whole.{IsWhole}
use Rattle.machine_spec.proofs.Harts.{ready-below}
use Rattle.history_spec.specs.History.{History, IsSound}
use Rattle.history_spec.proofs.Scratch.{scratch-frame, scratch-more, records-more}
use Rattle.history_spec.proofs.Truth.{reuse-record, reuse-apply}
use Rattle.report_spec.specs.declared.Entry.{Entry}
use Rattle.report_spec.specs.Report.{threads_of}
use Rattle.round_spec.specs.declared.events.Pick.TheVariants as pick
use Rattle.round_spec.specs.Marks.{record_for, is_fitting, fits_next, marked_from, marked}
use Rattle.round_spec.specs.Rounds.{RoundState, none_in_flight, nothing_taken, happens}
use Rattle.round_spec.specs.Choice.{choice_by, pick_of}
use Rattle.round_spec.specs.Alone.{guided_from, after_pick}
use Rattle.round_spec.proofs.Fits.{marked-more}
use Rattle.round_spec.proofs.Happening.{none_in_flight-none, nothing_taken-none, nothing_taken-length}
use Rattle.round_spec.proofs.BySchedule.{set-back, picked-more}
use Rattle.round_spec.specs.OneWorker.{made_by}
use Rattle.round_spec.proofs.Lists.{get-raised}
use Rattle.round_spec.proofs.Choosing.{choice_by-some, choice_by-chosen, free-is_ready}

-- marks

pub marked-threads : (past : Option History) (m : Machine) (ts : List ℕ) → threads_of (marked_from past m ts) ≡ ts
marked-threads past m [] = refl
marked-threads past m (t ∷ ts) = ap (λ (us : List ℕ). t ∷ us) (marked-threads past (step m t) ts)

pub marked-length : (past : Option History) (m : Machine) (ts : List ℕ) → length (marked_from past m ts) ≡ length ts
marked-length past m [] = refl
marked-length past m (t ∷ ts) = ap suc (marked-length past (step m t) ts)

-- a round of one worker by its parts
abbrev pub lone_state : Setup → Option History → Machine → List Entry → List Record → List ℕ → RoundState
lone_state setup past m schedule rs picked =
    record {
      setup = setup;
      past = past;
      machine = m;
      schedule = schedule;
      records = rs;
      picked = picked;
      in_flight = none_in_flight;
      taken_at = nothing_taken;
      discarded = 0;
      stopped = false;
    }

pub made-more :
    (setup : Setup) (past : Option History) (ts : List ℕ) (t : ℕ)
    → made_by setup past (ts ++ t ∷ [])
    ≡ lone_state setup past (step (scratch setup ts) t)
    (marked past setup ts ++ record { thread = t; reused = fits_next past (scratch setup ts) t } ∷ [])
    (records setup ts ++ record_of (scratch setup ts) t ∷ [])
    (range_with_len 0 (length ts) ++ length (marked past setup ts) ∷ [])
made-more setup past ts t =
    rw (scratch-more (first setup) ts t, marked-more past (first setup) ts t, records-more (first setup) ts t)
    (ap (lone_state setup past (step (scratch setup ts) t)
    (marked past setup ts ++ record { thread = t; reused = fits_next past (scratch setup ts) t } ∷ [])
    (records setup ts ++ record_of (scratch setup ts) t ∷ []))
    (sym (picked-more (range_with_len 0 (length ts)) ts t (length (marked past setup ts)) refl
    (marked-length past (first setup) ts))))

-- one pick

pub after-reuse :
    (setup : Setup) (past : Option History) (m : Machine) (schedule : List Entry) (rs : List Record) (picked : List ℕ)
    (t : ℕ)
    (r : Record)
    → is_some m.ending ≡ false → is_ready (hart_of m t).status ≡ true
    → record_for past m t ≡ Some r → fits m r ≡ true
    → after_pick (lone_state setup past m schedule rs picked) (pick.Reuse t)
    ≡ lone_state setup past (apply m r) (schedule ++ record { thread = t; reused = true } ∷ []) (rs ++ r ∷ [])
    (picked ++ length schedule ∷ [])
unfolding happens
after-reuse setup past m schedule rs picked t r none ready there fit =
    rw (none, ready, none_in_flight-none t, there, fit) refl

raised : (t : ℕ) → t < 32 → get_or (set none_in_flight t true) t false ≡ true
unfolding none_in_flight
raised t below = get-raised 32 t below

lowered : (t : ℕ) → set (set none_in_flight t true) t false ≡ none_in_flight
lowered t = set-back none_in_flight t true false (none_in_flight-none t)

-- a kept length is read back, and can be removed
noted : (t n : ℕ) → t < 32 → get_or (set nothing_taken t n) t 0 ≡ n
noted t n below =
    let lengths = nothing_taken-length in get_or-set_same nothing_taken t n 0 (omega arith)

forgotten : (t n : ℕ) → set (set nothing_taken t n) t 0 ≡ nothing_taken
forgotten t n = set-back nothing_taken t n 0 (nothing_taken-none t)

pub after-run :
    (setup : Setup) (past : Option History) (m : Machine) (schedule : List Entry) (rs : List Record) (picked : List ℕ)
    (t : ℕ)
    → is_some m.ending ≡ false → is_ready (hart_of m t).status ≡ true → t < 32
    → fits_next past m t ≡ false
    → after_pick (lone_state setup past m schedule rs picked) (pick.Run t)
    ≡ lone_state setup past (step m t) (schedule ++ record { thread = t; reused = false } ∷ [])
    (rs ++ record_of m t ∷ []) (picked ++ length schedule ∷ [])
unfolding happens
after-run setup past m schedule rs picked t none ready below unfit =
    rw (
      none,
      ready,
      none_in_flight-none t,
      unfit,
      raised t below,
      lowered t,
      noted t (length schedule) below,
      forgotten t (length schedule),
      none,
    ) refl

pub pick-over :
    (setup : Setup) (past : Option History) (m : Machine) (schedule : List Entry) (rs : List Record) (picked : List ℕ)
    → is_some m.ending ≡ true
    → pick_of (lone_state setup past m schedule rs picked) ≡ pick.Over
unfolding pick_of
pick-over setup past m schedule rs picked is = rw is refl

pub pick-chosen :
    (setup : Setup) (past : Option History) (m : Machine) (schedule : List Entry) (rs : List Record) (picked : List ℕ)
    (t : ℕ)
    → is_some m.ending ≡ false → choice_by past m none_in_flight ≡ Some t
    → pick_of (lone_state setup past m schedule rs picked) ≡ cond (fits_next past m t) (pick.Reuse t) (pick.Run t)
unfolding pick_of
pick-chosen setup past m schedule rs picked t none chosen = rw (none, chosen) refl

pub running : (m : Machine) → m.ending ≡ None → is_some m.ending ≡ false
running m none = rw none refl

pub below-32 : (m : Machine) (t : ℕ) → IsWhole m → is_ready (hart_of m t).status ≡ true → t < 32
below-32 m t whole ready =
    let below = ready-below m.harts t ready in
    let threads = whole.tied.threads in
    let few = whole.tied.kept.few_threads in
    omega arith

chosen-ready :
    (past : Option History) (m : Machine) (t : ℕ) → choice_by past m none_in_flight ≡ Some t
    → is_ready (hart_of m t).status ≡ true
chosen-ready past m t chosen = free-is_ready m none_in_flight t (choice_by-chosen past m none_in_flight t chosen).free

-- following the choice of a thread makes its step, by its record if that fits
after-chosen :
    (setup : Setup) (past : Option History) (m : Machine) (schedule : List Entry) (rs : List Record) (picked : List ℕ)
    (t : ℕ)
    (o : Option Record) (b : Bool)
    → IsSound past setup → IsWhole m → m.frame ≡ (first setup).frame
    → m.ending ≡ None → is_ready (hart_of m t).status ≡ true
    → record_for past m t ≡ o → is_fitting m o ≡ b
    → after_pick (lone_state setup past m schedule rs picked) (cond b (pick.Reuse t) (pick.Run t))
    ≡ lone_state setup past (step m t) (schedule ++ record { thread = t; reused = b } ∷ []) (rs ++ record_of m t ∷ [])
    (picked ++ length schedule ∷ [])
after-chosen setup past m schedule rs picked t None true sound whole frame none ready there fit = cc
after-chosen setup past m schedule rs picked t (Some r) true sound whole frame none ready there fit =
    after-reuse setup past m schedule rs picked t r (running m none) ready there fit
    ∙ ap (λ (n : Machine). lone_state setup past n (schedule ++ record { thread = t; reused = true } ∷ [])
    (rs ++ r ∷ []) (picked ++ length schedule ∷ []))
    (reuse-apply setup past m t (hart_of m t).number r sound whole frame there fit)
    ∙ ap (λ (x : Record). lone_state setup past (step m t) (schedule ++ record { thread = t; reused = true } ∷ [])
    (rs ++ x ∷ []) (picked ++ length schedule ∷ []))
    (reuse-record setup past m t (hart_of m t).number r sound whole frame there fit)
after-chosen setup past m schedule rs picked t o false sound whole frame none ready there fit =
    after-run setup past m schedule rs picked t (running m none) ready (below-32 m t whole ready)
    (ap (is_fitting m) there ∙ fit)

pub after-made :
    (setup : Setup) (past : Option History) (ts : List ℕ) (t : ℕ)
    → IsSound past setup → IsWhole (scratch setup ts)
    → (scratch setup ts).ending ≡ None
    → choice_by past (scratch setup ts) none_in_flight ≡ Some t
    → after_pick (made_by setup past ts) (pick_of (made_by setup past ts)) ≡ made_by setup past (ts ++ t ∷ [])
after-made setup past ts t sound whole none chosen =
    ap (after_pick (made_by setup past ts))
    (pick-chosen setup past (scratch setup ts) (marked past setup ts) (records setup ts)
    (range_with_len 0 (length ts)) t
    (running (scratch setup ts) none) chosen)
    ∙ after-chosen setup past (scratch setup ts) (marked past setup ts) (records setup ts)
    (range_with_len 0 (length ts)) t
    (record_for past (scratch setup ts) t)
    (fits_next past (scratch setup ts) t) sound whole (scratch-frame (first setup) ts) none
    (chosen-ready past (scratch setup ts) t chosen) refl refl
    ∙ sym (made-more setup past ts t)

pub after-over :
    (setup : Setup) (past : Option History) (ts : List ℕ) (e : End)
    → (scratch setup ts).ending ≡ Some e
    → after_pick (made_by setup past ts) (pick_of (made_by setup past ts)) ≡ made_by setup past ts
after-over setup past ts e is =
    ap (after_pick (made_by setup past ts))
    (pick-over setup past (scratch setup ts) (marked past setup ts) (records setup ts) (range_with_len 0 (length ts))
    (ap (λ (o : Option End). is_some o) is))

-- after an end no thread is chosen, and before it one is
pub guided-over :
    (past : Option History) (n : ℕ) (m : Machine) (e : End) → m.ending ≡ Some e
    → guided_from past n m ≡ []
guided-over past zero m e is = refl
guided-over past (suc n) m e is =
    ap (λ (o : Option End). chosen_first o (choice_by past m none_in_flight) (λ t. guided_from past n (step m t))) is

pub guided-next :
    (past : Option History) (n : ℕ) (m : Machine) (t : ℕ)
    → m.ending ≡ None → choice_by past m none_in_flight ≡ Some t
    → guided_from past (suc n) m ≡ t ∷ guided_from past n (step m t)
guided-next past n m t none chosen =
    ap (λ (o : Option End). chosen_first o (choice_by past m none_in_flight) (λ u. guided_from past n (step m u))) none
    ∙ ap (λ (o : Option ℕ). chosen_first None o (λ u. guided_from past n (step m u))) chosen

-- the state after a permitted schedule: at an end, or before the step of the chosen thread
pub data Stands (past : Option History) (m : Machine) : Type 0 where
  Over : (e : End) → m.ending ≡ Some e → Stands past m
  Goes : (t : ℕ) → m.ending ≡ None → choice_by past m none_in_flight ≡ Some t → can_step m t ≡ true → Stands past m

pub stands : (past : Option History) (m : Machine) → IsWhole m → Stands past m
stands past m whole = by m.ending (choice_by past m none_in_flight) refl refl
  where
    by : (e : Option End) (o : Option ℕ) → m.ending ≡ e → choice_by past m none_in_flight ≡ o → Stands past m
    by (Some e) o is chosen = Over e is
    by None None is chosen =
        absurd (let some = choice_by-some past m ∙ whole.some_ready is in let impossible = rw chosen at some in cc)
    by None (Some t) is chosen =
        let ready : is_ready (hart_of m t).status ≡ true = chosen-ready past m t chosen in
        Goes t is chosen (rw (is, ready) refl)
