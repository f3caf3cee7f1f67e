-- All that a round does which starts only picked steps is chosen by the rule, by any number of workers.
use Rattle.std.proofs.Common.{◌≡◌, ◌≢◌, ◌⊎◌, ◌<◌, ◌≤◌, ℕ, Bool, true, false, cond, eqb, List, [], ◌∷◌, ◌++◌, length, length-append, get_or, set, Option, Some, None, refl, ap, sym, ◌∙◌, subst, inl, inr, arith}
use Rattle.std.proofs.Math.Seq.{get_or-append_seam}
use Rattle.std.proofs.lemmas.Bool.{cases_eq, cases_lt, eqb-true, ne_eqb}
use Rattle.std.proofs.lemmas.List.{get_or-set_same, get_or-set_other, get_or_append_left, take_all, take-append-le, length-set}
use Rattle.std.proofs.lemmas.Option.{slice_get_within, get_or_from_slice_get, slice_get_read}
use Rattle.std.specs.List.{slice_get}
use Rattle.thunk_spec.specs.Record.{Record}
use Rattle.machine_spec.specs.Machine.{Machine, hart_of, is_ready}
use Rattle.machine_spec.specs.Setup.{Setup, scratch}
use Rattle.history_spec.specs.History.{History, CanGoBy}
use Rattle.history_spec.proofs.Scratch.{and-left}
use Rattle.history_spec.proofs.Truth.{past-of}
use Rattle.history_spec.proofs.Numbers.{one_for, step-number, apply-number}
use Rattle.report_spec.specs.declared.Entry.{Entry}
use Rattle.report_spec.specs.Report.{threads_of}
use Rattle.round_spec.specs.declared.events.Event.{Event}
use Rattle.round_spec.specs.declared.events.Event.TheVariants.{Take, Reuse, Commit, GiveBack, Stop}
use Rattle.round_spec.specs.declared.events.Pick.TheVariants as pick
use Rattle.round_spec.specs.Marks.{record_for, fits_next}
use Rattle.round_spec.specs.Rounds.{RoundState, opening, is_finished, is_in_flight, can_begin, can_take, can_reuse, taken, taken_when, reused_by, committed, given_back, happens}
use Rattle.round_spec.specs.Choice.{choice_by, with_choice, pick_of}
use Rattle.round_spec.specs.Keeping.{IsFromScratch, IsInOrder}
use Rattle.round_spec.specs.Picking.{is_picked_on, machine_after, IsPicked, ArePicked, IsInFlightByRule, IsPickedSoFar}
use Rattle.round_spec.proofs.BySchedule.{in_flight-below}
use Rattle.round_spec.proofs.Happening.{CanBegin, can_begin-parts, none_in_flight-none, still_in_flight}
use Rattle.round_spec.specs.Replaying.{goes_on_by}
use Rattle.round_spec.proofs.Choosing.{choice_by-chosen}
use Rattle.round_spec.proofs.Picked.{chosen-picked}

-- a step that is started because it was picked was chosen

take-chosen :
    (w : RoundState) (u : ℕ) → goes_on_by (pick_of w) (Take u) ≡ true → choice_by w.past w.machine w.in_flight ≡ Some u
unfolding pick_of
take-chosen w u goes = by (is_finished w) (choice_by w.past w.machine w.in_flight) refl goes
  where
    run : (t : ℕ) (b : Bool) → goes_on_by (cond b (pick.Reuse t) (pick.Run t)) (Take u) ≡ true → t ≡ u
    run t true goes = cc
    run t false goes = eqb-true t u goes

    by :
        (over : Bool) (o : Option ℕ) → choice_by w.past w.machine w.in_flight ≡ o
        → goes_on_by (cond over pick.Over (with_choice w.past w.machine o)) (Take u) ≡ true
        → choice_by w.past w.machine w.in_flight ≡ Some u
    by true o is goes = cc
    by false None is goes = cc
    by false (Some t) is goes = is ∙ ap (λ (n : ℕ). Some n) (run t (fits_next w.past w.machine t) goes)

reuse-chosen :
    (w : RoundState) (u : ℕ) → goes_on_by (pick_of w) (Reuse u) ≡ true → choice_by w.past w.machine w.in_flight ≡ Some u
unfolding pick_of
reuse-chosen w u goes = by (is_finished w) (choice_by w.past w.machine w.in_flight) refl goes
  where
    reuse : (t : ℕ) (b : Bool) → goes_on_by (cond b (pick.Reuse t) (pick.Run t)) (Reuse u) ≡ true → t ≡ u
    reuse t true goes = eqb-true t u goes
    reuse t false goes = cc

    by :
        (over : Bool) (o : Option ℕ) → choice_by w.past w.machine w.in_flight ≡ o
        → goes_on_by (cond over pick.Over (with_choice w.past w.machine o)) (Reuse u) ≡ true
        → choice_by w.past w.machine w.in_flight ≡ Some u
    by true o is goes = cc
    by false None is goes = cc
    by false (Some t) is goes = is ∙ ap (λ (n : ℕ). Some n) (reuse t (fits_next w.past w.machine t) goes)

-- so it is chosen by the rule on the machine as it is
by_rule-now :
    (w : RoundState) (u : ℕ) → IsInOrder w → choice_by w.past w.machine w.in_flight ≡ Some u
    → is_picked_on w.past w.machine u (hart_of w.machine u).number ≡ true
by_rule-now w u kept chosen =
    chosen-picked w.past w.machine w.in_flight u (λ v raised. (kept.held v raised).unfit)
    (choice_by-chosen w.past w.machine w.in_flight u chosen)

-- the machine after the first entries

after-more :
    (setup : Setup) (schedule : List Entry) (e : Entry) (n : ℕ) → n ≤ length schedule
    → machine_after setup (schedule ++ e ∷ []) n ≡ machine_after setup schedule n
after-more setup schedule e n low =
    ap (λ (es : List Entry). scratch setup (threads_of es)) (take-append-le n schedule (e ∷ []) low)

after-all : (w : RoundState) → IsFromScratch w → machine_after w.setup w.schedule (length w.schedule) ≡ w.machine
after-all w s =
    ap (λ (es : List Entry). scratch w.setup (threads_of es)) (take_all (length w.schedule) w.schedule (omega arith))
    ∙ sym s.machine

after-now :
    (w : RoundState) (e : Entry) → IsFromScratch w
    → machine_after w.setup (w.schedule ++ e ∷ []) (length w.schedule) ≡ w.machine
after-now w e s = after-more w.setup w.schedule e (length w.schedule) (omega arith) ∙ after-all w s

-- one more entry

picked-longer :
    (setup : Setup) (past : Option History) (schedule : List Entry) (e : Entry) (i : ℕ) (d : Entry) (n : ℕ)
    → i < length schedule → IsPicked setup past schedule i d n → IsPicked setup past (schedule ++ e ∷ []) i d n
picked-longer setup past schedule e i d n below is =
    let earlier = is.earlier in
    let then : machine_after setup schedule n ≡ machine_after setup (schedule ++ e ∷ []) n =
    sym (after-more setup schedule e n (omega arith)) in
    let now : machine_after setup schedule i ≡ machine_after setup (schedule ++ e ∷ []) i =
    sym (after-more setup schedule e i (omega arith)) in
    record {
      earlier = earlier;
      at_once = is.at_once;
      by_rule =
          subst (λ (m : Machine). is_picked_on past m d.thread
          (hart_of (machine_after setup (schedule ++ e ∷ []) i) d.thread).number ≡ true) then
          (subst (λ (m : Machine). is_picked_on past (machine_after setup schedule n) d.thread
          (hart_of m d.thread).number ≡ true) now is.by_rule);
    }

entries-more :
    (setup : Setup) (past : Option History) (schedule : List Entry) (picked : List ℕ) (e : Entry) (n : ℕ)
    → ArePicked setup past schedule picked → IsPicked setup past (schedule ++ e ∷ []) (length schedule) e n
    → ArePicked setup past (schedule ++ e ∷ []) (picked ++ n ∷ [])
entries-more setup past schedule picked e n are last =
    record {
      each =
          (let long = are.each in let es = length-append schedule (e ∷ []) in let ns = length-append picked (n ∷ []) in
          omega arith);
      by_rule = λ i d there. at i d there (cases_lt i (length schedule));
    }
  where
    at :
        (i : ℕ) (d : Entry) → slice_get (schedule ++ e ∷ []) i ≡ Some d
        → (i < length schedule) ⊎ (length schedule ≤ i)
        → IsPicked setup past (schedule ++ e ∷ []) i d (get_or (picked ++ n ∷ []) i 0)
    at i d there (inl below) =
        let long = are.each in
        let before : slice_get schedule i ≡ Some d =
        slice_get_read schedule (length schedule) i d refl below
        (sym (get_or_from_slice_get (schedule ++ e ∷ []) i d d there)
        ∙ get_or_append_left schedule (e ∷ []) d i below) in
        let point : get_or picked i 0 ≡ get_or (picked ++ n ∷ []) i 0 =
        sym (get_or_append_left picked (n ∷ []) 0 i (omega arith)) in
        subst (λ (k : ℕ). IsPicked setup past (schedule ++ e ∷ []) i d k) point
        (picked-longer setup past schedule e i d (get_or picked i 0) below (are.by_rule i d before))
    at i d there (inr late) =
        let within = slice_get_within (schedule ++ e ∷ []) i d there in
        let more = length-append schedule (e ∷ []) in
        let place : length schedule ≡ i = omega arith in
        let is : e ≡ d =
        sym (get_or-append_seam schedule e [] d)
        ∙ ap (λ (k : ℕ). get_or (schedule ++ e ∷ []) k d) place
        ∙ get_or_from_slice_get (schedule ++ e ∷ []) i d d there in
        let point : n ≡ get_or (picked ++ n ∷ []) i 0 =
        sym (get_or-append_seam picked n [] 0)
        ∙ ap (λ (k : ℕ). get_or (picked ++ n ∷ []) k 0) (are.each ∙ place) in
        subst (λ (k : ℕ). IsPicked setup past (schedule ++ e ∷ []) i d k) point
        (subst (λ (x : Entry). IsPicked setup past (schedule ++ e ∷ []) i x n) is
        (subst (λ (k : ℕ). IsPicked setup past (schedule ++ e ∷ []) k e n) place last))

-- the threads in flight

-- at a schedule with one more entry, and with another number of the same value
in_flight-longer :
    (past : Option History) (setup : Setup) (schedule : List Entry) (e : Entry) (t n a b : ℕ)
    → n ≤ length schedule → b ≡ a
    → is_picked_on past (machine_after setup schedule n) t a ≡ true
    → is_picked_on past (machine_after setup (schedule ++ e ∷ []) n) t b ≡ true
in_flight-longer past setup schedule e t n a b low same is =
    ap (λ (m : Machine). is_picked_on past m t b) (after-more setup schedule e n low)
    ∙ ap (is_picked_on past (machine_after setup schedule n) t) same
    ∙ is

-- the step of another thread changes no number
one-other : (t u : ℕ) → t ≢ u → one_for t u ≡ 0
one-other t u other = let isnt : eqb u t ≡ false = ne_eqb u t (λ same. other (sym same)) in rw isnt refl

-- each event

take-by_rule :
    (w : RoundState) (u : ℕ) (b : Bool)
    → IsFromScratch w → IsInOrder w → IsPickedSoFar w → choice_by w.past w.machine w.in_flight ≡ Some u
    → IsPickedSoFar (cond b (taken w u) w)
take-by_rule w u false s kept so_far chosen = so_far
take-by_rule w u true s kept so_far chosen =
    record {
      entries = so_far.entries;
      held = λ t raised. at t raised (cases_eq t u);
    }
  where
    at : (t : ℕ) → is_in_flight (taken w u) t ≡ true → (t ≡ u) ⊎ (t ≢ u) → IsInFlightByRule (taken w u) t
    at t raised (inl same) =
        let below = in_flight-below (set w.in_flight u true) t raised in
        let flags = length-set w.in_flight u true in
        let fits = kept.flags in
        let lengths = kept.lengths in
        let when_u : get_or (set w.taken_at u (length w.schedule)) u 0 ≡ length w.schedule =
        get_or-set_same w.taken_at u (length w.schedule) 0 (omega arith) in
        let when : taken_when (taken w u) t ≡ length w.schedule =
        ap (λ (k : ℕ). get_or (set w.taken_at u (length w.schedule)) k 0) same ∙ when_u in
        record {
          earlier = omega arith;
          by_rule =
              ap (λ (k : ℕ). is_picked_on w.past (machine_after w.setup w.schedule k) t (hart_of w.machine t).number)
              when
              ∙ ap (λ (m : Machine). is_picked_on w.past m t (hart_of w.machine t).number) (after-all w s)
              ∙ ap (λ (k : ℕ). is_picked_on w.past w.machine k (hart_of w.machine k).number) same
              ∙ by_rule-now w u kept chosen;
        }
    at t raised (inr other) =
        let before : IsInFlightByRule w t = so_far.held t (sym (get_or-set_other w.in_flight u t true false other) ∙ raised) in
        let when : taken_when (taken w u) t ≡ taken_when w t =
        get_or-set_other w.taken_at u t (length w.schedule) 0 other in
        let earlier = before.earlier in
        record {
          earlier = omega arith;
          by_rule =
              ap (λ (k : ℕ). is_picked_on w.past (machine_after w.setup w.schedule k) t (hart_of w.machine t).number)
              when
              ∙ before.by_rule;
        }

reused-by_rule :
    (w : RoundState) (u : ℕ) (o : Option Record)
    → record_for w.past w.machine u ≡ o → CanBegin w u
    → IsFromScratch w → IsInOrder w → IsPickedSoFar w → choice_by w.past w.machine w.in_flight ≡ Some u
    → IsPickedSoFar (reused_by w u o)
reused-by_rule w u None there can s kept so_far chosen = so_far
reused-by_rule w u (Some r) there can s kept so_far chosen =
    record {
      entries =
          entries-more w.setup w.past w.schedule w.picked e (length w.schedule) so_far.entries
          (record {
            earlier = omega arith;
            at_once = λ _. refl;
            by_rule =
                ap (λ (m : Machine). is_picked_on w.past m u (hart_of m u).number) (after-now w e s)
                ∙ by_rule-now w u kept chosen;
          });
      held = λ t raised. at t raised;
    }
  where
    e : Entry
    e = record { thread = u; reused = true }

    of : (r.thread ≡ u) × (r.number ≡ (hart_of w.machine u).number)
    of = past-of w.past u (hart_of w.machine u).number r there

    ready : is_ready (hart_of w.machine r.thread).status ≡ true
    ready = ap (λ (k : ℕ). is_ready (hart_of w.machine k).status) of.0 ∙ can.ready

    at : (t : ℕ) → is_in_flight w t ≡ true → IsInFlightByRule (reused_by w u (Some r)) t
    at t raised =
        let other : t ≢ u = λ same. let inside : is_in_flight w t ≡ false = ap (is_in_flight w) same ∙ can.inside in cc in
        let before : IsInFlightByRule w t = so_far.held t raised in
        let earlier = before.earlier in
        let more = length-append w.schedule (e ∷ []) in
        let none : one_for t r.thread ≡ 0 = ap (one_for t) of.0 ∙ one-other t u other in
        let number = apply-number w.machine r t ready in
        record {
          earlier = omega arith;
          by_rule =
              in_flight-longer w.past w.setup w.schedule e t (taken_when w t) (hart_of w.machine t).number _ earlier
              (omega arith) before.by_rule;
        }

reuse-by_rule :
    (w : RoundState) (u : ℕ) (b : Bool)
    → can_reuse w u ≡ b
    → IsFromScratch w → IsInOrder w → IsPickedSoFar w → choice_by w.past w.machine w.in_flight ≡ Some u
    → IsPickedSoFar (cond b (reused_by w u (record_for w.past w.machine u)) w)
reuse-by_rule w u false is s kept so_far chosen = so_far
reuse-by_rule w u true is s kept so_far chosen =
    reused-by_rule w u (record_for w.past w.machine u) refl
    (can_begin-parts w u (and-left (can_begin w u) (fits_next w.past w.machine u) is)) s kept so_far chosen

given_back-by_rule : (w : RoundState) (u : ℕ) → IsPickedSoFar w → IsPickedSoFar (given_back w u)
given_back-by_rule w u so_far =
    record {
      entries = so_far.entries;
      held = λ t raised. at t (still_in_flight w.in_flight u t raised).0 (so_far.held t (still_in_flight w.in_flight u t raised).1);
    }
  where
    at : (t : ℕ) → t ≢ u → IsInFlightByRule w t → IsInFlightByRule (given_back w u) t
    at t other before =
        let when : taken_when (given_back w u) t ≡ taken_when w t = get_or-set_other w.taken_at u t 0 0 other in
        let earlier = before.earlier in
        record {
          earlier = omega arith;
          by_rule =
              ap (λ (k : ℕ). is_picked_on w.past (machine_after w.setup w.schedule k) t (hart_of w.machine t).number)
              when
              ∙ before.by_rule;
        }

committed-by_rule :
    (w : RoundState) (u : ℕ) → is_in_flight w u ≡ true
    → IsFromScratch w → IsInOrder w → IsPickedSoFar w → IsPickedSoFar (committed w u)
committed-by_rule w u in_flight s kept so_far =
    record {
      entries =
          entries-more w.setup w.past w.schedule w.picked e (taken_when w u) so_far.entries
          (record {
            earlier = own.earlier;
            at_once = λ reused. cc;
            by_rule =
                in_flight-longer w.past w.setup w.schedule e u (taken_when w u) (hart_of w.machine u).number _ own.earlier
                (ap (λ (m : Machine). (hart_of m u).number) (after-now w e s)) own.by_rule;
          });
      held = λ t raised. at t (still_in_flight w.in_flight u t raised).0 (so_far.held t (still_in_flight w.in_flight u t raised).1);
    }
  where
    e : Entry
    e = record { thread = u; reused = false }

    own : IsInFlightByRule w u
    own = so_far.held u in_flight

    at : (t : ℕ) → t ≢ u → IsInFlightByRule w t → IsInFlightByRule (committed w u) t
    at t other before =
        let when : taken_when (committed w u) t ≡ taken_when w t = get_or-set_other w.taken_at u t 0 0 other in
        let earlier = before.earlier in
        let more = length-append w.schedule (e ∷ []) in
        let none : one_for t u ≡ 0 = one-other t u other in
        let number = step-number w.machine u t (kept.held u in_flight).ready in
        record {
          earlier = omega arith;
          by_rule =
              ap (λ (k : ℕ). is_picked_on w.past (machine_after w.setup (w.schedule ++ e ∷ []) k) t
              (hart_of (committed w u).machine t).number) when
              ∙ in_flight-longer w.past w.setup w.schedule e t (taken_when w t) (hart_of w.machine t).number _ earlier
              (omega arith) before.by_rule;
        }

commit-by_rule :
    (w : RoundState) (u : ℕ) (in_flight over : Bool)
    → is_in_flight w u ≡ in_flight → IsFromScratch w → IsInOrder w → IsPickedSoFar w
    → IsPickedSoFar (cond in_flight (cond over (given_back w u) (committed w u)) w)
commit-by_rule w u false over in_flight s kept so_far = so_far
commit-by_rule w u true true in_flight s kept so_far = given_back-by_rule w u so_far
commit-by_rule w u true false in_flight s kept so_far = committed-by_rule w u in_flight s kept so_far

give_back-by_rule :
    (w : RoundState) (u : ℕ) (in_flight : Bool) → IsPickedSoFar w → IsPickedSoFar (cond in_flight (given_back w u) w)
give_back-by_rule w u true so_far = given_back-by_rule w u so_far
give_back-by_rule w u false so_far = so_far

-- so the same holds after each event
pub by_rule-happens :
    (w : RoundState) (e : Event)
    → CanGoBy w.past w.setup → IsInOrder w → IsPickedSoFar w → goes_on_by (pick_of w) e ≡ true
    → IsPickedSoFar (happens w e)
unfolding happens
by_rule-happens w (Take u) premise kept so_far goes =
    take-by_rule w u (can_take w u) (kept.scratch premise.sound) kept so_far (take-chosen w u goes)
by_rule-happens w (Reuse u) premise kept so_far goes =
    reuse-by_rule w u (can_reuse w u) refl (kept.scratch premise.sound) kept so_far (reuse-chosen w u goes)
by_rule-happens w (Commit u) premise kept so_far goes =
    commit-by_rule w u (is_in_flight w u) (is_finished w) refl (kept.scratch premise.sound) kept so_far
by_rule-happens w (GiveBack u) premise kept so_far goes = give_back-by_rule w u (is_in_flight w u) so_far
by_rule-happens w Stop premise kept so_far goes =
    record {
      entries = so_far.entries;
      held = λ t raised.
          let before : IsInFlightByRule w t = so_far.held t raised in
          record { earlier = before.earlier; by_rule = before.by_rule };
    }

-- and at the start
pub by_rule-opening : (setup : Setup) (past : Option History) → IsPickedSoFar (opening setup past)
by_rule-opening setup past =
    record {
      entries = record {
        each = refl;
        by_rule = λ i e there. absurd (let within = slice_get_within [] i e there in omega arith);
      };
      held = λ t raised. absurd (let none = none_in_flight-none t in cc);
    }
