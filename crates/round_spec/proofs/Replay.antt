-- A round without an edit that continues only by its picks does what its history did.
use Rattle.std.proofs.Common.{◌≡◌, ℕ, suc, Bool, true, false, List, [], ◌∷◌, ◌++◌, length, map, take, drop, Option, Some, is_some, refl, ap, sym, ◌∙◌, subst, append_assoc, append-nil, arith}
use Rattle.std.proofs.Math.Seq.{take-append_seam}
use Rattle.std.proofs.lemmas.Bool.{eqb-true}
use Rattle.std.proofs.lemmas.List.{take-append-drop, length-append}
use Rattle.std.specs.List.{take-map}
use Rattle.thunk_spec.specs.Record.{Record}
use Rattle.machine_spec.specs.Machine.{Machine, hart_of, is_ready}
use Rattle.machine_spec.specs.Step.{apply, fits}
use Rattle.machine_spec.specs.Setup.{Setup, IsSetup, first}
use Rattle.machine_spec.specs.Whole.{IsWhole}
use Rattle.machine_spec.proofs.Beginning.{IsWhole-first}
use Rattle.machine_spec.proofs.Steps.{can_step-ready}
use Rattle.history_spec.specs.History.{History, IsHonest, schedule_of, threads_of_records, applied_from, is_coherent}
use Rattle.history_spec.proofs.Truth.{records-applied, honest-coherent}
use Rattle.report_spec.specs.declared.Entry.{Entry}
use Rattle.report_spec.specs.Report.{threads_of, instructions_from}
use Rattle.round_spec.specs.declared.events.Event.{Event}
use Rattle.round_spec.specs.declared.events.Event.TheVariants.{Take, Reuse, Commit, GiveBack, Stop}
use Rattle.round_spec.specs.declared.events.Pick.{Pick}
use Rattle.round_spec.specs.declared.events.Pick.TheVariants as pick
use Rattle.round_spec.specs.Marks.{record_for, fits_next}
use Rattle.round_spec.specs.Rounds.{RoundState, opening, is_finished, is_in_flight, is_in_flight_of, reused_by, happens}
use Rattle.round_spec.specs.Due.{place_in, is_due}
use Rattle.round_spec.specs.Choice.{choice_by, pick_of}
use Rattle.round_spec.specs.Alone.{begun}
use Rattle.round_spec.specs.Instructions.{executed_instructions}
use Rattle.round_spec.specs.Unedited.{IsUnedited, is_all_reused, all_reused_of, OnlyReuses}
use Rattle.round_spec.proofs.Conditions.{happens-commit_not, happens-give_back_not, happens-stop}
use Rattle.round_spec.proofs.Happening.{none_in_flight-none}
use Rattle.round_spec.specs.Replaying.{Repeats, HasReused, IsReplaying, IsNextStep, goes_on_by}
use Rattle.round_spec.proofs.Following.{IsNext, next-place, other-place, next-due, next-found, next-fits, next-chosen, can_step-none}
use Rattle.round_spec.proofs.Coherent.{applied-both, coherent-whole, coherent-fits, coherent-next, coherent-end}
use Rattle.round_spec.proofs.Unedited.{reused-all, reused-instructions, reused-executed, unedited-begun}

-- a list's first elements

grown :
    {X : Type 0} (all front : List X) (x : X) (back : List X) (k : ℕ) → all ≡ front ++ x ∷ back
    → k ≡ length (front ++ x ∷ [])
    → front ++ x ∷ [] ≡ take k all
grown all front x back k split long =
    sym (take-append_seam (front ++ x ∷ []) back)
    ∙ ap (λ (xs : _). take (length (front ++ x ∷ [])) xs) (append_assoc front (x ∷ []) back ∙ sym split)
    ∙ ap (λ (n : ℕ). take n all) (sym long)

abbrev reused_of : ℕ → Entry
reused_of t = record { thread = t; reused = true }

pub threads-reused : (ts : List ℕ) → threads_of (map reused_of ts) ≡ ts
threads-reused [] = refl
threads-reused (t ∷ ts) = ap (λ (us : List ℕ). t ∷ us) (threads-reused ts)

pub length-threads : (es : List Entry) → length (threads_of es) ≡ length es
length-threads [] = refl
length-threads (e ∷ es) = ap suc (length-threads es)

length-records : (rs : List Record) → length (threads_of_records rs) ≡ length rs
length-records [] = refl
length-records (r ∷ rs) = ap suc (length-records rs)

length-reused : (ts : List ℕ) → length (map reused_of ts) ≡ length ts
length-reused [] = refl
length-reused (t ∷ ts) = ap suc (length-reused ts)

reused-both :
    (xs ys : List Record)
    → map reused_of (threads_of_records (xs ++ ys))
    ≡ map reused_of (threads_of_records xs) ++ map reused_of (threads_of_records ys)
reused-both [] ys = refl
reused-both (x ∷ xs) ys = ap (λ (es : List Entry). reused_of x.thread ∷ es) (reused-both xs ys)

-- the steps so far are those of the records, reused
replayed-schedule :
    (h : History) (w : RoundState) → HasReused h w → w.schedule ≡ map reused_of (threads_of_records w.records)
replayed-schedule h w reused =
    reused.schedule
    ∙ take-map reused_of (length w.schedule) (schedule_of h)
    ∙ ap (map reused_of) (take-map (λ (r : Record). r.thread) (length w.schedule) h.records)
    ∙ ap (λ (rs : List Record). map reused_of (threads_of_records rs)) (sym reused.records)

replayed-length : (h : History) (w : RoundState) → HasReused h w → length w.records ≡ length w.schedule
replayed-length h w reused =
    let schedule = ap (λ (es : List Entry). length es) (replayed-schedule h w reused) in
    let entries = length-reused (threads_of_records w.records) in
    let records = length-records w.records in
    omega arith

-- what comes next: nothing, after all of the history, or its next record
data Replays (h : History) (w : RoundState) : Type 0 where
  Done : h.records ≡ w.records → is_some w.machine.ending ≡ true → Replays h w
  Next :
      (r : Record) (back : List Record) → h.records ≡ w.records ++ r ∷ back → IsWhole w.machine
      → IsNext (Some h) w.machine w.records r back → fits w.machine r ≡ true → Replays h w

-- the next step, if it is known
pub reused-next :
    (h : History) (w : RoundState) (r : Record) (back : List Record)
    → is_coherent h ≡ true → HasReused h w → h.records ≡ w.records ++ r ∷ back
    → IsNext (Some h) w.machine w.records r back
reused-next h w r back coherent reused split =
    subst (λ (m : Machine). IsNext (Some h) m w.records r back) (sym reused.machine)
    (coherent-next h w.records r back coherent split)

where-it-stands :
    (h : History) (w : RoundState) → IsSetup h.setup → is_coherent h ≡ true → HasReused h w → Replays h w
where-it-stands h w valid coherent reused =
    by (drop (length w.schedule) h.records)
    (sym (take-append-drop (length w.schedule) h.records)
    ∙ ap (λ (rs : List Record). rs ++ drop (length w.schedule) h.records) (sym reused.records))
  where
    by : (rest : List Record) → h.records ≡ w.records ++ rest → Replays h w
    by [] split =
        Done (split ∙ append-nil w.records)
        (ap (λ (m : Machine). is_some m.ending) reused.machine ∙ coherent-end h w.records coherent split)
    by (r ∷ back) split =
        Next r back split
        (subst IsWhole (sym reused.machine) (coherent-whole h w.records (r ∷ back) valid coherent split))
        (reused-next h w r back coherent reused split)
        (subst (λ (m : Machine). fits m r ≡ true) (sym reused.machine)
        (coherent-fits h w.records r back coherent split).1)

-- what is picked

pick-over : (w : RoundState) → is_finished w ≡ true → pick_of w ≡ pick.Over
unfolding pick_of
pick-over w over = rw over refl

pick-reuse :
    (w : RoundState) (t : ℕ)
    → is_finished w ≡ false → choice_by w.past w.machine w.in_flight ≡ Some t → fits_next w.past w.machine t ≡ true
    → pick_of w ≡ pick.Reuse t
unfolding pick_of
pick-reuse w t going chosen fit = rw (going, chosen, fit) refl

reuse-happens :
    (w : RoundState) (t : ℕ) (r : Record)
    → is_finished w ≡ false → is_ready (hart_of w.machine t).status ≡ true → is_in_flight w t ≡ false
    → record_for w.past w.machine t ≡ Some r → fits w.machine r ≡ true
    → happens w (Reuse t) ≡ reused_by w t (Some r)
unfolding happens
reuse-happens w t r going ready inside there fit = rw (going, ready, inside, there, fit) refl

replay-in_flight : (h : History) (w : RoundState) (t : ℕ) → IsReplaying h w → is_in_flight w t ≡ false
replay-in_flight h w t replays = ap (λ (in_flight : List Bool). is_in_flight_of in_flight t) replays.in_flight ∙ none_in_flight-none t

replay-choice :
    (h : History) (w : RoundState) (r : Record) (back : List Record)
    → IsReplaying h w → IsWhole w.machine → IsNext (Some h) w.machine w.records r back
    → choice_by w.past w.machine w.in_flight ≡ Some r.thread
replay-choice h w r back replays whole next =
    ap (λ (past : Option History). choice_by past w.machine w.in_flight) replays.reused.past
    ∙ ap (choice_by (Some h) w.machine) replays.in_flight
    ∙ next-chosen (Some h) w.machine w.records r back whole next

replay-pick :
    (h : History) (w : RoundState) (r : Record) (back : List Record)
    → IsReplaying h w → is_finished w ≡ false → IsWhole w.machine → IsNext (Some h) w.machine w.records r back
    → fits w.machine r ≡ true
    → pick_of w ≡ pick.Reuse r.thread
replay-pick h w r back replays going whole next fit =
    pick-reuse w r.thread going (replay-choice h w r back replays whole next)
    (ap (λ (past : Option History). fits_next past w.machine r.thread) replays.reused.past
    ∙ next-fits (Some h) w.machine w.records r back next fit)

-- its place is the number of entries so far
reused-place :
    (h : History) (w : RoundState) (r : Record) (back : List Record)
    → HasReused h w → IsNext (Some h) w.machine w.records r back
    → place_in w.past w.machine r.thread ≡ length w.schedule
reused-place h w r back reused next =
    ap (λ (past : Option History). place_in past w.machine r.thread) reused.past
    ∙ next-place (Some h) w.machine w.records r back next ∙ replayed-length h w reused

-- so was the place of a record that was reused, when it came next
pub reused-placed :
    (h : History) (w v : RoundState) (r : Record)
    → is_coherent h ≡ true → HasReused h w → HasReused h v → v.records ≡ w.records ++ r ∷ []
    → place_in w.past w.machine r.thread ≡ length w.schedule
reused-placed h w v r coherent reused after more =
    let back : List Record = drop (length v.schedule) h.records in
    reused-place h w r back reused
    (reused-next h w r back coherent reused
    (sym (take-append-drop (length v.schedule) h.records)
    ∙ ap (λ (rs : List Record). rs ++ back) (sym after.records ∙ more)
    ∙ append_assoc w.records (r ∷ []) back))

-- and so is that of the thread that is chosen while it replays its history
pub chosen-place :
    (h : History) (w : RoundState) (t : ℕ)
    → IsSetup h.setup → is_coherent h ≡ true → IsReplaying h w → is_finished w ≡ false
    → choice_by w.past w.machine w.in_flight ≡ Some t
    → place_in w.past w.machine t ≡ length w.schedule
chosen-place h w t valid coherent replays going chosen = by (where-it-stands h w valid coherent replays.reused)
  where
    by : Replays h w → place_in w.past w.machine t ≡ length w.schedule
    by (Done same ended) = absurd (let over = rw ended at going in cc)
    by (Next r back split whole next fit) =
        let same : r.thread ≡ t = (let both = sym (replay-choice h w r back replays whole next) ∙ chosen in cc) in
        subst (λ (u : ℕ). place_in w.past w.machine u ≡ length w.schedule) same
        (reused-place h w r back replays.reused next)

-- the next record is reused

replayed-more :
    (h : History) (w : RoundState) (r : Record) (back : List Record)
    → IsReplaying h w → h.records ≡ w.records ++ r ∷ back → IsReplaying h (reused_by w r.thread (Some r))
replayed-more h w r back replays split =
    let reused = replays.reused in
    let long = replayed-length h w reused in
    let entries = length-append w.schedule (reused_of r.thread ∷ []) in
    let records = length-append w.records (r ∷ []) in
    record {
      reused =
          record {
            setup = reused.setup;
            past = reused.past;
            machine =
                ap (λ (m : Machine). apply m r) reused.machine ∙ sym (applied-both (first h.setup) w.records (r ∷ []));
            schedule =
                grown (all_reused_of h) w.schedule (reused_of r.thread) (map reused_of (threads_of_records back))
                (length (w.schedule ++ reused_of r.thread ∷ []))
                (ap (λ (rs : List Record). map reused_of (threads_of_records rs)) split ∙ reused-both w.records (r ∷ back)
                ∙ ap (λ (es : List Entry). es ++ reused_of r.thread ∷ map reused_of (threads_of_records back))
                (sym (replayed-schedule h w reused))) refl;
            records = grown h.records w.records r back (length (w.schedule ++ reused_of r.thread ∷ [])) split
                (omega (arith, long, entries, records));
          };
      in_flight = replays.in_flight;
      discarded = replays.discarded;
    }

-- how picks and events are related

over-reuses_nothing : (p : Pick) (u : ℕ) → p ≡ pick.Over → goes_on_by p (Reuse u) ≡ true → ⊥
over-reuses_nothing p u is goes = let impossible = rw is at goes in cc

over-takes_nothing : (p : Pick) (u : ℕ) → p ≡ pick.Over → goes_on_by p (Take u) ≡ true → ⊥
over-takes_nothing p u is goes = let impossible = rw is at goes in cc

reuse-takes_nothing : (p : Pick) (t u : ℕ) → p ≡ pick.Reuse t → goes_on_by p (Take u) ≡ true → ⊥
reuse-takes_nothing p t u is goes = let impossible = rw is at goes in cc

reuse-same : (p : Pick) (t u : ℕ) → p ≡ pick.Reuse t → goes_on_by p (Reuse u) ≡ true → t ≡ u
reuse-same p t u is goes = let same = rw is at goes in eqb-true t u same

take-never :
    (h : History) (w : RoundState) (u : ℕ) (over : Bool)
    → IsReplaying h w → Replays h w → is_finished w ≡ over → goes_on_by (pick_of w) (Take u) ≡ true → ⊥
take-never h w u true replays place is goes = over-takes_nothing (pick_of w) u (pick-over w is) goes
take-never h w u false replays (Done same ended) is goes = let over = rw ended at is in cc
take-never h w u false replays (Next r back split whole next fit) is goes =
    reuse-takes_nothing (pick_of w) r.thread u (replay-pick h w r back replays is whole next fit) goes

reuse-replays :
    (h : History) (w : RoundState) (u : ℕ) (over : Bool)
    → IsReplaying h w → Replays h w → is_finished w ≡ over → goes_on_by (pick_of w) (Reuse u) ≡ true
    → IsReplaying h (happens w (Reuse u))
reuse-replays h w u true replays place is goes = absurd (over-reuses_nothing (pick_of w) u (pick-over w is) goes)
reuse-replays h w u false replays (Done same ended) is goes = absurd (let over = rw ended at is in cc)
reuse-replays h w u false replays (Next r back split whole next fit) is goes =
    subst (λ (v : ℕ). IsReplaying h (happens w (Reuse v)))
    (reuse-same (pick_of w) r.thread u (replay-pick h w r back replays is whole next fit) goes)
    (subst (IsReplaying h)
    (sym (reuse-happens w r.thread r is (can_step-ready w.machine r.thread next.can) (replay-in_flight h w r.thread replays)
    (ap (λ (past : Option History). record_for past w.machine r.thread) replays.reused.past
    ∙ next-found (Some h) w.machine w.records r back next)
    fit))
    (replayed-more h w r back replays split))

-- the round replays its history from its start on, as long as it continues by its picks
pub replays-start : (h : History) → IsReplaying h (opening h.setup (Some h))
replays-start h =
    record {
      reused = record { setup = refl; past = refl; machine = refl; schedule = refl; records = refl };
      in_flight = refl;
      discarded = refl;
    }

-- a setup without an edit of an honest history is one without an edit of a coherent history
pub unedited-repeats : (h : History) (setup : Setup) → IsUnedited h setup → Repeats h setup
unedited-repeats h setup unedited =
    record { coherent = honest-coherent h unedited.honest; same = unedited.same }

pub replays-on :
    (h : History) (w : RoundState) (e : Event) → IsSetup h.setup → is_coherent h ≡ true → IsReplaying h w
    → goes_on_by (pick_of w) e ≡ true → IsReplaying h (happens w e)
replays-on h w (Take u) valid coherent replays goes =
    absurd (take-never h w u (is_finished w) replays (where-it-stands h w valid coherent replays.reused) refl goes)
replays-on h w (Reuse u) valid coherent replays goes =
    reuse-replays h w u (is_finished w) replays (where-it-stands h w valid coherent replays.reused) refl goes
replays-on h w (Commit u) valid coherent replays goes =
    subst (IsReplaying h) (sym (happens-commit_not w u (replay-in_flight h w u replays))) replays
replays-on h w (GiveBack u) valid coherent replays goes =
    subst (IsReplaying h) (sym (happens-give_back_not w u (replay-in_flight h w u replays))) replays
replays-on h w Stop valid coherent replays goes =
    subst (IsReplaying h) (sym (happens-stop w))
    (record {
      reused =
          record {
            setup = replays.reused.setup;
            past = replays.reused.past;
            machine = replays.reused.machine;
            schedule = replays.reused.schedule;
            records = replays.reused.records;
          };
      in_flight = replays.in_flight;
      discarded = replays.discarded;
    })

-- the next step is due, comes first, and is picked
next-step :
    (h : History) (w : RoundState) (r : Record) (back : List Record)
    → IsReplaying h w → is_finished w ≡ false → IsWhole w.machine → IsNext (Some h) w.machine w.records r back
    → fits w.machine r ≡ true
    → IsNextStep w r.thread
next-step h w r back replays going whole next fit =
    let long = replayed-length h w replays.reused in
    record {
      picked = replay-pick h w r back replays going whole next fit;
      due =
          ap (λ (past : Option History). is_due past w.machine r.thread) replays.reused.past
          ∙ next-due (Some h) w.machine w.records r back next;
      place = reused-place h w r back replays.reused next;
      least = λ other apart.
          let here = ap (λ (past : Option History). place_in past w.machine other) replays.reused.past in
          let far = other-place (Some h) w.machine w.records r back other next apart in
          omega arith;
    }

pub replays-next :
    (h : History) (w : RoundState) → IsSetup h.setup → is_coherent h ≡ true → IsReplaying h w → is_finished w ≡ false
    → (t : ℕ) × IsNextStep w t
replays-next h w valid coherent replays going = by (where-it-stands h w valid coherent replays.reused)
  where
    by : Replays h w → (t : ℕ) × IsNextStep w t
    by (Done same ended) = absurd (let over = rw ended at going in cc)
    by (Next r back split whole next fit) = (r.thread, next-step h w r back replays going whole next fit)

-- if the history is honest, the round has only reused it at its end
pub replays-end :
    (h : History) (w : RoundState)
    → IsHonest h → IsReplaying h w → is_some w.machine.ending ≡ true → OnlyReuses h w
replays-end h w honest replays ended =
    by (where-it-stands h w honest.valid (honest-coherent h honest) replays.reused)
  where
    by : Replays h w → OnlyReuses h w
    by (Done same there) =
        let schedule : w.schedule ≡ all_reused_of h =
        replayed-schedule h w replays.reused
        ∙ ap (λ (rs : List Record). map reused_of (threads_of_records rs)) (sym same) in
        record {
          schedule = schedule;
          reused = ap is_all_reused schedule ∙ reused-all (schedule_of h);
          begun =
              ap (λ (s : Setup). begun s w.past) replays.reused.setup
              ∙ ap (begun h.setup) replays.reused.past
              ∙ unedited-begun h honest;
          executed =
              ap (λ (es : List Entry). executed_instructions es w.records) schedule
              ∙ reused-executed (schedule_of h) w.records;
          discarded = replays.discarded;
          machine =
              replays.reused.machine ∙ ap (applied_from (first h.setup)) (sym same ∙ honest.recorded)
              ∙ records-applied (first h.setup) (schedule_of h) (IsWhole-first h.setup honest.valid) honest.permitted;
          records = sym same;
        }
    by (Next r back split whole next fit) =
        absurd (let none = can_step-none w.machine r.thread next.can in let impossible = rw none at ended in cc)

-- and until then nothing is executed
pub replays-instructions :
    (h : History) (w : RoundState) → IsReplaying h w
    → instructions_from (first h.setup) w.schedule ≡ 0
replays-instructions h w replays =
    ap (instructions_from (first h.setup)) (replayed-schedule h w replays.reused)
    ∙ reused-instructions (first h.setup) (threads_of_records w.records)
