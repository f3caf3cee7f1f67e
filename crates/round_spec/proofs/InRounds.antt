-- What a round executes that stays within the work of the history that it is based on.
use Rattle.std.proofs.Common.{◌≡◌, ◌<◌, ◌≤◌, ◌+◌, ℕ, zero, suc, Bool, true, false, not, List, length, map, get_or, slice_get, Option, Some, None, refl, ap, sym, ◌∙◌, subst, arith}
use Rattle.std.proofs.lemmas.Bool.{eq-eqb}
use Rattle.std.specs.List.{range_with_len}
use Rattle.thunk_spec.specs.Record.{Record}
use Rattle.machine_spec.specs.Machine.{hart_of}
use Rattle.machine_spec.specs.Schedule.{record_of}
use Rattle.machine_spec.specs.Setup.{Setup, IsSetup, first}
use Rattle.history_spec.specs.History.{History, IsSound}
use Rattle.history_spec.proofs.Numbers.{one_for}
use Rattle.report_spec.specs.declared.Entry.{Entry}
use Rattle.report_spec.specs.Report.{threads_of, executed_count}
use Rattle.history_spec.specs.Facts.{facts}
use Rattle.history_spec.specs.Ancestors.{count_below, number_at}
use Rattle.history_spec.proofs.Lists.{not-true}
use Rattle.round_spec.specs.declared.events.Event.{Event}
use Rattle.round_spec.specs.Due.{is_step_at}
use Rattle.round_spec.specs.Marks.{fits_next, marked}
use Rattle.round_spec.specs.Rounds.{RoundState, round_after}
use Rattle.round_spec.specs.Keeping.{IsFromScratch}
use Rattle.round_spec.specs.Schedules.{events_in, round_by, IsBySchedule}
use Rattle.round_spec.specs.Picking.{ArePicked}
use Rattle.round_spec.proofs.Leaving.{round-setup, round-past, round-scratch}
use Rattle.round_spec.proofs.Placed.{facts-length}
use Rattle.round_spec.specs.Reach.{reads_of, changed, is_reached, reached_count}
use Rattle.round_spec.specs.Working.{IsSameWork, IsWithinWork, IsExecuted, WorksAsBefore, WorksWithin, AreInTime, IsReachedStep, ExecutesWhatIsReached, ReexecutesLeast}
use Rattle.round_spec.proofs.Like.{machine_at, IsLikeOld}
use Rattle.round_spec.proofs.Along.{number-next, number-grows}
use Rattle.round_spec.proofs.Spread.{step-at, of-step}
use Rattle.round_spec.proofs.Lockstep.{IsNextStep, next-step}
use Rattle.round_spec.proofs.Reached.{executed-reached}
use Rattle.round_spec.proofs.Counted.{count-list, count-range, count-inject}
use Rattle.round_spec.proofs.Entries.{get-below, get-some, marked-at, records-at, threads-length, timely-of, are_in_time}

-- the stand-in for an entry that doesn't exist
abbrev no_entry : Entry
no_entry = record { thread = 0; reused = true }

reach-at : (f : ℕ → Bool) (k n i : ℕ) → i < n → slice_get (map f (range_with_len k n)) i ≡ Some (f (k + i))
reach-at f k zero i below = absurd (omega arith)
reach-at f k (suc n) zero below = ap (λ (j : ℕ). Some (f j)) (omega arith)
reach-at f k (suc n) (suc i) below =
    reach-at f (k + 1) n i (omega arith) ∙ ap (λ (j : ℕ). Some (f j)) (omega arith)

module _
    (w : RoundState) (h : History) (points : List ℕ)
    (past : w.past ≡ Some h) (valid : IsSetup w.setup) (scratch : IsFromScratch w)
    (works : WorksWithin h w) (timely : AreInTime w.setup (Some h) w.schedule points) where
  marks : w.schedule ≡ marked (Some h) w.setup (threads_of w.schedule)
  marks = scratch.marks ∙ ap (λ (p : Option History). marked p w.setup (threads_of w.schedule)) past

  entry-at :
      (i : ℕ) → i < length (threads_of w.schedule)
      → slice_get w.schedule i
      ≡ Some (record {
        thread = get_or (threads_of w.schedule) i 0;
        reused = fits_next (Some h) (machine_at w.setup (threads_of w.schedule) i) (get_or (threads_of w.schedule) i 0);
      })
  entry-at i below =
      ap (λ (es : List Entry). slice_get es i) marks
      ∙ marked-at (Some h) (first w.setup) (threads_of w.schedule) i below

  record-at :
      (i : ℕ) → i < length (threads_of w.schedule)
      → slice_get w.records i
      ≡ Some (record_of (machine_at w.setup (threads_of w.schedule) i) (get_or (threads_of w.schedule) i 0))
  record-at i below =
      ap (λ (rs : List Record). slice_get rs i) scratch.records
      ∙ records-at (first w.setup) (threads_of w.schedule) i below

  executed-at :
      (i : ℕ) → i < length (threads_of w.schedule)
      → fits_next (Some h) (machine_at w.setup (threads_of w.schedule) i) (get_or (threads_of w.schedule) i 0) ≡ false
      → IsExecuted w i
      (record_of (machine_at w.setup (threads_of w.schedule) i) (get_or (threads_of w.schedule) i 0))
  executed-at i below unfit =
      record {
        entry =
            entry-at i below
            ∙ ap (λ (b : Bool). Some (record { thread = get_or (threads_of w.schedule) i 0; reused = b })) unfit;
        recorded = record-at i below;
      }

  like-old : IsLikeOld h w.setup (threads_of w.schedule) (λ i. get_or points i 0)
  like-old =
      record {
        honest = works.sound.0;
        valid = valid;
        program = works.sound.1;
        fuel = sym works.fuel;
        permitted = scratch.permitted;
        picked = λ i below.
            timely-of h w.setup w.schedule i
            (record {
              thread = get_or (threads_of w.schedule) i 0;
              reused =
                  fits_next (Some h) (machine_at w.setup (threads_of w.schedule) i)
                  (get_or (threads_of w.schedule) i 0);
            })
            (get_or points i 0) refl (timely.each i _ (entry-at i below));
        works = λ i below unfit.
            let old = works.works i _ (executed-at i below unfit) in
            record { old = old.0; there = old.1.0; work = old.1.1 };
      }

  -- an executed entry has its old step, which is reached
  record IsOldStep (i : ℕ) : Type 0 where
    pub place : ℕ
    pub below : place < length (facts h)
    pub step :
        is_step_at (facts h) (get_or (threads_of w.schedule) i 0)
        (hart_of (machine_at w.setup (threads_of w.schedule) i) (get_or (threads_of w.schedule) i 0)).number place
        ≡ true
    pub reached : is_reached (facts h) (reads_of h) (changed h.setup w.setup) place ≡ true

  old-step :
      (i : ℕ) → i < length (threads_of w.schedule)
      → fits_next (Some h) (machine_at w.setup (threads_of w.schedule) i) (get_or (threads_of w.schedule) i 0) ≡ false
      → IsOldStep i
  old-step i below unfit =
      let next : IsNextStep h w.setup (threads_of w.schedule) i =
      next-step h w.setup (threads_of w.schedule) (λ k. get_or points k 0) like-old (λ j. true) i below in
      let low : next.at < length (facts h) = (let same = facts-length h in let less = next.below in omega arith) in
      let step =
      step-at (facts h) (get_or (threads_of w.schedule) i 0)
      (hart_of (machine_at w.setup (threads_of w.schedule) i) (get_or (threads_of w.schedule) i 0)).number next.at
      next.of_thread next.of_number in
      record {
        place = next.at;
        below = low;
        step = step;
        reached =
            executed-reached h w.setup (threads_of w.schedule) (λ k. get_or points k 0) i next.at like-old below unfit
            low step;
      }

  entries : (i : ℕ) (r : Record) → IsExecuted w i r → IsReachedStep h w.setup r
  entries i r executed =
      let below : i < length (threads_of w.schedule) =
      (let low = get-below w.schedule i (record { thread = r.thread; reused = false }) executed.entry in
      let same = threads-length w.schedule in
      omega arith) in
      let entry_is :
      Path (Option Entry)
      (Some (record {
        thread = get_or (threads_of w.schedule) i 0;
        reused = fits_next (Some h) (machine_at w.setup (threads_of w.schedule) i) (get_or (threads_of w.schedule) i 0);
      }))
      (Some (record { thread = r.thread; reused = false })) =
      sym (entry-at i below) ∙ executed.entry in
      let record_is :
      Path (Option Record)
      (Some (record_of (machine_at w.setup (threads_of w.schedule) i) (get_or (threads_of w.schedule) i 0)))
      (Some r) =
      sym (record-at i below) ∙ executed.recorded in
      let unfit :
      fits_next (Some h) (machine_at w.setup (threads_of w.schedule) i) (get_or (threads_of w.schedule) i 0) ≡ false =
      ap reused_in entry_is in
      let same : record_of (machine_at w.setup (threads_of w.schedule) i) (get_or (threads_of w.schedule) i 0) ≡ r =
      some-same record_is in
      let old : IsOldStep i = old-step i below unfit in
      record {
        place = old.place;
        step = subst (λ (q : Record). is_step_at (facts h) q.thread q.number old.place ≡ true) same old.step;
        reached =
            reach-at (is_reached (facts h) (reads_of h) (changed h.setup w.setup)) 0 (length (facts h)) old.place
            old.below
            ∙ ap (λ (b : Bool). Some b)
            (ap (is_reached (facts h) (reads_of h) (changed h.setup w.setup)) (omega arith) ∙ old.reached);
      }
    where
      reused_in : Option Entry → Bool
      reused_in (Some e) = e.reused
      reused_in None = true

      some-same : {A : Type 0} {x y : A} → Path (Option A) (Some x) (Some y) → x ≡ y
      some-same is = cc

  -- each executed entry has an old step of its own
  apart :
      (i k j : ℕ) → i < k → k < length (threads_of w.schedule)
      → is_step_at (facts h) (get_or (threads_of w.schedule) i 0)
      (hart_of (machine_at w.setup (threads_of w.schedule) i) (get_or (threads_of w.schedule) i 0)).number j
      ≡ true
      → is_step_at (facts h) (get_or (threads_of w.schedule) k 0)
      (hart_of (machine_at w.setup (threads_of w.schedule) k) (get_or (threads_of w.schedule) k 0)).number j
      ≡ true
      → ⊥
  apart i k j less low one two =
      let t : ℕ = get_or (threads_of w.schedule) i 0 in
      let of_i =
      of-step (facts h) (get_or (threads_of w.schedule) i 0)
      (hart_of (machine_at w.setup (threads_of w.schedule) i) (get_or (threads_of w.schedule) i 0)).number j one in
      let of_k =
      of-step (facts h) (get_or (threads_of w.schedule) k 0)
      (hart_of (machine_at w.setup (threads_of w.schedule) k) (get_or (threads_of w.schedule) k 0)).number j two in
      let same : get_or (threads_of w.schedule) k 0 ≡ get_or (threads_of w.schedule) i 0 = sym of_k.0 ∙ of_i.0 in
      let next =
      number-next w.setup (threads_of w.schedule) valid scratch.permitted i (get_or (threads_of w.schedule) i 0)
      (omega arith) in
      let grows =
      number-grows w.setup (threads_of w.schedule) valid scratch.permitted (suc i) k
      (get_or (threads_of w.schedule) i 0) less (omega arith) in
      let own : one_for (get_or (threads_of w.schedule) i 0) (get_or (threads_of w.schedule) i 0) ≡ 1 =
      (let is = eq-eqb (get_or (threads_of w.schedule) i 0) (get_or (threads_of w.schedule) i 0) refl in rw is refl) in
      let number_k :
      number_at (facts h) j
      ≡ (hart_of (machine_at w.setup (threads_of w.schedule) k) (get_or (threads_of w.schedule) i 0)).number =
      of_k.1
      ∙ ap (λ (u : ℕ). (hart_of (machine_at w.setup (threads_of w.schedule) k) u).number) same in
      let number_i = of_i.1 in
      omega arith

  count : executed_count w.schedule ≤ reached_count (Some h) w.setup
  count =
      let left = count-list (λ (e : Entry). not e.reused) no_entry w.schedule in
      let right = count-range (is_reached (facts h) (reads_of h) (changed h.setup w.setup)) 0 (length (facts h)) in
      let size = threads-length w.schedule in
      let middle :
      count_below (λ i. not (get_or w.schedule i no_entry).reused) (length (threads_of w.schedule))
      ≤ count_below (λ j. is_reached (facts h) (reads_of h) (changed h.setup w.setup) (0 + j)) (length (facts h)) =
      count-inject
      (λ i j.
      is_step_at (facts h) (get_or (threads_of w.schedule) i 0)
      (hart_of (machine_at w.setup (threads_of w.schedule) i) (get_or (threads_of w.schedule) i 0)).number j
      ≡ true)
      (λ i. not (get_or w.schedule i no_entry).reused) (length (facts h)) (length (threads_of w.schedule))
      (λ j. is_reached (facts h) (reads_of h) (changed h.setup w.setup) (0 + j))
      (λ i below executed.
      let unfit :
      fits_next (Some h) (machine_at w.setup (threads_of w.schedule) i) (get_or (threads_of w.schedule) i 0) ≡ false =
      ap (λ (e : Entry). e.reused) (sym (get-some w.schedule i _ no_entry (entry-at i below)))
      ∙ not-true (get_or w.schedule i no_entry).reused executed in
      let old : IsOldStep i = old-step i below unfit in
      record {
        at = old.place;
        below = old.below;
        is = ap (is_reached (facts h) (reads_of h) (changed h.setup w.setup)) (omega arith) ∙ old.reached;
        matches = old.step;
      })
      apart in
      let bound :
      executed_count w.schedule
      ≡ count_below (λ i. not (get_or w.schedule i no_entry).reused) (length (threads_of w.schedule)) =
      left ∙ ap (count_below (λ i. not (get_or w.schedule i no_entry).reused)) (sym size) in
      omega arith

  pub executes-reached : ExecutesWhatIsReached h w
  executes-reached = record { entries = entries; count = count }

-- a record with the same work is within the work
pub work-within : (old new : Record) → IsSameWork old new → IsWithinWork old new
work-within old new same =
    record {
      written = λ p writes. ap (Rattle.history_spec.specs.Before.is_in p) (sym same.written) ∙ writes;
      end = same.end;
      call = same.call;
    }

pub works-within : (h : History) (w : RoundState) → WorksAsBefore h w → WorksWithin h w
works-within h w works =
    record {
      sound = works.sound;
      fuel = works.fuel;
      works = λ i new executed.
          let old = works.works i new executed in (old.0, (old.1.0, work-within old.0 new old.1.1));
    }

module _ (setup : Setup) (past : Option History) (events : List Event) (points : List ℕ) (valid : IsSetup setup) where
  -- whatever happens to a round
  pub executes-after :
      (h : History) → (round_after setup past events).past ≡ Some h
      → WorksWithin h (round_after setup past events)
      → AreInTime setup (Some h) (round_after setup past events).schedule points
      → ExecutesWhatIsReached h (round_after setup past events)
  executes-after h goes works timely =
      let is_setup : (round_after setup past events).setup ≡ setup = round-setup setup past events in
      let is_past : past ≡ Some h = sym (round-past setup past events) ∙ goes in
      let sound : IsSound past setup =
      subst (λ (s : Setup). IsSound past s) is_setup
      (subst (λ (p : Option History). IsSound p (round_after setup past events).setup) (sym is_past) works.sound) in
      executes-reached (round_after setup past events) h points goes (subst IsSetup (sym is_setup) valid)
      (round-scratch setup past events valid sound) works
      (subst (λ (s : Setup). AreInTime s (Some h) (round_after setup past events).schedule points)
      (sym is_setup) timely)

  pub reexecutes-after :
      ArePicked setup past (round_after setup past events).schedule points
      → ReexecutesLeast (round_after setup past events)
  reexecutes-after picked =
      λ h goes works.
      executes-after h goes (works-within h (round_after setup past events) works)
      (subst (λ (p : Option History). AreInTime setup p (round_after setup past events).schedule points)
      (sym (round-past setup past events) ∙ goes)
      (are_in_time setup past (round_after setup past events).schedule points picked))

executed-like :
    (v w : RoundState) (i : ℕ) (r : Record)
    → v.schedule ≡ w.schedule → v.records ≡ w.records → IsExecuted v i r → IsExecuted w i r
executed-like v w i r schedule records executed =
    record {
      entry = ap (λ (es : List Entry). slice_get es i) (sym schedule) ∙ executed.entry;
      recorded = ap (λ (rs : List Record). slice_get rs i) (sym records) ∙ executed.recorded;
    }

-- it depends only on what a round starts from, its schedule and its records
reexecutes-like :
    (v w : RoundState)
    → v.setup ≡ w.setup → v.past ≡ w.past → v.schedule ≡ w.schedule → v.records ≡ w.records
    → ReexecutesLeast v → ReexecutesLeast w
reexecutes-like v w setup past schedule records least =
    λ h goes works.
    let there : ExecutesWhatIsReached h v =
    least h (past ∙ goes)
    (record {
      sound = subst (λ (s : Setup). IsSound (Some h) s) (sym setup) works.sound;
      fuel = ap (λ (s : Setup). s.fuel) setup ∙ works.fuel;
      works = λ i new executed. works.works i new (executed-like v w i new schedule records executed);
    }) in
    record {
      entries = λ i r executed.
          subst (λ (s : Setup). IsReachedStep h s r) setup
          (there.entries i r (executed-like w v i r (sym schedule) (sym records) executed));
      count =
          subst (λ (s : Setup). executed_count w.schedule ≤ reached_count (Some h) s) setup
          (subst (λ (es : List Entry). executed_count es ≤ reached_count (Some h) v.setup) schedule there.count);
    }

-- and so for a round that is where its schedule leads
pub reexecutes-by :
    (w : RoundState) (points : List ℕ)
    → IsSetup w.setup → IsBySchedule w → ArePicked w.setup w.past w.schedule points → ReexecutesLeast w
reexecutes-by w points valid along picked =
    reexecutes-like (round_by w.setup w.past w.schedule) w
    (round-setup w.setup w.past (events_in w.schedule)) (round-past w.setup w.past (events_in w.schedule))
    along.schedule along.records
    (reexecutes-after w.setup w.past (events_in w.schedule) points valid
    (subst (λ (es : List Entry). ArePicked w.setup w.past es points) (sym along.schedule) picked))
