-- A thread in flight keeps its hart, so the step that was taken stays its next one.
use Rattle.std.proofs.Common.{◌≡◌, ◌≢◌, ◌<◌, ◌+◌, ℕ, zero, suc, Bool, true, false, ◌||◌, cond, List, [], ◌∷◌, get_or, set, length, Option, Some, None, is_some, is_none, Result, Ok, Err, OnOk, OnErr, refl, ap, sym, ◌∙◌, subst, inl, inr, arith}
use Rattle.std.proofs.lemmas.Bool.{cases_eq, and_parts}
use Rattle.std.proofs.lemmas.List.{get_or-set_same, get_or-set_other, length-set}
use Rattle.std.specs.Arc.{arc_value}
use Rattle.thunk_spec.specs.Record.{Record}
use Rattle.thunk_spec.specs.Thunk.{Frame}
use Rattle.machine_spec.specs.declared.states.End.{End}
use Rattle.machine_spec.specs.Machine.{Hart, Machine, hart_of, is_ready}
use Rattle.machine_spec.specs.Schedule.{record_of}
use Rattle.machine_spec.specs.Step.{can_step}
use Rattle.machine_spec.proofs.Steps.{step-stays}
use Rattle.history_spec.proofs.Applying.{apply-stays, apply-frame}
use Rattle.history_spec.proofs.Scratch.{step-frame}
use Rattle.history_spec.proofs.Truth.{past-of}
use Rattle.thunk_record.specs.declared.job.Job.{Job}
use Rattle.thunk_run.specs.declared.run.Run.{Run}
use Rattle.round_spec.specs.declared.events.Event.{Event}
use Rattle.round_spec.specs.declared.events.Event.TheVariants.{Take, Reuse, Commit, GiveBack, Stop}
use Rattle.round_spec.specs.Marks.{record_for, fits_next}
use Rattle.round_spec.specs.Rounds.{RoundState, none_in_flight, is_finished, is_in_flight, is_in_flight_of, can_begin, can_take, can_reuse, reused_by, committed, given_back, happens}
use Rattle.round_spec.specs.Keeping.{IsHeld, IsInOrder, IsCounted}
use Rattle.round_spec.proofs.Conditions.{happens-take, happens-commit_over, happens-give_back}
use Rattle.round_spec.proofs.Happening.{CanBegin, can_begin-parts, none_in_flight-none, still_in_flight}
use Rattle.std.specs.declared.alloc.AllocError.{AllocError}
use Rattle.propagate.specs.declared.events.Committed.{Committed}
use Rattle.propagate.specs.declared.events.Committed.TheVariants.{Done, Stale, NoMemory}
use Rattle.propagate.specs.Committing.{CanCommit, Commits}
use Rattle.thunk_run.specs.Running.{IsRunOf}
use Rattle.release_core.specs.Jobs.{IsJobOf}
use Rattle.round_driver.specs.Jobs.{IsHeldFor, HaveJobs}
use Rattle.round_spec.proofs.Picks.{below-32}
use Rattle.propagate.proofs.Appending.{in_flight-below, take-ready}
use Rattle.propagate.specs.Executing.{executed_by}
use Rattle.propagate.proofs.Keeping.{record_count}
use Rattle.propagate.proofs.Executing.{run-record, in_flight-commits, commit-counts}

-- a thread in flight after an event that takes none was in flight before, with the same hart, in the same frame
record Stays (w v : RoundState) (u : ℕ) : Type 0 where
  pub in_flight : is_in_flight w u ≡ true
  pub hart : hart_of v.machine u ≡ hart_of w.machine u
  pub frame : v.machine.frame ≡ w.machine.frame

abbrev AllStay : RoundState → RoundState → Type 0
AllStay w v = (u : ℕ) → is_in_flight v u ≡ true → Stays w v u

all-same : (w : RoundState) → AllStay w w
all-same w = λ u in_flight. record { in_flight = in_flight; hart = refl; frame = refl }

all-cond : (w a b : RoundState) (c : Bool) → AllStay w a → AllStay w b → AllStay w (cond c a b)
all-cond w a b true first second = first
all-cond w a b false first second = second

given_back-stay : (w : RoundState) (t : ℕ) → AllStay w (given_back w t)
given_back-stay w t = λ u in_flight. record { in_flight = (still_in_flight w.in_flight t u in_flight).1; hart = refl; frame = refl }

none-of : (e : Option End) (stopped : Bool) → (is_some e || stopped) ≡ false → is_none e ≡ true
none-of (Some e) stopped h = cc
none-of None stopped h = refl

committed-stay :
    (w : RoundState) (t : ℕ) → IsInOrder w → is_in_flight w t ≡ true → is_finished w ≡ false
    → AllStay w (committed w t)
committed-stay w t kept in_flight going = λ u out_u.
    let still = still_in_flight w.in_flight t u out_u in
    let held : IsHeld w t = kept.held t in_flight in
    let before : IsHeld w u = kept.held u still.1 in
    let can : can_step w.machine t ≡ true = rw (none-of w.machine.ending w.stopped going, held.ready) refl in
    record {
      in_flight = still.1;
      hart = step-stays w.machine t u kept.whole can still.0 before.ready;
      frame = step-frame
          w.machine t;
    }

commit-stay :
    (w : RoundState) (t : ℕ) (in_flight over : Bool) → IsInOrder w → is_in_flight w t ≡ in_flight → is_finished w ≡ over
    → AllStay w (cond in_flight (cond over (given_back w t) (committed w t)) w)
commit-stay w t false over kept is_in_flight is_finished = all-same w
commit-stay w t true true kept is_in_flight is_finished = given_back-stay w t
commit-stay w t true false kept is_in_flight is_finished = committed-stay w t kept is_in_flight is_finished

reused-stay :
    (w : RoundState) (t : ℕ) (o : Option Record)
    → IsInOrder w → record_for w.past w.machine t ≡ o → CanBegin w t → AllStay w (reused_by w t o)
reused-stay w t None kept there begins = all-same w
reused-stay w t (Some r) kept there begins = λ u in_flight.
    let of = past-of w.past t (hart_of w.machine t).number r there in
    let thread : r.thread ≡ t = of.0 in
    let ready : is_ready (hart_of w.machine r.thread).status ≡ true =
    ap (λ v. is_ready (hart_of w.machine v).status) thread ∙ begins.ready in
    let can : can_step w.machine r.thread ≡ true = rw (begins.none, ready) refl in
    let before : IsHeld w u = kept.held u in_flight in
    let other : u ≢ r.thread =
    λ same. let inside : is_in_flight w u ≡ false = ap (is_in_flight w) (same ∙ thread) ∙ begins.inside in
    cc in
    record {
      in_flight = in_flight;
      hart = apply-stays w.machine r u kept.whole can other before.ready;
      frame = apply-frame w.machine r;
    }

reuse-stay :
    (w : RoundState) (t : ℕ) (b : Bool)
    → IsInOrder w → can_reuse w t ≡ b → AllStay w (cond b (reused_by w t (record_for w.past w.machine t)) w)
reuse-stay w t false kept is = all-same w
reuse-stay w t true kept is =
    reused-stay w t (record_for w.past w.machine t) kept refl
    (can_begin-parts w t (and_parts (can_begin w t) (fits_next w.past w.machine t) is).0)

-- whether an event takes no thread
abbrev pub TakesNobody : Event → Type 0
TakesNobody (Take t) = ⊥
TakesNobody (Reuse t) = Unit {0}
TakesNobody (Commit t) = Unit {0}
TakesNobody (GiveBack t) = Unit {0}
TakesNobody Stop = Unit {0}

happens-stay : (w : RoundState) (e : Event) → TakesNobody e → IsInOrder w → AllStay w (happens w e)
unfolding happens
happens-stay w (Take t) nobody kept = absurd nobody
happens-stay w (Reuse t) nobody kept = reuse-stay w t (can_reuse w t) kept refl
happens-stay w (Commit t) nobody kept = commit-stay w t (is_in_flight w t) (is_finished w) kept refl refl
happens-stay w (GiveBack t) nobody kept = all-cond w (given_back w t) w (is_in_flight w t) (given_back-stay w t) (all-same w)
happens-stay w Stop nobody kept = λ u in_flight. record { in_flight = in_flight; hart = refl; frame = refl }

job-stays :
    (m n : Machine) (t : ℕ) (job : Job) → hart_of n t ≡ hart_of m t → n.frame ≡ m.frame → IsJobOf m t job
    → IsJobOf n t job
job-stays m n t job hart frame is =
    record {
      frame = is.frame ∙ sym frame;
      thread = is.thread;
      number = is.number ∙ ap (λ (h : Hart). h.number) (sym hart);
      regs = is.regs ∙ ap (λ (h : Hart). h.regs) (sym hart);
      view = is.view ∙ ap (λ (h : Hart). h.view) (sym hart);
    }

held-stays :
    (m n : Machine) (t : ℕ) (held : Option Job) → hart_of n t ≡ hart_of m t → n.frame ≡ m.frame → IsHeldFor m t held
    → IsHeldFor n t held
held-stays m n t held hart frame is =
    record { there = is.there; own = λ job same. job-stays m n t job hart frame (is.own job same) }

stays-held : (w v : RoundState) (jobs : List (Option Job)) → AllStay w v → HaveJobs w jobs → HaveJobs v jobs
stays-held w v jobs stay have = record {
  count = have.count;
  held = λ u in_flight.
      let s : Stays w v u = stay u in_flight in
      held-stays w.machine v.machine u (get_or jobs u None) s.hart s.frame (have.held u s.in_flight);
}

-- the jobs stay those of the threads in flight
pub jobs-stay :
    (w v : RoundState) (e : Event) (jobs : List (Option Job)) → TakesNobody e → IsInOrder w → v ≡ happens w e
    → HaveJobs w jobs
    → HaveJobs v jobs
jobs-stay w v e jobs nobody kept is have =
    subst (λ (x : RoundState). HaveJobs x jobs) (sym is)
    (stays-held w (happens w e) jobs (happens-stay w e nobody kept) have)

-- and with the job of the thread that is taken
pub jobs-take :
    (w v : RoundState) (t : ℕ) (jobs : List (Option Job)) (job : Job)
    → can_take w t ≡ true → IsInOrder w → v ≡ happens w (Take t) → IsJobOf w.machine t job → HaveJobs w jobs
    → HaveJobs v (set jobs t (Some job))
jobs-take w v t jobs job can kept is own have =
    let below : t < length jobs = omega (arith, have.count, below-32 w.machine t kept.whole (take-ready w t can)) in
    subst (λ (x : RoundState). HaveJobs x (set jobs t (Some job))) (sym (is ∙ happens-take w t can))
    (record {
      count = length-set jobs t (Some job) ∙ have.count;
      held = λ u in_flight. elim (cases_eq u t) [
        | inl same ↦
            let here : get_or (set jobs t (Some job)) u None ≡ Some job =
            ap (λ k. get_or (set jobs t (Some job)) k None) same ∙ get_or-set_same jobs t (Some job) None below in
            subst (IsHeldFor w.machine u) (sym here)
            (record {
              there = refl;
              own = λ other is_it. let it : job ≡ other = cc in
                  subst (IsJobOf w.machine u) it (subst (λ k. IsJobOf w.machine k job) (sym same) own);
            })
        | inr other ↦
            subst (IsHeldFor w.machine u) (sym (get_or-set_other jobs t u (Some job) None other))
            (have.held u (sym (get_or-set_other w.in_flight t u true false other) ∙ in_flight))
      ];
    })

-- whether or not a reuse or a commit happens
pub jobs-reuse :
    (w v : RoundState) (t : ℕ) (jobs : List (Option Job)) (result : Result (Unit {0}) AllocError)
    → IsInOrder w → OnOk result (v ≡ happens w (Reuse t)) → OnErr result (v ≡ w) → HaveJobs w jobs → HaveJobs v jobs
jobs-reuse w v t jobs (Ok done) kept ok err have = jobs-stay w v (Reuse t) jobs tt kept ok have
jobs-reuse w v t jobs (Err e) kept ok err have = subst (λ (x : RoundState). HaveJobs x jobs) (sym err) have

pub jobs-commit :
    (w v : RoundState) (run : Run) (jobs : List (Option Job)) (result : Committed)
    → IsInOrder w → Commits w run result v → HaveJobs w jobs → HaveJobs v jobs
jobs-commit w v run jobs Done kept does have =
    jobs-stay w v (Commit (arc_value run.rec).thread) jobs tt kept does.1 have
jobs-commit w v run jobs (Stale back) kept does have =
    jobs-stay w v (GiveBack (arc_value run.rec).thread) jobs tt kept does.2 have
jobs-commit w v run jobs (NoMemory back) kept does have = subst (λ (x : RoundState). HaveJobs x jobs) (sym does.2) have

-- at the start no thread is in flight
pub jobs-none : (w : RoundState) (jobs : List (Option Job)) → length jobs ≡ 32 → w.in_flight ≡ none_in_flight → HaveJobs w jobs
jobs-none w jobs count nobody = record {
  count = count;
  held = λ t in_flight.
      absurd (let none : is_in_flight w t ≡ false = ap (λ (flags : List Bool). is_in_flight_of flags t) nobody
      ∙ none_in_flight-none t in cc);
}

-- a job that was looked up
held-at :
    (jobs : List (Option Job)) (k : ℕ) (o : Option Job) → k < length jobs → o ≡ get_or jobs k o
    → get_or jobs k None ≡ o
held-at [] k o below is = absurd (omega arith)
held-at (x ∷ jobs) zero o below is = sym is
held-at (x ∷ jobs) (suc k) o below is = held-at jobs k o (omega arith) is

pub job-held :
    (w : RoundState) (jobs : List (Option Job)) (t k : ℕ) (o : Option Job) (job : Job)
    → IsInOrder w → HaveJobs w jobs → is_in_flight w t ≡ true → k ≡ t → o ≡ get_or jobs k o → o ≡ Some job
    → IsJobOf w.machine t job
job-held w jobs t k o job kept have in_flight same at is =
    let below : k < length jobs = let b = in_flight-below w.in_flight t in_flight in
    let flags = kept.flags in let count = have.count in omega arith in
    (have.held t in_flight).own job (ap (λ i. get_or jobs i None) (sym same) ∙ held-at jobs k o below at ∙ is)

-- the result of running the job can be committed, as long as the round isn't finished
pub run-commits :
    (w : RoundState) (t : ℕ) (job : Job) (run : Run)
    → IsInOrder w → is_in_flight w t ≡ true → is_finished w ≡ false → IsJobOf w.machine t job → IsRunOf job run
    → CanCommit w (arc_value run.frame) (arc_value run.rec)
run-commits w t job run kept in_flight going own ran =
    subst (λ (f : Frame). CanCommit w f (arc_value run.rec)) (sym (ran.frame ∙ own.frame))
    (in_flight-commits w t (arc_value run.rec) kept in_flight going (run-record w.machine t job run own ran))

-- and then its instructions are counted
pub run-counts :
    (w v : RoundState) (t : ℕ) (job : Job) (run : Run)
    → IsInOrder w → IsCounted w → is_in_flight w t ≡ true → is_finished w ≡ false → IsJobOf w.machine t job → IsRunOf job run
    → v ≡ happens w (Commit (arc_value run.rec).thread)
    → executed_by v ≡ executed_by w + (arc_value run.rec).kept.count
run-counts w v t job run kept counted in_flight going own ran is =
    let same : arc_value run.rec ≡ record_of w.machine t = run-record w.machine t job run own ran in
    commit-counts w v t (arc_value run.rec) (record_count w counted)
    (in_flight-commits w t (arc_value run.rec) kept in_flight going same) is same

-- after the round is finished, committing is discarding
pub over-discards :
    (w : RoundState) (t : ℕ) → is_in_flight w t ≡ true → is_finished w ≡ true
    → happens w (GiveBack t) ≡ happens w (Commit t)
over-discards w t in_flight over = happens-give_back w t in_flight ∙ sym (happens-commit_over w t in_flight over)
