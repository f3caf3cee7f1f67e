-- Tickets stay those of the steps that are in flight.
use Rattle.std.proofs.Common.{◌≡◌, ◌≢◌, ◌<◌, ℕ, Bool, true, false, cond, List, length, set, Option, Some, None, IfSome, refl, ap, sym, ◌∙◌, subst, inl, inr}
use Rattle.std.proofs.lemmas.Bool.{cases_eq}
use Rattle.std.proofs.lemmas.List.{get_or-set_same, get_or-set_other, length-set}
use Rattle.std.proofs.lemmas.Option.{slice_get_within, slice_get-get_or, get_or_from_slice_get}
use Rattle.std.specs.Prelude.{⊤}
use Rattle.std.specs.Arc.{arc_value}
use Rattle.std.specs.List.{slice_get}
use Rattle.logbook.specs.Pages.{Book}
use Rattle.thunk_spec.specs.Record.{Record}
use Rattle.machine_spec.specs.Machine.{Hart, Machine, hart_of}
use Rattle.machine_spec.specs.Step.{can_step}
use Rattle.machine_spec.specs.Setup.{Setup}
use Rattle.machine_spec.proofs.Steps.{step-stays}
use Rattle.history_spec.specs.History.{History}
use Rattle.history_spec.proofs.Applying.{apply-stays}
use Rattle.history_spec.proofs.Scratch.{and-left}
use Rattle.history_spec.proofs.Truth.{past-of}
use Rattle.thunk_record.specs.declared.job.Job.{Job}
use Rattle.thunk_run.specs.declared.run.Run.{Run}
use Rattle.release_core.specs.Jobs.{IsJobOf}
use Rattle.shared_words.specs.TicketViews.{TicketView, IssuerView, job_of}
use Rattle.round_spec.specs.declared.events.Event.{Event}
use Rattle.round_spec.specs.declared.events.Event.TheVariants.{Take, Reuse, Commit, GiveBack, Stop}
use Rattle.round_spec.specs.Marks.{record_for, fits_next}
use Rattle.round_spec.specs.Rounds.{RoundState, opening, is_finished, is_in_flight, can_begin, can_take, can_reuse, taken, reused_by, committed, given_back, happens}
use Rattle.round_spec.specs.Keeping.{IsInOrder, IsHeld}
use Rattle.round_spec.proofs.Happening.{CanBegin, happens-kept, can_begin-parts, none_in_flight-none, still_in_flight, open-none}
use Rattle.round_spec.proofs.Mapping.{happens-frame}
use Rattle.propagate.specs.Committing.{IsOfStep}
use Rattle.propagate.proofs.Executing.{run-record}
use Rattle.rerun_workers.specs.Locking.{given_up}
use Rattle.rerun_workers.specs.Tickets.{AreIssued, IsLastOf, IsRunOfTicket}

-- A thread that is in flight in `v` is in flight in `w`, with the same hart.
abbrev Stays : RoundState → RoundState → Type 0
Stays w v =
    (u : ℕ) → is_in_flight v u ≡ true → (is_in_flight w u ≡ true) × (hart_of v.machine u ≡ hart_of w.machine u)

reuse-some :
    (w : RoundState) (t : ℕ) (o : Option Record)
    → record_for w.past w.machine t ≡ o → CanBegin w t → IsInOrder w → Stays w (reused_by w t o)
reuse-some w t None there can kept u in_flight = (in_flight, refl)
reuse-some w t (Some r) there can kept u in_flight =
    let of : (r.thread ≡ t) × (r.number ≡ (hart_of w.machine t).number) =
    past-of w.past t (hart_of w.machine t).number r there in
    let can_t : can_step w.machine t ≡ true = rw (can.none, can.ready) refl in
    let can_r : can_step w.machine r.thread ≡ true = ap (can_step w.machine) of.0 ∙ can_t in
    let other : u ≢ r.thread =
    λ same. let inside : is_in_flight w u ≡ false = ap (is_in_flight w) (same ∙ of.0) ∙ can.inside in cc in
    (in_flight, apply-stays w.machine r u kept.whole can_r other (kept.held u in_flight).ready)

reuse-stays :
    (w : RoundState) (t : ℕ) (b : Bool)
    → can_reuse w t ≡ b → IsInOrder w → Stays w (cond b (reused_by w t (record_for w.past w.machine t)) w)
reuse-stays w t false is kept = λ u in_flight. (in_flight, refl)
reuse-stays w t true is kept =
    reuse-some w t (record_for w.past w.machine t) refl
    (can_begin-parts w t (and-left (can_begin w t) (fits_next w.past w.machine t) is)) kept

given_back-stays : (w : RoundState) (t : ℕ) → Stays w (given_back w t)
given_back-stays w t u in_flight = ((still_in_flight w.in_flight t u in_flight).1, refl)

committed-stays :
    (w : RoundState) (t : ℕ) → is_in_flight w t ≡ true → is_finished w ≡ false → IsInOrder w
    → Stays w (committed w t)
committed-stays w t is over kept u in_flight =
    let held : IsHeld w t = kept.held t is in
    let none = open-none w.machine.ending w.stopped over in
    let can : can_step w.machine t ≡ true = rw (none, held.ready) refl in
    let still = still_in_flight w.in_flight t u in_flight in
    (still.1, step-stays w.machine t u kept.whole can still.0 (kept.held u still.1).ready)

commit-stays :
    (w : RoundState) (t : ℕ) (in_flight over : Bool)
    → is_in_flight w t ≡ in_flight → is_finished w ≡ over → IsInOrder w
    → Stays w (cond in_flight (cond over (given_back w t) (committed w t)) w)
commit-stays w t false over is is_over kept = λ u in_flight. (in_flight, refl)
commit-stays w t true true is is_over kept = given_back-stays w t
commit-stays w t true false is is_over kept = committed-stays w t is is_over kept

give_back-stays : (w : RoundState) (t : ℕ) (in_flight : Bool) → Stays w (cond in_flight (given_back w t) w)
give_back-stays w t false = λ u in_flight. (in_flight, refl)
give_back-stays w t true = given_back-stays w t

-- An event that takes no step.
abbrev TakesNone : Event → Type 0
TakesNone (Take t) = ⊥
TakesNone (Reuse t) = ⊤
TakesNone (Commit t) = ⊤
TakesNone (GiveBack t) = ⊤
TakesNone Stop = ⊤

event-stays : (w : RoundState) (e : Event) → TakesNone e → IsInOrder w → Stays w (happens w e)
unfolding happens
event-stays w (Take t) none kept = absurd none
event-stays w (Reuse t) none kept = reuse-stays w t (can_reuse w t) refl kept
event-stays w (Commit t) none kept = commit-stays w t (is_in_flight w t) (is_finished w) refl refl kept
event-stays w (GiveBack t) none kept = give_back-stays w t (is_in_flight w t)
event-stays w Stop none kept = λ u in_flight. (in_flight, refl)

-- A job of a machine is one of another if its thread has the same hart.
job-stays :
    (m n : Machine) (t : ℕ) (job : Job) → n.frame ≡ m.frame → hart_of n t ≡ hart_of m t → IsJobOf m t job
    → IsJobOf n t job
job-stays m n t job frame hart own =
    record {
      frame = own.frame ∙ sym frame;
      thread = own.thread;
      number = own.number ∙ ap (λ (h : Hart). h.number) (sym hart);
      regs = own.regs ∙ ap (λ (h : Hart). h.regs) (sym hart);
      view = own.view ∙ ap (λ (h : Hart). h.view) (sym hart);
    }

stays :
    (book : Book) (w v : RoundState) (e : Event) (tickets : IssuerView)
    → TakesNone e → IsInOrder w → v ≡ happens w e → AreIssued book w tickets → AreIssued book v tickets
stays book w v e tickets none kept is issued =
    subst (λ (x : RoundState). AreIssued book x tickets) (sym is) record {
      named = issued.named;
      last = λ t job in_flight at.
          let same = event-stays w e none kept t in_flight in
          job-stays w.machine (happens w e).machine t job (happens-frame w e) same.1 (issued.last t job same.0 at);
    }

pub issued-reuse :
    (book : Book) (w v : RoundState) (t : ℕ) (tickets : IssuerView)
    → IsInOrder w → v ≡ happens w (Reuse t) → AreIssued book w tickets → AreIssued book v tickets
issued-reuse book w v t tickets = stays book w v (Reuse t) tickets tt

pub issued-commit :
    (book : Book) (w v : RoundState) (t : ℕ) (tickets : IssuerView)
    → IsInOrder w → v ≡ happens w (Commit t) → AreIssued book w tickets → AreIssued book v tickets
issued-commit book w v t tickets = stays book w v (Commit t) tickets tt

pub issued-give_back :
    (book : Book) (w v : RoundState) (t : ℕ) (tickets : IssuerView)
    → IsInOrder w → v ≡ happens w (GiveBack t) → AreIssued book w tickets → AreIssued book v tickets
issued-give_back book w v t tickets = stays book w v (GiveBack t) tickets tt

pub issued-stop :
    (book : Book) (w v : RoundState) (tickets : IssuerView)
    → IsInOrder w → v ≡ happens w Stop → AreIssued book w tickets → AreIssued book v tickets
issued-stop book w v tickets = stays book w v Stop tickets tt

pub issued-given_up :
    (book : Book) (w v : RoundState) (t : ℕ) (tickets : IssuerView)
    → IsInOrder w → v ≡ given_up w t → AreIssued book w tickets → AreIssued book v tickets
issued-given_up book w v t tickets kept is issued =
    issued-stop book (happens w (GiveBack t)) v tickets (happens-kept w (GiveBack t) kept) is
    (issued-give_back book w (happens w (GiveBack t)) t tickets kept refl issued)

-- No thread is in flight at the start.
pub issued_opening :
    (book : Book) (w : RoundState) (setup : Setup) (past : Option History) (tickets : IssuerView)
    → w ≡ opening setup past → tickets.book ≡ book → AreIssued book w tickets
issued_opening book w setup past tickets is named =
    subst (λ (x : RoundState). AreIssued book x tickets) (sym is) record {
      named = named;
      last = λ t job in_flight at. absurd (let none = none_in_flight-none t in cc);
    }

machine-taken :
    (w : RoundState) (t u : ℕ) (b : Bool) (job : Job) → IsJobOf w.machine u job
    → IsJobOf (cond b (taken w t) w).machine u job
machine-taken w t u true job is = is
machine-taken w t u false job is = is

flag-taken :
    (w : RoundState) (t u : ℕ) (b : Bool) → u ≢ t → is_in_flight (cond b (taken w t) w) u ≡ true
    → is_in_flight w u ≡ true
flag-taken w t u true other is = sym (get_or-set_other w.in_flight t u true false other) ∙ is
flag-taken w t u false other is = is

-- the job that was set, and any other
set-here :
    (jobs : List (Option Job)) (t : ℕ) (o p : Option Job) → slice_get (set jobs t o) t ≡ Some p → p ≡ o
set-here jobs t o p at =
    let inside : t < length jobs =
    subst (λ (n : ℕ). t < n) (length-set jobs t o) (slice_get_within (set jobs t o) t p at) in
    sym (get_or_from_slice_get (set jobs t o) t p o at) ∙ get_or-set_same jobs t o o inside

set-elsewhere :
    (jobs : List (Option Job)) (t u : ℕ) (o p : Option Job) → u ≢ t → slice_get (set jobs t o) u ≡ Some p
    → slice_get jobs u ≡ Some p
set-elsewhere jobs t u o p other at =
    let inside : u < length jobs =
    subst (λ (n : ℕ). u < n) (length-set jobs t o) (slice_get_within (set jobs t o) u p at) in
    slice_get-get_or jobs u o inside
    ∙ ap (λ (x : Option Job). Some x)
    (sym (get_or-set_other jobs t u o o other) ∙ get_or_from_slice_get (set jobs t o) u p o at)

-- A ticket for the step that was taken.
take-last :
    (w : RoundState) (t : ℕ) (b : Bool) (job : Job) (jobs : List (Option Job)) (o : Option Job)
    → ((u : ℕ) (j : Job) → is_in_flight w u ≡ true → slice_get jobs u ≡ Some (Some j) → IsJobOf w.machine u j)
    → IsJobOf w.machine t job → ((j : Job) → o ≡ Some j → j ≡ job)
    → (u : ℕ) (j : Job) → is_in_flight (cond b (taken w t) w) u ≡ true → slice_get (set jobs t o) u ≡ Some (Some j)
    → IsJobOf (cond b (taken w t) w).machine u j
take-last w t b job jobs o before own is u j in_flight at =
    elim (cases_eq u t) [
      | inl same ↦
          let there : Some j ≡ o =
          set-here jobs t o (Some j) (subst (λ (k : ℕ). slice_get (set jobs t o) k ≡ Some (Some j)) same at) in
          let one : j ≡ job = is j (sym there) in
          machine-taken w t u b j
          (subst (λ (k : ℕ). IsJobOf w.machine k j) (sym same) (subst (IsJobOf w.machine t) (sym one) own))
      | inr other ↦
          let there : slice_get jobs u ≡ Some (Some j) = set-elsewhere jobs t u o (Some j) other at in
          machine-taken w t u b j (before u j (flag-taken w t u b other in_flight) there)
    ]

pub issued-take :
    (book : Book) (w v : RoundState) (t : ℕ) (job : Job) (ticket : Option TicketView) (old new : IssuerView)
    → v ≡ happens w (Take t) → IsJobOf w.machine t job → new.book ≡ old.book
    → IfSome ticket (λ (k : TicketView). k.job ≡ Some job) → new.jobs ≡ set old.jobs job.thread (job_of ticket)
    → AreIssued book w old → AreIssued book v new
unfolding happens
issued-take book w v t job ticket old new is own same of jobs issued =
    subst (λ (x : RoundState). AreIssued book x new) (sym is) record {
      named = same ∙ issued.named;
      last = λ u j in_flight at.
          take-last w t (can_take w t) job old.jobs (job_of ticket) issued.last own (its ticket of) u j in_flight
          (subst (λ (js : List (Option Job)). slice_get js u ≡ Some (Some j))
          (jobs ∙ ap (λ (k : ℕ). set old.jobs k (job_of ticket)) own.thread) at);
    }
  where
    its :
        (k : Option TicketView) → IfSome k (λ (x : TicketView). x.job ≡ Some job) → (j : Job) → job_of k ≡ Some j
        → j ≡ job
    its None of j none = cc
    its (Some x) of j some = cc

-- A run of the job of a thread's last ticket is of the step that is in flight.
pub last_step :
    (w : RoundState) (tickets : IssuerView) (ticket : Option TicketView) (run : Run)
    → AreIssued tickets.book w tickets → IsLastOf tickets (arc_value run.rec).thread ticket → IsRunOfTicket ticket run
    → IsOfStep w (arc_value run.rec)
last_step w tickets None run issued last ran in_flight = absurd last
last_step w tickets (Some k) run issued last ran in_flight =
    run-record w.machine (arc_value run.rec).thread last.0 run (issued.last (arc_value run.rec).thread last.0 in_flight last.2)
    (ran last.0 last.1)
