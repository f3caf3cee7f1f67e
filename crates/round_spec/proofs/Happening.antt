-- What holds of a round holds after each event.
use Rattle.std.proofs.Common.{◌≡◌, ◌≢◌, ℕ, zero, suc, Bool, true, false, not, cond, min, ◌&&◌, ◌||◌, List, [], ◌∷◌, ◌++◌, length, replicate, get_or, set, Option, Some, None, is_some, is_none, unwrap_or, refl, ap, sym, ◌∙◌, inl, inr}
use Rattle.std.proofs.lemmas.Bool.{cases_eq}
use Rattle.std.proofs.lemmas.List.{get_or-set_other, length-set}
use Rattle.thunk_spec.specs.Record.{Record}
use Rattle.machine_spec.specs.declared.states.End.{End}
use Rattle.machine_spec.specs.Machine.{Hart, Machine, hart_of, is_ready}
use Rattle.machine_spec.specs.Step.{step, apply, can_step}
use Rattle.machine_spec.specs.Schedule.{scratch_from, is_permitted_from, record_of, records_from}
use Rattle.machine_spec.specs.Setup.{Setup, IsSetup, first}
use Rattle.machine_spec.proofs.Beginning.{IsWhole-first}
use Rattle.machine_spec.proofs.Steps.{step-stays, step-whole}
use Rattle.history_spec.specs.History.{History}
use Rattle.history_spec.proofs.Scratch.{and-left, and-right, step-frame, scratch-frame, scratch-more, permitted-more, records-more}
use Rattle.history_spec.proofs.Applying.{apply-frame, apply-whole, apply-stays}
use Rattle.history_spec.proofs.Truth.{past-of, reuse-record, reuse-apply}
use Rattle.report_spec.specs.declared.Entry.{Entry}
use Rattle.report_spec.specs.Report.{threads_of}
use Rattle.round_spec.specs.declared.events.Event.{Event}
use Rattle.round_spec.specs.declared.events.Event.TheVariants.{Take, Reuse, Commit, GiveBack, Stop}
use Rattle.round_spec.specs.Marks.{record_for, is_fitting, fits_next, marked_from, source_of, sourced_from}
use Rattle.round_spec.specs.Rounds.{RoundState, none_in_flight, nothing_taken, opening, is_finished, is_in_flight, is_in_flight_of, can_begin, can_take, can_reuse, taken, taken_when, reused_by, committed, given_back, with_stop, happens, all_happen, round_after}
use Rattle.round_spec.specs.Keeping.{IsFromScratch, IsHeld, IsInOrder}
use Rattle.round_spec.proofs.Fits.{fits_next-hart, threads-more, marked-more, sourced-more}

-- flags

get_or-replicate : {A : Type 0} (n : ℕ) (a : A) (t : ℕ) → get_or (replicate n a) t a ≡ a
get_or-replicate zero a t = refl
get_or-replicate (suc n) a zero = refl
get_or-replicate (suc n) a (suc t) = get_or-replicate n a t

pub none_in_flight-none : (t : ℕ) → is_in_flight_of none_in_flight t ≡ false
unfolding none_in_flight
none_in_flight-none t = get_or-replicate 32 false t

pub none_in_flight-length : length none_in_flight ≡ 32
unfolding none_in_flight
none_in_flight-length = refl

pub nothing_taken-length : length nothing_taken ≡ 32
unfolding nothing_taken
nothing_taken-length = refl

-- no thread was taken at the start
pub nothing_taken-none : (t : ℕ) → get_or nothing_taken t 0 ≡ 0
unfolding nothing_taken
nothing_taken-none t = get_or-replicate 32 0 t

-- a flag that was cleared isn't set
pub cleared : (in_flight : List Bool) (t : ℕ) → is_in_flight_of (set in_flight t false) t ≡ false
cleared [] t = refl
cleared (b ∷ in_flight) zero = refl
cleared (b ∷ in_flight) (suc t) = cleared in_flight t

-- a thread that is in flight after a flag was cleared was in flight before, and is another one
pub still_in_flight : (in_flight : List Bool) (t u : ℕ) → is_in_flight_of (set in_flight t false) u ≡ true → (u ≢ t) × (is_in_flight_of in_flight u ≡ true)
still_in_flight in_flight t u is =
    elim (cases_eq u t) [
      | inl same ↦ absurd (let none : is_in_flight_of (set in_flight t false) u ≡ false = rw same (cleared in_flight t) in cc)
      | inr other ↦ (other, sym (get_or-set_other in_flight t u false false other) ∙ is)
    ]

-- conditions

-- what holds if a thread's next step can be started
pub record CanBegin (w : RoundState) (t : ℕ) : Type 0 where
  pub none : is_none w.machine.ending ≡ true
  pub ready : is_ready (hart_of w.machine t).status ≡ true
  pub inside : is_in_flight w t ≡ false

pub begin-parts :
    (e : Option End) (stopped ready in_flight : Bool)
    → (not (is_some e || stopped) && (ready && not in_flight)) ≡ true
    → (is_none e ≡ true) × (ready ≡ true) × (in_flight ≡ false)
begin-parts (Some e) stopped ready in_flight h = cc
begin-parts None true ready in_flight h = cc
begin-parts None false false in_flight h = cc
begin-parts None false true true h = cc
begin-parts None false true false h = (refl, refl, refl)

not-true : (b : Bool) → not b ≡ true → b ≡ false
not-true true h = cc
not-true false h = refl

pub can_begin-parts : (w : RoundState) (t : ℕ) → can_begin w t ≡ true → CanBegin w t
can_begin-parts w t can =
    let parts = begin-parts w.machine.ending w.stopped (is_ready (hart_of w.machine t).status) (is_in_flight w t) can in
    record { none = parts.0; ready = parts.1; inside = parts.2 }

pub open-none : (e : Option End) (stopped : Bool) → (is_some e || stopped) ≡ false → is_none e ≡ true
open-none (Some e) stopped h = cc
open-none None stopped h = refl

-- one more entry

-- a step whose record and mark are right keeps the round at the machine from scratch
from_scratch-more :
    (w : RoundState) (t : ℕ) (reused : Bool) (m : Machine) (r : Record) (picked : List ℕ) (in_flight : List Bool)
    (taken_at : List ℕ)
    → IsFromScratch w
    → can_step w.machine t ≡ true
    → m ≡ step w.machine t
    → r ≡ record_of w.machine t
    → r ≡ source_of w.past w.machine (record { thread = t; reused = reused })
    → fits_next w.past w.machine t ≡ reused
    → IsFromScratch
    (record w {
      machine = m;
      schedule = w.schedule ++ record { thread = t; reused = reused } ∷ [];
      records = w.records
          ++ r ∷ [];
      picked = picked;
      in_flight = in_flight;
      taken_at = taken_at;
    })
from_scratch-more w t reused m r picked in_flight taken_at s can is_step is_record is_source is_mark =
    let ts : List ℕ = threads_of w.schedule in
    let start : Machine = first w.setup in
    let e : Entry = record { thread = t; reused = reused } in
    let threads : threads_of (w.schedule ++ e ∷ []) ≡ ts ++ t ∷ [] = threads-more w.schedule e in
    record {
      machine =
          is_step
          ∙ ap (λ (x : Machine). step x t) s.machine
          ∙ sym (scratch-more start ts t)
          ∙ ap (scratch_from start) (sym threads);
      permitted =
          ap (is_permitted_from start) threads
          ∙ permitted-more start ts t s.permitted (ap (λ (x : Machine). can_step x t) (sym s.machine) ∙ can);
      records =
          ap (λ (rs : List Record). rs ++ r ∷ []) s.records
          ∙ ap (λ (x : Record). records_from start ts ++ x ∷ [])
          (is_record ∙ ap (λ (x : Machine). record_of x t) s.machine)
          ∙ sym (records-more start ts t)
          ∙ ap (records_from start) (sym threads);
      sources =
          ap (λ (rs : List Record). rs ++ r ∷ []) s.sources
          ∙ ap (λ (x : Record). sourced_from w.past start w.schedule ++ x ∷ [])
          (is_source ∙ ap (λ (x : Machine). source_of w.past x e) s.machine)
          ∙ sym (sourced-more w.past start w.schedule e);
      marks =
          ap (λ (es : List Entry). es ++ e ∷ []) s.marks
          ∙ ap (λ (b : Bool). marked_from w.past start ts ++ record { thread = t; reused = b } ∷ [])
          (sym is_mark ∙ ap (λ (x : Machine). fits_next w.past x t) s.machine)
          ∙ sym (marked-more w.past start ts t)
          ∙ ap (marked_from w.past start) (sym threads);
    }

-- a machine at which a thread in flight has the same hart as before
held-same :
    (w v : RoundState) (u : ℕ)
    → v.past ≡ w.past → v.machine.frame ≡ w.machine.frame → hart_of v.machine u ≡ hart_of w.machine u
    → IsHeld w u → IsHeld v u
held-same w v u past frame same held =
    record {
      ready = ap (λ (h : Hart). is_ready h.status) same ∙ held.ready;
      unfit =
          ap (λ (p : Option History). fits_next p v.machine u) past
          ∙ fits_next-hart w.past v.machine w.machine u frame same
          ∙ held.unfit;
    }

-- what is from scratch doesn't depend on threads in flight, on what was discarded or on the stop
aside-scratch :
    (w : RoundState) (in_flight : List Bool) (taken_at : List ℕ) (discarded : ℕ) (stopped : Bool) → IsFromScratch w
    → IsFromScratch (record w { in_flight = in_flight; taken_at = taken_at; discarded = discarded; stopped = stopped })
aside-scratch w in_flight taken_at discarded stopped s =
    record {
      machine = s.machine;
      permitted = s.permitted;
      records = s.records;
      sources = s.sources;
      marks = s.marks;
    }

-- each event

take-kept : (w : RoundState) (t : ℕ) (b : Bool) → can_take w t ≡ b → IsInOrder w → IsInOrder (cond b (taken w t) w)
take-kept w t false is kept = kept
take-kept w t true is kept =
    let can : CanBegin w t = can_begin-parts w t (and-left (can_begin w t) (not (fits_next w.past w.machine t)) is) in
    let unfit : fits_next w.past w.machine t ≡ false =
    not-true (fits_next w.past w.machine t) (and-right (can_begin w t) (not (fits_next w.past w.machine t)) is) in
    record {
      flags = length-set w.in_flight t true ∙ kept.flags;
      lengths = length-set w.taken_at t (length w.schedule) ∙ kept.lengths;
      whole = kept.whole;
      held = λ u in_flight.
          elim (cases_eq u t) [
            | inl same ↦
                record {
                  ready = ap (λ v. is_ready (hart_of w.machine v).status) same ∙ can.ready;
                  unfit = ap (fits_next w.past w.machine) same ∙ unfit;
                }
            | inr other ↦
                let before : IsHeld w u = kept.held u (sym (get_or-set_other w.in_flight t u true false other) ∙ in_flight) in
                record { ready = before.ready; unfit = before.unfit }
          ];
      scratch = λ sound.
          aside-scratch w (set w.in_flight t true) (set w.taken_at t (length w.schedule)) w.discarded w.stopped
          (kept.scratch sound);
    }

reuse-some :
    (w : RoundState) (t : ℕ) (o : Option Record)
    → record_for w.past w.machine t ≡ o
    → CanBegin w t → is_fitting w.machine o ≡ true
    → IsInOrder w → IsInOrder (reused_by w t o)
reuse-some w t None there can fit kept = kept
reuse-some w t (Some r) there can fit kept =
    let of : (r.thread ≡ t) × (r.number ≡ (hart_of w.machine t).number) =
    past-of w.past t (hart_of w.machine t).number r there in
    let can_t : can_step w.machine t ≡ true = rw (can.none, can.ready) refl in
    let can_r : can_step w.machine r.thread ≡ true = ap (can_step w.machine) of.0 ∙ can_t in
    record {
      flags = kept.flags;
      lengths = kept.lengths;
      whole = apply-whole w.machine r kept.whole can_r;
      held = λ u in_flight.
          let other : u ≢ r.thread =
          λ same. let inside : is_in_flight w u ≡ false = ap (is_in_flight w) (same ∙ of.0) ∙ can.inside in cc in
          let before : IsHeld w u = kept.held u in_flight in
          held-same w (reused_by w t (Some r)) u refl (apply-frame w.machine r)
          (apply-stays w.machine r u kept.whole can_r other before.ready) before;
      scratch = λ sound.
          let s : IsFromScratch w = kept.scratch sound in
          let frame : w.machine.frame ≡ (first w.setup).frame =
          ap (λ (m : Machine). m.frame) s.machine ∙ scratch-frame (first w.setup) (threads_of w.schedule) in
          from_scratch-more w t true (apply w.machine r) r (w.picked ++ length w.schedule ∷ []) w.in_flight w.taken_at s
          can_t
          (reuse-apply w.setup w.past w.machine t (hart_of w.machine t).number r sound kept.whole frame there fit)
          (reuse-record w.setup w.past w.machine t (hart_of w.machine t).number r sound kept.whole frame there fit)
          (ap (λ (x : Option Record). unwrap_or x (record_of w.machine t)) (sym there))
          (ap (is_fitting w.machine) there ∙ fit);
    }

reuse-kept :
    (w : RoundState) (t : ℕ) (b : Bool)
    → can_reuse w t ≡ b → IsInOrder w → IsInOrder (cond b (reused_by w t (record_for w.past w.machine t)) w)
reuse-kept w t false is kept = kept
reuse-kept w t true is kept =
    reuse-some w t (record_for w.past w.machine t) refl
    (can_begin-parts w t (and-left (can_begin w t) (fits_next w.past w.machine t) is))
    (and-right (can_begin w t) (fits_next w.past w.machine t) is)
    kept

given_back-kept : (w : RoundState) (t : ℕ) → IsInOrder w → IsInOrder (given_back w t)
given_back-kept w t kept =
    record {
      flags = length-set w.in_flight t false ∙ kept.flags;
      lengths = length-set w.taken_at t 0 ∙ kept.lengths;
      whole = kept.whole;
      held = λ u in_flight.
          let before : IsHeld w u = kept.held u (still_in_flight w.in_flight t u in_flight).1 in
          record { ready = before.ready; unfit = before.unfit };
      scratch = λ sound.
          aside-scratch w (set w.in_flight t false) (set w.taken_at t 0)
          (min (suc w.discarded) 18446744073709551615) w.stopped
          (kept.scratch sound);
    }

committed-kept :
    (w : RoundState) (t : ℕ) → is_in_flight w t ≡ true → is_finished w ≡ false → IsInOrder w
    → IsInOrder (committed w t)
committed-kept w t in_flight over kept =
    let held : IsHeld w t = kept.held t in_flight in
    let none : is_none w.machine.ending ≡ true = open-none w.machine.ending w.stopped over in
    let can : can_step w.machine t ≡ true = rw (none, held.ready) refl in
    record {
      flags = length-set w.in_flight t false ∙ kept.flags;
      lengths = length-set w.taken_at t 0 ∙ kept.lengths;
      whole = step-whole w.machine t kept.whole can;
      held = λ u out_u.
          let still = still_in_flight w.in_flight t u out_u in
          let before : IsHeld w u = kept.held u still.1 in
          held-same w (committed w t) u refl (step-frame w.machine t)
          (step-stays w.machine t u kept.whole can still.0 before.ready) before;
      scratch = λ sound.
          from_scratch-more w t false (step w.machine t) (record_of w.machine t) (w.picked ++ taken_when w t ∷ [])
          (set w.in_flight t false) (set w.taken_at t 0) (kept.scratch sound) can refl refl refl
          held.unfit;
    }

commit-kept :
    (w : RoundState) (t : ℕ) (in_flight over : Bool)
    → is_in_flight w t ≡ in_flight → is_finished w ≡ over
    → IsInOrder w → IsInOrder (cond in_flight (cond over (given_back w t) (committed w t)) w)
commit-kept w t false over is_in_flight is_finished kept = kept
commit-kept w t true true is_in_flight is_finished kept = given_back-kept w t kept
commit-kept w t true false is_in_flight is_finished kept = committed-kept w t is_in_flight is_finished kept

give_back-kept : (w : RoundState) (t : ℕ) (in_flight : Bool) → IsInOrder w → IsInOrder (cond in_flight (given_back w t) w)
give_back-kept w t false kept = kept
give_back-kept w t true kept = given_back-kept w t kept

stop-kept : (w : RoundState) → IsInOrder w → IsInOrder (with_stop w)
stop-kept w kept =
    record {
      flags = kept.flags;
      lengths = kept.lengths;
      whole = kept.whole;
      held = λ u in_flight.
          let before : IsHeld w u = kept.held u in_flight in
          record { ready = before.ready; unfit = before.unfit };
      scratch = λ sound. aside-scratch w w.in_flight w.taken_at w.discarded true (kept.scratch sound);
    }

-- what holds of a round holds after an event
pub happens-kept : (w : RoundState) (e : Event) → IsInOrder w → IsInOrder (happens w e)
unfolding happens
happens-kept w (Take t) kept = take-kept w t (can_take w t) refl kept
happens-kept w (Reuse t) kept = reuse-kept w t (can_reuse w t) refl kept
happens-kept w (Commit t) kept = commit-kept w t (is_in_flight w t) (is_finished w) refl refl kept
happens-kept w (GiveBack t) kept = give_back-kept w t (is_in_flight w t) kept
happens-kept w Stop kept = stop-kept w kept

pub all_happen-kept : (w : RoundState) (es : List Event) → IsInOrder w → IsInOrder (all_happen w es)
all_happen-kept w [] kept = kept
all_happen-kept w (e ∷ es) kept = all_happen-kept (happens w e) es (happens-kept w e kept)

-- it holds at the start
pub opening-kept : (setup : Setup) (past : Option History) → IsSetup setup → IsInOrder (opening setup past)
opening-kept setup past valid =
    record {
      flags = none_in_flight-length;
      lengths = nothing_taken-length;
      whole = IsWhole-first setup valid;
      held = λ u in_flight. absurd (let none = none_in_flight-none u in cc);
      scratch = λ sound. record { machine = refl; permitted = refl; records = refl; sources = refl; marks = refl };
    }

-- so it holds of every round
pub round-kept :
    (setup : Setup) (past : Option History) (es : List Event) → IsSetup setup
    → IsInOrder (round_after setup past es)
round-kept setup past es valid = all_happen-kept (opening setup past) es (opening-kept setup past valid)
