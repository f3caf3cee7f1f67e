-- A round counts right after each event, whichever history it is based on.
use Rattle.std.proofs.Common.{◌≡◌, ℕ, suc, ◌+◌, Bool, true, false, cond, eqb, List, [], ◌∷◌, ◌++◌, append_assoc, append-nil, length, length-append, set, count_by, Option, Some, None, refl, ap, sym, ◌∙◌, arith}
use Rattle.thunk_spec.specs.Record.{Record}
use Rattle.machine_spec.specs.Machine.{Machine, hart_of, is_ready}
use Rattle.machine_spec.specs.Step.{step, apply}
use Rattle.machine_spec.specs.Schedule.{record_of}
use Rattle.machine_spec.specs.Setup.{Setup, IsSetup}
use Rattle.machine_spec.proofs.Alone.{step-steps}
use Rattle.history_spec.specs.History.{History, found, threads_of_records}
use Rattle.history_spec.proofs.Scratch.{and-left}
use Rattle.history_spec.proofs.Truth.{past-of}
use Rattle.history_spec.proofs.Numbers.{one_for, step-number, apply-number, apply-steps, count-more, numbered-more, first-number, first-steps}
use Rattle.report_spec.specs.declared.Entry.{Entry}
use Rattle.report_spec.specs.Report.{threads_of}
use Rattle.round_spec.specs.declared.events.Event.{Event}
use Rattle.round_spec.specs.declared.events.Event.TheVariants.{Take, Reuse, Commit, GiveBack, Stop}
use Rattle.round_spec.specs.Marks.{record_for, fits_next}
use Rattle.round_spec.specs.Rounds.{RoundState, opening, is_finished, is_in_flight, can_begin, can_take, can_reuse, taken, taken_when, reused_by, committed, given_back, happens, all_happen, round_after}
use Rattle.round_spec.specs.Keeping.{IsHeld, IsInOrder, IsReusing, IsCounted}
use Rattle.round_spec.proofs.Fits.{threads-more}
use Rattle.round_spec.proofs.Happening.{CanBegin, can_begin-parts, opening-kept, happens-kept}

records-more :
    (rs : List Record) (r : Record)
    → threads_of_records (rs ++ r ∷ []) ≡ threads_of_records rs ++ r.thread ∷ []
records-more [] r = refl
records-more (x ∷ rs) r = ap (λ (ts : List ℕ). x.thread ∷ ts) (records-more rs r)

reusing-more :
    (past : Option History) (earlier : List ℕ) (es : List Entry) (rs : List Record) (e : Entry) (r : Record)
    → IsReusing past earlier es rs
    → (e.reused ≡ true → found past e.thread (count_by (λ (t : ℕ). eqb t e.thread) (earlier ++ threads_of es)) ≡ Some r)
    → IsReusing past earlier (es ++ e ∷ []) (rs ++ r ∷ [])
reusing-more past earlier [] [] e r all last = (
  λ reused. ap (λ (ts : List ℕ). found past e.thread (count_by (λ (t : ℕ). eqb t e.thread) ts))
      (sym (append-nil earlier)) ∙ last reused,
  tt,
)
reusing-more past earlier [] (x ∷ rs) e r all last = absurd all
reusing-more past earlier (x ∷ es) [] e r all last = absurd all
reusing-more past earlier (x ∷ es) (y ∷ rs) e r all last = (
  all.0,
  reusing-more past (earlier ++ x.thread ∷ []) es rs e r all.1
      (λ reused.
      ap (λ (ts : List ℕ). found past e.thread (count_by (λ (t : ℕ). eqb t e.thread) ts))
      (append_assoc earlier (x.thread ∷ []) (threads_of es))
      ∙ last reused),
)

-- one more entry, with its record
counted-more :
    (w : RoundState) (t : ℕ) (reused : Bool) (m : Machine) (r : Record) (picked : List ℕ) (in_flight : List Bool)
    (taken_at : List ℕ)
    → IsCounted w
    → m.steps ≡ suc w.machine.steps
    → ((u : ℕ) → (hart_of m u).number ≡ (hart_of w.machine u).number + one_for u t)
    → r.thread ≡ t
    → r.number ≡ (hart_of w.machine t).number
    → (reused ≡ true → found w.past t (hart_of w.machine t).number ≡ Some r)
    → IsCounted
    (record w {
      machine = m;
      schedule = w.schedule ++ record { thread = t; reused = reused } ∷ [];
      records = w.records
          ++ r ∷ [];
      picked = picked;
      in_flight = in_flight;
      taken_at = taken_at;
    })
counted-more w t reused m r picked in_flight taken_at counted steps numbers thread number there =
    let e : Entry = record { thread = t; reused = reused } in
    let threads : threads_of (w.schedule ++ e ∷ []) ≡ threads_of w.schedule ++ t ∷ [] = threads-more w.schedule e in
    record {
      steps = let before = counted.steps in let more = length-append w.schedule (e ∷ []) in omega arith;
      threads =
          records-more w.records r
          ∙ ap (λ (ts : List ℕ). ts ++ r.thread ∷ []) counted.threads
          ∙ ap (λ (u : ℕ). threads_of w.schedule ++ u ∷ []) thread
          ∙ sym threads;
      numbers = λ u.
          numbers u
          ∙ ap (λ n. n + one_for u t) (counted.numbers u)
          ∙ sym (count-more u t (threads_of w.schedule))
          ∙ ap (λ (ts : List ℕ). count_by (λ (x : ℕ). eqb x u) ts) (sym threads);
      numbered =
          numbered-more [] w.records r counted.numbered
          (number
          ∙ counted.numbers t
          ∙ ap (λ (u : ℕ). count_by (λ (x : ℕ). eqb x u) (threads_of w.schedule)) (sym thread)
          ∙ ap (λ (ts : List ℕ). count_by (λ (x : ℕ). eqb x r.thread) ts) (sym counted.threads));
      reuses =
          reusing-more w.past [] w.schedule w.records e r counted.reuses
          (λ is. ap (found w.past t) (sym (counted.numbers t)) ∙ there is);
    }

same-counted :
    (w v : RoundState) → v.machine ≡ w.machine → v.schedule ≡ w.schedule → v.records ≡ w.records → v.past ≡ w.past
    → IsCounted w
    → IsCounted v
same-counted w v machine schedule records past counted =
    record {
      steps = rw (machine, schedule) counted.steps;
      threads = rw (records, schedule) counted.threads;
      numbers = λ t. rw (machine, schedule) (counted.numbers t);
      numbered = rw records counted.numbered;
      reuses = rw (past, schedule, records) counted.reuses;
    }

take-counted : (w : RoundState) (t : ℕ) (b : Bool) → IsCounted w → IsCounted (cond b (taken w t) w)
take-counted w t true counted = same-counted w (taken w t) refl refl refl refl counted
take-counted w t false counted = counted

reuse-some :
    (w : RoundState) (t : ℕ) (o : Option Record)
    → record_for w.past w.machine t ≡ o → is_ready (hart_of w.machine t).status ≡ true
    → IsCounted w → IsCounted (reused_by w t o)
reuse-some w t None there ready counted = counted
reuse-some w t (Some r) there ready counted =
    let of : (r.thread ≡ t) × (r.number ≡ (hart_of w.machine t).number) =
    past-of w.past t (hart_of w.machine t).number r there in
    let ready_r : is_ready (hart_of w.machine r.thread).status ≡ true =
    ap (λ u. is_ready (hart_of w.machine u).status) of.0 ∙ ready in
    counted-more w t true (apply w.machine r) r (w.picked ++ length w.schedule ∷ []) w.in_flight w.taken_at counted
    (apply-steps w.machine r)
    (λ u. apply-number w.machine r u ready_r ∙ ap (λ v. (hart_of w.machine u).number + one_for u v) of.0)
    of.0 of.1
    (λ is. there)

reuse-counted :
    (w : RoundState) (t : ℕ) (b : Bool)
    → can_reuse w t ≡ b → IsCounted w → IsCounted (cond b (reused_by w t (record_for w.past w.machine t)) w)
reuse-counted w t false is counted = counted
reuse-counted w t true is counted =
    let can : CanBegin w t = can_begin-parts w t (and-left (can_begin w t) (fits_next w.past w.machine t) is) in
    reuse-some w t (record_for w.past w.machine t) refl can.ready counted

given_back-counted : (w : RoundState) (t : ℕ) → IsCounted w → IsCounted (given_back w t)
given_back-counted w t counted = same-counted w (given_back w t) refl refl refl refl counted

commit-counted :
    (w : RoundState) (t : ℕ) (in_flight over : Bool)
    → is_in_flight w t ≡ in_flight → IsInOrder w → IsCounted w → IsCounted (cond in_flight (cond over (given_back w t) (committed w t)) w)
commit-counted w t false over is kept counted = counted
commit-counted w t true true is kept counted = given_back-counted w t counted
commit-counted w t true false is kept counted =
    let held : IsHeld w t = kept.held t is in
    counted-more w t false (step w.machine t) (record_of w.machine t) (w.picked ++ taken_when w t ∷ [])
    (set w.in_flight t false) (set w.taken_at t 0) counted (step-steps w.machine t)
    (λ u. step-number w.machine t u held.ready) refl refl (λ no. cc)

give_back-counted : (w : RoundState) (t : ℕ) (in_flight : Bool) → IsCounted w → IsCounted (cond in_flight (given_back w t) w)
give_back-counted w t true counted = given_back-counted w t counted
give_back-counted w t false counted = counted

-- a round that counts right does so after an event
pub happens-counted : (w : RoundState) (e : Event) → IsInOrder w → IsCounted w → IsCounted (happens w e)
unfolding happens
happens-counted w (Take t) kept counted = take-counted w t (can_take w t) counted
happens-counted w (Reuse t) kept counted = reuse-counted w t (can_reuse w t) refl counted
happens-counted w (Commit t) kept counted = commit-counted w t (is_in_flight w t) (is_finished w) refl kept counted
happens-counted w (GiveBack t) kept counted = give_back-counted w t (is_in_flight w t) counted
happens-counted w Stop kept counted = same-counted w (happens w Stop) refl refl refl refl counted

all_happen-counted : (w : RoundState) (es : List Event) → IsInOrder w → IsCounted w → IsCounted (all_happen w es)
all_happen-counted w [] kept counted = counted
all_happen-counted w (e ∷ es) kept counted =
    all_happen-counted (happens w e) es (happens-kept w e kept) (happens-counted w e kept counted)

pub round-counted :
    (setup : Setup) (past : Option History) (es : List Event) → IsSetup setup
    → IsCounted (round_after setup past es)
round-counted setup past es valid =
    all_happen-counted (opening setup past) es (opening-kept setup past valid)
    (record { steps = first-steps setup; threads = refl; numbers = first-number setup; numbered = refl; reuses = tt })
