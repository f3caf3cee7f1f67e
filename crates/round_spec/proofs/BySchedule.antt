-- A round is where its schedule leads, whatever happens to it.
use Rattle.std.proofs.Common.{◌≡◌, ◌<◌, ◌≤◌, ◌+◌, ℕ, zero, suc, Bool, true, false, not, cond, List, [], ◌∷◌, ◌++◌, append_assoc, append-nil, length, length-append, get_or, set, Option, Some, None, is_some, is_none, refl, ap, sym, ◌∙◌, subst, inl, inr, arith}
use Rattle.std.proofs.lemmas.Bool.{cases_lt}
use Rattle.std.proofs.lemmas.List.{get_or-set_same, length-set}
use Rattle.std.specs.List.{range_with_len}
use Rattle.thunk_spec.specs.Record.{Record}
use Rattle.machine_spec.specs.declared.states.End.{End}
use Rattle.machine_spec.specs.Machine.{Machine, hart_of, is_ready}
use Rattle.machine_spec.specs.Step.{step, apply, fits}
use Rattle.machine_spec.specs.Schedule.{record_of}
use Rattle.machine_spec.specs.Setup.{Setup, IsSetup}
use Rattle.history_spec.specs.History.{History}
use Rattle.history_spec.proofs.Scratch.{and-left, and-right}
use Rattle.report_spec.specs.declared.Entry.{Entry}
use Rattle.round_spec.specs.declared.events.Event.{Event}
use Rattle.round_spec.specs.declared.events.Event.TheVariants.{Take, Reuse, Commit, GiveBack, Stop}
use Rattle.round_spec.specs.Marks.{record_for, is_fitting, fits_next}
use Rattle.round_spec.specs.Rounds.{RoundState, none_in_flight, nothing_taken, opening, is_finished, is_in_flight, is_in_flight_of, can_begin, can_take, can_reuse, taken, taken_when, reused_by, committed, given_back, happens, all_happen, round_after}
use Rattle.round_spec.specs.Schedules.{events_of, events_in, round_by, IsBySchedule}
use Rattle.round_spec.specs.Keeping.{IsHeld, IsInOrder}
use Rattle.round_spec.proofs.Conditions.{happens-take, happens-take_not, happens-reuse, happens-commit, happens-commit_not}
use Rattle.round_spec.proofs.Happening.{CanBegin, can_begin-parts, none_in_flight-none, none_in_flight-length, nothing_taken-none, nothing_taken-length, open-none, opening-kept, happens-kept}
use Rattle.round_spec.proofs.Leaving.{round-past}

-- events one after the other

pub all_happen-both :
    (w : RoundState) (es fs : List Event) → all_happen w (es ++ fs) ≡ all_happen (all_happen w es) fs
all_happen-both w [] fs = refl
all_happen-both w (e ∷ es) fs = all_happen-both (happens w e) es fs

pub events_in-more : (es : List Entry) (e : Entry) → events_in (es ++ e ∷ []) ≡ events_in es ++ events_of e
events_in-more [] e = append-nil (events_of e)
events_in-more (x ∷ es) e =
    ap (λ (fs : List Event). events_of x ++ fs) (events_in-more es e)
    ∙ sym (append_assoc (events_of x) (events_in es) (events_of e))

-- one more entry is made after the others
pub round_by-more :
    (setup : Setup) (past : Option History) (es : List Entry) (e : Entry)
    → round_by setup past (es ++ e ∷ []) ≡ all_happen (round_by setup past es) (events_of e)
round_by-more setup past es e =
    ap (round_after setup past) (events_in-more es e)
    ∙ all_happen-both (opening setup past) (events_in es) (events_of e)

-- flags

-- setting an element and resetting it changes nothing
pub set-back : {A : Type 0} (xs : List A) (t : ℕ) (x none : A) → get_or xs t none ≡ none → set (set xs t x) t none ≡ xs
set-back [] t x none is = refl
set-back (y ∷ xs) zero x none is = ap (λ z. z ∷ xs) (sym is)
set-back (y ∷ xs) (suc t) x none is = ap (λ ys. y ∷ ys) (set-back xs t x none is)

set-in_flight : (in_flight : List Bool) (t : ℕ) → t < length in_flight → is_in_flight_of (set in_flight t true) t ≡ true
set-in_flight [] t below = absurd (omega arith)
set-in_flight (b ∷ in_flight) zero below = refl
set-in_flight (b ∷ in_flight) (suc t) below = set-in_flight in_flight t (omega arith)

-- a flag past the end isn't set
pub set-none : (in_flight : List Bool) (t : ℕ) → is_in_flight_of (set in_flight t true) t ≡ false → set in_flight t true ≡ in_flight
set-none [] t none = refl
set-none (b ∷ in_flight) zero none = cc
set-none (b ∷ in_flight) (suc t) none = ap (λ (bs : List Bool). b ∷ bs) (set-none in_flight t none)

-- nor is a number
set-past : (ns : List ℕ) (t n : ℕ) → length ns ≤ t → set ns t n ≡ ns
set-past [] t n past = refl
set-past (m ∷ ns) zero n past = absurd (omega arith)
set-past (m ∷ ns) (suc t) n past = ap (λ (ms : List ℕ). m ∷ ms) (set-past ns t n (omega arith))

in_flight-past : (in_flight : List Bool) (t : ℕ) → is_in_flight_of (set in_flight t true) t ≡ false → length in_flight ≤ t
in_flight-past in_flight t none =
    elim (cases_lt t (length in_flight)) [
      | inl below ↦ absurd (let is = set-in_flight in_flight t below in cc)
      | inr past ↦ past
    ]

-- a thread that is in flight has a flag
pub in_flight-below : (in_flight : List Bool) (t : ℕ) → is_in_flight_of in_flight t ≡ true → t < length in_flight
in_flight-below [] t is = cc
in_flight-below (b ∷ in_flight) zero is = omega arith
in_flight-below (b ∷ in_flight) (suc t) is = let rest = in_flight-below in_flight t is in omega arith

none-some : (e : Option End) → is_none e ≡ true → is_some e ≡ false
none-some (Some e) none = cc
none-some None none = refl

-- between its entries, a round that is made entry by entry has no thread in flight,
-- wasn't stopped, and has discarded nothing;
-- and each thread was picked when its entry was made
pub record IsInside (w : RoundState) : Type 0 where
  pub picked : w.picked ≡ range_with_len 0 (length w.schedule)
  pub in_flight : w.in_flight ≡ none_in_flight
  pub taken_at : w.taken_at ≡ nothing_taken
  pub stopped : w.stopped ≡ false
  pub discarded : w.discarded ≡ 0

-- one more number at the end of a range
range-more : (k n : ℕ) → range_with_len k n ++ (k + n) ∷ [] ≡ range_with_len k (suc n)
range-more k zero = let same : k + 0 ≡ k = omega arith in rw same refl
range-more k (suc n) =
    let same : k + suc n ≡ k + 1 + n = omega arith in
    rw same (ap (λ (ns : List ℕ). k ∷ ns) (range-more (k + 1) n))

-- one more thread is picked now
pub picked-more :
    {A : Type 0} → (picked : List ℕ) (xs : List A) (x : A) (n : ℕ)
    → picked ≡ range_with_len 0 (length xs) → n ≡ length xs
    → picked ++ n ∷ [] ≡ range_with_len 0 (length (xs ++ x ∷ []))
picked-more picked xs x n picked_is is =
    let long : length (xs ++ x ∷ []) ≡ suc (length xs) = let more = length-append xs (x ∷ []) in omega arith in
    let here : n ≡ 0 + length xs = omega arith in
    ap (λ (ns : List ℕ). ns ++ n ∷ []) picked_is
    ∙ ap (λ (i : ℕ). range_with_len 0 (length xs) ++ i ∷ []) here
    ∙ range-more 0 (length xs)
    ∙ ap (range_with_len 0) (sym long)

pub inside-none : (w : RoundState) (t : ℕ) → IsInside w → is_in_flight w t ≡ false
inside-none w t inside = ap (λ (in_flight : List Bool). is_in_flight_of in_flight t) inside.in_flight ∙ none_in_flight-none t

-- if a step can be started, the round isn't finished
pub inside-over : (w : RoundState) (t : ℕ) → IsInside w → can_begin w t ≡ true → is_finished w ≡ false
inside-over w t inside can =
    let begins : CanBegin w t = can_begin-parts w t can in
    rw (none-some w.machine.ending begins.none, inside.stopped) refl

inside-reused : (w : RoundState) (t : ℕ) (o : Option Record) → IsInside w → IsInside (reused_by w t o)
inside-reused w t None inside = inside
inside-reused w t (Some r) inside =
    record {
      picked =
          picked-more w.picked w.schedule (record { thread = t; reused = true }) (length w.schedule) inside.picked refl;
      in_flight = inside.in_flight;
      taken_at = inside.taken_at;
      stopped = inside.stopped;
      discarded = inside.discarded;
    }

inside-reuse : (w : RoundState) (t : ℕ) → IsInside w → IsInside (happens w (Reuse t))
unfolding happens
inside-reuse w t inside = by (can_reuse w t)
  where
    by : (b : Bool) → IsInside (cond b (reused_by w t (record_for w.past w.machine t)) w)
    by true = inside-reused w t (record_for w.past w.machine t) inside
    by false = inside

-- taking a thread without a flag changes nothing
pub taken-none : (w : RoundState) (t : ℕ) → IsInside w → is_in_flight (taken w t) t ≡ false → taken w t ≡ w
taken-none w t inside is =
    let flags : length w.in_flight ≡ 32 = ap (λ (in_flight : List Bool). length in_flight) inside.in_flight ∙ none_in_flight-length in
    let lengths : length w.taken_at ≡ 32 = ap (λ (ns : List ℕ). length ns) inside.taken_at ∙ nothing_taken-length in
    let past = in_flight-past w.in_flight t is in
    ap (λ (in_flight : List Bool). record w { in_flight = in_flight; taken_at = set w.taken_at t (length w.schedule) })
    (set-none w.in_flight t is)
    ∙ ap (λ (ns : List ℕ). record w { taken_at = ns }) (set-past w.taken_at t (length w.schedule) (omega arith))

-- when a thread that has a flag was taken
taken-now :
    (w : RoundState) (t : ℕ) → IsInside w → is_in_flight (taken w t) t ≡ true → taken_when (taken w t) t ≡ length w.schedule
taken-now w t inside is =
    let below : t < length (set w.in_flight t true) = in_flight-below (set w.in_flight t true) t is in
    let flags : length (set w.in_flight t true) ≡ 32 =
    length-set w.in_flight t true ∙ ap (λ (in_flight : List Bool). length in_flight) inside.in_flight ∙ none_in_flight-length in
    let lengths : length w.taken_at ≡ 32 = ap (λ (ns : List ℕ). length ns) inside.taken_at ∙ nothing_taken-length in
    get_or-set_same w.taken_at t (length w.schedule) 0 (omega arith)

-- a thread that was taken is committed, if it has a flag
inside-commit :
    (w : RoundState) (t : ℕ) (flag : Bool) → is_finished w ≡ false → is_in_flight (taken w t) t ≡ flag → IsInside w
    → IsInside (happens (taken w t) (Commit t))
inside-commit w t true over is inside =
    subst IsInside (sym (happens-commit (taken w t) t is over))
    (record {
      picked =
          picked-more w.picked w.schedule (record { thread = t; reused = false })
          (taken_when (taken w t) t) inside.picked
          (taken-now w t inside is);
      in_flight = set-back w.in_flight t true false (inside-none w t inside) ∙ inside.in_flight;
      taken_at =
          set-back w.taken_at t (length w.schedule) 0
          (ap (λ (ns : List ℕ). get_or ns t 0) inside.taken_at ∙ nothing_taken-none t)
          ∙ inside.taken_at;
      stopped = inside.stopped;
      discarded = inside.discarded;
    })
inside-commit w t false over is inside =
    subst IsInside (sym (happens-commit_not (taken w t) t is ∙ taken-none w t inside is)) inside

inside-run : (w : RoundState) (t : ℕ) → IsInside w → IsInside (happens (happens w (Take t)) (Commit t))
inside-run w t inside = by (can_take w t) refl
  where
    by : (b : Bool) → can_take w t ≡ b → IsInside (happens (happens w (Take t)) (Commit t))
    by true is =
        let over : is_finished w ≡ false =
        inside-over w t inside (and-left (can_begin w t) (not (fits_next w.past w.machine t)) is) in
        subst (λ (v : RoundState). IsInside (happens v (Commit t))) (sym (happens-take w t is))
        (inside-commit w t (is_in_flight (taken w t) t) over refl inside)
    by false is =
        subst (λ (v : RoundState). IsInside (happens v (Commit t))) (sym (happens-take_not w t is))
        (subst IsInside (sym (happens-commit_not w t (inside-none w t inside))) inside)

pub entry-inside : (w : RoundState) (e : Entry) → IsInside w → IsInside (all_happen w (events_of e))
entry-inside w e inside = by e.reused
  where
    by :
        (b : Bool)
        → IsInside (all_happen w (cond b (Reuse e.thread ∷ []) (Take e.thread ∷ Commit e.thread ∷ [])))
    by true = inside-reuse w e.thread inside
    by false = inside-run w e.thread inside

entries-inside : (w : RoundState) (es : List Entry) → IsInside w → IsInside (all_happen w (events_in es))
entries-inside w [] inside = inside
entries-inside w (e ∷ es) inside =
    subst IsInside (sym (all_happen-both w (events_of e) (events_in es)))
    (entries-inside (all_happen w (events_of e)) es (entry-inside w e inside))

pub round_by-inside : (setup : Setup) (past : Option History) (es : List Entry) → IsInside (round_by setup past es)
round_by-inside setup past es =
    entries-inside (opening setup past) es
    (record { picked = refl; in_flight = refl; taken_at = refl; stopped = refl; discarded = refl })

-- a step that can be made by its mark can be made with no thread in flight
begins-inside :
    (v : RoundState) (t : ℕ)
    → IsInside v → is_none v.machine.ending ≡ true → is_ready (hart_of v.machine t).status ≡ true
    → can_begin v t ≡ true
begins-inside v t inside none ready =
    rw (none-some v.machine.ending none, inside.stopped, ready, inside-none v t inside) refl

reuse-inside :
    (v : RoundState) (t : ℕ) (r : Record)
    → IsInside v → is_none v.machine.ending ≡ true → is_ready (hart_of v.machine t).status ≡ true
    → record_for v.past v.machine t ≡ Some r → is_fitting v.machine (record_for v.past v.machine t) ≡ true
    → all_happen v (Reuse t ∷ []) ≡ reused_by v t (Some r)
reuse-inside v t r inside none ready there fit =
    happens-reuse v t r (rw (begins-inside v t inside none ready, fit) refl) there

run-inside :
    (v : RoundState) (t : ℕ)
    → IsInside v → is_none v.machine.ending ≡ true → is_ready (hart_of v.machine t).status ≡ true
    → fits_next v.past v.machine t ≡ false → t < 32
    → all_happen v (Take t ∷ Commit t ∷ []) ≡ committed (taken v t) t
run-inside v t inside none ready unfit below =
    ap (λ (w : RoundState). happens w (Commit t))
    (happens-take v t (rw (begins-inside v t inside none ready, unfit) refl))
    ∙ happens-commit (taken v t) t
    (set-in_flight v.in_flight t
    (subst (λ (n : ℕ). t < n) (sym (ap (λ (in_flight : List Bool). length in_flight) inside.in_flight ∙ none_in_flight-length)) below))
    (rw (none-some v.machine.ending none, inside.stopped) refl)

-- each event

take-by : (w : RoundState) (t : ℕ) (b : Bool) → IsBySchedule w → IsBySchedule (cond b (taken w t) w)
take-by w t true is = record { schedule = is.schedule; machine = is.machine; records = is.records }
take-by w t false is = is

given_back-by : (w : RoundState) (t : ℕ) → IsBySchedule w → IsBySchedule (given_back w t)
given_back-by w t is = record { schedule = is.schedule; machine = is.machine; records = is.records }

give_back-by : (w : RoundState) (t : ℕ) (b : Bool) → IsBySchedule w → IsBySchedule (cond b (given_back w t) w)
give_back-by w t true is = given_back-by w t is
give_back-by w t false is = is

reuse-some :
    (w : RoundState) (t : ℕ) (o : Option Record)
    → record_for w.past w.machine t ≡ o → CanBegin w t → is_fitting w.machine o ≡ true
    → IsBySchedule w → IsBySchedule (reused_by w t o)
reuse-some w t None there can fit is = is
reuse-some w t (Some r) there can fit is =
    record {
      schedule = ap (λ (u : RoundState). u.schedule) made ∙ ap (λ (es : List Entry). es ++ e ∷ []) is.schedule;
      machine = ap (λ (u : RoundState). u.machine) made ∙ ap (λ (m : Machine). apply m r) is.machine;
      records = ap (λ (u : RoundState). u.records) made ∙ ap (λ (rs : List Record). rs ++ r ∷ []) is.records;
    }
  where
    e : Entry
    e = record { thread = t; reused = true }

    v : RoundState
    v = round_by w.setup w.past w.schedule

    there_v : record_for v.past v.machine t ≡ Some r
    there_v =
        ap (λ (p : Option History). record_for p v.machine t) (round-past w.setup w.past (events_in w.schedule))
        ∙ ap (λ (m : Machine). record_for w.past m t) is.machine
        ∙ there

    made : round_by w.setup w.past (w.schedule ++ e ∷ []) ≡ reused_by v t (Some r)
    made =
        round_by-more w.setup w.past w.schedule e
        ∙ reuse-inside v t r (round_by-inside w.setup w.past w.schedule)
        (ap (λ (m : Machine). is_none m.ending) is.machine ∙ can.none)
        (ap (λ (m : Machine). is_ready (hart_of m t).status) is.machine ∙ can.ready)
        there_v
        (ap (is_fitting v.machine) there_v ∙ ap (λ (m : Machine). fits m r) is.machine ∙ fit)

reuse-by :
    (w : RoundState) (t : ℕ) (b : Bool)
    → can_reuse w t ≡ b → IsBySchedule w → IsBySchedule (cond b (reused_by w t (record_for w.past w.machine t)) w)
reuse-by w t false can is = is
reuse-by w t true can is =
    reuse-some w t (record_for w.past w.machine t) refl
    (can_begin-parts w t (and-left (can_begin w t) (fits_next w.past w.machine t) can))
    (and-right (can_begin w t) (fits_next w.past w.machine t) can)
    is

committed-by :
    (w : RoundState) (t : ℕ) → is_in_flight w t ≡ true → is_finished w ≡ false → IsInOrder w → IsBySchedule w
    → IsBySchedule (committed w t)
committed-by w t in_flight over kept is =
    record {
      schedule = ap (λ (u : RoundState). u.schedule) made ∙ ap (λ (es : List Entry). es ++ e ∷ []) is.schedule;
      machine = ap (λ (u : RoundState). u.machine) made ∙ ap (λ (m : Machine). step m t) is.machine;
      records =
          ap (λ (u : RoundState). u.records) made
          ∙ ap (λ (rs : List Record). rs ++ record_of v.machine t ∷ []) is.records
          ∙ ap (λ (m : Machine). w.records ++ record_of m t ∷ []) is.machine;
    }
  where
    e : Entry
    e = record { thread = t; reused = false }

    v : RoundState
    v = round_by w.setup w.past w.schedule

    held : IsHeld w t
    held = kept.held t in_flight

    made : round_by w.setup w.past (w.schedule ++ e ∷ []) ≡ committed (taken v t) t
    made =
        round_by-more w.setup w.past w.schedule e
        ∙ run-inside v t (round_by-inside w.setup w.past w.schedule)
        (ap (λ (m : Machine). is_none m.ending) is.machine ∙ open-none w.machine.ending w.stopped over)
        (ap (λ (m : Machine). is_ready (hart_of m t).status) is.machine ∙ held.ready)
        (ap (λ (p : Option History). fits_next p v.machine t) (round-past w.setup w.past (events_in w.schedule))
        ∙ ap (λ (m : Machine). fits_next w.past m t) is.machine
        ∙ held.unfit)
        (subst (λ (n : ℕ). t < n) kept.flags (in_flight-below w.in_flight t in_flight))

commit-by :
    (w : RoundState) (t : ℕ) (in_flight over : Bool)
    → is_in_flight w t ≡ in_flight → is_finished w ≡ over → IsInOrder w → IsBySchedule w
    → IsBySchedule (cond in_flight (cond over (given_back w t) (committed w t)) w)
commit-by w t false over is_in_flight is_finished kept is = is
commit-by w t true true is_in_flight is_finished kept is = given_back-by w t is
commit-by w t true false is_in_flight is_finished kept is = committed-by w t is_in_flight is_finished kept is

-- a round that is where its schedule leads is so after an event
pub by_schedule-happens : (w : RoundState) (e : Event) → IsInOrder w → IsBySchedule w → IsBySchedule (happens w e)
unfolding happens
by_schedule-happens w (Take t) kept is = take-by w t (can_take w t) is
by_schedule-happens w (Reuse t) kept is = reuse-by w t (can_reuse w t) refl is
by_schedule-happens w (Commit t) kept is = commit-by w t (is_in_flight w t) (is_finished w) refl refl kept is
by_schedule-happens w (GiveBack t) kept is = give_back-by w t (is_in_flight w t) is
by_schedule-happens w Stop kept is =
    record { schedule = is.schedule; machine = is.machine; records = is.records }

all_happen-by : (w : RoundState) (es : List Event) → IsInOrder w → IsBySchedule w → IsBySchedule (all_happen w es)
all_happen-by w [] kept is = is
all_happen-by w (e ∷ es) kept is =
    all_happen-by (happens w e) es (happens-kept w e kept) (by_schedule-happens w e kept is)

-- it is so at the start
pub by_schedule-opening : (setup : Setup) (past : Option History) → IsBySchedule (opening setup past)
by_schedule-opening setup past = record { schedule = refl; machine = refl; records = refl }

-- so every round is
pub by_schedule-round :
    (setup : Setup) (past : Option History) (es : List Event) → IsSetup setup
    → IsBySchedule (round_after setup past es)
by_schedule-round setup past es valid =
    all_happen-by (opening setup past) es (opening-kept setup past valid) (by_schedule-opening setup past)
