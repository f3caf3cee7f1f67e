-- Rounds that workers make: that of one worker is the one that its schedule makes, entry by entry; if the history is
-- sound, it is the one from scratch; and without an edit it only reuses the history.
use Rattle.std.proofs.Common.{◌≡◌, ◌<◌, ℕ, zero, suc, Bool, true, false, not, cond, List, [], ◌∷◌, ◌++◌, length, sum, Option, Some, None, is_some, refl, ap, sym, ◌∙◌, subst, arith}
use Rattle.std.specs.List.{range_with_len}
use Rattle.thunk_spec.specs.Record.{Record}
use Rattle.machine_spec.specs.Machine.{Machine}
use Rattle.machine_spec.specs.Setup.{Setup, IsSetup, scratch, is_permitted, is_complete, records}
use Rattle.history_spec.specs.History.{History, IsHonest, IsSound, CanGoBy, schedule_of}
use Rattle.history_spec.proofs.Scratch.{and-left}
use Rattle.report_spec.specs.declared.Entry.{Entry}
use Rattle.report_spec.specs.Report.{threads_of}
use Rattle.round_spec.specs.declared.events.Event.TheVariants.{Take, Reuse, Commit}
use Rattle.round_spec.specs.declared.events.Pick.{Pick}
use Rattle.round_spec.specs.declared.events.Pick.TheVariants as pick
use Rattle.round_spec.specs.Marks.{record_for, fits_next, marked}
use Rattle.round_spec.specs.Rounds.{RoundState, opening, is_finished, is_in_flight, can_begin, can_take, can_reuse, taken, reused_by, happens, all_happen, history_of}
use Rattle.round_spec.specs.Schedules.{events_of, events_in, round_by, IsBySchedule}
use Rattle.round_spec.specs.Choice.{pick_of}
use Rattle.round_spec.specs.Alone.{after_pick, after_picks, lone_round}
use Rattle.round_spec.specs.Keeping.{IsFromScratch}
use Rattle.round_spec.specs.Picking.{IsPickedSoFar}
use Rattle.round_spec.specs.Unedited.{IsUnedited, all_reused_of, OnlyReuses}
use Rattle.round_spec.proofs.BySchedule.{IsInside, inside-none, inside-over, taken-none, round_by-inside, round_by-more}
use Rattle.round_spec.proofs.Conditions.{happens-take, happens-take_not, happens-reuse_not, happens-commit, happens-commit_not}
use Rattle.round_spec.proofs.Leaving.{round-setup, round-past, round-scratch, round-honest}
use Rattle.round_spec.specs.OneWorker.{made_by}
use Rattle.round_spec.specs.Workers.{IsMadeBy}
use Rattle.round_spec.specs.Replaying.{IsReplaying}
use Rattle.round_spec.proofs.Picks.{lone_state}
use Rattle.round_spec.proofs.Ending.{lone-ends}
use Rattle.round_spec.proofs.Unedited.{unedited-reuses}
use Rattle.round_spec.proofs.Picked.{lone-all_picked}
use Rattle.round_spec.proofs.Replay.{threads-reused, length-threads, replays-end}

-- the round of one worker

-- what a pick makes with no thread in flight: nothing, or one more entry
data Makes (w v : RoundState) : Type 0 where
  Nothing : v ≡ w → Makes w v
  Entry_more : (e : Entry) → v.schedule ≡ w.schedule ++ e ∷ [] → v ≡ all_happen w (events_of e) → Makes w v

reuse-makes : (w : RoundState) (t : ℕ) → Makes w (happens w (Reuse t))
unfolding happens
reuse-makes w t = by (can_reuse w t) refl
  where
    some :
        (o : Option Record) → happens w (Reuse t) ≡ reused_by w t o → Makes w (happens w (Reuse t))
    some None is = Nothing is
    some (Some r) is =
        Entry_more (record { thread = t; reused = true }) (ap (λ (v : RoundState). v.schedule) is) refl

    by : (b : Bool) → can_reuse w t ≡ b → Makes w (happens w (Reuse t))
    by true is =
        some (record_for w.past w.machine t)
        (ap (λ b. cond b (reused_by w t (record_for w.past w.machine t)) w) is)
    by false is = Nothing (happens-reuse_not w t is)

run-makes : (w : RoundState) (t : ℕ) → IsInside w → Makes w (happens (happens w (Take t)) (Commit t))
run-makes w t inside = by (can_take w t) refl
  where
    raised :
        (b : Bool) → can_take w t ≡ true → is_finished w ≡ false → is_in_flight (taken w t) t ≡ b
        → Makes w (happens (happens w (Take t)) (Commit t))
    raised true can over is =
        Entry_more (record { thread = t; reused = false })
        (ap (λ (v : RoundState). (happens v (Commit t)).schedule) (happens-take w t can)
        ∙ ap (λ (v : RoundState). v.schedule) (happens-commit (taken w t) t is over))
        refl
    raised false can over is =
        Nothing
        (ap (λ (v : RoundState). happens v (Commit t)) (happens-take w t can)
        ∙ happens-commit_not (taken w t) t is
        ∙ taken-none w t inside is)

    by : (b : Bool) → can_take w t ≡ b → Makes w (happens (happens w (Take t)) (Commit t))
    by true is =
        raised (is_in_flight (taken w t) t) is
        (inside-over w t inside (and-left (can_begin w t) (not (fits_next w.past w.machine t)) is)) refl
    by false is =
        Nothing
        (ap (λ (v : RoundState). happens v (Commit t)) (happens-take_not w t is)
        ∙ happens-commit_not w t (inside-none w t inside))

pick-makes : (w : RoundState) (p : Pick) → IsInside w → Makes w (after_pick w p)
pick-makes w (pick.Reuse t) inside = reuse-makes w t
pick-makes w (pick.Run t) inside = run-makes w t inside
pick-makes w pick.Hold inside = Nothing refl
pick-makes w pick.Over inside = Nothing refl

-- a round that its schedule makes is so after a pick
pick-entries :
    (setup : Setup) (past : Option History) (w v : RoundState)
    → Makes w v → round_by setup past w.schedule ≡ w → round_by setup past v.schedule ≡ v
pick-entries setup past w v (Nothing same) is =
    ap (λ (u : RoundState). round_by setup past u.schedule) same ∙ is ∙ sym same
pick-entries setup past w v (Entry_more e more made) is =
    ap (round_by setup past) more
    ∙ round_by-more setup past w.schedule e
    ∙ ap (λ (u : RoundState). all_happen u (events_of e)) is
    ∙ sym made

more-entries :
    (setup : Setup) (past : Option History) (n : ℕ) (w : RoundState)
    → round_by setup past w.schedule ≡ w
    → round_by setup past (after_picks n w).schedule ≡ after_picks n w
more-entries setup past zero w is = is
more-entries setup past (suc n) w is =
    more-entries setup past n (after_pick w (pick_of w))
    (pick-entries setup past w (after_pick w (pick_of w))
    (pick-makes w (pick_of w) (subst IsInside is (round_by-inside setup past w.schedule)))
    is)

-- after any number of picks
pub picks-entries :
    (setup : Setup) (past : Option History) (n : ℕ)
    → round_by setup past (after_picks n (opening setup past)).schedule ≡ after_picks n (opening setup past)
picks-entries setup past n = more-entries setup past n (opening setup past) refl

pub lone-entries :
    (setup : Setup) (past : Option History)
    → round_by setup past (lone_round setup past).schedule ≡ lone_round setup past
lone-entries setup past = picks-entries setup past setup.limit

-- it has an end
pub entries-end :
    (setup : Setup) (past : Option History) → IsSetup setup
    → is_some (round_by setup past (lone_round setup past).schedule).machine.ending ≡ true
entries-end setup past valid =
    ap (λ (w : RoundState). is_some w.machine.ending) (lone-entries setup past) ∙ lone-ends setup past valid

lone-reused :
    (h : History) (setup : Setup) → IsUnedited h setup
    → (lone_round setup (Some h)).schedule ≡ all_reused_of h
lone-reused h setup unedited =
    subst (λ (s : Setup). (lone_round s (Some h)).schedule ≡ all_reused_of h) unedited.same
    (unedited-reuses h unedited.honest).schedule

-- what workers make

pub lone-made :
    (workers : ℕ) (setup : Setup) (past : Option History) (worker_steps : List ℕ)
    → IsSetup setup
    → length worker_steps ≡ workers
    → sum worker_steps ≡ length (lone_round setup past).schedule
    → IsMadeBy workers setup past (lone_round setup past).schedule worker_steps
lone-made workers setup past worker_steps valid each steps =
    record {
      stands = ap (λ (w : RoundState). w.schedule) (lone-entries setup past);
      ended = entries-end setup past valid;
      each = each;
      steps = steps;
      alone = λ one. refl;
      unedited = λ h by unedited.
          ap (λ (p : Option History). (lone_round setup p).schedule) by ∙ lone-reused h setup unedited;
      picked = λ sound. (
        (lone_round setup past).picked,
        lone-all_picked setup past valid sound,
      );
    }

pub ended-made :
    (workers : ℕ) (w : RoundState) (worker_steps : List ℕ)
    → 1 < workers
    → IsBySchedule w
    → is_some w.machine.ending ≡ true
    → length worker_steps ≡ workers
    → sum worker_steps ≡ length w.schedule
    → ((h : History) → w.past ≡ Some h → IsUnedited h w.setup → IsReplaying h w)
    → (IsSound w.past w.setup → IsPickedSoFar w)
    → IsMadeBy workers w.setup w.past w.schedule worker_steps
ended-made workers w worker_steps many is ended each steps replays by_rule =
    record {
      stands = is.schedule;
      ended = ap (λ (m : Machine). is_some m.ending) is.machine ∙ ended;
      each = each;
      steps = steps;
      alone = λ one. absurd (omega arith);
      unedited = λ h by unedited. (replays-end h w unedited.honest (replays h by unedited) ended).schedule;
      picked = λ sound. (w.picked, (by_rule sound).entries);
    }

-- two rounds with the same parts
by-parts :
    (w : RoundState) (setup : Setup) (past : Option History) (m : Machine) (es : List Entry) (rs : List Record)
    (picked : List ℕ)
    → IsInside w
    → w.setup ≡ setup → w.past ≡ past → w.machine ≡ m → w.schedule ≡ es → w.records ≡ rs → w.picked ≡ picked
    → w ≡ lone_state setup past m es rs picked
by-parts w setup past m es rs picked inside is_setup is_past is_machine is_schedule is_records is_picked =
    ap (λ (s : Setup). record w { setup = s }) is_setup
    ∙ ap (λ (p : Option History). record w { setup = setup; past = p }) is_past
    ∙ ap (λ (x : Machine). record w { setup = setup; past = past; machine = x }) is_machine
    ∙ ap (λ (x : List Entry). record w { setup = setup; past = past; machine = m; schedule = x }) is_schedule
    ∙ ap (λ (x : List Record). record w { setup = setup; past = past; machine = m; schedule = es; records = x })
    is_records
    ∙ ap (λ (x : List ℕ). record (lone_state setup past m es rs x) {
      in_flight = w.in_flight;
      taken_at = w.taken_at;
      discarded = w.discarded;
      stopped = w.stopped;
    }) is_picked
    ∙ ap (λ (x : List Bool). record (lone_state setup past m es rs picked) {
      in_flight = x;
      taken_at = w.taken_at;
      discarded = w.discarded;
      stopped = w.stopped;
    }) inside.in_flight
    ∙ ap (λ (x : List ℕ). record (lone_state setup past m es rs picked) {
      taken_at = x;
      discarded = w.discarded;
      stopped = w.stopped;
    }) inside.taken_at
    ∙ ap (λ (x : ℕ). record (lone_state setup past m es rs picked) { discarded = x; stopped = w.stopped })
    inside.discarded
    ∙ ap (λ (x : Bool). record (lone_state setup past m es rs picked) { stopped = x }) inside.stopped

workers-scratch :
    (setup : Setup) (past : Option History) (entries : List Entry) → CanGoBy past setup
    → IsFromScratch (round_by setup past entries)
workers-scratch setup past entries premise =
    round-scratch setup past (events_in entries) premise.valid premise.sound

pub workers-round :
    (workers : ℕ) (setup : Setup) (past : Option History) (entries : List Entry) (worker_steps : List ℕ)
    → CanGoBy past setup
    → IsMadeBy workers setup past entries worker_steps
    → round_by setup past entries ≡ made_by setup past (threads_of entries)
workers-round workers setup past entries worker_steps premise made =
    by-parts v setup past (scratch setup ts) (marked past setup ts) (records setup ts) (range_with_len 0 (length ts))
    (round_by-inside setup past entries) is_setup is_past
    (s.machine ∙ ap (λ (x : Setup). scratch x (threads_of v.schedule)) is_setup ∙ ap (scratch setup) threads)
    (s.marks
    ∙ ap (λ (x : Setup). marked v.past x (threads_of v.schedule)) is_setup
    ∙ ap (λ (p : Option History). marked p setup (threads_of v.schedule)) is_past
    ∙ ap (marked past setup) threads)
    (s.records ∙ ap (λ (x : Setup). records x (threads_of v.schedule)) is_setup ∙ ap (records setup) threads)
    ((round_by-inside setup past entries).picked
    ∙ ap (range_with_len 0) (sym (length-threads v.schedule) ∙ ap (λ (xs : List ℕ). length xs) threads))
  where
    ts : List ℕ
    ts = threads_of entries

    v : RoundState
    v = round_by setup past entries

    s : IsFromScratch v
    s = workers-scratch setup past entries premise

    threads : threads_of v.schedule ≡ ts
    threads = ap threads_of made.stands

    is_setup : v.setup ≡ setup
    is_setup = round-setup setup past (events_in entries)

    is_past : v.past ≡ past
    is_past = round-past setup past (events_in entries)

pub workers-permitted :
    (workers : ℕ) (setup : Setup) (past : Option History) (entries : List Entry) (worker_steps : List ℕ)
    → CanGoBy past setup
    → IsMadeBy workers setup past entries worker_steps
    → is_permitted setup (threads_of entries) ≡ true
workers-permitted workers setup past entries worker_steps premise made =
    ap (λ (es : List Entry). is_permitted setup (threads_of es)) (sym made.stands)
    ∙ ap (λ (s : Setup). is_permitted s (threads_of (round_by setup past entries).schedule))
    (sym (round-setup setup past (events_in entries)))
    ∙ (workers-scratch setup past entries premise).permitted

pub workers-complete :
    (workers : ℕ) (setup : Setup) (past : Option History) (entries : List Entry) (worker_steps : List ℕ)
    → CanGoBy past setup
    → IsMadeBy workers setup past entries worker_steps
    → is_complete setup (threads_of entries) ≡ true
workers-complete workers setup past entries worker_steps premise made =
    ap (λ (w : RoundState). is_some w.machine.ending)
    (sym (workers-round workers setup past entries worker_steps premise made))
    ∙ made.ended

pub workers-marks :
    (workers : ℕ) (setup : Setup) (past : Option History) (entries : List Entry) (worker_steps : List ℕ)
    → CanGoBy past setup
    → IsMadeBy workers setup past entries worker_steps
    → entries ≡ marked past setup (threads_of entries)
workers-marks workers setup past entries worker_steps premise made =
    sym made.stands
    ∙ ap (λ (w : RoundState). w.schedule) (workers-round workers setup past entries worker_steps premise made)

pub workers-honest :
    (workers : ℕ) (setup : Setup) (past : Option History) (entries : List Entry) (worker_steps : List ℕ)
    → CanGoBy past setup
    → IsMadeBy workers setup past entries worker_steps
    → IsHonest (history_of (round_by setup past entries))
workers-honest workers setup past entries worker_steps premise made =
    round-honest setup past (events_in entries) premise.valid premise.sound made.ended

pub workers-alone :
    (setup : Setup) (past : Option History) (entries : List Entry) (worker_steps : List ℕ)
    → IsMadeBy 1 setup past entries worker_steps
    → round_by setup past entries ≡ lone_round setup past
workers-alone setup past entries worker_steps made =
    ap (round_by setup past) (made.alone refl) ∙ lone-entries setup past

-- without an edit

pub workers-threads :
    (workers : ℕ) (h : History) (setup : Setup) (entries : List Entry) (worker_steps : List ℕ)
    → IsUnedited h setup
    → IsMadeBy workers setup (Some h) entries worker_steps
    → threads_of entries ≡ schedule_of h
workers-threads workers h setup entries worker_steps unedited made =
    ap threads_of (made.unedited h refl unedited) ∙ threads-reused (schedule_of h)

-- it is the round that one worker makes
pub workers-unedited :
    (workers : ℕ) (h : History) (setup : Setup) (entries : List Entry) (worker_steps : List ℕ)
    → IsUnedited h setup
    → IsMadeBy workers setup (Some h) entries worker_steps
    → round_by setup (Some h) entries ≡ lone_round setup (Some h)
workers-unedited workers h setup entries worker_steps unedited made =
    ap (round_by setup (Some h)) (made.unedited h refl unedited ∙ sym (lone-reused h setup unedited))
    ∙ lone-entries setup (Some h)

pub workers-reuse :
    (workers : ℕ) (h : History) (setup : Setup) (entries : List Entry) (worker_steps : List ℕ)
    → IsUnedited h setup
    → IsMadeBy workers setup (Some h) entries worker_steps
    → OnlyReuses h (round_by setup (Some h) entries)
workers-reuse workers h setup entries worker_steps unedited made =
    subst (OnlyReuses h) (sym (workers-unedited workers h setup entries worker_steps unedited made))
    (subst (λ (s : Setup). OnlyReuses h (lone_round s (Some h))) unedited.same (unedited-reuses h unedited.honest))
