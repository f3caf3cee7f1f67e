-- The picks of one worker, and what a round executes.
use Rattle.std.proofs.Common.{◌≡◌, ◌≤◌, ◌+◌, ℕ, zero, suc, Bool, true, false, not, ◌&&◌, cond, length, Option, Some, None, is_some, Result, Ok, Err, OnOk, refl, ap, sym, ◌∙◌, subst, arith}
use Rattle.std.proofs.lemmas.Bool.{and_parts, not-true, eq-eqb}
use Rattle.std.proofs.lemmas.List.{get_or-set_same}
use Rattle.std.specs.Arc.{arc_value}
use Rattle.std.specs.declared.alloc.AllocError.{AllocError}
use Rattle.isa_spec.specs.Registers.{Registers}
use Rattle.thunk_spec.specs.Thunk.{Frame}
use Rattle.thunk_spec.specs.Record.{Record, Kept, kept_thunk}
use Rattle.machine_spec.specs.Machine.{Machine, hart_of, is_ready}
use Rattle.machine_spec.specs.Schedule.{record_of}
use Rattle.machine_spec.specs.Setup.{Setup, IsSetup, is_permitted, is_complete}
use Rattle.machine_spec.specs.Step.{fits}
use Rattle.history_spec.specs.History.{History, IsSound, is_coherent}
use Rattle.history_spec.proofs.Truth.{record-fits}
use Rattle.report_spec.specs.Report.{threads_of}
use Rattle.round_spec.specs.declared.events.Event.{Event}
use Rattle.round_spec.specs.declared.events.Event.TheVariants.{Take, Reuse, Commit, GiveBack, Stop}
use Rattle.round_spec.specs.declared.events.Pick.{Pick}
use Rattle.round_spec.specs.declared.events.Pick.TheVariants as pick
use Rattle.round_spec.specs.Marks.{record_for, fits_next}
use Rattle.round_spec.specs.Rounds.{RoundState, is_finished, is_in_flight, can_begin, can_take, can_reuse, taken, reused_by, committed, given_back, happens}
use Rattle.round_spec.specs.Choice.{pick_of}
use Rattle.round_spec.specs.Alone.{one_worker, after_pick, after_picks, lone_round}
use Rattle.round_spec.proofs.Leaving.{round-setup, round-past}
use Rattle.round_spec.proofs.PicksAsEvents.{picks-events}
use Rattle.round_spec.specs.Keeping.{IsInOrder, IsCounted, IsHeld, IsFromScratch}
use Rattle.round_spec.specs.Picking.{ArePicked}
use Rattle.round_spec.specs.Unedited.{IsUnedited, OnlyReuses}
use Rattle.round_spec.proofs.Conditions.{happens-take, happens-commit}
use Rattle.round_spec.proofs.Lone.{one_worker-permitted, one_worker-complete, lone-threads, lone-scratch}
use Rattle.round_spec.proofs.Picked.{lone-all_picked}
use Rattle.round_spec.proofs.Ending.{lone-ends, lone-discarded}
use Rattle.round_spec.proofs.Unedited.{unedited-reuses}
use Rattle.round_spec.specs.Replaying.{IsReplaying, goes_on_by}
use Rattle.round_spec.proofs.Replay.{replays-on, replays-next}
use Rattle.thunk_record.specs.declared.job.Job.{Job}
use Rattle.thunk_run.specs.declared.run.Run.{Run}
use Rattle.thunk_run.specs.Running.{IsRunOf}
use Rattle.release_core.specs.Jobs.{IsJobOf}
use Rattle.round_spec.specs.Working.{ReexecutesLeast}
use Rattle.round_spec.proofs.ByWorkers.{reexecutes-alone}
use Rattle.propagate.specs.Committing.{CanCommit, IsOfStep}
use Rattle.propagate.specs.Executing.{executed_by, Costs, Spares, IsPartWay}
use Rattle.propagate.proofs.Choosing.{pick-over}
use Rattle.propagate.proofs.Keeping.{record_count, executed-more}
use Rattle.round_spec.proofs.Picks.{below-32}
use Rattle.propagate.proofs.Appending.{take-ready}

-- the record of a thread's own next step

own-record :
    (m : Machine) (t : ℕ) (r : Record)
    → r.thread ≡ t → r.number ≡ (hart_of m t).number → r.start ≡ (hart_of m t).regs
    → r.kept ≡ kept_thunk m.frame (hart_of m t).view (hart_of m t).regs
    → r ≡ record_of m t
own-record m t r thread number start kept =
    ap (λ (n : ℕ). record { thread = n; number = r.number; start = r.start; kept = r.kept }) thread
    ∙ ap (λ (n : ℕ). record { thread = t; number = n; start = r.start; kept = r.kept }) number
    ∙ ap (λ (x : Registers). record { thread = t; number = (hart_of m t).number; start = x; kept = r.kept }) start
    ∙ ap (λ (k : Kept). record { thread = t; number = (hart_of m t).number; start = (hart_of m t).regs; kept = k }) kept

-- the result of running a job is that record
pub run-record :
    (m : Machine) (t : ℕ) (job : Job) (run : Run) → IsJobOf m t job → IsRunOf job run → arc_value run.rec
    ≡ record_of m t
run-record m t job run own ran =
    own-record m t (arc_value run.rec) (ran.thread ∙ own.thread) (ran.number ∙ own.number) (ran.start ∙ own.regs)
    (ran.kept ∙ rw (own.frame, own.view, own.regs) refl)

take-going : (w : RoundState) (t : ℕ) → can_take w t ≡ true → is_finished w ≡ false
take-going w t can =
    let parts = and_parts (can_begin w t) (not (fits_next w.past w.machine t)) can in
    not-true (is_finished w) (and_parts (not (is_finished w)) (is_ready (hart_of w.machine t).status && not (is_in_flight w t))
    parts.0).0

-- the step of a thread that is in flight can be committed, as long as the round isn't finished
pub in_flight-commits :
    (w : RoundState) (t : ℕ) (r : Record)
    → IsInOrder w → is_in_flight w t ≡ true → is_finished w ≡ false → r ≡ record_of w.machine t
    → CanCommit w w.machine.frame r
in_flight-commits w t r kept in_flight going is =
    let held : IsHeld w t = kept.held t in_flight in
    record {
      going = going;
      same_frame = refl;
      taken = ap (λ (x : Record). is_in_flight w x.thread) is ∙ in_flight;
      fit = ap (fits w.machine) is ∙ record-fits w.machine t held.ready;
    }

taken-commits :
    (w : RoundState) (t : ℕ) (r : Record)
    → IsInOrder w → can_take w t ≡ true → r ≡ record_of w.machine t
    → CanCommit (taken w t) w.machine.frame r
taken-commits w t r kept can is =
    let ready = take-ready w t can in
    record {
      going = take-going w t can;
      same_frame = refl;
      taken =
          ap (λ (x : Record). is_in_flight (taken w t) x.thread) is
          ∙ get_or-set_same w.in_flight t true false
          (let few = below-32 w.machine t kept.whole ready in let flags = kept.flags in omega arith);
      fit = ap (fits w.machine) is ∙ record-fits w.machine t ready;
    }

-- what was taken and executed can be committed
pub own-commits :
    (w v : RoundState) (t : ℕ) (r : Record)
    → IsInOrder w → can_take w t ≡ true → v ≡ happens w (Take t) → r ≡ record_of w.machine t
    → CanCommit v w.machine.frame r
own-commits w v t r kept can is own =
    subst (λ (x : RoundState). CanCommit x w.machine.frame r) (sym (is ∙ happens-take w t can))
    (taken-commits w t r kept can own)

-- what was executed and committed is counted
pub commit-counts :
    (w v : RoundState) (t : ℕ) (r : Record)
    → length w.records ≡ length w.schedule → CanCommit w w.machine.frame r
    → v ≡ happens w (Commit r.thread) → r ≡ record_of w.machine t
    → executed_by v ≡ executed_by w + r.kept.count
commit-counts w v t r same commits is own =
    let made : v ≡ committed w t =
    is
    ∙ ap (λ (x : Record). happens w (Commit x.thread)) own
    ∙ happens-commit w t (ap (λ (x : Record). is_in_flight w x.thread) (sym own) ∙ commits.taken) commits.going in
    ap executed_by made
    ∙ executed-more w.schedule w.records (record { thread = t; reused = false }) (record_of w.machine t) same
    ∙ ap (λ (x : Record). executed_by w + x.kept.count) (sym own)

-- also if it was taken just before
pub own-counts :
    (w v u : RoundState) (t : ℕ) (r : Record)
    → IsInOrder w → IsCounted w → can_take w t ≡ true
    → v ≡ happens w (Take t) → u ≡ happens v (Commit r.thread) → r ≡ record_of w.machine t
    → executed_by u ≡ executed_by w + r.kept.count
own-counts w v u t r kept counted can is_taken is_made own =
    commit-counts (taken w t) u t r (record_count w counted) (taken-commits w t r kept can own)
    (is_made ∙ ap (λ (x : RoundState). happens x (Commit r.thread)) (is_taken ∙ happens-take w t can)) own

-- whether an event executes nothing
abbrev pub ExecutesNothing : Event → Type 0
ExecutesNothing (Take t) = Unit {0}
ExecutesNothing (Reuse t) = Unit {0}
ExecutesNothing (Commit t) = ⊥
ExecutesNothing (GiveBack t) = Unit {0}
ExecutesNothing Stop = Unit {0}

either-executed :
    (c : Bool) (w a b : RoundState) → executed_by a ≡ executed_by w → executed_by b ≡ executed_by w
    → executed_by (cond c a b) ≡ executed_by w
either-executed true w a b first second = first
either-executed false w a b first second = second

reused-executed :
    (w : RoundState) (t : ℕ) (o : Option Record) → length w.records ≡ length w.schedule → executed_by (reused_by w t o)
    ≡ executed_by w
reused-executed w t None same = refl
reused-executed w t (Some r) same =
    let more = executed-more w.schedule w.records (record { thread = t; reused = true }) r same in more ∙ omega arith

aside-executed :
    (w : RoundState) (e : Event) → length w.records ≡ length w.schedule → ExecutesNothing e → executed_by (happens w e)
    ≡ executed_by w
unfolding happens
aside-executed w (Take t) same nothing = either-executed (can_take w t) w (taken w t) w refl refl
aside-executed w (Reuse t) same nothing =
    either-executed (can_reuse w t) w (reused_by w t (record_for w.past w.machine t)) w
    (reused-executed w t (record_for w.past w.machine t) same) refl
aside-executed w (Commit t) same nothing = absurd nothing
aside-executed w (GiveBack t) same nothing = either-executed (is_in_flight w t) w (given_back w t) w refl refl
aside-executed w Stop same nothing = refl

-- so the counter stays as it is
pub costs-nothing :
    (n : ℕ) (w v : RoundState) (e : Event) → IsCounted w → ExecutesNothing e → v ≡ happens w e → Costs n w n v
costs-nothing n w v e counted nothing is =
    ap (λ k. n + k) (sym (ap executed_by is ∙ aside-executed w e (record_count w counted) nothing))

pub ok-costs :
    (r : Result (Unit {0}) AllocError) (n : ℕ) (w v : RoundState) (e : Event)
    → IsCounted w → ExecutesNothing e → OnOk r (v ≡ happens w e) → OnOk r (Costs n w n v)
ok-costs (Ok done) n w v e counted nothing is = costs-nothing n w v e counted nothing is
ok-costs (Err error) n w v e counted nothing is = tt

-- one pick

picks-more : (n k : ℕ) (w : RoundState) → n ≡ suc k → after_picks k (after_pick w (pick_of w)) ≡ after_picks n w
picks-more n k w is = rw is refl

-- if two parts of a round spare comparisons, so do both together
spares-both :
    (a b c : ℕ) (u w v : RoundState) → Spares a u b w → Spares b w c v → Spares a u c v
spares-both a b c u w v first next = λ h coherent replays.
    let one = first h coherent replays in
    let two = next h coherent one.0 in
    (two.0, two.1 ∙ one.1)

pub partway-pick :
    (n k : ℕ) (after begun w v : RoundState) (start before now compared_start compared_before compared : ℕ)
    → IsPartWay n after begun w start before compared_start compared_before → n ≡ suc k
    → v ≡ after_pick w (pick_of w)
    → Costs before w now v → before ≤ now
    → Spares compared_before w compared v → compared_before ≤ compared
    → IsPartWay k after begun v start now compared_start compared
partway-pick n k after begun w v start before now compared_start compared_before compared way more is cost rises spares compares =
    record {
      rest = ap (after_picks k) is ∙ picks-more n k w more ∙ way.rest;
      cost = let so_far = way.cost in omega arith;
      rises = let so_far = way.rises in omega arith;
      spares = spares-both compared_start compared_before compared begun w v way.spares spares;
      compares = let so_far = way.compares in omega arith;
    }

-- if nothing is picked, nothing is done any more
picks-stay : (n : ℕ) (w : RoundState) → after_pick w (pick_of w) ≡ w → after_picks n w ≡ w
picks-stay zero w stays = refl
picks-stay (suc n) w stays = ap (after_picks n) stays ∙ picks-stay n w stays

pub partway-over :
    (n : ℕ) (after begun w v : RoundState) (start before now compared_start compared_before compared : ℕ)
    → IsPartWay n after begun w start before compared_start compared_before
    → v ≡ after_pick w (pick_of w) → v ≡ w
    → Costs before w now v → before ≤ now
    → Spares compared_before w compared v → compared_before ≤ compared
    → IsPartWay 0 after begun v start now compared_start compared
partway-over n after begun w v start before now compared_start compared_before compared way is same cost rises spares compares =
    record {
      rest = same ∙ sym (picks-stay n w (sym is ∙ same)) ∙ way.rest;
      cost = let so_far = way.cost in omega arith;
      rises = let so_far = way.rises in omega arith;
      spares = spares-both compared_start compared_before compared begun w v way.spares spares;
      compares = let so_far = way.compares in omega arith;
    }

-- ---- pages that are compared

valid-past : (h : History) (w : RoundState) → IsSetup w.setup → IsReplaying h w → IsSetup h.setup
valid-past h w valid replays = subst IsSetup replays.reused.setup valid

pub reuse-spares :
    (w v : RoundState) (t before now : ℕ) → IsSetup w.setup → pick_of w ≡ pick.Reuse t → v ≡ happens w (Reuse t)
    → ((h : History) → is_coherent h ≡ true → IsReplaying h w → now ≡ before)
    → Spares before w now v
reuse-spares w v t before now valid picked is spares = λ h coherent replays. (
  subst (IsReplaying h) (sym is)
      (replays-on h w (Reuse t) (valid-past h w valid replays) coherent replays
      (ap (λ (p : Pick). goes_on_by p (Reuse t)) picked ∙ eq-eqb t t refl)),
  spares h coherent replays,
)

-- a round that replays a history executes nothing
pub never-runs :
    (h : History) (w : RoundState) (t : ℕ) → IsSetup w.setup → is_coherent h ≡ true → IsReplaying h w
    → pick_of w ≡ pick.Run t → ⊥
never-runs h w t valid coherent replays picked = by (is_finished w) refl
  where
    by : (over : Bool) → is_finished w ≡ over → ⊥
    by true is = let both : pick.Over ≡ pick.Run t = sym (pick-over w is) ∙ picked in cc
    by false is =
        let next = replays-next h w (valid-past h w valid replays) coherent replays is in
        let both : pick.Reuse next.0 ≡ pick.Run t = sym next.1.picked ∙ picked in cc

pub run-spares :
    (w v : RoundState) (t before now : ℕ) → IsSetup w.setup → pick_of w ≡ pick.Run t → Spares before w now v
run-spares w v t before now valid picked = λ h coherent replays.
    absurd (never-runs h w t valid coherent replays picked)

-- the round of one worker

pub alone-threads :
    (setup : Setup) (past : Option History) (w : RoundState)
    → IsSetup setup → w ≡ lone_round setup past → IsSound past setup → threads_of w.schedule ≡ one_worker setup past
alone-threads setup past w valid is sound =
    ap (λ (x : RoundState). threads_of x.schedule) is ∙ lone-threads setup past valid sound

pub alone-permitted :
    (setup : Setup) (past : Option History) (w : RoundState)
    → IsSetup setup → w ≡ lone_round setup past → IsSound past setup → is_permitted setup (threads_of w.schedule) ≡ true
alone-permitted setup past w valid is sound =
    ap (is_permitted setup) (alone-threads setup past w valid is sound) ∙ one_worker-permitted setup past valid

pub alone-complete :
    (setup : Setup) (past : Option History) (w : RoundState)
    → IsSetup setup → w ≡ lone_round setup past → IsSound past setup → is_complete setup (threads_of w.schedule) ≡ true
alone-complete setup past w valid is sound =
    ap (is_complete setup) (alone-threads setup past w valid is sound) ∙ one_worker-complete setup past valid

pub alone-scratch :
    (setup : Setup) (past : Option History) (w : RoundState)
    → IsSetup setup → w ≡ lone_round setup past → IsSound past setup → IsFromScratch w
alone-scratch setup past w valid is sound = subst IsFromScratch (sym is) (lone-scratch setup past valid sound)

-- each entry was picked when the schedule was as long as its place
pub alone-picked :
    (setup : Setup) (past : Option History) (w : RoundState)
    → IsSetup setup → w ≡ lone_round setup past → IsSound past setup → ArePicked setup past w.schedule w.picked
alone-picked setup past w valid is sound =
    subst (λ (x : RoundState). ArePicked setup past x.schedule x.picked) (sym is)
    (lone-all_picked setup past valid sound)

pub alone-ends :
    (setup : Setup) (past : Option History) (w : RoundState)
    → IsSetup setup → w ≡ lone_round setup past → is_some w.machine.ending ≡ true
alone-ends setup past w valid is = ap (λ (x : RoundState). is_some x.machine.ending) is ∙ lone-ends setup past valid

pub alone-discarded :
    (setup : Setup) (past : Option History) (w : RoundState)
    → IsSetup setup → w ≡ lone_round setup past → w.discarded ≡ 0
alone-discarded setup past w valid is =
    ap (λ (x : RoundState). x.discarded) is ∙ lone-discarded setup past setup.limit valid

pub alone-least :
    (setup : Setup) (past : Option History) (w : RoundState)
    → IsSetup setup → w ≡ lone_round setup past → ReexecutesLeast w
alone-least setup past w valid is = subst ReexecutesLeast (sym is) (reexecutes-alone setup past valid)

-- without an edit

pub alone-reuses :
    (setup : Setup) (past : Option History) (w : RoundState) (h : History)
    → w ≡ lone_round setup past → past ≡ Some h → IsUnedited h setup → OnlyReuses h w
alone-reuses setup past w h is there unedited =
    subst (OnlyReuses h)
    (sym (is ∙ ap (lone_round setup) there ∙ ap (λ (s : Setup). lone_round s (Some h)) (sym unedited.same)))
    (unedited-reuses h unedited.honest)

-- a run of the step that was taken can be committed if the round isn't finished and the thread is in flight
pub taken_step_commits :
    (w : RoundState) (r : Record) (frame : Frame)
    → IsInOrder w → frame ≡ w.machine.frame → IsOfStep w r → is_finished w ≡ false → is_in_flight w r.thread ≡ true
    → CanCommit w frame r
taken_step_commits w r frame kept same own going in_flight =
    let is = in_flight-commits w r.thread r kept in_flight going (own in_flight) in
    record { going = is.going; same_frame = same; taken = is.taken; fit = is.fit }

-- the round of one worker is of its setup, and is based on its history

pub alone-setup :
    (setup : Setup) (past : Option History) (w : RoundState) → w ≡ lone_round setup past → w.setup ≡ setup
alone-setup setup past w is =
    let events = picks-events setup past setup.limit in
    ap (λ (x : RoundState). x.setup) (is ∙ events.1) ∙ round-setup setup past events.0

pub alone-past :
    (setup : Setup) (past : Option History) (w : RoundState) → w ≡ lone_round setup past → w.past ≡ past
alone-past setup past w is =
    let events = picks-events setup past setup.limit in
    ap (λ (x : RoundState). x.past) (is ∙ events.1) ∙ round-past setup past events.0
