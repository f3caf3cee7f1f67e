-- What is known before an entry, and of its reason.
use Rattle.std.proofs.Common.{◌≡◌, ◌+◌, ◌*◌, ◌<◌, ◌≤◌, ◌==◌, ◌&&◌, ◌||◌, ℕ, zero, suc, Bool, true, false, not, if◌then◌else◌, add-one, List, length, get_or, slice_get, slice_index, Option, Some, None, option_map, is_none, ap, sym, ◌∙◌, arith}
use Rattle.std.proofs.lemmas.Bool.{and_parts}
use Rattle.std.proofs.lemmas.List.{length-map}
use Rattle.std.proofs.lemmas.Option.{slice_get-get_or, slice_get-map, get_or_from_slice_get}
use Rattle.memory_spec.specs.Pages.{Mapped}
use Rattle.memory_spec.specs.declared.TheConstants.{PAGE_SIZE}
use Rattle.thunk_spec.specs.Thunk.{Frame}
use Rattle.thunk_spec.specs.Record.{Record}
use Rattle.machine_spec.specs.Machine.{Machine, hart_of, is_ready}
use Rattle.machine_spec.specs.Step.{apply, can_step}
use Rattle.machine_spec.specs.Setup.{Setup, IsSetup, first, map_of}
use Rattle.machine_spec.specs.Whole.{IsWhole}
use Rattle.machine_spec.proofs.Harts.{ready-below}
use Rattle.machine_spec.proofs.Steps.{hart-at}
use Rattle.report_spec.specs.declared.Entry.{Entry}
use Rattle.report_spec.specs.Report.{threads_of}
use Rattle.round_spec.specs.Marks.{record_for, fits_next}
use Rattle.round_spec.specs.Rounds.{RoundState}
use Rattle.round_spec.specs.Schedules.{IsBySchedule}
use Rattle.round_spec.proofs.Picks.{below-32}
use Rattle.memo_reports.specs.Listing.{addresses_of}
use Rattle.round_report.specs.declared.why.reason.Cause.{Cause}
use Rattle.round_report.specs.declared.why.reason.Reason.{Reason}
use Rattle.round_report.specs.Differences.{cause_of}
use Rattle.round_report.specs.Storing.{view_since, last_store, gives_view}
use Rattle.round_report.specs.Reasons.{made_before, cause_at, reason_of_step, reason_of}
use Rattle.ith_commands.specs.Walking.{IsBefore}
use Rattle.ith_commands.proofs.Entries.{IsRecordOf, entry-can, entry-unfit, made-frame}

-- a view was given by an earlier entry
view_since-le : (before : ℕ → Machine) (threads : List ℕ) (i t : ℕ) → view_since before threads i t ≤ i
view_since-le before threads zero t = omega arith
view_since-le before threads (suc i) t =
    by (gives_view (before i) (before (suc i)) (slice_index threads i) t) (view_since-le before threads i t)
  where
    by :
        (b : Bool) → view_since before threads i t ≤ i
        → (if b then suc i else view_since before threads i t) ≤ suc i
    by true less = omega arith
    by false less = omega arith

-- there is an address for each page
pub length-addresses : (s : Setup) → length (addresses_of s) ≡ length (map_of s)
length-addresses s = length-map (map_of s) (λ (page : Mapped). page.number * PAGE_SIZE)

-- what is known of an entry on a known machine
pub record IsKnown (w : RoundState) (m : Machine) (since : List ℕ) (i : ℕ) (addresses : List ℕ) (e : Entry) : Type 0 where
  pub there : slice_get w.schedule i ≡ Some e
  pub can : can_step m e.thread ≡ true
  pub ready : is_ready (hart_of m e.thread).status ≡ true
  pub few : e.thread < 32
  pub below : e.thread < length m.harts
  pub fuel : m.frame.fuel ≡ w.setup.fuel
  pub count : length addresses ≡ length (map_of w.setup)
  pub view : length (hart_of m e.thread).view ≡ length addresses
  pub inside : slice_index since e.thread ≤ length w.schedule

pub known :
    (w : RoundState) (m : Machine) (since : List ℕ) (i : ℕ) (addresses : List ℕ) (es : List Entry) (d : Entry)
    → IsSetup w.setup → IsBySchedule w → IsWhole m → i < length w.schedule → IsBefore w m since i
    → addresses ≡ addresses_of w.setup → es ≡ w.schedule
    → IsKnown w m since i addresses (get_or es i d)
known w m since i addresses es d valid by whole inside before are is =
    record {
      there = there;
      can = can;
      ready = ready;
      few = few;
      below = ready-below m.harts e.thread ready;
      fuel = ap (λ (f : Frame). f.fuel) frame;
      count = count;
      view =
          (hart-at m.frame.map m.steps m.harts e.thread (ready-below m.harts e.thread ready) whole.harts).view.count
          ∙ ap (λ (f : Frame). length f.map) frame
          ∙ sym count;
      inside =
          let less = view_since-le (made_before w) (threads_of w.schedule) i e.thread in
          let same = before.views e.thread few in
          omega arith;
    }
  where
    e : Entry
    e = get_or es i d

    there : slice_get w.schedule i ≡ Some e
    there =
        slice_get-get_or w.schedule i d inside ∙ ap (λ (l : List Entry). Some (get_or l i d)) (sym is)

    can : can_step m e.thread ≡ true
    can = ap (λ (x : Machine). can_step x e.thread) before.machine ∙ entry-can w i e valid by there

    ready : is_ready (hart_of m e.thread).status ≡ true
    ready = (and_parts (is_none m.ending) (is_ready (hart_of m e.thread).status) can).1

    few : e.thread < 32
    few = below-32 m e.thread whole ready

    frame : m.frame ≡ record { map = map_of w.setup; fuel = w.setup.fuel }
    frame = ap (λ (x : Machine). x.frame) before.machine ∙ made-frame w i

    count : length addresses ≡ length (map_of w.setup)
    count = ap (λ (l : List ℕ). length l) are ∙ length-map (map_of w.setup) (λ (page : Mapped). page.number * PAGE_SIZE)

-- a reused entry has no reason
pub no-reason :
    (w : RoundState) (i : ℕ) (e : Entry) → slice_get w.schedule i ≡ Some e → e.reused ≡ true
    → reason_of (made_before w) w i (slice_get w.schedule i) ≡ None
no-reason w i e there reused =
    ap (reason_of (made_before w) w i) there
    ∙ ap (λ (b : Bool). if b then None else option_map (reason_of_step (made_before w) i e.thread) (cause_at (made_before w) w i e.thread)) reused

-- an executed one has that of its cause
pub reason-is :
    (w : RoundState) (m : Machine) (since : List ℕ) (i : ℕ) (addresses : List ℕ) (e : Entry) (cause : Option Cause)
    → IsKnown w m since i addresses e → IsBefore w m since i → addresses ≡ addresses_of w.setup → e.reused ≡ false
    → cause
    ≡ cause_of addresses (last_store w.records (slice_index since e.thread)) (hart_of m e.thread)
    (record_for w.past m e.thread)
    → reason_of (made_before w) w i (slice_get w.schedule i)
    ≡ option_map (reason_of_step (made_before w) i e.thread) cause
reason-is w m since i addresses e cause is before are executed by =
    ap (reason_of (made_before w) w i) is.there
    ∙ ap (λ (b : Bool). if b then None else option_map (reason_of_step (made_before w) i e.thread) (cause_at (made_before w) w i e.thread)) executed
    ∙ ap (option_map (reason_of_step (made_before w) i e.thread))
    (sym (by
    ∙ ap (λ (l : List ℕ). cause_of l (last_store w.records (slice_index since e.thread)) (hart_of m e.thread) (record_for w.past m e.thread)) are
    ∙ ap (λ (n : ℕ). cause_of (addresses_of w.setup) (last_store w.records n) (hart_of m e.thread) (record_for w.past m e.thread)) (before.views e.thread is.few)
    ∙ ap (λ (x : Machine). cause_of (addresses_of w.setup) (last_store w.records (view_since (made_before w) (threads_of w.schedule) i e.thread)) (hart_of x e.thread) (record_for w.past x e.thread)) before.machine))

-- the reason, with its parts
pub reported-of :
    (w : RoundState) (m : Machine) (since : List ℕ) (i : ℕ) (addresses : List ℕ) (e : Entry) (number : ℕ) (cause : Cause)
    → IsKnown w m since i addresses e → IsBefore w m since i → number ≡ (hart_of m e.thread).number
    → Some (let r : Reason = record { step = i; thread = e.thread; number = number; cause = cause } in r)
    ≡ option_map (reason_of_step (made_before w) i e.thread) (Some cause)
reported-of w m since i addresses e number cause is before n =
    ap (λ (k : ℕ). Some (let r : Reason = record { step = i; thread = e.thread; number = k; cause = cause } in r))
    (n ∙ ap (λ (x : Machine). (hart_of x e.thread).number) before.machine)

-- no record fits an executed entry
pub unfit-known :
    (w : RoundState) (m : Machine) (since : List ℕ) (i : ℕ) (addresses : List ℕ) (e : Entry)
    → IsKnown w m since i addresses e → IsBefore w m since i → IsSetup w.setup → IsBySchedule w → e.reused ≡ false
    → fits_next w.past m e.thread ≡ false
unfit-known w m since i addresses e is before valid by executed =
    ap (λ (x : Machine). fits_next w.past x e.thread) before.machine ∙ entry-unfit w i e valid by is.there executed

-- ## the next entry

-- the entries before the next one are those before this one, and it
pub next-before :
    (w : RoundState) (m n : Machine) (since later : List ℕ) (i : ℕ) (e : Entry) (r : Record)
    → IsBefore w m since i → slice_get w.schedule i ≡ Some e → IsRecordOf w i e r → n ≡ apply m r
    → ((t : ℕ) → t < 32 → slice_index later t
    ≡ (if is_ready (hart_of n t).status && ((e.thread == t) || not (is_ready (hart_of m t).status)) then suc i
    else slice_index since t))
    → IsBefore w n later (i + 1)
next-before w m n since later i e r before there is applied views =
    record {
      machine = machine ∙ ap (made_before w) (sym (add-one i));
      views = λ t few. viewed t few ∙ ap (λ (k : ℕ). view_since (made_before w) (threads_of w.schedule) k t) (sym (add-one i));
    }
  where
    machine : n ≡ made_before w (suc i)
    machine = applied ∙ ap (λ (x : Machine). apply x r) before.machine ∙ is.applied

    thread : slice_index (threads_of w.schedule) i ≡ e.thread
    thread =
        get_or_from_slice_get (threads_of w.schedule) i e.thread 0
        (slice_get-map (λ (x : Entry). x.thread) w.schedule i ∙ ap (option_map (λ (x : Entry). x.thread)) there)

    viewed : (t : ℕ) → t < 32 → slice_index later t ≡ view_since (made_before w) (threads_of w.schedule) (suc i) t
    viewed t few =
        views t few
        ∙ ap (λ (x : Machine). if is_ready (hart_of x t).status && ((e.thread == t) || not (is_ready (hart_of m t).status)) then suc i else slice_index since t) machine
        ∙ ap (λ (x : Machine). if is_ready (hart_of (made_before w (suc i)) t).status && ((e.thread == t) || not (is_ready (hart_of x t).status)) then suc i else slice_index since t) before.machine
        ∙ ap (λ (n : ℕ). if gives_view (made_before w i) (made_before w (suc i)) e.thread t then suc i else n) (before.views t few)
        ∙ ap (λ (u : ℕ). if gives_view (made_before w i) (made_before w (suc i)) u t then suc i else view_since (made_before w) (threads_of w.schedule) i t) (sym thread)

-- before the first entry
pub first-before :
    (w : RoundState) (m : Machine) (since : List ℕ) → m ≡ first w.setup → ((t : ℕ) → t < 32 → slice_index since t ≡ 0)
    → IsBefore w m since 0
first-before w m since is none = record { machine = is; views = none }

-- there is an entry
abbrev pub entry-there :
    (w : RoundState) (i : ℕ) → i < length w.schedule → (e : Entry) × (slice_get w.schedule i ≡ Some e)
entry-there w i inside = (
  get_or w.schedule i (record { thread = 0; reused = false }),
  slice_get-get_or w.schedule i (record { thread = 0; reused = false }) inside,
)

-- its record's thread may make the next step
pub record-can :
    (w : RoundState) (m : Machine) (since : List ℕ) (i : ℕ) (e : Entry) (r : Record) → IsSetup w.setup → IsBySchedule w
    → IsBefore w m since i → slice_get w.schedule i ≡ Some e → IsRecordOf w i e r
    → can_step m r.thread ≡ true
record-can w m since i e r valid by before there is =
    ap (can_step m) is.thread
    ∙ ap (λ (x : Machine). can_step x e.thread) before.machine
    ∙ entry-can w i e valid by there
