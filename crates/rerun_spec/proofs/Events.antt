-- Whatever happens to a round, its machine is one of words and bytes, and its records can be encoded.
use Rattle.std.proofs.Common.{◌≡◌, ◌≤◌, ℕ, Bool, true, false, cond, List, [], ◌∷◌, ◌++◌, length, Option, Some, None, is_some, refl, ap, sym, ◌∙◌, subst, arith}
use Rattle.std.proofs.lemmas.List.{length-append, length-map}
use Rattle.std.specs.List.{AllByRecursion}
use Rattle.memory_spec.specs.Pages.{Mapped}
use Rattle.thunk_spec.specs.Thunk.{Frame}
use Rattle.thunk_spec.specs.Record.{Record}
use Rattle.thunk_spec.proofs.Fuel.{within-most}
use Rattle.machine_spec.specs.Machine.{hart_of, is_ready}
use Rattle.machine_spec.specs.Schedule.{record_of}
use Rattle.machine_spec.specs.Setup.{Setup, IsSetup, map_of, first}
use Rattle.machine_spec.proofs.Alone.{step-limit}
use Rattle.history_spec.specs.History.{History, IsSameProgram, past_records, threads_of_records}
use Rattle.history_spec.proofs.Scratch.{and-right, step-frame}
use Rattle.history_spec.proofs.Applying.{apply-frame, apply-limit}
use Rattle.history_spec.proofs.Truth.{fits-within, found-all}
use Rattle.report_spec.specs.declared.Entry.{Entry}
use Rattle.report_spec.specs.Report.{threads_of}
use Rattle.round_spec.specs.declared.events.Event.{Event}
use Rattle.round_spec.specs.declared.events.Event.TheVariants.{Take, Reuse, Commit, GiveBack, Stop}
use Rattle.round_spec.specs.Keeping.{IsInOrder, IsCounted}
use Rattle.round_spec.specs.Marks.{record_for, is_fitting, fits_next}
use Rattle.round_spec.specs.Rounds.{RoundState, opening, is_finished, is_in_flight, can_begin, can_take, can_reuse, taken, reused_by, committed, given_back, with_stop, happens, all_happen, round_after, history_of}
use Rattle.round_spec.specs.Alone.{lone_round}
use Rattle.round_spec.proofs.Happening.{happens-kept, opening-kept, round-kept}
use Rattle.round_spec.proofs.Counting.{round-counted}
use Rattle.round_spec.proofs.Leaving.{round-setup}
use Rattle.round_spec.proofs.PicksAsEvents.{picks-events}
use Rattle.round_spec.proofs.Ending.{lone-ends}
use Rattle.memo_spec.specs.Encoding.{AreBytes, IsRecord, IsEncodable}
use Rattle.rerun_spec.specs.Encoded.{IsEncodedPast, IsEncodedStart}
use Rattle.rerun_spec.proofs.Lists.{every-append}
use Rattle.rerun_spec.proofs.Machine.{IsOfWords, step-words, apply-words, record-encoded}
use Rattle.rerun_spec.proofs.Beginning.{first-words}

-- records that can be encoded
abbrev AreRecords : Frame → List Record → Type 0
AreRecords f rs = AllByRecursion (IsRecord f.map f.fuel) rs

-- a record that can be encoded if the fuel is its count or more
abbrev IsRecordOfSome : List Mapped → Record → Type 0
IsRecordOfSome map r = IsRecord map r.kept.count r

under :
    (map : List Mapped) (fuel other : ℕ) (r : Record)
    → IsRecord map fuel r → r.kept.count ≤ other → IsRecord map other r
under map fuel other r is most =
    record {
      thread = is.thread;
      end = is.end;
      some_turns = is.some_turns;
      most_turns = most;
      start = is.start;
      finish = is.finish;
      reads_ascend = is.reads_ascend;
      reads = is.reads;
      delta_ascends = is.delta_ascends;
      delta = is.delta;
    }

under-some :
    (map : List Mapped) (fuel : ℕ) (rs : List Record)
    → AllByRecursion (IsRecord map fuel) rs → AllByRecursion (IsRecordOfSome map) rs
under-some map fuel [] all = tt
under-some map fuel (r ∷ rs) all = (under map fuel r.kept.count r all.0 (omega arith), under-some map fuel rs all.1)

-- what holds of a round in this frame and with this limit: its machine has words and bytes; the records that it is
-- based on can be encoded under some fuel, and its own under the frame's; and if there is an end, it has a record
record IsEncoded (f : Frame) (limit : ℕ) (w : RoundState) : Type 0 where
  pub frame : w.machine.frame ≡ f
  pub same_limit : w.machine.limit ≡ limit
  pub machine : IsOfWords w.machine
  pub earlier : AllByRecursion (IsRecordOfSome f.map) (past_records w.past)
  pub records : AreRecords f w.records
  pub some_records : is_some w.machine.ending ≡ true → 1 ≤ length w.records

either-encoded :
    (f : Frame) (limit : ℕ) (b : Bool) (v w : RoundState)
    → IsEncoded f limit v → IsEncoded f limit w → IsEncoded f limit (cond b v w)
either-encoded f limit true v w left right = left
either-encoded f limit false v w left right = right

-- only the threads in flight, the count of discarded steps and the stop differ
taken-encoded : (f : Frame) (limit : ℕ) (w : RoundState) (t : ℕ) → IsEncoded f limit w → IsEncoded f limit (taken w t)
taken-encoded f limit w t s =
    record {
      frame = s.frame;
      same_limit = s.same_limit;
      machine = s.machine;
      earlier = s.earlier;
      records = s.records;
      some_records = s.some_records;
    }

given_back-encoded :
    (f : Frame) (limit : ℕ) (w : RoundState) (t : ℕ) → IsEncoded f limit w → IsEncoded f limit (given_back w t)
given_back-encoded f limit w t s =
    record {
      frame = s.frame;
      same_limit = s.same_limit;
      machine = s.machine;
      earlier = s.earlier;
      records = s.records;
      some_records = s.some_records;
    }

stop-encoded : (f : Frame) (limit : ℕ) (w : RoundState) → IsEncoded f limit w → IsEncoded f limit (with_stop w)
stop-encoded f limit w s =
    record {
      frame = s.frame;
      same_limit = s.same_limit;
      machine = s.machine;
      earlier = s.earlier;
      records = s.records;
      some_records = s.some_records;
    }

-- one more record
more-some : (rs : List Record) (r : Record) → 1 ≤ length (rs ++ r ∷ [])
more-some rs r = simp length-append (omega arith)

reused-encoded :
    (f : Frame) (limit : ℕ) (w : RoundState) (t : ℕ) (o : Option Record)
    → IsInOrder w → IsEncoded f limit w → record_for w.past w.machine t ≡ o → is_fitting w.machine o ≡ true
    → IsEncoded f limit (reused_by w t o)
reused-encoded f limit w t None kept s there fit = s
reused-encoded f limit w t (Some r) kept s there fit =
    let some : IsRecordOfSome f.map r =
    found-all (IsRecordOfSome f.map) t (hart_of w.machine t).number (past_records w.past) r s.earlier there in
    let few : r.kept.count ≤ f.fuel =
    subst (λ (g : Frame). r.kept.count ≤ g.fuel) s.frame
    (within-most w.machine.frame.fuel r.kept.end r.kept.count (fits-within w.machine r fit)) in
    let is : IsRecord f.map f.fuel r = under f.map r.kept.count f.fuel r some few in
    record {
      frame = apply-frame w.machine r ∙ s.frame;
      same_limit = apply-limit w.machine r ∙ s.same_limit;
      machine =
          apply-words w.machine r kept.whole s.machine
          (subst (λ (g : Frame). IsRecord g.map g.fuel r) (sym s.frame) is);
      earlier = s.earlier;
      records = every-append (IsRecord f.map f.fuel) w.records (r ∷ []) s.records (is, tt);
      some_records = λ ended. more-some w.records r;
    }

reuse-encoded :
    (f : Frame) (limit : ℕ) (w : RoundState) (t : ℕ) (b : Bool)
    → IsInOrder w → IsEncoded f limit w → can_reuse w t ≡ b
    → IsEncoded f limit (cond b (reused_by w t (record_for w.past w.machine t)) w)
reuse-encoded f limit w t false kept s is = s
reuse-encoded f limit w t true kept s is =
    reused-encoded f limit w t (record_for w.past w.machine t) kept s refl
    (and-right (can_begin w t) (fits_next w.past w.machine t) is)

committed-encoded :
    (f : Frame) (limit : ℕ) (w : RoundState) (t : ℕ)
    → IsInOrder w → IsEncoded f limit w → is_ready (hart_of w.machine t).status ≡ true
    → IsEncoded f limit (committed w t)
committed-encoded f limit w t kept s ready =
    record {
      frame = step-frame w.machine t ∙ s.frame;
      same_limit = step-limit w.machine t ∙ s.same_limit;
      machine = step-words w.machine t kept.whole s.machine ready;
      earlier = s.earlier;
      records =
          every-append (IsRecord f.map f.fuel) w.records (record_of w.machine t ∷ []) s.records (
            subst (λ (g : Frame). IsRecord g.map g.fuel (record_of w.machine t)) s.frame
                (record-encoded w.machine t kept.whole s.machine ready),
            tt,
          );
      some_records = λ ended. more-some w.records (record_of w.machine t);
    }

commit-encoded :
    (f : Frame) (limit : ℕ) (w : RoundState) (t : ℕ) (b : Bool)
    → IsInOrder w → IsEncoded f limit w → is_in_flight w t ≡ b
    → IsEncoded f limit (cond b (cond (is_finished w) (given_back w t) (committed w t)) w)
commit-encoded f limit w t true kept s in_flight =
    either-encoded f limit (is_finished w) (given_back w t) (committed w t) (given_back-encoded f limit w t s)
    (committed-encoded f limit w t kept s (kept.held t in_flight).ready)
commit-encoded f limit w t false kept s in_flight = s

happens-encoded :
    (f : Frame) (limit : ℕ) (w : RoundState) (e : Event)
    → IsInOrder w → IsEncoded f limit w → IsEncoded f limit (happens w e)
unfolding happens
happens-encoded f limit w (Take t) kept s =
    either-encoded f limit (can_take w t) (taken w t) w (taken-encoded f limit w t s) s
happens-encoded f limit w (Reuse t) kept s = reuse-encoded f limit w t (can_reuse w t) kept s refl
happens-encoded f limit w (Commit t) kept s = commit-encoded f limit w t (is_in_flight w t) kept s refl
happens-encoded f limit w (GiveBack t) kept s =
    either-encoded f limit (is_in_flight w t) (given_back w t) w (given_back-encoded f limit w t s) s
happens-encoded f limit w Stop kept s = stop-encoded f limit w s

all_happen-encoded :
    (f : Frame) (limit : ℕ) (w : RoundState) (es : List Event)
    → IsInOrder w → IsEncoded f limit w → IsEncoded f limit (all_happen w es)
all_happen-encoded f limit w [] kept s = s
all_happen-encoded f limit w (e ∷ es) kept s =
    all_happen-encoded f limit (happens w e) es (happens-kept w e kept) (happens-encoded f limit w e kept s)

-- the start

-- what thunks of a setup depend on
abbrev frame_of : Setup → Frame
frame_of s = record { map = map_of s; fuel = s.fuel }

same-map : (a b : Setup) → IsSameProgram a b → map_of a ≡ map_of b
unfolding map_of
same-map a b same = rw same refl

past-records :
    (past : Option History) (setup : Setup) → IsEncodedPast past setup
    → AllByRecursion (IsRecordOfSome (map_of setup)) (past_records past)
past-records None setup is = tt
past-records (Some h) setup is =
    subst (λ (map : List Mapped). AllByRecursion (IsRecordOfSome map) h.records) (same-map h.setup setup is.1)
    (under-some (map_of h.setup) h.setup.fuel h.records is.0.records)

opening-encoded :
    (past : Option History) (setup : Setup) → IsEncodedStart past setup
    → IsEncoded (frame_of setup) setup.limit (opening setup past)
unfolding first
opening-encoded past setup start =
    record {
      frame = refl;
      same_limit = refl;
      machine = first-words setup start.elf_bytes start.input_bytes;
      earlier = past-records past setup start.past;
      records = tt;
      some_records = λ ended. cc;
    }

-- the end

same-count :
    (rs : List Record) (es : List Entry) → threads_of_records rs ≡ threads_of es → length rs ≡ length es
same-count rs es same =
    sym (length-map rs (λ (r : Record). r.thread)) ∙ ap length same ∙ length-map es (λ (e : Entry). e.thread)

pub round-encoded :
    (setup : Setup) (past : Option History) (es : List Event)
    → IsEncodedStart past setup → is_some (round_after setup past es).machine.ending ≡ true
    → IsEncodable (history_of (round_after setup past es))
round-encoded setup past es start ended =
    let kept : IsInOrder (round_after setup past es) = round-kept setup past es start.valid in
    let counted : IsCounted (round_after setup past es) = round-counted setup past es start.valid in
    let s : IsEncoded (frame_of setup) setup.limit (round_after setup past es) =
    all_happen-encoded (frame_of setup) setup.limit (opening setup past) es (opening-kept setup past start.valid)
    (opening-encoded past setup start) in
    let same : setup ≡ (round_after setup past es).setup = sym (round-setup setup past es) in
    let few : length (round_after setup past es).records ≤ setup.limit =
    (let whole = kept.whole in
    let most = kept.whole.few_steps in
    let steps = counted.steps in
    let limit = s.same_limit in
    let count = same-count (round_after setup past es).records (round_after setup past es).schedule counted.threads in
    omega arith) in
    record {
      setup = subst IsSetup same start.valid;
      elf_bytes = subst (λ (x : Setup). AreBytes x.elf) same start.elf_bytes;
      input_bytes = subst (λ (x : Setup). AreBytes x.input) same start.input_bytes;
      some_records = s.some_records ended;
      most_records = subst (λ (x : Setup). length (round_after setup past es).records ≤ x.limit) same few;
      numbered = counted.numbered;
      records =
          subst (λ (x : Setup). AreRecords (frame_of x) (round_after setup past es).records) same s.records;
    }

-- and the next round of the same program may be based on it
pub round-next :
    (setup edited : Setup) (past : Option History) (es : List Event)
    → IsEncodedStart past setup → is_some (round_after setup past es).machine.ending ≡ true
    → IsSameProgram setup edited → IsEncodedPast (Some (history_of (round_after setup past es))) edited
round-next setup edited past es start ended same = (
  round-encoded setup past es start ended,
  subst (λ (x : Setup). IsSameProgram x edited) (sym (round-setup setup past es)) same,
)

-- one worker's round has an end

lone-ended :
    (setup : Setup) (past : Option History) → IsSetup setup
    → is_some (round_after setup past (picks-events setup past setup.limit).0).machine.ending ≡ true
lone-ended setup past valid =
    subst (λ (w : RoundState). is_some w.machine.ending ≡ true) (picks-events setup past setup.limit).1
    (lone-ends setup past valid)

pub lone-encoded :
    (setup : Setup) (past : Option History)
    → IsEncodedStart past setup → IsEncodable (history_of (lone_round setup past))
lone-encoded setup past start =
    let events = picks-events setup past setup.limit in
    subst (λ (w : RoundState). IsEncodable (history_of w)) (sym events.1)
    (round-encoded setup past events.0 start (lone-ended setup past start.valid))

pub lone-next :
    (setup edited : Setup) (past : Option History)
    → IsEncodedStart past setup → IsSameProgram setup edited
    → IsEncodedPast (Some (history_of (lone_round setup past))) edited
lone-next setup edited past start same =
    let events = picks-events setup past setup.limit in
    subst (λ (w : RoundState). IsEncodedPast (Some (history_of w)) edited) (sym events.1)
    (round-next setup edited past events.0 start (lone-ended setup past start.valid) same)
