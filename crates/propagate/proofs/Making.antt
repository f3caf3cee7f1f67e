-- A round after an entry was appended.
use Rattle.std.proofs.Common.{◌≡◌, ◌<◌, ◌≤◌, ◌+◌, ℕ, Bool, true, false, not, cond, ◌||◌, Result, Ok, Err, is_ok, IsErr, OnOk, OnErr, List, [], ◌∷◌, ◌++◌, length, set, Option, Box, Vec, Some, is_some, refl, ap, ap₂, sym, ◌∙◌, subst, arith}
use Rattle.std.proofs.lemmas.Bool.{and_parts}
use Rattle.std.proofs.lemmas.List.{length-append, get_or-set_same, set-set}
use Rattle.std.specs.Global.{Global}
use Rattle.report_spec.specs.declared.Entry.{Entry}
use Rattle.thunk_spec.specs.Thunk.{Frame}
use Rattle.thunk_spec.specs.Record.{Record, IsTrue}
use Rattle.machine_spec.specs.Machine.{Machine}
use Rattle.machine_spec.specs.Step.{apply, fits}
use Rattle.history_spec.specs.Facts.{Fact}
use Rattle.round_spec.specs.declared.events.Event.TheVariants.{Take, Reuse, Commit, GiveBack}
use Rattle.round_spec.specs.Keeping.{IsInOrder}
use Rattle.round_spec.specs.Marks.{record_for, fits_next}
use Rattle.round_spec.specs.Rounds.{RoundState, can_begin, can_take, can_reuse, happens, is_finished, is_in_flight, taken, taken_when, given_back}
use Rattle.round_spec.proofs.Conditions.{happens-take, happens-take_not, happens-reuse, happens-give_back, commit-applies}
use Rattle.round_spec.proofs.Happening.{CanBegin, can_begin-parts, happens-kept}
use Rattle.propagate.specs.Consistency.{IsConsistent, IsFound, KnowsEnough}
use Rattle.known_pages.specs.Alike.{IsAsBefore}
use Rattle.known_pages.specs.declared.versions.Versions.{Versions}
use Rattle.known_pages.specs.Versions.{AreRight, unboxed}
use Rattle.propagate.specs.Committing.{CanCommit, Continues, picked_at}
use Rattle.propagate.proofs.Keeping.{valid_consistent, valid-happens, kept-happens, kept-more, kept-found, applied-round, knows-in_flight}
use Rattle.propagate.proofs.Mapped.{happens-on_map}
use Rattle.known_pages.proofs.Alike.{as-before-same}
use Rattle.known_pages.proofs.KnownPages.{right-same, right-either}
use Rattle.round_spec.proofs.Picks.{below-32}
use Rattle.known_pages.proofs.Alike.{can-apply, reuse-can}
use Rattle.propagate.proofs.Appending.{CanAppend, fitting-append, Reusable, reusable, going-none, take-ready}

-- a round with one more entry, its record and when it was picked
abbrev pub appended : RoundState → Record → Bool → ℕ → RoundState
appended w r reused point =
    record w {
      machine = apply w.machine r;
      schedule = w.schedule ++ record { thread = r.thread; reused = reused } ∷ [];
      records = w.records ++ r ∷ [];
      picked = w.picked ++ point ∷ [];
    }

-- the same if its thread was in flight
abbrev pub handed_in : RoundState → Record → RoundState
handed_in w r =
    record (appended w r false (taken_when w r.thread)) {
      in_flight = set w.in_flight r.thread false;
      taken_at = set w.taken_at r.thread 0;
    }

-- it is what was made of a round, part by part
pub appended-from :
    (w : RoundState) (r : Record) (reused : Bool) (m : Machine) (es : List Entry) (rs : List Record) (room ps : List ℕ)
    (point : ℕ)
    → m ≡ apply w.machine r → es ≡ w.schedule ++ record { thread = r.thread; reused = reused } ∷ []
    → rs ≡ w.records ++ r ∷ [] → room ≡ w.picked → ps ≡ room ++ point ∷ []
    → record w { machine = m; schedule = es; records = rs; picked = ps } ≡ appended w r reused point
appended-from w r reused m es rs room ps point machine schedule records same picked =
    rw (machine, schedule, records, picked, same) refl

-- an executed step that can be committed

-- a round in which the step of a thread was started: the thread is in flight, or was taken
pub record IsBegun (w x : RoundState) : Type 0 where
  pub setup : x.setup ≡ w.setup
  pub machine : x.machine ≡ w.machine
  pub stopped : x.stopped ≡ w.stopped

pub is-begun : (w : RoundState) (t : ℕ) → IsBegun w (happens w (Take t))
is-begun w t = by (can_take w t) refl
  where
    by : (b : Bool) → can_take w t ≡ b → IsBegun w (happens w (Take t))
    by true is = rw (happens-take w t is) (record { setup = refl; machine = refl; stopped = refl })
    by false is = rw (happens-take_not w t is) (record { setup = refl; machine = refl; stopped = refl })

-- the round isn't finished, and the record fits
pub begun-goes :
    (w : RoundState) (frame : Frame) (r : Record)
    → CanCommit (happens w (Take r.thread)) frame r
    → (is_finished w ≡ false) × (fits w.machine r ≡ true)
begun-goes w frame r can =
    let begun = is-begun w r.thread in (
      ap₂ (λ (m : Machine) (b : Bool). is_some m.ending || b) (sym begun.machine) (sym begun.stopped) ∙ can.going,
      ap (λ (m : Machine). fits m r) (sym begun.machine) ∙ can.fit,
    )

pub commit-append :
    (w : RoundState) (i : ℕ) (fs : Option (List Fact)) (b : Option (Vec Bool Global)) (vs : Option Versions) (frame : Frame)
    (r : Record)
    → IsConsistent w i fs b vs → CanCommit (happens w (Take r.thread)) frame r
    → CanAppend w r
commit-append w i fs b vs frame r kept can =
    let goes = begun-goes w frame r can in fitting-append w r kept.in_order kept.counted goes.0 goes.1

-- a round after the step of a thread that was in flight, or was taken for it
abbrev pub executed_in : RoundState → Record → RoundState
executed_in w r =
    record (appended w r false (picked_at w r.thread)) {
      in_flight = set w.in_flight r.thread false;
      taken_at = set w.taken_at r.thread 0;
    }

pub executed-from :
    (w : RoundState) (r : Record) (m : Machine) (es : List Entry) (rs : List Record) (room ps : List ℕ) (t point : ℕ)
    → m ≡ apply w.machine r → es ≡ w.schedule ++ record { thread = r.thread; reused = false } ∷ []
    → rs ≡ w.records ++ r ∷ [] → room ≡ w.picked → ps ≡ room ++ point ∷ []
    → t ≡ r.thread → point ≡ picked_at w r.thread
    → record w {
      machine = m;
      schedule = es;
      records = rs;
      picked = ps;
      in_flight = set w.in_flight t false;
      taken_at = set w.taken_at t 0;
    } ≡ executed_in w r
executed-from w r m es rs room ps t point machine schedule records same picked thread when =
    rw (machine, schedule, records, picked, same, thread, when) refl

begun-handed_in :
    (w : RoundState) (frame : Frame) (r : Record)
    → IsInOrder w → CanCommit (happens w (Take r.thread)) frame r
    → handed_in (happens w (Take r.thread)) r ≡ executed_in w r
begun-handed_in w frame r in_order can = by (can_take w r.thread) refl
  where
    by : (b : Bool) → can_take w r.thread ≡ b → handed_in (happens w (Take r.thread)) r ≡ executed_in w r
    by true is =
        let below : r.thread < 32 = below-32 w.machine r.thread in_order.whole (take-ready w r.thread is) in
        let begins : CanBegin w r.thread =
        can_begin-parts w r.thread
        (and_parts (can_begin w r.thread) (not (fits_next w.past w.machine r.thread)) is).0 in
        let point : taken_when (taken w r.thread) r.thread ≡ length w.schedule =
        get_or-set_same w.taken_at r.thread (length w.schedule) 0 (omega (arith, in_order.lengths)) in
        rw (
          happens-take w r.thread is,
          begins.inside,
          point,
          set-set w.in_flight r.thread true false,
          set-set w.taken_at r.thread (length w.schedule) 0,
        )
        refl
    by false is =
        let same = happens-take_not w r.thread is in
        let in_flight : is_in_flight w r.thread ≡ true =
        ap (λ (x : RoundState). is_in_flight x r.thread) (sym same) ∙ can.taken in
        rw (same, in_flight) refl

pub commit-happens :
    (w : RoundState) (frame : Frame) (r : Record)
    → IsInOrder w → CanCommit (happens w (Take r.thread)) frame r → IsTrue frame r.start r.kept
    → happens (happens w (Take r.thread)) (Commit r.thread) ≡ executed_in w r
commit-happens w frame r in_order can honest =
    commit-applies (happens w (Take r.thread)) r (happens-kept w (Take r.thread) in_order).whole
    (subst (λ (x : Frame). IsTrue x r.start r.kept) can.same_frame honest) can.taken can.going can.fit
    ∙ begun-handed_in w frame r in_order can

pub commit-kept :
    (w v : RoundState) (i j : ℕ) (fs gs : Option (List Fact)) (b c : Option (Vec Bool Global)) (vs us : Option Versions)
    (frame : Frame) (r : Record)
    → IsConsistent w i fs b vs → CanCommit (happens w (Take r.thread)) frame r → IsTrue frame r.start r.kept
    → v ≡ executed_in w r
    → j ≡ i + r.kept.count → r.kept.count ≤ 4294967295
    → IsAsBefore v c → KnowsEnough v c gs → AreRight v us
    → IsConsistent v j gs c us
commit-kept w v i j fs gs b c vs us frame r kept can honest is sum few as_before knows right =
    let begun = is-begun w r.thread in
    let goes = begun-goes w frame r can in
    kept-more w (happens w (Take r.thread)) v (Commit r.thread) i j fs gs b c vs us
    (record { thread = r.thread; reused = false }) r (picked_at w r.thread) kept
    (valid-happens w (happens w (Take r.thread)) (Take r.thread) (valid_consistent w w i fs b vs refl kept) refl begun.setup)
    (happens-on_map w (Take r.thread) kept.on_map)
    (commit-happens w frame r kept.in_order can honest ∙ sym is)
    (ap (λ (x : RoundState). x.setup) is ∙ sym begun.setup)
    (ap (λ (x : RoundState). x.schedule) is) (ap (λ (x : RoundState). x.records) is)
    (ap (λ (x : RoundState). x.picked) is)
    (applied-round w v r kept.applied (can-apply w r (going-none w.machine.ending w.stopped goes.0) goes.1)
    (ap (λ (x : RoundState). x.setup) is) (ap (λ (x : RoundState). x.machine) is)
    (ap (λ (x : RoundState). x.records) is))
    sum few as_before knows right

-- a thread that is in flight isn't taken again
pub begun-in_flight : (w : RoundState) (t : ℕ) → is_in_flight w t ≡ true → happens w (Take t) ≡ w
begun-in_flight w t in_flight = by (can_take w t) refl
  where
    by : (b : Bool) → can_take w t ≡ b → happens w (Take t) ≡ w
    by true is =
        absurd
        (let begins : CanBegin w t =
        can_begin-parts w t (and_parts (can_begin w t) (not (fits_next w.past w.machine t)) is).0 in
        let inside = begins.inside in cc)
    by false is = happens-take_not w t is

-- a record that is reused

pub reuse-append :
    (w : RoundState) (i t : ℕ) (fs : Option (List Fact)) (b : Option (Vec Bool Global)) (vs : Option Versions)
    (r : Record)
    → IsConsistent w i fs b vs → can_reuse w t ≡ true → record_for w.past w.machine t ≡ Some r → Reusable w t r
reuse-append w i t fs b vs r kept can there = reusable w t r kept.in_order kept.counted can there

pub reuse-happens :
    (w v : RoundState) (i t : ℕ) (fs : Option (List Fact)) (b : Option (Vec Bool Global)) (vs : Option Versions)
    (r : Record)
    → IsConsistent w i fs b vs → can_reuse w t ≡ true → record_for w.past w.machine t ≡ Some r
    → v ≡ appended w r true (length w.schedule)
    → v ≡ happens w (Reuse t)
reuse-happens w v i t fs b vs r kept can there is =
    let append : Reusable w t r = reuse-append w i t fs b vs r kept can there in
    is
    ∙ ap (λ u. record w {
      machine = apply w.machine r;
      schedule = w.schedule
          ++ record { thread = u; reused = true } ∷ [];
      records = w.records ++ r ∷ [];
      picked = w.picked ++ length w.schedule ∷ [];
    }) append.thread
    ∙ sym (happens-reuse w t r can there)

pub reuse-kept :
    (w v : RoundState) (i t : ℕ) (fs gs : Option (List Fact)) (b c : Option (Vec Bool Global)) (vs us : Option Versions)
    (r : Record)
    → IsConsistent w i fs b vs → can_reuse w t ≡ true → record_for w.past w.machine t ≡ Some r
    → v ≡ appended w r true (length w.schedule)
    → IsAsBefore v c → KnowsEnough v c gs → AreRight v us
    → IsConsistent v i gs c us
reuse-kept w v i t fs gs b c vs us r kept can there is as_before knows right =
    kept-more w w v (Reuse t) i i fs gs b c vs us (record { thread = r.thread; reused = true }) r (length w.schedule) kept
    (valid_consistent w w i fs b vs refl kept) kept.on_map
    (sym (reuse-happens w v i t fs b vs r kept can there is))
    (ap (λ (x : RoundState). x.setup) is)
    (ap (λ (x : RoundState). x.schedule) is) (ap (λ (x : RoundState). x.records) is)
    (ap (λ (x : RoundState). x.picked) is)
    (applied-round w v r kept.applied (reuse-can w t r can there)
    (ap (λ (x : RoundState). x.setup) is) (ap (λ (x : RoundState). x.machine) is)
    (ap (λ (x : RoundState). x.records) is))
    (omega arith) (omega arith)
    as_before knows right

-- a step that is discarded

pub discarded-kept :
    (w v : RoundState) (i t : ℕ) (fs : Option (List Fact)) (b : Option (Vec Bool Global)) (vs : Option Versions)
    → IsConsistent w i fs b vs → is_in_flight w t ≡ true → v ≡ given_back w t → IsConsistent v i fs b vs
discarded-kept w v i t fs b vs kept in_flight is =
    subst (λ (x : RoundState). IsConsistent x i fs b vs) (sym is)
    (kept-happens w (given_back w t) (GiveBack t) i fs b vs (valid_consistent w w i fs b vs refl kept) kept.on_map
    (happens-give_back w t in_flight) refl
    (record { machine = kept.applied.machine; can = kept.applied.can }) kept.points kept.executed kept.few
    (as-before-same w (given_back w t) b kept.as_before
    (record { setup = refl; past = refl; machine = refl; schedule = refl; records = refl }))
    (knows-in_flight w (given_back w t) b b fs t kept.knows in_flight refl)
    (right-same w (given_back w t) vs kept.right refl refl refl))

-- ---- the entries of a round after it

-- an unchanged round has as many
pub goes-nowhere : (v w : RoundState) → v ≡ w → Continues 0 w v
goes-nowhere v w is =
    record {
      setup = ap (λ (x : RoundState). x.setup) is;
      past = ap (λ (x : RoundState). x.past) is;
      entries = omega (arith, ap (λ (x : RoundState). length x.schedule) is);
    }

-- a round with one more entry
pub goes-more :
    (v w u : RoundState) (e : Entry)
    → v.setup ≡ w.setup → v.past ≡ w.past → v.schedule ≡ w.schedule ++ e ∷ [] → w ≡ u → Continues 1 u v
goes-more v w u e setup past more is =
    record {
      setup = setup ∙ ap (λ (x : RoundState). x.setup) is;
      past = past ∙ ap (λ (x : RoundState). x.past) is;
      entries = omega (
        arith,
        ap (λ (l : List Entry). length l) more,
        length-append w.schedule (e ∷ []),
        ap (λ (x : RoundState). length x.schedule) is,
      );
    }

-- ---- where memory ran out

-- a round as before, with the same facts
pub kept-alike :
    (w v : RoundState) (i : ℕ) (fs gs : Option (List Fact)) (b : Option (Vec Bool Global)) (vs : Option Versions)
    → IsConsistent w i fs b vs → v ≡ w → gs ≡ fs → IsConsistent v i gs b vs
kept-alike w v i fs gs b vs kept is same =
    subst (λ (x : RoundState). IsConsistent x i gs b vs) (sym is)
    (subst (λ (facts : Option (List Fact)). IsConsistent w i facts b vs) (sym same) kept)

-- the same after the facts were found
pub found-alike :
    (w v : RoundState) (i : ℕ) (fs gs : Option (List Fact)) (b : Option (Vec Bool Global)) (vs : Option Versions)
    (needed : Bool)
    → IsConsistent w i fs b vs → v ≡ w → IsFound needed w.past fs gs → IsConsistent v i gs b vs
found-alike w v i fs gs b vs needed kept is found =
    subst (λ (x : RoundState). IsConsistent x i gs b vs) (sym is) (kept-found w i fs gs b vs needed kept found)

-- what is said of a success isn't said of a failure
pub unless_ok : {T E : Type 0} (r : Result T E) (P : Type 0) → IsErr r → OnOk r P
unless_ok (Ok x) P failed = absurd (cc)
unless_ok (Err e) P failed = tt

pub on_err : {T E : Type 0} (r : Result T E) (P : Type 0) → P → OnErr r P
on_err (Ok x) P p = tt
on_err (Err e) P p = p

pub goes-no_further :
    {T E : Type 0} (r : Result T E) (v w : RoundState) → IsErr r → v ≡ w → Continues (cond (is_ok r) 1 0) w v
goes-no_further (Ok x) v w failed is = absurd (cc)
goes-no_further (Err e) v w failed is = goes-nowhere v w is

-- ---- what more there is after an entry was appended

-- the versions that are known, or else the fresh ones
pub right-known :
    (w : RoundState) (vs moved fresh known : Option (Box Versions Global))
    → AreRight w (unboxed vs) → moved ≡ vs → AreRight w (unboxed fresh) → known ≡ cond (is_some moved) moved fresh
    → AreRight w (unboxed known)
right-known w vs moved fresh known right is_moved new is_known =
    subst (λ o. AreRight w (unboxed o)) (sym is_known)
    (right-either w (is_some moved) moved fresh (subst (λ o. AreRight w (unboxed o)) (sym is_moved) right) new)

-- one more entry is within the most
pub next-fits : (now records entries : ℕ) → records < 65536 → records ≡ entries → now ≡ entries → now + 1 ≤ 65536
next-fits now records entries few same is = omega arith
