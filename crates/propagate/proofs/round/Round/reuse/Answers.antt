-- Answers to the goals that the check of `Round::reuse` leaves open.
use Rattle.std.proofs.Common.{◌≡◌, ◌<◌, ◌+◌, ℕ, suc, length, eqb, not, Bool, true, cond, List, [], ◌∷◌, ◌++◌, Option, Some, None, Box, Vec, is_none, option_map, refl, add-one, ap, sym, subst, ◌∙◌}
use Rattle.std.proofs.lemmas.Bool.{and_parts, false≢true}
use Rattle.std.specs.Arc.{arc_value}
use Rattle.std.specs.Global.{Global}
use Rattle.std.specs.Prelude.{IfSome}
use Rattle.std.specs.List.{slice_get}
use Rattle.thunk_spec.specs.Record.{Record}
use Rattle.round_spec.specs.declared.events.Event.TheVariants.{Reuse}
use Rattle.round_spec.specs.Marks.{record_for, is_fitting, fits_next}
use Rattle.round_spec.specs.Rounds.{RoundState, can_begin, can_reuse, happens}
use Rattle.round_spec.specs.Due.{place_in}
use Rattle.round_spec.proofs.Happening.{CanBegin, can_begin-parts}
use Rattle.machine_spec.specs.Step.{fits}
use Rattle.machine_spec.proofs.Harts.{ready-below}
use Rattle.history_spec.specs.History.{History}
use Rattle.history_spec.specs.Facts.{Fact}
use Rattle.known_pages.specs.declared.versions.Versions.{Versions}
use Rattle.propagate.specs.Appending.{Trail}
use Rattle.known_pages.specs.Versions.{AreRight, MayBeMadeAgain, unboxed}
use Rattle.known_pages.specs.Alike.{IsAsBefore}
use Rattle.propagate.specs.Consistency.{IsConsistent, IsFound, KnowsEnough}
use Rattle.known_pages.proofs.Alike.{reuse-as-before, at-place}
use Rattle.known_pages.proofs.KnownPages.{right-same, right-there, right-reused}
use Rattle.propagate.proofs.Keeping.{record_count, knows-reused, valid_consistent}
use Rattle.propagate.proofs.Appending.{Reusable, length-push}
use Rattle.known_pages.proofs.Alike.{reuse-can}
use Rattle.propagate.proofs.Making.{appended, appended-from, reuse-append, reuse-happens, reuse-kept, goes-more, right-known, next-fits, kept-alike, found-alike, unless_ok, on_err, goes-no_further}
use Rattle.propagate.proofs.round.Round.reuse.Goals as goal
use Rattle.propagate.proofs.round.Round.reuse.Goals.{In_ok-rec-in-Some}

-- what is kept after the record of a thread's next step was reused
kept-after :
    (w v : RoundState) (i t place now : ℕ) (next : Bool) (r : Record) (fs gs : Option (List Fact))
    (b taken c : Option (Vec Bool Global)) (vs known : Option (Box Versions Global)) (us : Option Versions)
    → IsConsistent w i fs b (unboxed vs)
    → can_reuse w t ≡ true → record_for w.past w.machine t ≡ Some r
    → v ≡ appended w r true (length w.schedule)
    → place ≡ place_in w.past w.machine t → now ≡ length w.schedule
    → next ≡ eqb (place_in w.past w.machine t) (length w.schedule)
    → IsFound (not next) w.past fs gs
    → taken ≡ b → c ≡ cond next taken None
    → AreRight w (unboxed known) → MayBeMadeAgain (unboxed known) v.machine place r (now + 1) us
    → IsConsistent v i gs c us
kept-after w v i t place now next r fs gs b taken c vs known us kept can there is is_place is_now is_next found is_taken is_marks right again =
    let fit = and_parts (is_none w.machine.ending) (fits w.machine r) (reuse-can w t r can there) in
    let marks : cond next b None ≡ c =
    ap (λ (m : Option (Vec Bool Global)). cond next m None) (sym is_taken) ∙ sym is_marks in
    reuse-kept w v i t fs gs b c (unboxed vs) us r kept can there is
    (subst (IsAsBefore v) marks
    (reuse-as-before w v t _ r b next kept.as_before kept.in_order.whole kept.applied (record_count w kept.counted)
    is_next there can
    (record {
      setup = ap (λ (x : RoundState). x.setup) is;
      past = ap (λ (x : RoundState). x.past) is;
      machine = ap (λ (x : RoundState). x.machine) is;
      schedule = ap (λ (x : RoundState). x.schedule) is;
      records = ap (λ (x : RoundState). x.records) is;
    })))
    (subst (λ (m : Option (Vec Bool Global)). KnowsEnough v m gs) marks
    (knows-reused w v b fs gs next kept.knows found (ap (λ (x : RoundState). x.past) is)
    (ap (λ (x : RoundState). x.in_flight) is)))
    (right-reused w v place (now + 1) r (unboxed known) us right
    (record {
      past = ap (λ (x : RoundState). x.past) is;
      machine = ap (λ (x : RoundState). x.machine) is;
      entries =
          ap (λ (x : RoundState). length x.schedule) is
          ∙ length-push w.schedule (record { thread = r.thread; reused = true });
      whole = kept.in_order.whole;
      going = fit.0;
      fit = fit.1;
    })
    (rw add-one (ap suc is_now))
    (λ h same.
    ap (slice_get h.records) (is_place ∙ ap (λ (p : Option History). place_in p w.machine t) same)
    ∙ at-place h w.machine t r (ap (λ (p : Option History). record_for p w.machine t) (sym same) ∙ there))
    again)

-- the round before, by its parts; what holds of it; and the record that is reused
abbrev before : In_ok-rec-in-Some → RoundState
before c =
    record {
      setup = c.self.inside.setup;
      past = option_map arc_value c.self.inside.past;
      machine = c.self.inside.core;
      schedule = c.self.inside.schedule.items;
      records = c.self.inside.records;
      picked = c.self.inside.picked.items;
      in_flight = c.self.inside.in_flight;
      taken_at = c.self.inside.taken_at;
      discarded = c.self.inside.discarded;
      stopped = c.self.inside.stopped;
    }

can : (c : In_ok-rec-in-Some) → can_reuse (before c) c.args.t ≡ true
can c = subst (λ (w : RoundState). can_reuse w c.args.t ≡ true) (sym c.self.view_is) c.requires

there :
    (c : In_ok-rec-in-Some)
    → record_for (before c).past (before c).machine c.args.t ≡ Some (arc_value c.in_ok-rec-in-Some.rec)
there c =
    ap (λ (w : RoundState). record_for w.past w.machine c.args.t) c.self.view_is
    ∙ sym c.next_record.ensures
    ∙ ap (option_map (λ r. arc_value r.now)) c.in-Some.is
    ∙ ap (λ (r : Record). Some r) (sym c.in_ok-rec-in-Some.ensures)

reusable : (c : In_ok-rec-in-Some) → Reusable (before c) c.args.t (arc_value c.in_ok-rec-in-Some.rec)
reusable c =
    reuse-append (before c) c.self.inside.instructions c.args.t c.self.inside.graph c.self.inside.marks (unboxed c.self.inside.versions)
    (arc_value c.in_ok-rec-in-Some.rec) c.self.invariant (can c) (there c)

-- it is as before with room for one more
room :
    (c : In_ok-rec-in-Some) (picked : List ℕ) → picked ≡ c.self.inside.picked.items
    → record (before c) { picked = picked } ≡ before c
room c picked same = ap (λ (l : List ℕ). record (before c) { picked = l }) same

-- and where the entry wasn't appended
undone :
    (c : In_ok-rec-in-Some) (t : Trail) (picked : List ℕ)
    → t ≡ record {
      machine = (before c).machine;
      schedule = (before c).schedule;
      records = (before c).records;
    }
    → picked ≡ c.self.inside.picked.items
    → record (before c) { machine = t.machine; schedule = t.schedule; records = t.records; picked = picked } ≡ before c
undone c t picked same room_is =
    ap (λ (x : Trail). record (before c) {
      machine = x.machine;
      schedule = x.schedule;
      records = x.records;
      picked = picked;
    }) same
    ∙ room c picked room_is

-- the thread exists, and its record is there

exists : (w : RoundState) (t : ℕ) → can_reuse w t ≡ true → t < length w.machine.harts
exists w t can =
    let begins : CanBegin w t = can_begin-parts w t (and_parts (can_begin w t) (fits_next w.past w.machine t) can).0 in
    ready-below w.machine.harts t begins.ready

never-none : (w : RoundState) (t : ℕ) → can_reuse w t ≡ true → record_for w.past w.machine t ≡ None → ⊥
never-none w t can none =
    false≢true
    (sym (ap (is_fitting w.machine) none) ∙ (and_parts (can_begin w t) (fits_next w.past w.machine t) can).1)

pub next_record-requires : goal.next_record-requires
next_record-requires c = exists c.args.self.now c.args.t c.requires

pub unreachable-requires : goal.unreachable-requires
unreachable-requires c =
    never-none c.args.self.now c.args.t c.requires
    (sym c.next_record.ensures ∙ ap (option_map (λ r. arc_value r.now)) c.in-None.is)

pub is_next-next-requires : goal.is_next-next-requires
is_next-next-requires c = exists c.args.self.now c.args.t c.requires

pub place-place-requires : goal.place-place-requires
place-place-requires c = exists c.args.self.now c.args.t c.requires

pub returns-in_err-rec-in-Some : goal.returns-in_err-rec-in-Some
returns-in_err-rec-in-Some c =
    let failed = c.from_residual.ensures.0 in
    record {
      ok = unless_ok c.from_residual.result _ failed;
      same = goes-no_further c.from_residual.result _ _ failed refl;
      err = on_err c.from_residual.result _ refl;
      valid = valid_consistent _ _ _ _ _ _ c.self.view_is c.self.invariant;
    }

pub invariant_of-self : goal.invariant_of-self
invariant_of-self c =
    let d : In_ok-rec-in-Some = (goal.at.invariant_of-self c).In_ok-rec-in-Some in
    kept-alike (before d) _ _ _ _ _ _ c.self.invariant
    (room d c.reserve.new.self.items c.in_err-reserve.ensures.items) refl

pub returns-in_err-reserve : goal.returns-in_err-reserve
returns-in_err-reserve c =
    let d : In_ok-rec-in-Some = (goal.at.returns-in_err-reserve c).In_ok-rec-in-Some in
    let is = room d c.reserve.new.self.items c.in_err-reserve.ensures.items ∙ c.self.view_is in
    let failed = c.from_residual-in_err-reserve.ensures.0 in
    record {
      ok = unless_ok c.from_residual-in_err-reserve.result _ failed;
      same = goes-no_further c.from_residual-in_err-reserve.result _ _ failed is;
      err = on_err c.from_residual-in_err-reserve.result _ is;
      valid = valid_consistent _ _ _ _ _ _ c.self.view_is c.self.invariant;
    }

pub invariant_of-self-in_err-find_facts : goal.invariant_of-self-in_err-find_facts
invariant_of-self-in_err-find_facts c =
    let d : In_ok-rec-in-Some = (goal.at.invariant_of-self-in_err-find_facts c).In_ok-rec-in-Some in
    kept-alike (before d) _ _ _ _ _ _ c.self.invariant
    (room d c.reserve.new.self.items c.in_ok-reserve.ensures.items) c.in_err-find_facts.ensures.err

pub returns-in_err-find_facts : goal.returns-in_err-find_facts
returns-in_err-find_facts c =
    let d : In_ok-rec-in-Some = (goal.at.returns-in_err-find_facts c).In_ok-rec-in-Some in
    let is = room d c.reserve.new.self.items c.in_ok-reserve.ensures.items ∙ c.self.view_is in
    let failed = c.from_residual-in_err-find_facts.ensures.0 in
    record {
      ok = unless_ok c.from_residual-in_err-find_facts.result _ failed;
      same = goes-no_further c.from_residual-in_err-find_facts.result _ _ failed is;
      err = on_err c.from_residual-in_err-find_facts.result _ is;
      valid = valid_consistent _ _ _ _ _ _ c.self.view_is c.self.invariant;
    }

pub invariant_of-self-2 : goal.invariant_of-self-2
invariant_of-self-2 c =
    let d : In_ok-rec-in-Some = (goal.at.invariant_of-self-2 c).In_ok-rec-in-Some in
    found-alike (before d) _ _ _ _ _ _ _ c.self.invariant
    (room d c.reserve.new.self.items c.in_ok-reserve.ensures.items) c.in_ok-find_facts.ensures.found

pub invariant_of-self-in_err-fresh : goal.invariant_of-self-in_err-fresh
invariant_of-self-in_err-fresh c =
    let d : In_ok-rec-in-Some = (goal.at.invariant_of-self-in_err-fresh c).In_ok-rec-in-Some in
    found-alike (before d) _ _ _ _ _ _ _ c.self.invariant
    (room d c.reserve.new.self.items c.in_ok-reserve.ensures.items) c.in_ok-find_facts.ensures.found

pub returns-in_err-fresh : goal.returns-in_err-fresh
returns-in_err-fresh c =
    let d : In_ok-rec-in-Some = (goal.at.returns-in_err-fresh c).In_ok-rec-in-Some in
    let is = room d c.reserve.new.self.items c.in_ok-reserve.ensures.items ∙ c.self.view_is in
    let failed = c.from_residual-in_err-fresh.ensures.0 in
    record {
      ok = unless_ok c.from_residual-in_err-fresh.result _ failed;
      same = goes-no_further c.from_residual-in_err-fresh.result _ _ failed is;
      err = on_err c.from_residual-in_err-fresh.result _ is;
      valid = valid_consistent _ _ _ _ _ _ c.self.view_is c.self.invariant;
    }

pub append-requires-clause-can : goal.append-requires-clause-can
append-requires-clause-can c = (reusable (goal.at.append-requires-clause-can c).In_ok-rec-in-Some).append.can

pub append-requires-clause-few : goal.append-requires-clause-few
append-requires-clause-few c = (reusable (goal.at.append-requires-clause-few c).In_ok-rec-in-Some).append.few

pub append-requires-clause-thread : goal.append-requires-clause-thread
append-requires-clause-thread c = (reusable (goal.at.append-requires-clause-thread c).In_ok-rec-in-Some).append.thread

pub append-requires-clause-number : goal.append-requires-clause-number
append-requires-clause-number c = (reusable (goal.at.append-requires-clause-number c).In_ok-rec-in-Some).append.number

pub invariant_of-self-in_err-append : goal.invariant_of-self-in_err-append
invariant_of-self-in_err-append c =
    let d : In_ok-rec-in-Some = (goal.at.invariant_of-self-in_err-append c).In_ok-rec-in-Some in
    found-alike (before d) _ _ _ _ _ _ _ c.self.invariant
    (undone d _ c.reserve.new.self.items c.in_err-append.ensures.err c.in_ok-reserve.ensures.items)
    c.in_ok-find_facts.ensures.found

pub returns-in_err-append : goal.returns-in_err-append
returns-in_err-append c =
    let d : In_ok-rec-in-Some = (goal.at.returns-in_err-append c).In_ok-rec-in-Some in
    let is =
    undone d _ c.reserve.new.self.items c.in_err-append.ensures.err c.in_ok-reserve.ensures.items ∙ c.self.view_is in
    let failed = c.from_residual-in_err-append.ensures.0 in
    record {
      ok = unless_ok c.from_residual-in_err-append.result _ failed;
      same = goes-no_further c.from_residual-in_err-append.result _ _ failed is;
      err = on_err c.from_residual-in_err-append.result _ is;
      valid = valid_consistent _ _ _ _ _ _ c.self.view_is c.self.invariant;
    }

-- how many entries there were
now_is : (c : goal.After-drop-rec-2) → c.entries-now.result ≡ length c.self.inside.schedule.items
now_is c = c.entries-now.ensures ∙ ap (λ (w : RoundState). length w.schedule) (sym c.self.view_is)

-- the round after the record was appended
abbrev opened : goal.After-drop-rec-2 → In_ok-rec-in-Some
opened c = (goal.at.returns-clause-ok c).In_ok-rec-in-Some

abbrev after : goal.After-drop-rec-2 → RoundState
after c =
    record (before (opened c)) {
      machine = c.append.new.core;
      schedule = c.append.new.schedule.items;
      records = c.append.new.records;
      picked = c.push_reserved.new.self.items;
    }

made :
    (c : goal.After-drop-rec-2)
    → after c ≡ appended (before (opened c)) (arc_value c.in_ok-rec-in-Some.rec) true (length c.self.inside.schedule.items)
made c =
    appended-from (before (opened c)) (arc_value c.in_ok-rec-in-Some.rec) true c.append.new.core c.append.new.schedule.items
    c.append.new.records c.reserve.new.self.items c.push_reserved.new.self.items (length c.self.inside.schedule.items)
    c.in_ok-append.ensures.ok.machine c.in_ok-append.ensures.ok.schedule c.in_ok-append.ensures.ok.records
    c.in_ok-reserve.ensures.items
    (c.push_reserved.ensures.items ∙ ap (λ n. c.reserve.new.self.items ++ n ∷ []) (now_is c))

pub invariant_of-self-3 : goal.invariant_of-self-3
invariant_of-self-3 c =
    kept-after (before (opened c)) (after c) c.self.inside.instructions c.args.t c.place-place.result c.entries-now.result
    c.is_next-next.result (arc_value c.in_ok-rec-in-Some.rec) c.self.inside.graph c.find_facts.new.graph c.self.inside.marks
    c.take.result c.marks_if.result c.self.inside.versions c.known_or-versions.result (unboxed c.after_reuse.result)
    c.self.invariant (can (opened c)) (there (opened c)) (made c)
    (c.place-place.ensures ∙ ap (λ (x : RoundState). place_in x.past x.machine c.args.t) (sym c.self.view_is)) (now_is c)
    (c.is_next-next.ensures
    ∙ ap (λ (x : RoundState). eqb (place_in x.past x.machine c.args.t) (length x.schedule)) (sym c.self.view_is))
    c.in_ok-find_facts.ensures.found c.take.ensures.value c.marks_if.ensures
    (right-known (before (opened c)) c.self.inside.versions c.take-2.result c.in_ok-fresh.fresh c.known_or-versions.result
    c.self.invariant.right c.take-2.ensures.value
    (right-same _ (before (opened c)) (unboxed c.in_ok-fresh.fresh) c.in_ok-fresh.ensures refl refl refl)
    c.known_or-versions.ensures)
    (subst
    (λ (r : Record).
    MayBeMadeAgain (unboxed c.known_or-versions.result) (after c).machine c.place-place.result r (c.entries-now.result + 1)
    (unboxed c.after_reuse.result))
    c.deref.ensures c.after_reuse.ensures)

pub returns-clause-ok : goal.returns-clause-ok
returns-clause-ok c =
    reuse-happens (before (opened c)) (after c) c.self.inside.instructions c.args.t c.self.inside.graph c.self.inside.marks
    (unboxed c.self.inside.versions) (arc_value c.in_ok-rec-in-Some.rec) c.self.invariant (can (opened c))
    (there (opened c)) (made c)
    ∙ ap (λ (w : RoundState). happens w (Reuse c.args.t)) c.self.view_is

pub returns-clause-same : goal.returns-clause-same
returns-clause-same c =
    goes-more (after c) (before (opened c)) c.args.self.now _ refl refl (ap (λ (w : RoundState). w.schedule) (made c))
    c.self.view_is

pub after_reuse-requires-clause-there : goal.after_reuse-requires-clause-there
after_reuse-requires-clause-there c =
    let d : In_ok-rec-in-Some = (goal.at.after_reuse-requires-clause-there c).In_ok-rec-in-Some in
    subst (λ (k : ℕ). IfSome c.known_or-versions.result (λ (v : Box Versions Global). k < length v.value.steps.items))
    (sym (c.place-place.ensures ∙ ap (λ (x : RoundState). place_in x.past x.machine c.args.t) (sym c.self.view_is)))
    (right-there (before d) c.args.t (arc_value c.in_ok-rec-in-Some.rec) c.known_or-versions.result
    (right-known (before d) c.self.inside.versions c.take-2.result c.in_ok-fresh.fresh c.known_or-versions.result
    c.self.invariant.right c.take-2.ensures.value
    (right-same _ (before d) (unboxed c.in_ok-fresh.fresh) c.in_ok-fresh.ensures refl refl refl)
    c.known_or-versions.ensures)
    (there d))

pub after_reuse-requires-clause-now : goal.after_reuse-requires-clause-now
after_reuse-requires-clause-now c =
    let d : In_ok-rec-in-Some = (goal.at.after_reuse-requires-clause-now c).In_ok-rec-in-Some in
    next-fits c.entries-now.result (length c.self.inside.records) (length c.self.inside.schedule.items)
    (reusable d).append.few (record_count (before d) c.self.invariant.counted)
    (c.entries-now.ensures ∙ ap (λ (w : RoundState). length w.schedule) (sym c.self.view_is))
