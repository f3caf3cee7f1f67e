-- Answers to the goals that the check of `Round::commit_executed` leaves open.
use Rattle.std.proofs.Common.{◌≡◌, ◌<◌, ◌≤◌, ◌+◌, ℕ, suc, Bool, true, false, not, set, length, List, Option, Box, Vec, is_some, option_map, refl, add-one, ap, sym, subst, ◌∙◌, arith}
use Rattle.std.specs.Arc.{arc_value}
use Rattle.std.specs.Global.{Global}
use Rattle.thunk_spec.specs.Thunk.{Frame}
use Rattle.thunk_spec.specs.Record.{Record, IsTrue}
use Rattle.history_spec.specs.Facts.{Fact}
use Rattle.round_spec.specs.declared.events.Event.TheVariants.{Take, Commit}
use Rattle.round_spec.specs.Rounds.{RoundState, happens}
use Rattle.known_pages.specs.declared.versions.Versions.{Versions}
use Rattle.propagate.specs.Appending.{Trail}
use Rattle.propagate.specs.Committing.{CanCommit, picked_at}
use Rattle.propagate.specs.Consistency.{IsConsistent, IsFound}
use Rattle.known_pages.specs.Alike.{IsInPlace, MayBeMarks}
use Rattle.known_pages.specs.Versions.{AreRight, MayBeMadeAnew, unboxed}
use Rattle.propagate.proofs.Keeping.{record_count, few_entries, knows-made, valid_consistent}
use Rattle.propagate.proofs.Making.{executed_in, executed-from, begun-goes, commit-append, commit-happens, commit-kept, goes-more, right-known, next-fits, kept-alike, found-alike, unless_ok, on_err, goes-no_further}
use Rattle.known_pages.proofs.Alike.{commit-as-before}
use Rattle.propagate.proofs.Appending.{CanAppend, going-none, length-push}
use Rattle.known_pages.proofs.KnownPages.{right-same, right-executed}
use Rattle.propagate.proofs.round.Round.commit_executed.Goals as goal
use Rattle.propagate.proofs.round.Round.commit_executed.Goals.{After-self}

-- what is kept after an executed step was committed
kept-after :
    (w v : RoundState) (i j place now : ℕ) (frame : Frame) (r : Record) (in_place : Bool) (fs gs : Option (List Fact))
    (b taken c : Option (Vec Bool Global)) (vs known : Option (Box Versions Global)) (us : Option Versions)
    → IsConsistent w i fs b (unboxed vs)
    → CanCommit (happens w (Take r.thread)) frame r → IsTrue frame r.start r.kept
    → v ≡ executed_in w r
    → j ≡ i + r.kept.count → r.kept.count ≤ 4294967295
    → place ≡ length w.schedule → now ≡ length w.schedule
    → IsFound (not in_place) w.past fs gs
    → taken ≡ b → MayBeMarks w.past place r taken c
    → (in_place ≡ true → is_some taken ≡ true → is_some c ≡ true) → (in_place ≡ true → is_some b ≡ true)
    → AreRight w (unboxed known) → MayBeMadeAnew (unboxed known) v.machine r (now + 1) us
    → IsConsistent v j gs c us
kept-after w v i j place now frame r in_place fs gs b taken c vs known us kept can honest is sum few is_place is_now found is_taken marks keeps some right anew =
    let goes = begun-goes w frame r can in
    commit-kept w v i j fs gs b c (unboxed vs) us frame r kept can honest is sum few
    (commit-as-before w v (record { thread = r.thread; reused = false }) r b c kept.as_before kept.in_order.whole goes.1
    (subst (λ (old : Option (Vec Bool Global)). MayBeMarks w.past (length w.records) r old c) is_taken
    (subst (λ (k : ℕ). MayBeMarks w.past k r taken c) (is_place ∙ sym (record_count w kept.counted)) marks))
    refl
    (record {
      setup = ap (λ (x : RoundState). x.setup) is;
      past = ap (λ (x : RoundState). x.past) is;
      machine = ap (λ (x : RoundState). x.machine) is;
      schedule = ap (λ (x : RoundState). x.schedule) is;
      records = ap (λ (x : RoundState). x.records) is;
    }))
    (knows-made w v b c fs gs r.thread in_place kept.knows found (ap (λ (x : RoundState). x.past) is)
    (ap (λ (x : RoundState). x.in_flight) is) (λ on there. keeps on (ap is_some is_taken ∙ there)) some)
    (right-executed w v (now + 1) r (unboxed known) us right
    (record {
      past = ap (λ (x : RoundState). x.past) is;
      machine = ap (λ (x : RoundState). x.machine) is;
      entries =
          ap (λ (x : RoundState). length x.schedule) is
          ∙ length-push w.schedule (record { thread = r.thread; reused = false });
      whole = kept.in_order.whole;
      going = going-none w.machine.ending w.stopped goes.0;
      fit = goes.1;
    })
    (rw add-one (ap suc is_now))
    anew)

-- the round before, by its parts; the step that can be committed; and its record, which may be appended
abbrev before : After-self → RoundState
before c =
    record {
      setup = c.self.inside.setup;
      past = option_map arc_value c.self.inside.past;
      machine = c.self.inside.core;
      schedule = c.self.inside.schedule.items;
      records = c.self.inside.records;
      picked = c.self.inside.picked.items;
      in_flight = c.self.inside.in_flight;
      taken_at = c.self.inside.taken_at;
      discarded = c.self.inside.discarded;
      stopped = c.self.inside.stopped;
    }

can :
    (c : After-self)
    → CanCommit (happens (before c) (Take (arc_value c.args.run.now.rec).thread)) (arc_value c.args.run.now.frame)
    (arc_value c.args.run.now.rec)
can c =
    subst
    (λ (w : RoundState).
    CanCommit (happens w (Take (arc_value c.args.run.now.rec).thread)) (arc_value c.args.run.now.frame) (arc_value c.args.run.now.rec))
    (sym c.self.view_is) c.requires

can-append : (c : After-self) → CanAppend (before c) (arc_value c.args.run.now.rec)
can-append c =
    commit-append (before c) c.self.inside.instructions c.self.inside.graph c.self.inside.marks (unboxed c.self.inside.versions)
    (arc_value c.args.run.now.frame) (arc_value c.args.run.now.rec) c.self.invariant (can c)

-- it is as before with room for one more
room :
    (c : After-self) (picked : List ℕ) → picked ≡ c.self.inside.picked.items
    → record (before c) { picked = picked } ≡ before c
room c picked same = ap (λ (l : List ℕ). record (before c) { picked = l }) same

-- and where the entry wasn't appended
undone :
    (c : After-self) (t : Trail) (picked : List ℕ)
    → t ≡ record {
      machine = (before c).machine;
      schedule = (before c).schedule;
      records = (before c).records;
    }
    → picked ≡ c.self.inside.picked.items
    → record (before c) { machine = t.machine; schedule = t.schedule; records = t.records; picked = picked } ≡ before c
undone c t picked same room_is =
    ap (λ (x : Trail). record (before c) {
      machine = x.machine;
      schedule = x.schedule;
      records = x.records;
      picked = picked;
    }) same
    ∙ room c picked room_is

pub invariant_of-self : goal.invariant_of-self
invariant_of-self c =
    let d : After-self = (goal.at.invariant_of-self c).After-self in
    kept-alike (before d) _ _ _ _ _ _ c.self.invariant
    (room d c.reserve.new.self.items c.in_err-reserve.ensures.items) refl

pub returns-in_err-reserve : goal.returns-in_err-reserve
returns-in_err-reserve c =
    let d : After-self = (goal.at.returns-in_err-reserve c).After-self in
    let is =
    room d c.reserve.new.self.items c.in_err-reserve.ensures.items ∙ c.self.view_is in
    let failed = c.from_residual.ensures.0 in
    record {
      ok = unless_ok c.from_residual.result _ failed;
      same = goes-no_further c.from_residual.result _ _ failed is;
      err = on_err c.from_residual.result _ is;
      valid = valid_consistent _ _ _ _ _ _ c.self.view_is c.self.invariant;
    }

pub invariant_of-self-in_err-find_facts : goal.invariant_of-self-in_err-find_facts
invariant_of-self-in_err-find_facts c =
    let d : After-self = (goal.at.invariant_of-self-in_err-find_facts c).After-self in
    kept-alike (before d) _ _ _ _ _ _ c.self.invariant
    (room d c.reserve.new.self.items c.in_ok-reserve.ensures.items) c.in_err-find_facts.ensures.err

pub returns-in_err-find_facts : goal.returns-in_err-find_facts
returns-in_err-find_facts c =
    let d : After-self = (goal.at.returns-in_err-find_facts c).After-self in
    let is =
    room d c.reserve.new.self.items c.in_ok-reserve.ensures.items ∙ c.self.view_is in
    let failed = c.from_residual-in_err-find_facts.ensures.0 in
    record {
      ok = unless_ok c.from_residual-in_err-find_facts.result _ failed;
      same = goes-no_further c.from_residual-in_err-find_facts.result _ _ failed is;
      err = on_err c.from_residual-in_err-find_facts.result _ is;
      valid = valid_consistent _ _ _ _ _ _ c.self.view_is c.self.invariant;
    }

pub invariant_of-self-2 : goal.invariant_of-self-2
invariant_of-self-2 c =
    let d : After-self = (goal.at.invariant_of-self-2 c).After-self in
    found-alike (before d) _ _ _ _ _ _ _ c.self.invariant
    (room d c.reserve.new.self.items c.in_ok-reserve.ensures.items) c.in_ok-find_facts.ensures.found

pub invariant_of-self-in_err-fresh : goal.invariant_of-self-in_err-fresh
invariant_of-self-in_err-fresh c =
    let d : After-self = (goal.at.invariant_of-self-in_err-fresh c).After-self in
    found-alike (before d) _ _ _ _ _ _ _ c.self.invariant
    (room d c.reserve.new.self.items c.in_ok-reserve.ensures.items) c.in_ok-find_facts.ensures.found

pub returns-in_err-fresh : goal.returns-in_err-fresh
returns-in_err-fresh c =
    let d : After-self = (goal.at.returns-in_err-fresh c).After-self in
    let is =
    room d c.reserve.new.self.items c.in_ok-reserve.ensures.items ∙ c.self.view_is in
    let failed = c.from_residual-in_err-fresh.ensures.0 in
    record {
      ok = unless_ok c.from_residual-in_err-fresh.result _ failed;
      same = goes-no_further c.from_residual-in_err-fresh.result _ _ failed is;
      err = on_err c.from_residual-in_err-fresh.result _ is;
      valid = valid_consistent _ _ _ _ _ _ c.self.view_is c.self.invariant;
    }

pub append-requires-clause-can : goal.append-requires-clause-can
append-requires-clause-can c = (can-append (goal.at.append-requires-clause-can c).After-self).can

pub append-requires-clause-few : goal.append-requires-clause-few
append-requires-clause-few c = (can-append (goal.at.append-requires-clause-few c).After-self).few

pub append-requires-clause-thread : goal.append-requires-clause-thread
append-requires-clause-thread c = (can-append (goal.at.append-requires-clause-thread c).After-self).thread

pub append-requires-clause-number : goal.append-requires-clause-number
append-requires-clause-number c = (can-append (goal.at.append-requires-clause-number c).After-self).number

pub invariant_of-self-in_err-append : goal.invariant_of-self-in_err-append
invariant_of-self-in_err-append c =
    let d : After-self = (goal.at.invariant_of-self-in_err-append c).After-self in
    found-alike (before d) _ _ _ _ _ _ _ c.self.invariant
    (undone d _ c.reserve.new.self.items c.in_err-append.ensures.err c.in_ok-reserve.ensures.items)
    c.in_ok-find_facts.ensures.found

pub returns-in_err-append : goal.returns-in_err-append
returns-in_err-append c =
    let d : After-self = (goal.at.returns-in_err-append c).After-self in
    let is =
    undone d _ c.reserve.new.self.items c.in_err-append.ensures.err c.in_ok-reserve.ensures.items ∙ c.self.view_is in
    let failed = c.from_residual-in_err-append.ensures.0 in
    record {
      ok = unless_ok c.from_residual-in_err-append.result _ failed;
      same = goes-no_further c.from_residual-in_err-append.result _ _ failed is;
      err = on_err c.from_residual-in_err-append.result _ is;
      valid = valid_consistent _ _ _ _ _ _ c.self.view_is c.self.invariant;
    }

few_threads :
    (c : goal.After-way_told-1) → c.from-t.result < 32
few_threads c =
    subst (λ (t : ℕ). t < 32)
    (sym (c.from-t.ensures ∙ c.thread-2.ensures ∙ ap (λ (r : Record). r.thread) c.deref-3.ensures))
    (can-append (goal.at.bounds-self-inside-t c).After-self).thread

pub bounds-self-inside-t : goal.bounds-self-inside-t
bounds-self-inside-t c = few_threads c

pub bounds-self-inside-t-2 : goal.bounds-self-inside-t-2
bounds-self-inside-t-2 c = few_threads c

-- the round after
abbrev opened : goal.Joined-self-after_execution → After-self
opened c = (goal.at.returns-clause-ok c).After-self

abbrev after : goal.Joined-self-after_execution → RoundState
after c =
    record (before (opened c)) {
      machine = c.append.new.core;
      schedule = c.append.new.schedule.items;
      records = c.append.new.records;
      picked = c.push_reserved.new.self.items;
      in_flight = set c.self.inside.in_flight c.from-t.result false;
      taken_at = set c.self.inside.taken_at c.from-t.result 0;
    }

made :
    (c : goal.Joined-self-after_execution) → after c ≡ executed_in (before (opened c)) (arc_value c.args.run.now.rec)
made c =
    executed-from (before (opened c)) (arc_value c.args.run.now.rec) c.append.new.core c.append.new.schedule.items
    c.append.new.records c.reserve.new.self.items c.push_reserved.new.self.items c.from-t.result c.picked_at-picked.result
    c.in_ok-append.ensures.ok.machine c.in_ok-append.ensures.ok.schedule c.in_ok-append.ensures.ok.records
    c.in_ok-reserve.ensures.items c.push_reserved.ensures.items
    (c.from-t.ensures ∙ c.thread-2.ensures ∙ ap (λ (r : Record). r.thread) c.deref-3.ensures)
    (c.picked_at-picked.ensures
    ∙ ap (picked_at c.args.self.now) (c.thread.ensures ∙ ap (λ (r : Record). r.thread) c.deref.ensures)
    ∙ ap (λ (w : RoundState). picked_at w (arc_value c.args.run.now.rec).thread) (sym c.self.view_is))

pub invariant_of-self-3 : goal.invariant_of-self-3
invariant_of-self-3 c =
    let count_is : c.from.result ≡ (arc_value c.args.run.now.rec).kept.count =
    c.from.ensures ∙ c.count.ensures ∙ ap (λ (r : Record). r.kept.count) c.deref-4.ensures in
    let few : (arc_value c.args.run.now.rec).kept.count ≤ 4294967295 = omega (arith, count_is) in
    kept-after (before (opened c)) (after c) c.self.inside.instructions (c.self.inside.instructions + c.from.result)
    c.len-place.result c.entries-now.result (arc_value c.args.run.now.frame) (arc_value c.args.run.now.rec)
    c.is_in_place-in_place.result c.self.inside.graph c.find_facts.new.graph c.self.inside.marks c.take.result
    c.marks_after.result c.self.inside.versions c.known_or-versions.result (unboxed c.after_execution.result)
    c.self.invariant (can (opened c)) c.args.run.now.honest (made c)
    (ap (λ n. c.self.inside.instructions + n) count_is) few
    (c.len-place.ensures ∙ c.self.inside.schedule.ok.0)
    (c.entries-now.ensures ∙ ap (λ (w : RoundState). length w.schedule) (sym c.self.view_is))
    c.in_ok-find_facts.ensures.found c.take.ensures.value
    (subst
    (λ (r : Record). MayBeMarks (option_map arc_value c.self.inside.past) c.len-place.result r c.take.result c.marks_after.result)
    c.deref-5.ensures c.marks_after.ensures.marks)
    c.marks_after.ensures.kept c.is_in_place-in_place.ensures.marks
    (right-known (before (opened c)) c.self.inside.versions c.take-2.result c.in_ok-fresh.fresh c.known_or-versions.result
    c.self.invariant.right c.take-2.ensures.value
    (right-same _ (before (opened c)) (unboxed c.in_ok-fresh.fresh) c.in_ok-fresh.ensures refl refl refl)
    c.known_or-versions.ensures)
    (subst
    (λ (r : Record).
    MayBeMadeAnew (unboxed c.known_or-versions.result) (after c).machine r (c.entries-now.result + 1) (unboxed c.after_execution.result))
    c.deref-6.ensures c.after_execution.ensures)

pub marks_after-requires : goal.marks_after-requires
marks_after-requires c = λ on.
    subst (λ (r : Record). IsInPlace (option_map arc_value c.self.inside.past) c.len-place.result r)
    (c.deref-2.ensures ∙ sym c.deref-5.ensures) (c.is_in_place-in_place.ensures.place on)

pub returns-clause-ok : goal.returns-clause-ok
returns-clause-ok c =
    made c
    ∙ sym (commit-happens (before (opened c)) (arc_value c.args.run.now.frame) (arc_value c.args.run.now.rec)
    c.self.invariant.in_order (can (opened c)) c.args.run.now.honest)
    ∙ ap (λ (w : RoundState).
    happens (happens w (Take (arc_value c.args.run.now.rec).thread)) (Commit (arc_value c.args.run.now.rec).thread))
    c.self.view_is

pub overflow_add-self : goal.overflow_add-self
overflow_add-self c =
    omega (
      arith,
      c.self.invariant.few,
      few_entries _ c.self.invariant.in_order c.self.invariant.counted,
      c.count.type_inv,
      c.from.ensures,
    )

pub returns-clause-same : goal.returns-clause-same
returns-clause-same c =
    goes-more (after c) (before (opened c)) c.args.self.now _ refl refl (ap (λ (w : RoundState). w.schedule) (made c))
    c.self.view_is

pub after_execution-requires : goal.after_execution-requires
after_execution-requires c =
    let d : After-self = (goal.at.after_execution-requires c).After-self in
    next-fits c.entries-now.result (length c.self.inside.records) (length c.self.inside.schedule.items)
    (can-append d).few (record_count (before d) c.self.invariant.counted)
    (c.entries-now.ensures ∙ ap (λ (w : RoundState). length w.schedule) (sym c.self.view_is))
