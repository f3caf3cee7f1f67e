-- Answers to the goals that the check of `Core::apply` leaves open.
use Rattle.std.proofs.Common.{◌≡◌, ◌<◌, ◌≤◌, ◌-◌, ℕ, true, ◌+◌, suc, List, ◌++◌, slice_set, refl, add-one, ap, sym, subst, ◌∙◌, arith}
use Rattle.std.specs.Arc.{arc_value}
use Rattle.thunk_spec.specs.Record.{put_of}
use Rattle.machine_spec.specs.Machine.{Machine, Hart, hart_in, hart_of, is_ready}
use Rattle.machine_spec.proofs.Harts.{ready-below}
use Rattle.std.proofs.lemmas.Bool.{and_parts}
use Rattle.std.proofs.lemmas.List.{get_or-set_same}
use Rattle.machine_spec.specs.Step as step
use Rattle.machine_spec.specs.Whole.{IsWhole}
use Rattle.machine_spec.proofs.Tied.{tied-written}
use Rattle.machine_calls.proofs.Asking.{view_count, number_fits, steps_fit}
use Rattle.machine_calls.specs.Doing.{harts_after, objects_after, own_end}
use Rattle.history_spec.proofs.Applying.{apply-whole}
use Rattle.release_core.proofs.Applying.{applied-parts}
use Rattle.release_core.proofs.core_machine.Core.apply.Goals as goal

-- the thread of a record that can be applied is ready
ready_now :
    (m now : Machine) (t thread : ℕ)
    → m ≡ now → t ≡ thread → step.can_step now thread ≡ true → is_ready (hart_in m.harts t).status ≡ true
ready_now m now t thread same is can =
    let ready : step.can_step m t ≡ true = rw (same, is) can in
    (and_parts _ _ ready).1

room_for_one : (n room : ℕ) → n + 1 ≤ room → n < room
room_for_one n room fits = omega arith

-- a machine with the same harts and output is the same
unchanged :
    (m : Machine) (harts : List Hart) (output : List ℕ) → harts ≡ m.harts → output ≡ m.output
    → record m { harts = harts; output = output } ≡ m
unchanged m harts output same as_before = rw (same, as_before) refl

kept_whole :
    (m : Machine) (harts : List Hart) (output : List ℕ) → IsWhole m → harts ≡ m.harts → output ≡ m.output
    → IsWhole (record m { harts = harts; output = output })
kept_whole m harts output whole same as_before = subst IsWhole (sym (unchanged m harts output same as_before)) whole

-- the machine before, by its parts
abbrev before : goal.After-drop-put-2 → Machine
before c =
    record {
      frame = arc_value c.self.inside.frame;
      limit = c.self.inside.limit;
      memory = arc_value c.self.inside.memory;
      harts = c.self.inside.harts.items;
      objects = c.self.inside.objects;
      output = c.self.inside.output.items;
      steps = c.self.inside.steps;
      ending = c.self.inside.ending;
    }

-- the machine after is the machine before with the record applied
applied :
    (c : goal.After-drop-put-2)
    → record {
      frame = arc_value c.self.inside.frame;
      limit = c.self.inside.limit;
      memory = arc_value c.in_ok-memory.field-0.memory;
      harts = c.do_as_prepared-self-inside.new.harts.items;
      objects = c.do_as_prepared-self-inside.new.objects;
      output = c.extend_from_slice.new.self.items;
      steps = c.self.inside.steps + 1;
      ending = c.do_as_prepared-self-inside.result;
    }
    ≡ step.apply (before c) c.args.rec.now
applied c =
    let is_written :
    c.write_back.new.harts.items
    ≡ slice_set c.self.inside.harts.items c.args.rec.now.thread
    (step.advanced (hart_of (before c) c.args.rec.now.thread) c.args.rec.now.kept.finish) =
    rw (c.write_back.ensures.harts, c.reserve.ensures.items, c.thread-t.ensures, c.finish.ensures) refl in
    let is_asked : c.asked.result
    ≡ step.asked c.args.rec.now.thread c.args.rec.now.kept.end c.args.rec.now.kept.finish =
    rw (c.asked.ensures, c.thread-t.ensures, c.end.ensures, c.finish-2.ensures) refl in
    let is_put : c.in_ok-memory.field-0.put.items ≡ put_of (arc_value c.self.inside.frame).map
    (hart_of (before c) c.args.rec.now.thread).view c.args.rec.now.kept =
    c.in_ok-memory.ensures.put
    ∙ rw (c.map.ensures, c.deref.ensures, c.view_at-view.ensures, c.as_slice.ensures.value, c.thread-t.ensures)
    refl in
    let is_output : c.extend_from_slice.new.self.items ≡ c.self.inside.output.items
    ++ c.in_ok-memory.field-0.put.items =
    c.in_ok-extend_from_slice.ensures.items
    ∙ ap (λ (put : List ℕ). c.self.inside.output.items ++ put) c.as_slice-2.ensures.value in
    let is_steps : c.self.inside.steps + 1 ≡ suc c.self.inside.steps = add-one _ in
    let is_done : c.do_as_prepared-self-inside.new.harts.items ≡ harts_after
    (arc_value c.self.inside.frame).map c.self.inside.objects
    (arc_value c.in_ok-memory.field-0.memory) c.args.rec.now.thread c.write_back.new.harts.items c.asked.result =
    c.do_as_prepared-self-inside.ensures.harts ∙ rw (c.map-2.ensures, c.deref-2.ensures, c.thread-t.ensures) refl in
    let is_objects : c.do_as_prepared-self-inside.new.objects ≡ objects_after
    (arc_value c.self.inside.frame).map c.self.inside.objects c.args.rec.now.thread c.asked.result =
    c.do_as_prepared-self-inside.ensures.objects ∙ rw (c.map-2.ensures, c.deref-2.ensures, c.thread-t.ensures) refl in
    let is_ending : c.do_as_prepared-self-inside.result ≡ step.end_after
    (own_end (arc_value c.self.inside.frame).map c.self.inside.objects c.args.rec.now.thread c.asked.result)
    c.do_as_prepared-self-inside.new.harts.items c.self.inside.limit (c.self.inside.steps + 1) =
    c.do_as_prepared-self-inside.ensures.ending ∙ rw (c.map-2.ensures, c.deref-2.ensures, c.thread-t.ensures) refl in
    applied-parts (before c) c.args.rec.now
    (arc_value c.in_ok-memory.field-0.memory) c.write_back.new.harts.items c.do_as_prepared-self-inside.new.harts.items
    c.do_as_prepared-self-inside.new.objects c.in_ok-memory.field-0.put.items c.extend_from_slice.new.self.items
    (c.self.inside.steps + 1) c.do_as_prepared-self-inside.result c.asked.result
    c.in_ok-memory.ensures.memory is_written is_asked is_put is_output is_steps is_done is_objects is_ending

pub do_as_prepared-self-inside-requires-clause-tied :
    goal.do_as_prepared-self-inside-requires-clause-tied
do_as_prepared-self-inside-requires-clause-tied c =
    rw (c.write_back.ensures.harts, c.in_ok-reserve.ensures.items)
    (tied-written c.self.inside.objects c.self.inside.harts.items c.thread-t.result _ refl c.self.invariant.tied)

pub invariant_of-self-2 : goal.invariant_of-self-2
invariant_of-self-2 c =
    subst IsWhole (sym (applied c))
    (apply-whole (before c) c.args.rec.now c.self.invariant
    (subst (λ (m : Machine). step.can_step m c.args.rec.now.thread ≡ true) (sym c.self.view_is) c.requires))

pub returns-clause-ok : goal.returns-clause-ok
returns-clause-ok c = applied c ∙ ap (λ (x : Machine). step.apply x c.args.rec.now) c.self.view_is

pub do_as_prepared-self-inside-requires-clause-ready :
    goal.do_as_prepared-self-inside-requires-clause-ready
do_as_prepared-self-inside-requires-clause-ready c =
    let ready = ready_now _ _ _ _ c.self.view_is c.thread-t.ensures c.requires in
    rw (c.write_back.ensures.harts, c.in_ok-reserve.ensures.items)
    (ap (λ (h : Hart). is_ready h.status) (get_or-set_same c.self.inside.harts.items c.thread-t.result _ _
    (ready-below c.self.inside.harts.items c.thread-t.result ready)) ∙ ready)

pub view_at-view-requires : goal.view_at-view-requires
view_at-view-requires c =
    rw c.as_slice.ensures.value
    (ready-below _ _ (ready_now _ _ _ _ c.self.view_is c.thread-t.ensures c.requires))

pub prepare-requires : goal.prepare-requires
prepare-requires c =
    rw (c.view_at-view.ensures, c.as_slice.ensures.value, c.map.ensures, c.deref.ensures)
    (view_count _ _ c.self.invariant (ready_now _ _ _ _ c.self.view_is c.thread-t.ensures c.requires))

pub returns-in_err-memory-clause-whole : goal.returns-in_err-memory-clause-whole
returns-in_err-memory-clause-whole c = subst IsWhole c.self.view_is c.self.invariant

pub invariant_of-self : goal.invariant_of-self
invariant_of-self c = kept_whole _ _ _ c.self.invariant c.reserve.ensures.items refl

pub returns-in_err-reserve-clause-whole : goal.returns-in_err-reserve-clause-whole
returns-in_err-reserve-clause-whole c = subst IsWhole c.self.view_is c.self.invariant

pub invariant_of-self-in_err-extend_from_slice : goal.invariant_of-self-in_err-extend_from_slice
invariant_of-self-in_err-extend_from_slice c =
    kept_whole _ _ _ c.self.invariant c.reserve.ensures.items c.in_err-extend_from_slice.ensures.items

pub returns-in_err-extend_from_slice-clause-whole : goal.returns-in_err-extend_from_slice-clause-whole
returns-in_err-extend_from_slice-clause-whole c = subst IsWhole c.self.view_is c.self.invariant

pub write_back-requires : goal.write_back-requires
write_back-requires c =
    let ready = ready_now _ _ _ _ c.self.view_is c.thread-t.ensures c.requires in
    record {
      exists = rw c.reserve.ensures.items (ready-below _ _ ready);
      few = rw c.reserve.ensures.items (number_fits _ _ c.self.invariant ready);
    }

pub overflow_add-self : goal.overflow_add-self
overflow_add-self c = steps_fit _ c.self.invariant

pub do_as_prepared-self-inside-requires-clause-room : goal.do_as_prepared-self-inside-requires-clause-room
do_as_prepared-self-inside-requires-clause-room c =
    rw (c.write_back.ensures.len, c.write_back.ensures.capacity) (room_for_one _ _ c.in_ok-reserve.ensures.ok)

pub do_as_prepared-self-inside-requires-clause-enough : goal.do_as_prepared-self-inside-requires-clause-enough
do_as_prepared-self-inside-requires-clause-enough c =
    rw (c.asked.ensures, c.thread-t.ensures, c.end.ensures, c.finish-2.ensures) c.in_ok-memory.ensures.enough

pub do_as_prepared-self-inside-requires-clause-views : goal.do_as_prepared-self-inside-requires-clause-views
do_as_prepared-self-inside-requires-clause-views c = c.in_ok-memory.ensures.views

pub returns-clause-whole : goal.returns-clause-whole
returns-clause-whole c = subst IsWhole c.self.view_is c.self.invariant
