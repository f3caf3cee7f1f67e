-- Answers to the goals that the check of `PlainMachine::step` leaves open.
use Rattle.std.proofs.Common.{◌≡◌, ◌+◌, ◌-◌, ◌<◌, ◌++◌, ℕ, true, List, length, refl, ap, sym, subst, ◌∙◌, arith}
use Rattle.std.proofs.lemmas.Bool.{and_parts}
use Rattle.std.proofs.lemmas.List.{get_or-set_same}
use Rattle.std.proofs.lemmas.Grind.{common_steps}
use Rattle.std.specs.Arc.{arc_value}
use Rattle.isa_spec.specs.Registers.{Registers}
use Rattle.memory_spec.specs.Pages.{Mapped, Memory, IsMemory}
use Rattle.memory_spec.specs.Stores.{with_stores}
use Rattle.machine_spec.specs.declared.states.Asked.{Asked}
use Rattle.machine_spec.specs.Machine.{Machine, Hart, hart_in, is_ready}
use Rattle.machine_spec.specs.Step as step
use Rattle.machine_spec.specs.Whole.{IsWhole}
use Rattle.machine_spec.proofs.Harts.{ready-below}
use Rattle.machine_spec.proofs.Steps.{hart-at}
use Rattle.machine_spec.proofs.Tied.{tied-written}
use Rattle.plain_machine.specs.Stored.{bytes_of}
use Rattle.plain_machine.specs.Turning.{IsDone}
use Rattle.machine_calls.proofs.Asking.{number_fits, steps_fit}
use Rattle.machine_calls.specs.Doing.{harts_after, objects_after, own_end, effect_made}
use Rattle.plain_machine.specs.Making.{IsMade, asked_by}
use Rattle.plain_machine.proofs.Stepping.{stepped, reported}
use Rattle.plain_machine.proofs.machine.PlainMachine.step.Goals as goal

-- the thread of a step is ready
ready_now :
    (m now : Machine) (t : ℕ) → m ≡ now → step.can_step now t ≡ true → is_ready (hart_in m.harts t).status ≡ true
ready_now m now t same can =
    let may : step.can_step m t ≡ true = rw same can in
    (and_parts _ _ may).1

pub hart_at-hart-requires : goal.hart_at-hart-requires
hart_at-hart-requires c = ready-below _ _ (ready_now _ _ _ c.self.view_is c.requires)

pub apply_stores-requires : goal.apply_stores-requires
apply_stores-requires c = c.self.invariant.memory.count ∙ sym (ap length c.deref.ensures)

pub write_back-requires : goal.write_back-requires
write_back-requires c =
    let ready = ready_now _ _ _ c.self.view_is c.requires in
    record {
      exists = ready-below _ _ ready;
      few = number_fits _ _ c.self.invariant ready;
    }

pub overflow_add-written : goal.overflow_add-written
overflow_add-written c = steps_fit _ c.self.invariant

pub overflow_add-machine : goal.overflow_add-machine
overflow_add-machine c = steps_fit _ c.self.invariant

pub finish-requires-clause-ready : goal.finish-requires-clause-ready
finish-requires-clause-ready c =
    let ready = ready_now _ _ _ c.self.view_is c.requires in
    rw c.write_back.ensures.harts
    (ap (λ (h : Hart). is_ready h.status) (get_or-set_same c.self.inside.harts.items c.args.t _ _ (ready-below _ _ ready))
    ∙ ready)

pub run-requires : goal.run-requires
run-requires c =
    let map : List Mapped = arc_value c.self.inside.map in
    let m : Machine = record {
      frame = record { map = map; fuel = c.self.inside.fuel };
      limit = c.self.inside.limit;
      memory = c.self.inside.memory;
      harts = c.self.inside.harts.items;
      objects = c.self.inside.objects;
      output = c.self.inside.output.items;
      steps = c.self.inside.steps;
      ending = c.self.inside.ending;
    } in
    let may : step.can_step m c.args.t ≡ true =
    subst (λ (x : Machine). step.can_step x c.args.t ≡ true) (sym c.self.view_is) c.requires in
    let view_is : c.view.result.now ≡ (hart_in c.self.inside.harts.items c.args.t).view =
    c.view.ensures ∙ ap (λ (h : Hart). h.view) c.hart_at-hart.ensures in
    let below : c.args.t < length c.self.inside.harts.items =
    ready-below c.self.inside.harts.items c.args.t (and_parts _ _ may).1 in
    subst (IsMemory map) (sym view_is)
    (hart-at map c.self.inside.steps c.self.inside.harts.items c.args.t below c.self.invariant.harts).view

pub finish-requires-clause-tied : goal.finish-requires-clause-tied
finish-requires-clause-tied c =
    rw c.write_back.ensures.harts
    (tied-written c.self.inside.objects c.self.inside.harts.items c.args.t _ refl c.self.invariant.tied)

pub invariant_of-machine : goal.invariant_of-machine
invariant_of-machine c =
    let map : List Mapped = arc_value c.self.inside.map in
    let m : Machine = record {
      frame = record { map = map; fuel = c.self.inside.fuel };
      limit = c.self.inside.limit;
      memory = c.self.inside.memory;
      harts = c.self.inside.harts.items;
      objects = c.self.inside.objects;
      output = c.self.inside.output.items;
      steps = c.self.inside.steps;
      ending = c.self.inside.ending;
    } in
    let may : step.can_step m c.args.t ≡ true =
    subst (λ (x : Machine). step.can_step x c.args.t ≡ true) (sym c.self.view_is) c.requires in
    let view_is : c.view.result.now ≡ (hart_in c.self.inside.harts.items c.args.t).view =
    c.view.ensures ∙ ap (λ (h : Hart). h.view) c.hart_at-hart.ensures in
    let regs_is : c.regs.result.now ≡ (hart_in c.self.inside.harts.items c.args.t).regs =
    c.regs.ensures ∙ ap (λ (h : Hart). h.regs) c.hart_at-hart.ensures in
    let is_done : IsDone m.frame (hart_in c.self.inside.harts.items c.args.t).view
    (hart_in c.self.inside.harts.items c.args.t).regs c.in_ok-done.done =
    subst (λ (r : Registers). IsDone m.frame (hart_in c.self.inside.harts.items c.args.t).view r c.in_ok-done.done)
    regs_is
    (subst (λ (v : Memory). IsDone m.frame v c.regs.result.now c.in_ok-done.done) view_is c.in_ok-done.ensures.done) in
    let stores = bytes_of c.in_ok-done.done.stores.items in
    let asks : Asked = asked_by c.args.t c.in_ok-done.done in
    let is_memory : c.apply_stores.new.memory ≡ with_stores map c.self.inside.memory stores =
    c.in_ok-apply_stores.ensures
    ∙ ap (λ (p : List Mapped). with_stores p c.self.inside.memory (bytes_of c.as_slice.result.now)) c.deref.ensures
    ∙ ap (λ x. with_stores map c.self.inside.memory (bytes_of x)) c.as_slice.ensures.value in
    let is_output : c.extend_from_slice.new.self.items ≡ c.self.inside.output.items ++ c.in_ok-done.done.put.items =
    grind (arith, common_steps, c.in_ok-extend_from_slice.ensures.items, c.as_slice-2.ensures.value) in
    let is_harts : c.finish.new.harts.items ≡ harts_after map c.self.inside.objects c.apply_stores.new.memory c.args.t
    c.write_back.new.harts.items asks =
    c.in_ok-made.ensures.harts
    ∙ ap (λ (p : List Mapped). harts_after p c.self.inside.objects c.apply_stores.new.memory c.args.t
    c.write_back.new.harts.items asks) c.deref-2.ensures in
    let is_objects : c.finish.new.objects ≡ objects_after map c.self.inside.objects c.args.t
    asks =
    c.in_ok-made.ensures.objects
    ∙ ap (λ (p : List Mapped). objects_after p c.self.inside.objects c.args.t asks) c.deref-2.ensures in
    let is_ending : c.in_ok-made.ending ≡ step.end_after
    (own_end map c.self.inside.objects c.args.t asks) c.finish.new.harts.items
    c.self.inside.limit (c.self.inside.steps + 1) =
    c.in_ok-made.ensures.ending
    ∙ ap (λ (p : List Mapped). step.end_after (own_end p c.self.inside.objects c.args.t asks)
    c.finish.new.harts.items c.self.inside.limit (c.self.inside.steps + 1)) c.deref-2.ensures in
    subst IsWhole
    (sym (stepped m c.args.t c.in_ok-done.done c.apply_stores.new.memory
    c.write_back.new.harts.items c.finish.new.harts.items c.finish.new.objects
    c.extend_from_slice.new.self.items c.in_ok-made.ending asks
    c.self.invariant.memory is_done is_memory c.write_back.ensures.harts refl is_output is_harts is_objects
    is_ending))
    (c.step_keeps_whole.ensures m c.args.t c.self.invariant may)

pub returns-clause-machine : goal.returns-clause-machine
returns-clause-machine c =
    let map : List Mapped = arc_value c.self.inside.map in
    let m : Machine = record {
      frame = record { map = map; fuel = c.self.inside.fuel };
      limit = c.self.inside.limit;
      memory = c.self.inside.memory;
      harts = c.self.inside.harts.items;
      objects = c.self.inside.objects;
      output = c.self.inside.output.items;
      steps = c.self.inside.steps;
      ending = c.self.inside.ending;
    } in
    let view_is : c.view.result.now ≡ (hart_in c.self.inside.harts.items c.args.t).view =
    c.view.ensures ∙ ap (λ (h : Hart). h.view) c.hart_at-hart.ensures in
    let regs_is : c.regs.result.now ≡ (hart_in c.self.inside.harts.items c.args.t).regs =
    c.regs.ensures ∙ ap (λ (h : Hart). h.regs) c.hart_at-hart.ensures in
    let is_done : IsDone m.frame (hart_in c.self.inside.harts.items c.args.t).view
    (hart_in c.self.inside.harts.items c.args.t).regs c.in_ok-done.done =
    subst (λ (r : Registers). IsDone m.frame (hart_in c.self.inside.harts.items c.args.t).view r c.in_ok-done.done)
    regs_is
    (subst (λ (v : Memory). IsDone m.frame v c.regs.result.now c.in_ok-done.done) view_is c.in_ok-done.ensures.done) in
    let stores = bytes_of c.in_ok-done.done.stores.items in
    let asks : Asked = asked_by c.args.t c.in_ok-done.done in
    let is_memory : c.apply_stores.new.memory ≡ with_stores map c.self.inside.memory stores =
    c.in_ok-apply_stores.ensures
    ∙ ap (λ (p : List Mapped). with_stores p c.self.inside.memory (bytes_of c.as_slice.result.now)) c.deref.ensures
    ∙ ap (λ x. with_stores map c.self.inside.memory (bytes_of x)) c.as_slice.ensures.value in
    let is_output : c.extend_from_slice.new.self.items ≡ c.self.inside.output.items ++ c.in_ok-done.done.put.items =
    grind (arith, common_steps, c.in_ok-extend_from_slice.ensures.items, c.as_slice-2.ensures.value) in
    let is_harts : c.finish.new.harts.items ≡ harts_after map c.self.inside.objects c.apply_stores.new.memory c.args.t
    c.write_back.new.harts.items asks =
    c.in_ok-made.ensures.harts
    ∙ ap (λ (p : List Mapped). harts_after p c.self.inside.objects c.apply_stores.new.memory c.args.t
    c.write_back.new.harts.items asks) c.deref-2.ensures in
    let is_objects : c.finish.new.objects ≡ objects_after map c.self.inside.objects c.args.t
    asks =
    c.in_ok-made.ensures.objects
    ∙ ap (λ (p : List Mapped). objects_after p c.self.inside.objects c.args.t asks) c.deref-2.ensures in
    let is_ending : c.in_ok-made.ending ≡ step.end_after
    (own_end map c.self.inside.objects c.args.t asks) c.finish.new.harts.items
    c.self.inside.limit (c.self.inside.steps + 1) =
    c.in_ok-made.ensures.ending
    ∙ ap (λ (p : List Mapped). step.end_after (own_end p c.self.inside.objects c.args.t asks)
    c.finish.new.harts.items c.self.inside.limit (c.self.inside.steps + 1)) c.deref-2.ensures in
    stepped m c.args.t c.in_ok-done.done c.apply_stores.new.memory
    c.write_back.new.harts.items c.finish.new.harts.items c.finish.new.objects
    c.extend_from_slice.new.self.items c.in_ok-made.ending asks
    c.self.invariant.memory is_done is_memory c.write_back.ensures.harts refl is_output is_harts is_objects
    is_ending
    ∙ ap (λ (x : Machine). step.step x c.args.t) c.self.view_is

pub returns-clause-made : goal.returns-clause-made
returns-clause-made c =
    let map : List Mapped = arc_value c.self.inside.map in
    let m : Machine = record {
      frame = record { map = map; fuel = c.self.inside.fuel };
      limit = c.self.inside.limit;
      memory = c.self.inside.memory;
      harts = c.self.inside.harts.items;
      objects = c.self.inside.objects;
      output = c.self.inside.output.items;
      steps = c.self.inside.steps;
      ending = c.self.inside.ending;
    } in
    let view_is : c.view.result.now ≡ (hart_in c.self.inside.harts.items c.args.t).view =
    c.view.ensures ∙ ap (λ (h : Hart). h.view) c.hart_at-hart.ensures in
    let regs_is : c.regs.result.now ≡ (hart_in c.self.inside.harts.items c.args.t).regs =
    c.regs.ensures ∙ ap (λ (h : Hart). h.regs) c.hart_at-hart.ensures in
    let is_done : IsDone m.frame (hart_in c.self.inside.harts.items c.args.t).view
    (hart_in c.self.inside.harts.items c.args.t).regs c.in_ok-done.done =
    subst (λ (r : Registers). IsDone m.frame (hart_in c.self.inside.harts.items c.args.t).view r c.in_ok-done.done)
    regs_is
    (subst (λ (v : Memory). IsDone m.frame v c.regs.result.now c.in_ok-done.done) view_is c.in_ok-done.ensures.done) in
    let asks : c.in_ok-made.made.asked ≡ asked_by c.args.t c.in_ok-done.done = c.in_ok-made.ensures.asks in
    subst (λ (x : Machine). IsMade x c.args.t c.in_ok-made.made) c.self.view_is
    (reported m c.args.t c.in_ok-done.done c.in_ok-made.made is_done c.in_ok-made.ensures.count asks
    (c.in_ok-made.ensures.effect
    ∙ ap (λ (p : List Mapped). effect_made p c.self.inside.objects c.args.t (asked_by c.args.t c.in_ok-done.done))
    c.deref-2.ensures
    ∙ ap (effect_made map c.self.inside.objects c.args.t) (sym asks)))
