-- Answers to the goals that the check of `run` leaves open.
use Rattle.std.proofs.Common.{List, ap, ◌∙◌}
use Rattle.std.specs.Arc.{arc_value}
use Rattle.memory_spec.specs.Pages.{Mapped, Memory}
use Rattle.thunk_spec.specs.Put.{put_addresses, bytes_at}
use Rattle.plain_machine.proofs.Turning.{is-done}
use Rattle.plain_machine.proofs.thunk.run.Goals as goal

pub returns-clause-done : goal.returns-clause-done
returns-clause-done c =
    is-done (record { map = arc_value c.args.map.now; fuel = c.args.fuel }) c.args.view.now c.args.start c.in_ok-work.work
    c.make_turns.new.work
    (record {
      regs = c.make_turns.new.regs;
      end = c.in_ok-ended.ended.end;
      count = c.in_ok-ended.ended.count;
      stores = c.into_stores.result;
      put = c.in_ok-put.put;
    })
    c.requires c.in_ok-work.ensures c.in_ok-ended.ensures.map c.in_ok-ended.ensures.outcome
    (c.in_ok-put.ensures
    ∙ ap (λ (map : List Mapped). bytes_at map c.memory.result.now
    (put_addresses map c.in_ok-ended.ended.end c.make_turns.new.regs)) c.deref.ensures
    ∙ ap (λ (memory : Memory). bytes_at (arc_value c.args.map.now) memory
    (put_addresses (arc_value c.args.map.now) c.in_ok-ended.ended.end c.make_turns.new.regs)) c.memory.ensures.value)
    c.into_stores.ensures
