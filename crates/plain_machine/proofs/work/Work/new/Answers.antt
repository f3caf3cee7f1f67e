-- Answers to the goals that the check of `Work::new` leaves open.
use Rattle.std.specs.Arc.{arc_value}
use Rattle.memory_spec.specs.Pages.{IsMemory}
use Rattle.plain_machine.proofs.Merging.{kept-none}
use Rattle.plain_machine.proofs.work.Work.new.Goals as goal

pub invariant_of-result : goal.invariant_of-result
invariant_of-result c =
    let copied : IsMemory (arc_value c.in_ok-try_clone.field-0) c.in_ok-share.field-0 =
    rw (c.in_ok-try_clone.ensures, c.in_ok-share.ensures) c.requires in
    record {
      count = copied.count;
      applies = λ shared whole.
          kept-none (arc_value c.in_ok-try_clone.field-0) c.in_ok-share.field-0 c.new.result.items shared copied
          c.new.ensures.items whole;
      last = c.none.ensures (arc_value c.in_ok-try_clone.field-0);
    }
