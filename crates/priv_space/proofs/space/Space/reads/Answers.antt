-- Answers to the goals that the check of `reads` leaves open.
use Rattle.std.proofs.Common.{map, ap, ◌∙◌, arith}
use Rattle.std.specs.Arc.{arc_value}
use Rattle.thunk_spec.specs.Ascending.{reads_ascend}
use Rattle.priv_space.specs.Slots.{slot_taken}
use Rattle.priv_space.proofs.Collecting.{collects-reads, collected_next, collected_all, reads_from-ascend}
use Rattle.priv_space.proofs.space.Space.reads.Goals as goal

pub loop-slot-preserved : goal.loop-slot-preserved
loop-slot-preserved c =
    collected_next c.loop-slot.pages.items (collects-reads (arc_value c.self.inside.view) c.self.inside.slots) c.loop-slot.invariant
    c.in-Some.ensures (rw (← c.deref.ensures) c.in_ok-add_read.ensures)

pub new-requires : goal.new-requires
new-requires c =
    let slots = c.self.inside.slots in
    let view = arc_value c.self.inside.view in
    ap (reads_ascend 0)
    (collected_all c.loop-slot.pages.items (collects-reads view slots) c.loop-slot.invariant c.in_default.ensures)
    ∙ reads_from-ascend 0 0 (map slot_taken slots) view (omega arith)

pub returns : goal.returns
returns c =
    c.new.ensures
    ∙ rw (← c.self.view_is) (collected_all c.loop-slot.pages.items
    (collects-reads (arc_value c.self.inside.view) c.self.inside.slots) c.loop-slot.invariant c.in_default.ensures)
