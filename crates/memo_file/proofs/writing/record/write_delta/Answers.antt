-- One more stored page.
use Rattle.std.proofs.Common.{◌≡◌, ◌<◌, length, Some, refl, sym, subst}
use Rattle.std.specs.Prelude.{slice_get}
use Rattle.std.proofs.lemmas.Option.{slice_get_read}
use Rattle.thunk_spec.specs.Delta.{PageDelta}
use Rattle.memo_spec.specs.Encoding.{stored_page}
use Rattle.memo_file.proofs.WritingRecords.{one_written, all_written}
use Rattle.memo_file.proofs.writing.record.write_delta.Goals as goal

pub write_stored-requires : goal.write_stored-requires
write_stored-requires c =
    subst (λ (d : PageDelta). d.slot < length c.args.slots.now) (sym c.stored-item.is)
    (c.requires c.loop-stored.stored-index c.stored-item.result c.loop-stored-test.true)

pub loop-stored-preserved : goal.loop-stored-preserved
loop-stored-preserved c =
    let at : slice_get c.args.delta.now c.loop-stored.stored-index ≡ Some c.stored-item.result =
    slice_get_read c.args.delta.now (length c.args.delta.now) c.loop-stored.stored-index c.stored-item.result refl
    c.loop-stored-test.true c.stored-item.is in
    one_written (stored_page c.args.slots.now) c.args.delta.now c.loop-stored.stored-index c.stored-item.result
    c.loop-stored.out.items c.write_stored.new.out.items _ at c.in_ok-write_stored.ensures c.loop-stored.invariant

pub returns : goal.returns
returns c = all_written (stored_page c.args.slots.now) c.args.delta.now c.loop-stored.stored-index
    c.loop-stored.out.items _ c.loop-stored-test.false c.loop-stored.invariant
