-- One more read page.
use Rattle.std.proofs.Common.{◌≡◌, ◌+◌, ◌<◌, Some, length, refl, sym, ◌∙◌, rules, arith}
use Rattle.std.specs.Prelude.{slice_get, slice_index}
use Rattle.std.proofs.lemmas.Grind.{common_steps}
use Rattle.std.proofs.lemmas.Option.{gets, slice_get_read, get_or_from_slice_get}
use Rattle.memo_spec.specs.Encoding.{page_number, read_page}
use Rattle.memo_file.specs.WritingPool.{pages_lent}
use Rattle.memo_file.proofs.WritingRecords.{one_written, read_written}
use Rattle.memo_file.proofs.writing.record.write_reads.Goals as goal

pub loop-k-preserved : goal.loop-k-preserved
loop-k-preserved c =
    let at : slice_get c.args.reads.now c.loop-k.k ≡ Some c.index-reads-k.result = grind (arith, common_steps, gets) in
    let number : c.number.result ≡ page_number c.args.slots.now c.index-reads-k.result.slot = search rules in
    let within : c.args.start + c.loop-k.k < length c.args.pool.now.places.items =
    omega (arith, c.requires.placed.within, c.loop-k-test.true) in
    let place : c.index.result.now ≡ slice_index c.args.pool.now.places.items (c.args.start + c.loop-k.k) =
    sym (get_or_from_slice_get c.args.pool.now.places.items (c.args.start + c.loop-k.k) c.index.result.now 0
    (slice_get_read c.args.pool.now.places.items (length c.args.pool.now.places.items) (c.args.start + c.loop-k.k)
    c.index.result.now refl within c.index.ensures)) in
    one_written (read_page c.args.slots.now (pages_lent c.args.pool.now.pages.items)) c.args.reads.now c.loop-k.k
    c.index-reads-k.result
    c.loop-k.out.items c.put_word-in-loop-k.new.out.items _ at
    (read_written c.args.slots.now (pages_lent c.args.pool.now.pages.items) c.index-reads-k.result c.loop-k.out.items
    c.put_word.new.out.items
    c.put_word-in-loop-k.new.out.items c.number.result c.index.result.now number
    (place ∙ c.requires.placed.place c.loop-k.k c.index-reads-k.result at) c.in_ok-put_word.ensures
    c.in_ok-put_word-2.ensures)
    c.loop-k.invariant
