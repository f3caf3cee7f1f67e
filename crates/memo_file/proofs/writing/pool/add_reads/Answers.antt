-- One more read page.
use Rattle.std.proofs.Common.{◌≡◌, length, Some, refl, arith}
use Rattle.std.specs.Prelude.{slice_get}
use Rattle.std.proofs.lemmas.Option.{slice_get_read}
use Rattle.memo_file.specs.WritingPool.{pages_lent}
use Rattle.memo_file.proofs.WritingPool.{reads_from, pool_step, places_step, few_more, pool_met, places_met}
use Rattle.memo_file.proofs.writing.pool.add_reads.Goals as goal

pub add_read-requires-clause-few : goal.add_read-requires-clause-few
add_read-requires-clause-few c =
    omega (arith, c.requires.few, c.loop-read.invariant.few, c.loop-read-test.true)

pub loop-read-preserved : goal.loop-read-preserved
loop-read-preserved c =
    let reads = c.args.reads.now in
    let k = c.loop-read.read-index in
    let read = c.read-item.result in
    let at : slice_get reads k ≡ Some read =
    slice_get_read reads (length reads) k read refl c.loop-read-test.true c.read-item.is in
    let front = reads_from reads k read at in
    let before = c.loop-read.known.pool.items in
    let behind = c.add_read.new.known.pool.items in
    record {
      indexed = c.in_ok-place.ensures.indexed;
      pool = pool_step (pages_lent before) (pages_lent behind) _ read.bytes _ _ front c.in_ok-place.ensures.pool
          c.loop-read.invariant.pool;
      places = places_step (pages_lent before) (pages_lent behind) read.bytes _ _ c.loop-read.places.items
          c.push.new.self.items _ c.in_ok-place.place front c.in_ok-place.ensures.pool c.in_ok-place.ensures.place
          c.in_ok-push.ensures.items c.loop-read.invariant.places;
      few = omega (
        arith,
        few_more before behind read.bytes c.in_ok-place.ensures.pool,
        c.loop-read.invariant.few,
      );
    }

pub returns-clause-pool : goal.returns-clause-pool
returns-clause-pool c = pool_met (pages_lent c.loop-read.known.pool.items) _ c.args.reads.now c.loop-read.read-index
    c.loop-read-test.false c.loop-read.invariant.pool

pub returns-clause-places : goal.returns-clause-places
returns-clause-places c = places_met (pages_lent c.loop-read.known.pool.items) c.loop-read.places.items _
    c.args.reads.now c.loop-read.read-index c.loop-read-test.false c.loop-read.invariant.places

pub returns-clause-few : goal.returns-clause-few
returns-clause-few c = omega (arith, c.loop-read.invariant.few, c.loop-read.auto.read-index-end)
