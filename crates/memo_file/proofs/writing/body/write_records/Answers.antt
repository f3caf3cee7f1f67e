-- One more record.
use Rattle.std.proofs.Common.{◌≡◌, ◌++◌, List, length, Some, sym, ap, subst, ◌∙◌, arith}
use Rattle.std.specs.Prelude.{slice_get}
use Rattle.std.specs.Arc.{arc_value}
use Rattle.thunk_spec.specs.Record.{Record}
use Rattle.machine_spec.specs.Setup.{map_of}
use Rattle.memo_spec.specs.Encoding.{record_bytes, pool_of}
use Rattle.memo_file.specs.WritingPool.{pages_lent}
use Rattle.memo_file.specs.WritingSizes.{HasFewPages}
use Rattle.memo_file.proofs.WritingRecords.{one_written, all_written, mapped_in, placed_at, places_left}
use Rattle.memo_file.proofs.WritingSizes.{few_in_record}
use Rattle.memo_file.proofs.writing.body.write_records.Goals as goal

pub write_record-requires-clause-few : goal.write_record-requires-clause-few
write_record-requires-clause-few c =
    let at : slice_get c.args.history.now.records c.loop-place.place ≡ Some (arc_value c.at-rec.result.now) =
    ap (λ (rs : List Record). slice_get rs c.loop-place.place) (sym c.records-records.ensures.records) ∙ c.at-rec.ensures in
    subst HasFewPages (sym c.deref.ensures)
    (few_in_record c.args.history.now c.loop-place.place (arc_value c.at-rec.result.now) c.requires.encodable at)

pub write_record-requires-clause-placed : goal.write_record-requires-clause-placed
write_record-requires-clause-placed c =
    let at : slice_get c.args.history.now.records c.loop-place.place ≡ Some (arc_value c.at-rec.result.now) =
    ap (λ (rs : List Record). slice_get rs c.loop-place.place) (sym c.records-records.ensures.records) ∙ c.at-rec.ensures in
    placed_at (pool_of c.args.history.now) (pages_lent c.args.pool.now.pages.items) c.args.pool.now.places.items
    c.loop-place.start
    c.args.history.now.records c.loop-place.place (arc_value c.at-rec.result.now) _ at
    (ap (λ (r : Record). r.kept.reads) c.deref.ensures) c.requires.pool.pages c.loop-place.invariant.within
    c.loop-place.invariant.places

pub loop-place-preserved : goal.loop-place-preserved
loop-place-preserved c =
    let at : slice_get c.args.history.now.records c.loop-place.place ≡ Some (arc_value c.at-rec.result.now) =
    ap (λ (rs : List Record). slice_get rs c.loop-place.place) (sym c.records-records.ensures.records) ∙ c.at-rec.ensures in
    let same = c.pages.ensures.pages ∙ c.reads.ensures
    ∙ ap (λ (r : Record). r.kept.reads) c.deref-in-loop-place.ensures in
    let wrote = c.in_ok-write_record.ensures
    ∙ ap (λ (r : Record). c.loop-place.out.items ++ record_bytes c.args.slots.now
    (pages_lent c.args.pool.now.pages.items) r) c.deref.ensures in
    let left = places_left (pool_of c.args.history.now) c.args.pool.now.places.items c.loop-place.start
    c.args.history.now.records c.loop-place.place
    (arc_value c.at-rec.result.now) c.pages.result.now at same c.loop-place.invariant.within
    c.loop-place.invariant.places in
    record {
      so_far =
          one_written (record_bytes c.args.slots.now (pages_lent c.args.pool.now.pages.items))
          c.args.history.now.records c.loop-place.place
          (arc_value c.at-rec.result.now) c.loop-place.out.items c.write_record.new.out.items _ at wrote
          c.loop-place.invariant.so_far;
      places = left.0;
      within = left.1;
    }

pub write_record-requires-clause-mapped : goal.write_record-requires-clause-mapped
write_record-requires-clause-mapped c =
    let at : slice_get c.args.history.now.records c.loop-place.place ≡ Some (arc_value c.at-rec.result.now) =
    ap (λ (rs : List Record). slice_get rs c.loop-place.place) (sym c.records-records.ensures.records) ∙ c.at-rec.ensures in
    rw (c.requires.slots, c.deref.ensures) (mapped_in (length (map_of c.args.history.now.setup))
    c.args.history.now.records c.loop-place.place (arc_value c.at-rec.result.now) at c.records-records.ensures.mapped)

pub overflow_add-start : goal.overflow_add-start
overflow_add-start c =
    let at : slice_get c.args.history.now.records c.loop-place.place ≡ Some (arc_value c.at-rec.result.now) =
    ap (λ (rs : List Record). slice_get rs c.loop-place.place) (sym c.records-records.ensures.records) ∙ c.at-rec.ensures in
    let same = c.pages.ensures.pages ∙ c.reads.ensures
    ∙ ap (λ (r : Record). r.kept.reads) c.deref-in-loop-place.ensures in
    let left = places_left (pool_of c.args.history.now) c.args.pool.now.places.items c.loop-place.start
    c.args.history.now.records c.loop-place.place
    (arc_value c.at-rec.result.now) c.pages.result.now at same c.loop-place.invariant.within
    c.loop-place.invariant.places in
    omega (arith, left.1, c.args.pool.now.places.small)

pub returns : goal.returns
returns c = all_written (record_bytes c.args.slots.now (pages_lent c.args.pool.now.pages.items))
    c.args.history.now.records c.loop-place.place c.loop-place.out.items _
    (omega (
      arith,
      c.loop-place-test.false,
      c.len-place-end.ensures.count,
      ap (λ (rs : List Record). length rs)
          c.records-records.ensures.records,
    )) c.loop-place.invariant.so_far
