-- One more record.
use Rattle.std.proofs.Common.{◌≡◌, List, Some, sym, ap, subst, ◌∙◌, arith}
use Rattle.std.specs.Prelude.{slice_get}
use Rattle.std.specs.Arc.{arc_value}
use Rattle.thunk_spec.specs.Record.{Record}
use Rattle.memo_file.specs.WritingSizes.{record_size, HasFewPages}
use Rattle.memo_file.proofs.WritingSizes.{few_in_record, sum_from}
use Rattle.memo_file.proofs.writing.sizes.size_of_memo.Goals as goal

pub size_of_record-size-requires : goal.size_of_record-size-requires
size_of_record-size-requires c =
    let at : slice_get c.args.history.now.records c.loop-place.place ≡ Some (arc_value c.at.result.now) =
    ap (λ (rs : List Record). slice_get rs c.loop-place.place) (sym c.records-records.ensures.records) ∙ c.at.ensures in
    subst HasFewPages (sym c.deref.ensures)
    (few_in_record c.args.history.now c.loop-place.place (arc_value c.at.result.now) c.requires.encodable at)

pub loop-place-preserved : goal.loop-place-preserved
loop-place-preserved c =
    let at : slice_get c.args.history.now.records c.loop-place.place ≡ Some (arc_value c.at.result.now) =
    ap (λ (rs : List Record). slice_get rs c.loop-place.place) (sym c.records-records.ensures.records) ∙ c.at.ensures in
    let size : c.size_of_record-size.result ≡ record_size (arc_value c.at.result.now) =
    c.size_of_record-size.ensures.size ∙ ap record_size c.deref.ensures in
    record {
      so_far =
          omega (
            arith,
            sum_from record_size c.args.history.now.records c.loop-place.place (arc_value c.at.result.now)
                at,
            size,
            c.loop-place.invariant.so_far,
          );
      few = omega (arith, c.size_of_record-size.ensures.most, c.loop-place.invariant.few);
    }
