-- The records' pages lead to the pool of all, and the places of all.
use Rattle.std.proofs.Common.{◌≡◌, ◌≤◌, List, length, Some, refl, sym, ap, ◌∙◌, arith}
use Rattle.std.specs.Prelude.{slice_get}
use Rattle.std.specs.Arc.{arc_value}
use Rattle.thunk_spec.specs.Record.{Record}
use Rattle.memo_file.proofs.WritingPool.{nothing_indexed, reads_within, pool_on, places_on, pool_done}
use Rattle.memo_file.proofs.WritingSizes.{few_read, few_in_pool}
use Rattle.memo_file.proofs.writing.pool.pool_of_history.Goals as goal

pub loop-place-init : goal.loop-place-init
loop-place-init c =
    rw (c.new.ensures.items, c.new-places.ensures.items)
    (record {
      indexed = nothing_indexed c.new-2.result c.new-2.ensures.empty;
      pool = refl;
      places = refl;
      few =
          omega (arith, few_read c.args.history.now c.requires);
    })

pub add_reads-requires-clause-few : goal.add_reads-requires-clause-few
add_reads-requires-clause-few c =
    let at : slice_get c.args.history.now.records c.loop-place.place ≡ Some (arc_value c.at.result.now) =
    ap (λ (rs : List Record). slice_get rs c.loop-place.place) (sym c.records-records.ensures.records) ∙ c.at.ensures in
    let same = c.pages.ensures.pages ∙ c.reads.ensures ∙ ap (λ (r : Record). r.kept.reads) c.deref.ensures in
    omega (
      arith,
      ap length same,
      reads_within c.args.history.now.records c.loop-place.place
          (arc_value c.at.result.now) at,
      c.loop-place.invariant.few,
    )

pub loop-place-preserved : goal.loop-place-preserved
loop-place-preserved c =
    let at : slice_get c.args.history.now.records c.loop-place.place ≡ Some (arc_value c.at.result.now) =
    ap (λ (rs : List Record). slice_get rs c.loop-place.place) (sym c.records-records.ensures.records) ∙ c.at.ensures in
    let same = c.pages.ensures.pages ∙ c.reads.ensures ∙ ap (λ (r : Record). r.kept.reads) c.deref.ensures in
    record {
      indexed = c.in_ok-add_reads.ensures.indexed;
      pool = pool_on c.args.history.now.records c.loop-place.place (arc_value c.at.result.now) _ _ _ _ at same
          c.in_ok-add_reads.ensures.pool c.loop-place.invariant.pool;
      places = places_on c.args.history.now.records c.loop-place.place (arc_value c.at.result.now) _ _ _ _ _ _ at same
          c.in_ok-add_reads.ensures.pool c.in_ok-add_reads.ensures.places c.loop-place.invariant.places;
      few = omega (
        arith,
        ap length same,
        reads_within c.args.history.now.records c.loop-place.place
            (arc_value c.at.result.now) at,
        c.loop-place.invariant.few,
        c.in_ok-add_reads.ensures.few,
      );
    }

pub returns : goal.returns
returns c =
    let past : length c.args.history.now.records ≤ c.loop-place.place =
    omega (arith, c.loop-place-test.false, c.len-place-end.ensures, ap length c.records-records.ensures.records) in
    pool_done c.args.history.now c.loop-place.place _ _ past (few_in_pool c.args.history.now c.requires)
    c.loop-place.invariant.pool c.loop-place.invariant.places
