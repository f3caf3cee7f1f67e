-- The races with one more thread's accesses are in their rows.
use Rattle.std.proofs.Common.{◌++◌, [], List, length, take, get_or, ap, sym, ◌∙◌, subst, arith}
use Rattle.std.specs.List.{filter, flat_map, count_by}
use Rattle.std.specs.List.Sorted.{IsNonDecreasingBy}
use Rattle.std.proofs.lemmas.List.{length-append}
use Rattle.std.proofs.lemmas.List.Kept.{IsNonDecreasingBy-filter}
use Rattle.std.proofs.lemmas.List.Sums.{length-filter, count_by-le-length}
use Rattle.round_spec.specs.declared.Race.{Race}
use Rattle.memo_reports.specs.declared.races.past.Access.{Access}
use Rattle.memo_reports.specs.declared.races.past.ThreadPast.{ThreadPast}
use Rattle.memo_reports.specs.Past.{races_with}
use Rattle.memo_reports.specs.Rows.{races_in}
use Rattle.memo_reports.proofs.Bounds.{filter-short}
use Rattle.memo_reports.proofs.Filling.{row-joined, races-joined}
use Rattle.memo_reports.proofs.Tally.{count-append}
use Rattle.memo_reports.proofs.Own.{flat-more, flat-within, past-at}
use Rattle.memo_reports.proofs.races.rows.FirstRaces.add.Goals as goal

pub add_with-requires-clause-order : goal.add_with-requires-clause-order
add_with-requires-clause-order c =
    let items = c.deref-past-items.result.now in
    let p = c.past-item.result in
    let is =
    past-at c.args.page.now items c.loop-past.past-index p c.requires.past c.deref-past-items.ensures.value
    c.loop-past-test.true c.past-item.is in
    subst (IsNonDecreasingBy (λ (a : Access). a.place)) (sym c.racing-racing.ensures)
    (IsNonDecreasingBy-filter (λ (a : Access). a.place) (races_with c.args.step.now c.args.touch.writes) p.all.items is.places)

pub add_with-requires-clause-room : goal.add_with-requires-clause-room
add_with-requires-clause-room c =
    let items = c.deref-past-items.result.now in
    let p = c.past-item.result in
    let f = λ (r : ThreadPast). r.all.items in
    let one = ap (λ (xs : List Access). length xs) c.racing-racing.ensures in
    let two = filter-short (races_with c.args.step.now c.args.touch.writes) p.all.items in
    let three = flat-within f items c.loop-past.past-index p c.loop-past-test.true c.past-item.is in
    let four = ap (λ (ps : List ThreadPast). length (flat_map f ps)) c.deref-past-items.ensures.value in
    let five = c.requires.room in
    let six = c.loop-past.invariant.many in
    omega arith

pub overflow_add-count : goal.overflow_add-count
overflow_add-count c =
    let q = races_with c.args.step.now c.args.touch.writes in
    let items = c.deref-past-items.result.now in
    let f = λ (p : ThreadPast). p.all.items in
    let one = ap (λ (xs : List Access). length xs) c.racing-racing.ensures in
    let two = filter-short q c.past-item.result.all.items in
    let three = count_by-le-length q (flat_map f (take c.loop-past.past-index items)) in
    let four = flat-within f items c.loop-past.past-index c.past-item.result c.loop-past-test.true c.past-item.is in
    let five = ap (λ (ps : List ThreadPast). length (flat_map f ps)) c.deref-past-items.ensures.value in
    let six = c.requires.room in
    let seven = c.loop-past.invariant.count in
    omega arith

pub loop-past-preserved : goal.loop-past-preserved
loop-past-preserved c =
    let items = c.deref-past-items.result.now in
    let k = c.loop-past.past-index in
    let p = c.past-item.result in
    let f = λ (r : ThreadPast). r.all.items in
    let q = races_with c.args.step.now c.args.touch.writes in
    let new = c.in_ok-add_with.ensures in
    let more = flat-more f items k p c.loop-past-test.true c.past-item.is in
    record {
      rows = λ i less.
          (let long = c.loop-past.invariant.long in
          row-joined (get_or c.args.self.now.rows.items i []) (get_or c.loop-past.self.rows.items i [])
          (get_or c.add_with.new.self.rows.items i []) (races_in i c.args.later c.args.touch (filter q (flat_map f (take k items))))
          (races_in i c.args.later c.args.touch (filter q p.all.items)) (c.loop-past.invariant.rows i less)
          (new.rows i (omega arith)
          ∙ ap (λ (xs : List Access). get_or c.loop-past.self.rows.items i [] ++ races_in i c.args.later c.args.touch xs) c.racing-racing.ensures)
          ∙ ap (λ (rs : List Race). get_or c.args.self.now.rows.items i [] ++ rs)
          (sym (ap (λ (xs : List Access). races_in i c.args.later c.args.touch (filter q xs)) more
          ∙ races-joined i c.args.later c.args.touch q (flat_map f (take k items)) p.all.items)));
      count =
          (let one = ap (λ (xs : List Access). length xs) c.racing-racing.ensures ∙ length-filter q p.all.items in
          let two = ap (count_by q) more ∙ count-append q (flat_map f (take k items)) p.all.items in
          let three = c.loop-past.invariant.count in
          omega arith);
      long = new.long ∙ c.loop-past.invariant.long;
      counted = new.counted;
      many =
          (let one = ap (λ (xs : List Access). length xs) c.racing-racing.ensures in
          let two = filter-short q p.all.items in
          let three = ap (λ (xs : List Access). length xs) more ∙ length-append (flat_map f (take k items)) p.all.items in
          let four = new.many in
          let five = c.loop-past.invariant.many in
          omega arith);
      more = (let one = c.loop-past.invariant.more in let two = new.more in omega arith);
      most = new.most ∙ c.loop-past.invariant.most;
    }
