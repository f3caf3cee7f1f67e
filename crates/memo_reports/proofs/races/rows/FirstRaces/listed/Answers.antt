-- The races of one more row, as far as there is room.
use Rattle.std.proofs.Common.{◌≡◌, ◌-◌, ℕ, ◌++◌, List, length, take, min, ap, ap₂, sym, ◌∙◌, arith}
use Rattle.std.specs.List.{flat_map}
use Rattle.std.proofs.lemmas.List.{length-take, take_all, take_min}
use Rattle.round_spec.specs.declared.Race.{Race}
use Rattle.memo_reports.proofs.Filling.{take-both}
use Rattle.memo_reports.proofs.Own.{flat-more}
use Rattle.memo_reports.proofs.races.rows.FirstRaces.listed.Goals as goal

pub loop-row-preserved : goal.loop-row-preserved
loop-row-preserved c =
    let rows = c.deref-row-items.result.now in
    let k = c.loop-row.row-index in
    let most = c.args.self.now.most in
    let row = c.row-item.result in
    let before = flat_map (λ (r : List Race). r) (take k rows) in
    let has = c.len.ensures in
    let had = ap (λ (rs : List Race). length rs) c.loop-row.invariant ∙ length-take most before in
    let room : most - c.len.result ≡ most - length before = omega arith in
    c.in_ok-extend_from_slice.ensures.items
    ∙ ap₂ (λ (rs xs : List Race). rs ++ xs) c.loop-row.invariant
    (ap₂ (λ (n : ℕ) (xs : List Race). take n xs) c.min.ensures c.as_slice-row.ensures
    ∙ ap (λ (xs : List Race). take (min (most - c.len.result) (length xs)) row) c.as_slice-row.ensures
    ∙ take_min (most - c.len.result) row
    ∙ ap (λ (n : ℕ). take n row) room)
    ∙ sym (ap (take most) (flat-more (λ (r : List Race). r) rows k row c.loop-row-test.true c.row-item.is)
    ∙ take-both most before row)

pub returns : goal.returns
returns c =
    let rows = c.deref-row-items.result.now in
    let end = c.loop-row-test.false in
    c.loop-row.invariant
    ∙ ap (λ (rs : List (List Race)). take c.args.self.now.most (flat_map (λ (row : List Race). row) rs))
    (take_all c.loop-row.row-index rows end ∙ c.deref-row-items.ensures.value)
