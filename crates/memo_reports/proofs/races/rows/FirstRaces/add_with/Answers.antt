-- The race with one more access is in its row.
use Rattle.std.proofs.Common.{◌≡◌, ◌<◌, ◌+◌, ℕ, false, ◌++◌, [], ◌∷◌, List, length, get_or, set, ap, sym, ◌∙◌, arith}
use Rattle.std.specs.List.{flat_map}
use Rattle.std.proofs.lemmas.List.{get_or_default, length-set}
use Rattle.round_spec.specs.declared.Race.{Race}
use Rattle.memo_reports.specs.declared.races.past.Access.{Access}
use Rattle.memo_reports.specs.Rows.{race_with}
use Rattle.memo_reports.proofs.Filling.{races-front, row-more}
use Rattle.memo_reports.proofs.Tally.{rows-pushed}
use Rattle.memo_reports.proofs.races.rows.FirstRaces.add_with.Goals as goal

-- the stand-in for an access past the end
abbrev none : Access
none = record { place = 0; thread = 0; number = 0; writes = false }

pub returns-then-access-len-clause-rows : goal.returns-then-access-len-clause-rows
returns-then-access-len-clause-rows c = λ i less.
    let xs = c.args.accesses.now in
    let k = c.loop-access.access-index in
    let x = get_or xs k none in
    let long = c.loop-access.invariant.long in
    let all = c.len.ensures in
    let past = c.if-access-len.true in
    c.loop-access.invariant.rows i less
    ∙ ap (λ (rs : List Race). get_or c.args.self.now.rows.items i [] ++ rs)
    (sym (races-front i c.args.later c.args.touch xs k x c.requires.order c.loop-access-test.true
    (get_or_default xs k none x c.loop-access-test.true) (omega arith)))

pub loop-access-preserved : goal.loop-access-preserved
loop-access-preserved c =
    let xs = c.args.accesses.now in
    let k = c.loop-access.access-index in
    let x = get_or xs k none in
    let rows = c.loop-access.self.rows.items in
    let all = c.len.ensures in
    let within : x.place < length rows = let low = c.if-access-len.false in omega arith in
    let pushed : c.add_race.new.self.rows.items
    ≡ set rows x.place (get_or rows x.place [] ++ race_with c.args.later c.args.touch x ∷ []) =
    c.in_ok-add_race.ensures.rows
    ∙ ap (λ (r : Race). set rows r.earlier (get_or rows r.earlier [] ++ r ∷ [])) c.race_with.ensures in
    record {
      rows = λ i less.
          row-more rows c.add_race.new.self.rows.items c.args.self.now.rows.items i c.args.later c.args.touch xs k x
          c.loop-access-test.true (get_or_default xs k none x c.loop-access-test.true) within pushed
          (c.loop-access.invariant.rows i less);
      long =
          ap (λ (rs : List (List Race)). length rs) pushed
          ∙ length-set rows x.place (get_or rows x.place [] ++ race_with c.args.later c.args.touch x ∷ [])
          ∙ c.loop-access.invariant.long;
      counted =
          c.in_ok-add_race.ensures.many
          ∙ ap (λ (n : ℕ). n + 1) c.loop-access.invariant.counted
          ∙ sym (ap (λ (rs : List (List Race)). length (flat_map (λ (row : List Race). row) rs)) pushed
          ∙ rows-pushed rows x.place (race_with c.args.later c.args.touch x) within);
      many = (let one = c.in_ok-add_race.ensures.many in let two = c.loop-access.invariant.many in omega arith);
      most = c.in_ok-add_race.ensures.most ∙ c.loop-access.invariant.most;
    }
