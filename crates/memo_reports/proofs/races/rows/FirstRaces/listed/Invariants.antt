-- The races of the first rows, as many as are requested.
use Rattle.std.proofs.Common.{◌≡◌, List, take}
use Rattle.std.specs.List.{flat_map}
use Rattle.round_spec.specs.declared.Race.{Race}
use Rattle.memo_reports.proofs.races.rows.FirstRaces.listed.Given as goal

abbrev pub invariant-loop-row : goal.invariant-loop-row
invariant-loop-row l = l.races.items ≡ take l.self.most (flat_map (λ (row : List Race). row) (take l.row-index l.row-items))
