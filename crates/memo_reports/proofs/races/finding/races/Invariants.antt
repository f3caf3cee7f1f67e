-- What is known of the steps so far: their accesses, how many races they have, and the first of these.
use Rattle.std.proofs.Common.{◌≡◌, ◌<◌, ◌≤◌, ◌+◌, ◌++◌, ◌⊎◌, ℕ, [], length, get_or}
use Rattle.std.specs.List.{range_with_len, flat_map}
use Rattle.history_spec.specs.Facts.{facts}
use Rattle.round_spec.specs.Reach.{reads_of}
use Rattle.round_spec.specs.Races.{races_between}
use Rattle.memo_reports.specs.declared.races.past.PagePast.{PagePast}
use Rattle.memo_reports.specs.declared.races.steps.Step.{Step}
use Rattle.memo_reports.specs.Rows.{IsCounted}
use Rattle.memo_reports.proofs.Tally.{sum_below}
use Rattle.memo_reports.proofs.Between.{so_far}
use Rattle.memo_reports.proofs.Earlier.{HasPast}
use Rattle.memo_reports.proofs.races.finding.races.Given as goal

abbrev pub invariant-loop-place : goal.invariant-loop-place
invariant-loop-place l = record {
  long : length l.past.items ≡ l.pages;
  past : (p : ℕ) (s : Step) (page : PagePast) → p < l.pages
      → HasPast (facts l.history) (reads_of l.history) p l.place 0 s (get_or l.past.items p page);
  total : l.total
      ≡ sum_below
      (λ k. sum_below (λ i. length (races_between (facts l.history) (reads_of l.history) l.pages i k)) l.place-end)
      l.place;
  few : length l.first.rows.items ≤ l.place;
  rows : (i : ℕ) → i < length l.first.rows.items
      → get_or l.first.rows.items i []
      ≡ flat_map (races_between (facts l.history) (reads_of l.history) l.pages i) (range_with_len 0 l.place);
  counted : IsCounted l.first;
  enough : (length l.first.rows.items ≡ l.place) ⊎ (l.most ≤ l.first.many);
  most : l.first.most ≡ l.most;
}

abbrev pub invariant-loop-touch : goal.invariant-loop-touch
invariant-loop-touch l = record {
  long : length l.past.items ≡ l.pages;
  past : (p : ℕ) (page : PagePast) → p < l.pages
      → HasPast (facts l.history) (reads_of l.history) p l.place l.touch-index l.step (get_or l.past.items p page);
  total : l.total
      ≡ sum_below
      (λ k. sum_below (λ i. length (races_between (facts l.history) (reads_of l.history) l.pages i k)) l.place-end)
      l.place
      + sum_below
      (λ i. length (so_far (facts l.history) (reads_of l.history) i l.place l.touch-items l.touch-index))
      l.place-end;
  few : length l.first.rows.items ≤ l.place;
  rows : (i : ℕ) → i < length l.first.rows.items
      → get_or l.first.rows.items i []
      ≡ flat_map (races_between (facts l.history) (reads_of l.history) l.pages i) (range_with_len 0 l.place)
      ++ so_far (facts l.history) (reads_of l.history) i l.place l.touch-items l.touch-index;
  counted : IsCounted l.first;
  enough : (length l.first.rows.items ≡ l.place) ⊎ (l.most ≤ l.first.many);
  most : l.first.most ≡ l.most;
}
