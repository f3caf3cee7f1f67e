-- Answers to the goals that the check of `Times::give_by` leaves open.
use Rattle.std.proofs.Common.{◌≡◌, ◌<◌, length, set, slice_index, ap, sym, subst, ◌∙◌, arith, inl, inr}
use Rattle.std.proofs.Math.Nat.{le_refl}
use Rattle.std.proofs.lemmas.Bool.{cases_eq}
use Rattle.std.proofs.lemmas.List.{get_or-set_same, get_or-set_other, length-set}
use Rattle.known_pages.specs.Versions.{viewed_after}
use Rattle.known_pages.proofs.times.Times.give_by.Goals as goal

pub loop-u-preserved : goal.loop-u-preserved
loop-u-preserved c =
    let now = c.args.now in
    let m = c.args.core.now in
    let t = c.args.t in
    let before = c.args.self.now.viewed in
    let given = c.loop-u.self.viewed in
    let i = c.loop-u.u in
    let at = c.viewed_at.result in
    let below : i < length given = omega (arith, c.loop-u.invariant.count) in
    record {
      done = λ u seen.
          elim (cases_eq u i) [
            | inl own ↦
                subst (λ v. slice_index (set given i at) v ≡ viewed_after m t v (slice_index before v) now) (sym own)
                (get_or-set_same given i at 0 below
                ∙ c.viewed_at.ensures
                ∙ ap (λ n. viewed_after m t i n now) (c.loop-u.invariant.rest i (le_refl i)))
            | inr other ↦ get_or-set_other given i u at 0 other ∙ c.loop-u.invariant.done u (omega arith)
          ];
      rest = λ u past.
          get_or-set_other given i u at 0 (λ same. absurd (omega arith)) ∙ c.loop-u.invariant.rest u (omega arith);
      count = length-set given i at ∙ c.loop-u.invariant.count;
      written = c.loop-u.invariant.written;
    }
