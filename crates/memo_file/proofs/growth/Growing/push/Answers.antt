-- Answers to the goals that the check of `push` leaves open: the counts after one more record.
use Rattle.std.proofs.Common.{◌≡◌, ◌++◌, ◌∷◌, [], length, sym, ap, subst, ◌∙◌, rules, arith}
use Rattle.std.specs.Arc.{arc_value}
use Rattle.memo_file.specs.Growth.{Growth, AreCounts}
use Rattle.memo_file.proofs.Counting.{few_of, counts_more}
use Rattle.memo_file.proofs.growth.Growing.push.Goals as goal

pub invariant_of-self : goal.invariant_of-self
invariant_of-self c = c.self.invariant

pub invariant_of-self-in_err-push : goal.invariant_of-self-in_err-push
invariant_of-self-in_err-push c = subst (AreCounts c.self.inside.counts) (sym c.in_err-push.ensures.err) c.self.invariant

pub overflow_add-self : goal.overflow_add-self
overflow_add-self c =
    let t : c.from-thread.result ≡ c.args.rec.thread = c.from-thread.ensures ∙ c.thread.ensures in
    omega (
      arith,
      c.self.invariant c.from-thread.result (omega (arith, t, c.requires.thread)),
      few_of c.self.inside.records c.from-thread.result,
      ap (λ (g : Growth). length g.records) c.self.view_is,
      c.requires.few,
    )

pub invariant_of-self-2 : goal.invariant_of-self-2
invariant_of-self-2 c =
    let t : c.from-thread.result ≡ c.args.rec.thread = c.from-thread.ensures ∙ c.thread.ensures in
    let rec : arc_value c.in_ok-new.field-0 ≡ c.args.rec = c.in_ok-new.ensures.ok in
    let len : length c.self.inside.counts ≡ 32 = search rules in
    rw (c.in_ok-push.ensures.ok, rec, t) (counts_more c.self.inside.counts c.self.inside.records c.args.rec len
    c.self.invariant c.requires.thread)

pub returns-clause-ok : goal.returns-clause-ok
returns-clause-ok c =
    let rec : arc_value c.in_ok-new.field-0 ≡ c.args.rec = c.in_ok-new.ensures.ok in
    rw (c.in_ok-push.ensures.ok, rec) (ap grown c.self.view_is)
  where
    grown : Growth → Growth
    grown g = record { records = g.records ++ c.args.rec ∷ []; used = c.args.used }
