-- Answers to the goals that the check of `Locked::next` leaves open.
use Rattle.std.proofs.Common.{suc, ap, sym, subst, ◌∙◌, arith}
use Rattle.round_spec.specs.declared.events.Event.TheVariants.{Stop}
use Rattle.round_spec.specs.Rounds.{RoundState, happens}
use Rattle.round_spec.specs.Choice.{pick_of}
use Rattle.rerun_workers.specs.Locking.{AssignsAfter}
use Rattle.rerun_workers.proofs.Following.{settled-more}
use Rattle.rerun_workers.proofs.locked.Locked.next.Goals as goal

pub loop-t-smaller : goal.loop-t-smaller
loop-t-smaller g c =
    let more = c.in-Ok.ensures.same.entries in let few = c.in-Ok.ensures.few in omega (arith, more, few)

pub loop-t-preserved : goal.loop-t-preserved
loop-t-preserved g c = (
  (
    suc c.loop-t.invariant.0.0,
    settled-more c.loop-t.invariant.0.0 c.in-Reuse.t c.args.self.now.round c.loop-t.self.round
        c.reuse.new.self.round c.loop-t.invariant.0.1 (sym c.pick.ensures.pick ∙ c.in-Reuse.is)
        c.in-Ok.ensures.ok,
  ),
  (let before = c.loop-t.invariant.1 in let counts = c.reuse.ensures.counts in omega (arith, before, counts)),
  (
      let before = c.loop-t.invariant.2 in
      let counts = c.reuse.ensures.counts in
      let more = c.in-Ok.ensures.same.entries in
      omega (arith, before, counts, more)
      ),
  c.reuse.ensures.asked ∙ c.loop-t.invariant.3,
  c.reuse.ensures.taken ∙ c.loop-t.invariant.4,
)

pub returns-then-matches-clause-does : goal.returns-then-matches-clause-does
returns-then-matches-clause-does g c =
    let so_far = c.loop-t.invariant.0 in (
      so_far.0,
      subst (λ (w : RoundState). AssignsAfter w c.begin-task.result c.begin-task.new.self.round) so_far.1
          c.begin-task.ensures.does,
    )

pub returns-else-matches-clause-does : goal.returns-else-matches-clause-does
returns-else-matches-clause-does g c =
    let so_far = c.loop-t.invariant.0 in (
      so_far.0,
      subst (λ (w : RoundState). AssignsAfter w c.begin-task.result c.begin-task.new.self.round) so_far.1
          c.begin-task.ensures.does,
    )

pub returns-in-Hold-clause-does : goal.returns-in-Hold-clause-does
returns-in-Hold-clause-does g c =
    let so_far = c.loop-t.invariant.0 in
    (so_far.0, (ap pick_of (sym so_far.1) ∙ sym c.pick.ensures.pick ∙ c.in-Hold.is, so_far.1))

pub returns-in-Over-clause-does : goal.returns-in-Over-clause-does
returns-in-Over-clause-does g c =
    let so_far = c.loop-t.invariant.0 in
    (so_far.0, (ap pick_of (sym so_far.1) ∙ sym c.pick.ensures.pick ∙ c.in-Over.is, so_far.1))

pub returns-in_default-clause-does : goal.returns-in_default-clause-does
returns-in_default-clause-does g c =
    let so_far = c.loop-t.invariant.0 in
    (so_far.0, c.stop.ensures.round ∙ ap (λ (w : RoundState). happens w Stop) (c.in_default.ensures.err ∙ so_far.1))
