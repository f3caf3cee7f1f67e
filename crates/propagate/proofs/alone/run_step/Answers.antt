-- Answers to the goals that the check of `run_step` leaves open.
use Rattle.std.proofs.Common.{◌≡◌, Result, Ok, Err, OnOk, refl, ap, sym, subst, ◌∙◌, arith}
use Rattle.std.specs.declared.alloc.AllocError.{AllocError}
use Rattle.std.specs.Arc.{arc_value}
use Rattle.thunk_spec.specs.Thunk.{Frame}
use Rattle.thunk_spec.specs.Record.{Record}
use Rattle.machine_spec.specs.Schedule.{record_of}
use Rattle.round_spec.specs.declared.events.Event.TheVariants.{Take, Commit}
use Rattle.round_spec.specs.Rounds.{happens}
use Rattle.propagate.specs.Committing.{CanCommit}
use Rattle.propagate.specs.Executing.{Costs}
use Rattle.propagate.proofs.Executing.{run-record, own-commits, own-counts}
use Rattle.propagate.proofs.alone.run_step.Goals as goal

pub commit_executed-requires : goal.commit_executed-requires
commit_executed-requires c =
    let own : arc_value c.in_ok-run.run'.rec ≡ record_of c.args.round.now.machine c.args.t =
    run-record c.args.round.now.machine c.args.t c.in_ok-job.job c.in_ok-run.run' c.in_ok-job.ensures.job
    c.in_ok-run.ensures.run in
    let thread : c.args.t ≡ (arc_value c.in_ok-run.run'.rec).thread = sym (ap (λ (r : Record). r.thread) own) in
    subst
    (λ t. CanCommit (happens c.args.round.now (Take t)) (arc_value c.in_ok-run.run'.frame) (arc_value c.in_ok-run.run'.rec))
    thread
    (subst
    (λ (f : Frame). CanCommit (happens c.args.round.now (Take c.args.t)) f (arc_value c.in_ok-run.run'.rec))
    (sym (c.in_ok-run.ensures.run.frame ∙ c.in_ok-job.ensures.job.frame))
    (own-commits c.args.round.now (happens c.args.round.now (Take c.args.t)) c.args.t
    (arc_value c.in_ok-run.run'.rec) c.start.ensures.valid.in_order c.requires refl own))

with_ok : {P Q : Type 0} (r : Result (Unit {0}) AllocError) → (P → Q) → OnOk r P → OnOk r Q
with_ok (Ok done) f p = f p
with_ok (Err e) f p = tt

pub returns-clause-ok : goal.returns-clause-ok
returns-clause-ok c =
    with_ok c.commit_executed.result
    (λ committed.
    let own : arc_value c.in_ok-run.run'.rec ≡ record_of c.args.round.now.machine c.args.t =
    run-record c.args.round.now.machine c.args.t c.in_ok-job.job c.in_ok-run.run' c.in_ok-job.ensures.job
    c.in_ok-run.ensures.run in
    committed
    ∙ ap (λ (r : Record). happens (happens c.args.round.now (Take r.thread)) (Commit r.thread)) own)
    c.commit_executed.ensures.ok

pub returns-clause-cost : goal.returns-clause-cost
returns-clause-cost c =
    with_ok c.commit_executed.result
    (λ committed.
    let own : arc_value c.in_ok-run.run'.rec ≡ record_of c.args.round.now.machine c.args.t =
    run-record c.args.round.now.machine c.args.t c.in_ok-job.job c.in_ok-run.run' c.in_ok-job.ensures.job
    c.in_ok-run.ensures.run in
    let counts =
    own-counts c.args.round.now (happens c.args.round.now (Take c.args.t)) c.commit_executed.new.self c.args.t
    (arc_value c.in_ok-run.run'.rec) c.start.ensures.valid.in_order c.start.ensures.valid.counted
    c.requires refl
    (committed
    ∙ ap (λ (r : Record).
    happens (happens c.args.round.now (Take r.thread)) (Commit (arc_value c.in_ok-run.run'.rec).thread)) own)
    own in
    let cost : Costs c.args.turns.now c.args.round.now c.execute.new.turns c.commit_executed.new.self =
    omega (arith, counts, c.in_ok-run.ensures.cost) in
    cost)
    c.commit_executed.ensures.ok
