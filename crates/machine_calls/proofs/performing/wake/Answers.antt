-- Answers to the goals that the check of `wake` leaves open.
use Rattle.std.proofs.Common.{◌≡◌, ◌<◌, ◌≤◌, ◌+◌, ℕ, [], List, Option, drop, length, get_or, set, refl, sym, ap, ◌∙◌, arith}
use Rattle.std.proofs.lemmas.List.{at_drop_more, drop_all, get_or_default, set_past}
use Rattle.std.proofs.lemmas.Result.{err_from_is_err_and}
use Rattle.memory_spec.specs.Pages.{Memory}
use Rattle.machine_spec.specs.Machine.{Hart, hart_in, nobody}
use Rattle.machine_spec.specs.Performing.{woken, returned}
use Rattle.machine_calls.proofs.performing.wake.Goals as goal
use Rattle.machine_calls.proofs.performing.wake.Goals.{then-thread-harts, else-thread-harts}

-- the thread at an index is woken before those after it
woken-next :
    (memory : Memory) (reported : Option ℕ) (threads : List ℕ) (harts done : List Hart) (i u : ℕ)
    → i < length threads → u ≡ get_or threads i 0
    → done ≡ set harts u (returned memory 0 reported (hart_in harts u))
    → woken memory reported (drop (i + 1) threads) done ≡ woken memory reported (drop i threads) harts
woken-next memory reported threads harts done i u lt at is =
    rw (is, at) (sym (at_drop_more (λ rest. woken memory reported rest harts) threads i 0 lt))

pub loop-i-init : goal.loop-i-init
loop-i-init g c = record { harts = refl; views = c.requires; count = omega arith }

pub loop-i-preserved : goal.loop-i-preserved
loop-i-preserved g c =
    let harts = c.loop-i.harts in
    let u = c.from-thread.result in
    let next = woken-next (g.V.View.pages c.args.memory.now) c.args.reported c.args.threads.now harts c.if-thread-harts.harts
    c.loop-i.i u (omega arith) (c.from-thread.ensures ∙ c.number.ensures ∙ c.at.ensures) in
    record {
      harts =
          elim c.if-thread-harts.branch [
            | then-thread-harts w ↦
                let own = get_or_default harts u w.index-harts-thread.result nobody w.if-thread-harts.true in
                let new = rw (c.in_ok-view.ensures.view, own) at w.return_with.ensures in
                next (w.harts-is ∙ ap (set harts u) new) ∙ c.loop-i.invariant.harts
            | else-thread-harts w ↦
                next (w.harts-is ∙ sym (set_past harts u _ w.if-thread-harts.false)) ∙ c.loop-i.invariant.harts
          ];
      views = c.in_ok-view.ensures.rest;
      count = omega arith;
    }

pub returns : goal.returns
returns g c =
    let all : length c.args.threads.now ≤ c.loop-i.i = omega arith in
    let none : drop c.loop-i.i c.args.threads.now ≡ [] = drop_all c.loop-i.i c.args.threads.now all in
    record {
      harts = rw none at c.loop-i.invariant.harts;
      rest = c.loop-i.invariant.views;
      count = omega arith;
      few = tt;
      fits = omega arith;
    }

-- where no view was left and none could be made, fewer were given than there are threads
pub returns-in_err-view : goal.returns-in_err-view
returns-in_err-view g c =
    let failed = err_from_is_err_and c.from_residual.result c.from_residual.ensures.1 in
    rw failed.1 record {
      harts = tt;
      rest = c.in_err-view.ensures.rest;
      count = omega arith;
      few = omega (arith, c.in_err-view.ensures.none);
      fits = omega arith;
    }
