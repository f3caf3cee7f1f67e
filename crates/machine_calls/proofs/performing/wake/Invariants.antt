-- The invariant of the loop of `wake`.
use Rattle.std.proofs.Common.{◌≡◌, ◌≤◌, ◌+◌, drop, vec_len}
use Rattle.machine_spec.specs.Performing.{woken}
use Rattle.machine_calls.specs.Views.{AreViewsOf}
use Rattle.machine_calls.proofs.performing.wake.Given as goal

-- the woken threads so far, and the others, are all; and each of them has one view at most
abbrev pub invariant-loop-i : goal.invariant-loop-i
invariant-loop-i g l =
    let pages = g.V.View.pages in
    record {
      harts : woken (pages l.memory) l.reported (drop l.i l.threads) l.harts
          ≡ woken (pages l.memory) l.reported l.threads l.fn.harts;
      views : AreViewsOf pages (pages l.memory) l.views.items;
      count : vec_len l.fn.views ≤ vec_len l.views + l.i;
    }
