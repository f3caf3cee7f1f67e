-- The invariant of the loop of `views_of`.
use Rattle.std.proofs.Common.{◌≡◌, vec_len}
use Rattle.std.specs.Arc.{arc_value}
use Rattle.machine_calls.specs.Views.{AreViewsOf}
use Rattle.release_core.proofs.performing.views_of.Given as goal

abbrev pub invariant-loop : goal.invariant-loop
invariant-loop l = (AreViewsOf arc_value (arc_value l.memory) l.views.items) × (vec_len l.views ≡ l.counter)
