-- Whether two frames are the same.
use Rattle.std.specs.Prelude.{Bool, ◌==◌}
use Rattle.std.specs.Cmp.{IsEquivalence, and_equiv, on_equiv, nat_eq_equiv}
use Rattle.std.specs.Ordering.{eq_of_both, on}
use Rattle.thunk_spec.specs.Thunk.{Frame}
use Rattle.page_store.specs.Equal.{is_same_map, is_same_map-equiv}

-- Two frames have the same page map and the same fuel.
abbrev pub is_same_frame : Frame → Frame → Bool
is_same_frame = eq_of_both (on (λ frame. frame.map) is_same_map) (on (λ frame. frame.fuel) ◌==◌)

pub is_same_frame-equiv : IsEquivalence is_same_frame
is_same_frame-equiv =
    and_equiv (on_equiv (λ frame. frame.map) is_same_map-equiv) (on_equiv (λ frame. frame.fuel) nat_eq_equiv)
