-- Which entry of a round gave a thread its view, and which one stored a byte of it.
use Rattle.std.specs.Prelude.{ℕ, zero, suc, ◌==◌, ◌&&◌, ◌||◌, not, Bool, false, if◌then◌else◌, List, slice_get, slice_index, slice_index_or, Option, Some, None}
use Rattle.std.specs.List.{list_any}
use Rattle.thunk_spec.specs.Delta.{PageDelta}
use Rattle.thunk_spec.specs.Record.{Record}
use Rattle.machine_spec.specs.Machine.{Machine, hart_of, is_ready}

-- Whether a step of a thread gives another, or itself, a view: that one's call returns in the step, or it is created.
-- So it is ready after the step, and it made the step or wasn't ready before.
abbrev pub gives_view : Machine → Machine → ℕ → ℕ → Bool
gives_view before after thread t =
    is_ready (hart_of after t).status && ((thread == t) || not (is_ready (hart_of before t).status))

-- How many entries there are up to the one that gave a thread the view which it has before entry i: none, if it has the
-- view from the start. `before` has the machine before each entry.
abbrev pub view_since : (ℕ → Machine) → List ℕ → ℕ → ℕ → ℕ
view_since before schedule zero t = 0
view_since before schedule (suc i) t =
    if gives_view (before i) (before (suc i)) (slice_index schedule i) t then suc i else view_since before schedule i t

-- Whether a record, if there is one, stored to a place of the page in a slot.
abbrev pub stores : ℕ → ℕ → Option Record → Bool
stores slot place None = false
stores slot place (Some r) =
    list_any (λ (d : PageDelta). (d.slot == slot) && slice_index_or d.mask place false) r.kept.delta

-- The last of the first n records that stored to a place of the page in a slot.
abbrev pub last_store : List Record → ℕ → ℕ → ℕ → Option ℕ
last_store records zero slot place = None
last_store records (suc n) slot place =
    if stores slot place (slice_get records n) then Some n else last_store records n slot place
