-- The choice of the next thread, as far as threads were looked at.
use Rattle.std.specs.Prelude.{◌≡◌, ◌≢◌, ◌<◌, ℕ, Bool, true, false, ◌&&◌, ◌||◌, ◌==◌, nat_lt, nat_le, if◌then◌else◌, List, filter, slice_index_or, Option, Some, None, option_map}
use Rattle.std.specs.List.{range_with_len}
use Rattle.guest_call.specs.declared.thread_number.TheConstants.{THREADS}
use Rattle.machine_spec.specs.Machine.{Machine, hart_of}
use Rattle.history_spec.specs.History.{History}
use Rattle.round_spec.specs.declared.events.Pick.{Pick}
use Rattle.round_spec.specs.declared.events.Pick.TheVariants as pick
use Rattle.round_spec.specs.Rounds.{RoundState, is_free_in}
use Rattle.round_spec.specs.Due.{place_in, is_due, has_exited}
use Rattle.round_spec.specs.Choice.{best}
use Rattle.propagate.specs.declared.picking.Candidate.{Candidate}
use Rattle.propagate.specs.declared.picking.Leaders.{Leaders}

-- What the choice looks at of a thread.
abbrev pub candidate_of : Option History → Machine → ℕ → Candidate
candidate_of past m t = record { thread = t; place = place_in past m t; number = (hart_of m t).number }

-- The free threads of a round that are below a number, and those of them that are due.
abbrev pub free_below : RoundState → ℕ → List ℕ
free_below w t = filter (is_free_in w.machine w.in_flight) (range_with_len 0 t)

abbrev pub due_below : RoundState → ℕ → List ℕ
due_below w t = filter (is_due w.past w.machine) (free_below w t)

-- The best of some threads of a round, with what the choice looks at.
abbrev pub leader_of : RoundState → List ℕ → Option Candidate
leader_of w threads = option_map (candidate_of w.past w.machine) (best w.past w.machine threads)

-- The best of the free threads below a number, and the best of those of them that are due.
pub record AreLeadersBelow (w : RoundState) (t : ℕ) (found : Leaders) : Type 0 where
  pub due : found.due ≡ leader_of w (due_below w t)
  pub free : found.free ≡ leader_of w (free_below w t)

-- Whether a thread comes before one of a lower number: it has an earlier place, or the same place and fewer steps made.
abbrev pub comes_before : Candidate → Candidate → Bool
comes_before next leader =
    nat_lt next.place leader.place || ((next.place == leader.place) && nat_lt next.number leader.number)

-- Whether a thread of a higher number comes before a leader, if there is one.
abbrev pub leads : Option Candidate → Candidate → Bool
leads None next = true
leads (Some leader) next = comes_before next leader

-- The better of a leader, if there is one, and of a thread of a higher number.
abbrev pub better : Option Candidate → Candidate → Candidate
better None next = next
better (Some leader) next = if comes_before next leader then next else leader

-- Whether a thread has made so many steps, or has ended.
abbrev pub has_made : Machine → ℕ → ℕ → Bool
has_made m t steps = nat_le steps (hart_of m t).number || has_exited m t

-- Each thread but one has made the steps that a clock counts of it, or has ended.
pub record HaveMade (m : Machine) (t : ℕ) (clock : List ℕ) : Type 0 where
  pub each : (u : ℕ) → u < THREADS → u ≢ t → has_made m u (slice_index_or clock u 0) ≡ true

-- Whether a pick is to reuse a record or to execute a step.
abbrev pub is_something : Pick → Bool
is_something (pick.Reuse t) = true
is_something (pick.Run t) = true
is_something pick.Hold = false
is_something pick.Over = false
