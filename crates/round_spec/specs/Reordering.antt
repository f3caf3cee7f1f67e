-- Rounds that reuse the steps of a history in another order.
use Rattle.std.specs.Prelude.{◌≡◌, ℕ, true, List, map}
use Rattle.machine_spec.specs.Setup.{scratch}
use Rattle.history_spec.specs.History.{History, schedule_of}
use Rattle.round_spec.specs.declared.events.Event.{Event}
use Rattle.round_spec.specs.declared.events.Event.TheVariants.{Reuse}
use Rattle.round_spec.specs.Rounds.{RoundState}
use Rattle.history_spec.specs.Facts.{facts}
use Rattle.history_spec.specs.Orders.{threads_at}

-- The events that reuse the steps of a history in the order of some of its places.
abbrev pub reuses_of : History → List ℕ → List Event
reuses_of h places = map (λ t. Reuse t) (threads_at (facts h) places)

-- A round has reused all steps of a history in the order of these places: each entry is marked as reused, and end,
-- output and memory are those that the history came to.
pub record ReusesInOrder (h : History) (places : List ℕ) (w : RoundState) : Type 0 where
  pub schedule : w.schedule ≡ map (λ t. record { thread = t; reused = true }) (threads_at (facts h) places)
  pub ending : w.machine.ending ≡ (scratch h.setup (schedule_of h)).ending
  pub output : w.machine.output ≡ (scratch h.setup (schedule_of h)).output
  pub memory : w.machine.memory ≡ (scratch h.setup (schedule_of h)).memory
