-- Reorderings of a history, as lists of its places, and when records lead to the same as the history.
use Rattle.std.specs.Prelude.{◌≡◌, ℕ, ◌&&◌, ◌||◌, not, nat_lt, Bool, true, List, [], ◌∷◌, length, map, filter_map, slice_get}
use Rattle.thunk_spec.specs.Record.{Record}
use Rattle.machine_spec.specs.Setup.{first, scratch}
use Rattle.history_spec.specs.History.{History, schedule_of, applied_from, can_apply_from}
use Rattle.history_spec.specs.Facts.{Fact}
use Rattle.history_spec.specs.Before.{is_in, fact_at, all_below, before_at}

-- Whether places are those of a history that haven't come yet, each once, and each comes after all that must come
-- before it.
abbrev pub is_order_after : List Fact → List ℕ → List ℕ → Bool
is_order_after fs come [] = all_below (λ i. is_in i come) (length fs)
is_order_after fs come (j ∷ places) =
    (nat_lt j (length fs) && not (is_in j come))
    && (all_below (λ i. is_in i come || not (before_at fs i j)) j && is_order_after fs (j ∷ come) places)

-- Whether places are a reordering of a history: all of its places, each once and after all that must come before it.
abbrev pub is_order : List Fact → List ℕ → Bool
is_order fs places = is_order_after fs [] places

-- Its schedule.
abbrev pub threads_at : List Fact → List ℕ → List ℕ
threads_at fs places = map (λ j. (fact_at fs j).thread) places

-- The records at some places.
abbrev pub records_at : List Record → List ℕ → List Record
records_at records places = filter_map (λ j. slice_get records j) places

-- Records lead to the same as a history does: applied one after the other from its start on, each fits when it comes,
-- no end comes before the last, and end, output and memory are those that the history came to.
pub record LeadToTheSame (h : History) (records : List Record) : Type 0 where
  pub fits : can_apply_from (first h.setup) records ≡ true
  pub ending : (applied_from (first h.setup) records).ending ≡ (scratch h.setup (schedule_of h)).ending
  pub output : (applied_from (first h.setup) records).output ≡ (scratch h.setup (schedule_of h)).output
  pub memory : (applied_from (first h.setup) records).memory ≡ (scratch h.setup (schedule_of h)).memory
