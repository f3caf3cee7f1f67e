-- What changed pages reach, computed in one pass over the steps.
use Rattle.std.specs.Prelude.{◌≡◌, ◌<◌, ℕ, suc, ◌==◌, ◌&&◌, ◌||◌, not, nat_lt, nat_le, Bool, false, List, map, Vec, slice_index, slice_index_or, if◌then◌else◌}
use Rattle.std.specs.Global.{Global}
use Rattle.std.specs.Option.{option_map_or}
use Rattle.std.specs.Ordering.{nat_cmp}
use Rattle.std.specs.BTreeMap.{get}
use Rattle.guest_call.specs.declared.thread_number.TheConstants.{THREADS}
use Rattle.history_spec.specs.Facts.{Fact}
use Rattle.history_spec.specs.Before.{is_in, fact_at, all_below}
use Rattle.history_spec.specs.Ancestors.{any_below}
use Rattle.round_spec.specs.Reach.{is_reached, last_below}
use Rattle.depend_graph.specs.Past.{is_of, writes, gives}
use Rattle.depend_graph.specs.declared.reaching.Changes.{Changes}
use Rattle.depend_graph.specs.declared.reaching.Reached.{Reached}

-- The slots in each of some vectors, in order.
abbrev pub slots_of_each : List (Vec ℕ Global) → List (List ℕ)
slots_of_each vectors = map (λ v. v.items) vectors

-- Whether a view that the step just before a place gave shows a page with a change.
abbrev pub shows : Changes → ℕ → ℕ → Bool
shows c p e = option_map_or (λ from. nat_le from e) (get nat_cmp c.from p) false

-- Whether the last step of a thread is reached, and one more than the place of the step that gave its next thunk a
-- view, or 0 if no step did.
abbrev pub led_of : Reached → ℕ → Bool
led_of past t = slice_index_or past.led t false

abbrev pub end_of : Reached → ℕ → ℕ
end_of past t = slice_index past.ends t

-- Whether the step at place i is of a thread, and no step of it is between this one and place n.
abbrev pub is_last : List Fact → ℕ → ℕ → ℕ → Bool
is_last fs n t i = is_of fs t i && all_below (λ k. nat_le k i || not ((fact_at fs k).thread == t)) n

-- One step more, at a place, which is reached or not.
pub record IsStepMore (before after : Reached) (f : Fact) (place : ℕ) (reached : Bool) : Type 0 where
  pub led : (t : ℕ) → t < THREADS → led_of after t ≡ (if f.thread == t then reached else led_of before t)
  pub ends : (t : ℕ) → t < THREADS
      → end_of after t ≡ (if is_in t f.given then suc place else if f.thread == t then 0 else end_of before t)
  pub shows : (p e : ℕ)
      → shows after.changes p e ≡ (shows before.changes p e || (reached && (nat_lt place e && is_in p f.written)))

-- What later steps need of the first n steps, if some pages are changed.
pub record IsReachedPast (fs : List Fact) (reads : List (List ℕ)) (pages : List ℕ) (n : ℕ) (past : Reached) : Type 0
  where
    pub led : (t : ℕ) → t < THREADS
        → led_of past t ≡ any_below (λ i. is_reached fs reads pages i && is_last fs n t i) n
    pub ends : (t : ℕ) → t < THREADS → end_of past t ≡ last_below (gives fs n t) n
    pub shows : (p e : ℕ)
        → shows past.changes p e
        ≡ (is_in p pages || any_below (λ w. is_reached fs reads pages w && (nat_lt w e && writes fs p w)) n)
