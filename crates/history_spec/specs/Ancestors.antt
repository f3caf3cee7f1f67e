-- The steps of a history that must come before a step, directly or through others, and how many of each thread they
-- are.
use Rattle.std.specs.Prelude.{ℕ, zero, suc, ◌+◌, ◌==◌, ◌&&◌, ◌||◌, nat_lt, Bool, false, if◌then◌else◌, List, filter}
use Rattle.std.specs.List.{range_with_len}
use Rattle.history_spec.specs.Facts.{Fact}
use Rattle.history_spec.specs.Before.{fact_at, before_at}

-- Whether a test holds of some number below another.
abbrev pub any_below : (ℕ → Bool) → ℕ → Bool
any_below test zero = false
any_below test (suc n) = test n || any_below test n

-- Of how many numbers below another a test holds.
abbrev pub count_below : (ℕ → Bool) → ℕ → ℕ
count_below test zero = 0
count_below test (suc n) = (if test n then 1 else 0) + count_below test n

-- Whether a chain of at most n links leads from place i to the later place j, each link from a step to one that it must
-- come before.
abbrev pub reaches : List Fact → ℕ → ℕ → ℕ → Bool
reaches fs zero i j = false
reaches fs (suc n) i j = before_at fs i j || any_below (λ k. nat_lt i k && (reaches fs n i k && before_at fs k j)) j

-- Whether the step at place i is an ancestor of the one at place j.
abbrev pub is_ancestor : List Fact → ℕ → ℕ → Bool
is_ancestor fs i j = nat_lt i j && reaches fs j i j

-- The places of the steps that must come directly before the one at place i, in ascending order.
abbrev pub edges_at : List Fact → ℕ → List ℕ
edges_at fs i = filter (λ j. before_at fs j i) (range_with_len 0 i)

-- Whether the step at place k is the one at place i or an ancestor of it.
abbrev pub is_up_to : List Fact → ℕ → ℕ → Bool
is_up_to fs i k = (k == i) || is_ancestor fs k i

-- The clock of the step at place i: how many steps of a thread are that step or ancestors of it.
abbrev pub clock_at : List Fact → ℕ → ℕ → ℕ
clock_at fs i t = count_below (λ k. ((fact_at fs k).thread == t) && is_up_to fs i k) (suc i)

-- How many steps of its thread come before the step at place j.
abbrev pub number_at : List Fact → ℕ → ℕ
number_at fs j = count_below (λ k. (fact_at fs k).thread == (fact_at fs j).thread) j
