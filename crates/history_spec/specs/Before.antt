-- Which steps of a history must come before which.
use Rattle.std.specs.Prelude.{ℕ, zero, suc, ◌==◌, ◌||◌, ◌&&◌, not, nat_le, Bool, true, false, List, [], slice_index_or}
use Rattle.std.specs.List.{list_any}
use Rattle.guest_call.specs.declared.Object.{Object}
use Rattle.guest_call.specs.Locality.{is_among}
use Rattle.history_spec.specs.Facts.{Fact}

-- Whether a number is in a list.
abbrev pub is_in : ℕ → List ℕ → Bool
is_in k ks = list_any (λ n. n == k) ks

-- Whether two lists have a number in common.
abbrev pub meets : List ℕ → List ℕ → Bool
meets ks ls = list_any (λ k. is_in k ls) ks

-- Whether two lists have an object in common.
abbrev pub overlap : List Object → List Object → Bool
overlap objects others = list_any (λ p. is_among p others) objects

-- The stand-in for the fact at a place that has none.
abbrev pub no_fact : Fact
no_fact = record { thread = 0; objects = []; given = []; written = []; opened = []; last = false }

-- The fact at a place.
abbrev pub fact_at : List Fact → ℕ → Fact
fact_at fs i = slice_index_or fs i no_fact

-- Whether a test holds of each number below another.
abbrev pub all_below : (ℕ → Bool) → ℕ → Bool
all_below test zero = true
all_below test (suc n) = test n && all_below test n

-- Whether no step between places i and j is of j's thread: so j's thunk is the next one of its thread after i.
abbrev pub is_next_at : List Fact → ℕ → ℕ → Bool
is_next_at fs i j = all_below (λ k. nat_le k i || not ((fact_at fs k).thread == (fact_at fs j).thread)) j

-- Whether the step at place i must come before the one at the later place j: both are of one thread; i gave the view of
-- j's thunk; both act on one object; i writes a page that j writes or opens; i opens a page that j writes; or j ends
-- the run.
abbrev pub before_at : List Fact → ℕ → ℕ → Bool
before_at fs i j =
    ((fact_at fs i).thread == (fact_at fs j).thread)
    || ((is_in (fact_at fs j).thread (fact_at fs i).given && is_next_at fs i j)
    || (overlap (fact_at fs i).objects (fact_at fs j).objects
    || (meets (fact_at fs i).written (fact_at fs j).written
    || (meets (fact_at fs i).written (fact_at fs j).opened
    || (meets (fact_at fs i).opened (fact_at fs j).written
    || (fact_at fs j).last)))))

-- The same of a step and another that is the next one of its thread.
abbrev pub before : Fact → Fact → Bool
before i j =
    (i.thread == j.thread)
    || (is_in j.thread i.given
    || (overlap i.objects j.objects
    || (meets i.written j.written || (meets i.written j.opened || (meets i.opened j.written || j.last)))))
