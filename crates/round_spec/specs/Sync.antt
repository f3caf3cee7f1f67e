-- The order of a history's steps by threads and objects alone.
use Rattle.std.specs.Prelude.{ℕ, zero, suc, Bool, false, List, [], map}
use Rattle.history_spec.specs.Facts.{Fact}
use Rattle.history_spec.specs.Ancestors.{is_up_to, clock_at}
use Rattle.round_spec.specs.Reach.{giver_end}

-- What a step does, without its pages, and without whether it ends the run.
abbrev pub sync_fact : Fact → Fact
sync_fact f =
    record { thread = f.thread; objects = f.objects; given = f.given; written = []; opened = []; last = false }

-- The same of each step.
abbrev pub sync_facts : List Fact → List Fact
sync_facts fs = map sync_fact fs

-- Whether the step at place i is the one just below a bound or an ancestor of it, by threads and objects alone.
abbrev pub is_within : List Fact → ℕ → ℕ → Bool
is_within fs zero i = false
is_within fs (suc g) i = is_up_to (sync_facts fs) g i

-- Whether the step at place i comes before the thunk at place j: it gave that thunk its view, or is an ancestor of the
-- step that did.
unfoldable pub is_ordered : List Fact → ℕ → ℕ → Bool
is_ordered fs i j = is_within fs (giver_end fs j) i

-- How many steps of a thread are the one just below a bound or ancestors of it, by threads and objects alone.
abbrev pub count_within : List Fact → ℕ → ℕ → ℕ
count_within fs zero t = 0
count_within fs (suc g) t = clock_at (sync_facts fs) g t

-- How many steps of a thread come before the thunk at place j.
unfoldable pub seen_at : List Fact → ℕ → ℕ → ℕ
seen_at fs j t = count_within fs (giver_end fs j) t
