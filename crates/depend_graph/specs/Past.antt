-- What the clocks of later steps need of the steps so far.
use Rattle.std.specs.Prelude.{ℕ, ◌<◌, ◌==◌, ◌&&◌, ◌||◌, not, nat_le, Bool, List}
use Rattle.guest_call.specs.declared.thread_number.TheConstants.{THREADS}
use Rattle.guest_call.specs.declared.Object.{Object}
use Rattle.guest_call.specs.Locality.{is_among}
use Rattle.history_spec.specs.Facts.{Fact}
use Rattle.history_spec.specs.Before.{is_in, fact_at, all_below}
use Rattle.depend_graph.specs.Joins.{IsJoinOf}
use Rattle.depend_graph.specs.Clocks.{thread_clock, object_clock, page_clock}
use Rattle.depend_graph.specs.declared.past.Past.{Past}

-- Whether the step at place i is of a thread; acts on an object; writes a page; opens a page.
abbrev pub is_of : List Fact → ℕ → ℕ → Bool
is_of fs t i = (fact_at fs i).thread == t

abbrev pub acts_on : List Fact → Object → ℕ → Bool
acts_on fs o i = is_among o (fact_at fs i).objects

abbrev pub writes : List Fact → ℕ → ℕ → Bool
writes fs p i = is_in p (fact_at fs i).written

abbrev pub opens : List Fact → ℕ → ℕ → Bool
opens fs p i = is_in p (fact_at fs i).opened

-- Whether the step at place i gave thread t a view, and no step of t is between it and place n.
abbrev pub gives : List Fact → ℕ → ℕ → ℕ → Bool
gives fs n t i = is_in t (fact_at fs i).given && all_below (λ k. nat_le k i || not ((fact_at fs k).thread == t)) n

-- The clocks of the first n steps, joined by what they did.
pub record IsPastOf (fs : List Fact) (n : ℕ) (past : Past) : Type 0 where
  pub threads : (t : ℕ) → t < THREADS → IsJoinOf fs (is_of fs t) n (thread_clock past.threads t)
  pub givers : (t : ℕ) → t < THREADS → IsJoinOf fs (gives fs n t) n (thread_clock past.givers t)
  pub objects : (o : Object) → IsJoinOf fs (acts_on fs o) n (object_clock past.objects o)
  pub writers : (p : ℕ) → IsJoinOf fs (writes fs p) n (page_clock past.writers p)
  pub openers : (p : ℕ) → IsJoinOf fs (opens fs p) n (page_clock past.openers p)
