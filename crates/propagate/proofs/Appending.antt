-- When a record may be appended, and the round after an event.
use Rattle.std.proofs.Common.{◌≡◌, ◌<◌, ℕ, zero, suc, Bool, true, false, not, ◌||◌, eqb, List, [], ◌∷◌, ◌++◌, length, count_by, Option, Some, None, is_some, is_none, refl, ap, sym, ◌∙◌, arith}
use Rattle.std.proofs.lemmas.Bool.{and_parts}
use Rattle.std.proofs.lemmas.Bool.Decides.{nat_tests}
use Rattle.thunk_spec.specs.Record.{Record, fits_at}
use Rattle.machine_spec.specs.declared.states.End.{End}
use Rattle.machine_spec.specs.Machine.{Machine, hart_of, is_ready}
use Rattle.machine_spec.specs.Step.{fits, can_step}
use Rattle.history_spec.specs.History.{threads_of_records}
use Rattle.history_spec.proofs.Truth.{past-of}
use Rattle.round_spec.specs.Marks.{record_for, fits_next}
use Rattle.round_spec.specs.Rounds.{RoundState, is_finished, is_in_flight_of, can_begin, can_take, can_reuse}
use Rattle.round_spec.specs.Keeping.{IsInOrder, IsCounted}
use Rattle.round_spec.proofs.Happening.{CanBegin, can_begin-parts}
use Rattle.round_spec.proofs.Picks.{below-32}
use Rattle.propagate.proofs.Keeping.{record_count}

pub in_flight-below : (in_flight : List Bool) (t : ℕ) → is_in_flight_of in_flight t ≡ true → t < length in_flight
in_flight-below [] t is = cc
in_flight-below (b ∷ in_flight) zero is = omega arith
in_flight-below (b ∷ in_flight) (suc t) is = let below = in_flight-below in_flight t is in omega arith

none-is : (e : Option End) → is_none e ≡ true → e ≡ None
none-is (Some e) h = cc
none-is None h = refl

pub going-none : (e : Option End) (stopped : Bool) → (is_some e || stopped) ≡ false → is_none e ≡ true
going-none (Some e) stopped h = cc
going-none None stopped h = refl

-- a record that may be appended
pub record CanAppend (w : RoundState) (r : Record) : Type 0 where
  pub can : can_step w.machine r.thread ≡ true
  pub ready : is_ready (hart_of w.machine r.thread).status ≡ true
  pub few : length w.records < 65536
  pub thread : r.thread < 32
  pub number : r.number ≡ count_by (λ t. eqb t r.thread) (threads_of_records w.records)

can-append :
    (w : RoundState) (r : Record)
    → IsInOrder w → IsCounted w
    → is_none w.machine.ending ≡ true → is_ready (hart_of w.machine r.thread).status ≡ true
    → r.number ≡ (hart_of w.machine r.thread).number
    → CanAppend w r
can-append w r kept counted none ready number =
    let left = kept.whole.steps_left (none-is w.machine.ending none) in
    let most = kept.whole.limits.most_steps in
    let count = record_count w counted in
    let steps = counted.steps in
    record {
      can = rw (none, ready) refl;
      ready = ready;
      few = omega arith;
      thread = below-32 w.machine r.thread kept.whole ready;
      number =
          number ∙ counted.numbers r.thread
          ∙ ap (λ (ts : List ℕ). count_by (λ t. eqb t r.thread) ts) (sym counted.threads);
    }

fits-parts :
    (m : Machine) (r : Record) → fits m r ≡ true
    → (is_ready (hart_of m r.thread).status ≡ true) × (r.number ≡ (hart_of m r.thread).number)
unfolding fits fits_at
fits-parts m r fit = (grind (arith, nat_tests), grind (arith, nat_tests))

-- one that fits, in a round that isn't finished
pub fitting-append :
    (w : RoundState) (r : Record) → IsInOrder w → IsCounted w → is_finished w ≡ false → fits w.machine r ≡ true
    → CanAppend w r
fitting-append w r kept counted going fit =
    let parts = fits-parts w.machine r fit in
    can-append w r kept counted (going-none w.machine.ending w.stopped going) parts.0 parts.1

-- the history's record, if it can be reused
pub record Reusable (w : RoundState) (t : ℕ) (r : Record) : Type 0 where
  pub append : CanAppend w r
  pub thread : r.thread ≡ t

pub reusable :
    (w : RoundState) (t : ℕ) (r : Record)
    → IsInOrder w → IsCounted w → can_reuse w t ≡ true → record_for w.past w.machine t ≡ Some r → Reusable w t r
reusable w t r kept counted can there =
    let parts = and_parts (can_begin w t) (fits_next w.past w.machine t) can in
    let begins : CanBegin w t = can_begin-parts w t parts.0 in
    let of = past-of w.past t (hart_of w.machine t).number r there in
    let thread : r.thread ≡ t = of.0 in
    record {
      append =
          can-append w r kept counted begins.none
          (ap (λ u. is_ready (hart_of w.machine u).status) thread ∙ begins.ready)
          (of.1 ∙ ap (λ u. (hart_of w.machine u).number) (sym thread));
      thread = thread;
    }

pub take-ready : (w : RoundState) (t : ℕ) → can_take w t ≡ true → is_ready (hart_of w.machine t).status ≡ true
take-ready w t can =
    let begins : CanBegin w t =
    can_begin-parts w t (and_parts (can_begin w t) (not (fits_next w.past w.machine t)) can).0 in
    begins.ready

-- one more entry
pub length-push : {A : Type 0} (xs : List A) (x : A) → length (xs ++ x ∷ []) ≡ suc (length xs)
length-push [] x = refl
length-push (y ∷ xs) x = ap suc (length-push xs x)
