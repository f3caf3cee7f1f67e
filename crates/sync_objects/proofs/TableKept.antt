-- What a table keeps after a row that loses no thread and puts none in two places; and that its queues have room.
use Rattle.std.proofs.Common.{◌≡◌, ℕ, ◌<◌, Bool, true, List, [], length, replicate, slice_index_or, arith, subst, sym, ap, ◌∙◌}
use Rattle.std.proofs.lemmas.List.{length-replicate}
use Rattle.guest_call.specs.declared.Fate.{Fate}
use Rattle.guest_call.specs.declared.Fate.TheVariants.{Returns, Blocks, Ends, Exits}
use Rattle.guest_call.specs.Effect.{Effect, waiting}
use Rattle.guest_call.specs.Queues.{waits, entering}
use Rattle.guest_call.specs.Tables.{at_cell, checked, IsTable, IsFair}
use Rattle.guest_call.proofs.Counting.{places-le-waits, waits-replicate, entering-returns, entering-ends, entering-exits}
use Rattle.guest_call.proofs.Conservation.{at_cell_keeps}
use Rattle.guest_call.proofs.Kept.{once_kept, known_kept}
use Rattle.guest_call.proofs.Shape.{length-at_cell}
use Rattle.sync_objects.proofs.Room.{length-room}

-- 64 copies of an object for which no thread waits are a table
pub replicate_table : {C : Type 0} (queue : C → List ℕ) (free : C) → queue free ≡ [] → IsTable queue (replicate 64 free)
replicate_table queue free nobody = record {
  objects = length-replicate 64 free;
  low = λ t beyond. waits-replicate queue 64 free t nobody;
  once = λ t. omega (arith, waits-replicate queue 64 free t nobody);
}

-- a row that is fair at each object keeps the table, if its caller waits nowhere in it
at_cell-kept : {C : Type 0} (queue : C → List ℕ) (free : C) (row : C → Effect × C) (cells : List C) (i t : ℕ) →
    ((c : C) → IsFair queue t c (row c)) → IsTable queue cells → t < 32 → waits queue cells t ≡ 0
    → IsTable queue (at_cell free row cells i).1
at_cell-kept queue free row cells i t fair table lt idle =
    let r = at_cell free row cells i in
    let keeps = at_cell_keeps queue free row cells i t (omega (arith, table.objects)) fair in
    record {
      objects = length-at_cell free row cells i ∙ table.objects;
      low = known_kept (waits queue cells) (waits queue r.1) t 32 r.0 keeps lt table.low;
      once = once_kept (waits queue cells) (waits queue r.1) t r.0 keeps idle table.once;
    }

-- the same of the effect and the table that a call returned
pub row_kept :
    {C : Type 0} (queue : C → List ℕ) (free : C) (row : C → Effect × C) (cells after : List C) (e : Effect) (i t : ℕ)
    →
    ((c : C) → IsFair queue t c (row c)) → (e, after) ≡ at_cell free row cells i → IsTable queue cells → t < 32
    → waits queue cells t ≡ 0 → IsTable queue after
row_kept {C} queue free row cells after e i t fair is table lt idle =
    subst (IsTable queue) (sym (ap (λ (r : Effect × List C). r.1) is))
    (at_cell-kept queue free row cells i t fair table lt idle)

-- the caller of a row that never blocks enters no queue
pub entering-none : (t : ℕ) (f : Fate) (u : ℕ) → waiting f ≡ 0 → entering t f u ≡ 0
entering-none t (Returns a b) u none = entering-returns t a b u
entering-none t Blocks u none = absurd (omega (arith, none))
entering-none t (Ends v) u none = entering-ends t v u
entering-none t (Exits code) u none = entering-exits t code u

-- a row that never blocks at any object doesn't block in a table
at_cell-waits-not :
    {C : Type 0} (free : C) (row : C → Effect × C) (cells : List C) (i : ℕ) → ((c : C) → waiting (row c).0.fate ≡ 0)
    → waiting (at_cell free row cells i).0.fate ≡ 0
at_cell-waits-not free row cells i still = grind (arith, still)

-- a row that is fair at each object and never blocks keeps the table, whichever thread calls it
at_cell-still : {C : Type 0} (queue : C → List ℕ) (free : C) (row : C → Effect × C) (cells : List C) (i t : ℕ) →
    ((c : C) → IsFair queue t c (row c)) → ((c : C) → waiting (row c).0.fate ≡ 0) → IsTable queue cells
    → IsTable queue (at_cell free row cells i).1
at_cell-still queue free row cells i t fair still table =
    let r = at_cell free row cells i in
    let keeps = at_cell_keeps queue free row cells i t (omega (arith, table.objects)) fair in
    let nobody : (u : ℕ) → entering t r.0.fate u ≡ 0 =
    λ u. entering-none t r.0.fate u (at_cell-waits-not free row cells i still) in
    record {
      objects = length-at_cell free row cells i ∙ table.objects;
      low = λ u le. omega (arith, keeps u, nobody u, table.low u le);
      once = λ u. omega (arith, keeps u, nobody u, table.once u);
    }

-- the same of the effect and the table that a call returned
pub still_kept :
    {C : Type 0} (queue : C → List ℕ) (free : C) (row : C → Effect × C) (cells after : List C) (e : Effect) (i t : ℕ)
    →
    ((c : C) → IsFair queue t c (row c)) → ((c : C) → waiting (row c).0.fate ≡ 0) → (e, after)
    ≡ at_cell free row cells i → IsTable queue cells → IsTable queue after
still_kept {C} queue free row cells after e i t fair still is table =
    subst (IsTable queue) (sym (ap (λ (r : Effect × List C). r.1) is))
    (at_cell-still queue free row cells i t fair still table)

-- if the arguments are in range, a checked call does what the call does
pub checked-in :
    {S : Type 0} (in_range : Bool) (state : S) (done r : Effect × S) → in_range ≡ true → r ≡ done
    → r ≡ checked in_range state done
checked-in in_range state done r there is = grind (arith, there, is)

-- each queue of a table has room for a thread that waits nowhere in it
pub queue-room : {C : Type 0} (queue : C → List ℕ) (cells : List C) (i t : ℕ) (free : C) →
    IsTable queue cells → t < 32 → waits queue cells t ≡ 0 → i < 64 → length (queue (slice_index_or cells i free)) < 32
queue-room queue cells i t free table lt idle there =
    let inside : i < length cells = omega (arith, table.objects) in
    length-room 32 t (queue (slice_index_or cells i free)) lt
    (λ u le. omega (arith, places-le-waits queue cells i free u inside, table.low u le))
    (λ u. omega (arith, places-le-waits queue cells i free u inside, table.once u))
    (omega (arith, places-le-waits queue cells i free t inside))
