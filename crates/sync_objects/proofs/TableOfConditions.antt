-- What the table of conditions keeps by each of its rows.
use Rattle.std.proofs.Common.{◌≡◌, ℕ, ◌+◌, ◌<◌, ◌≤◌, Bool, true, false, List, [], ◌∷◌, length, nat_lt, slice_index_or, slice_set, Option, Some, None, arith, refl, subst, sym, ap, ◌∙◌, if◌then◌else◌}
use Rattle.std.specs.Option.{IfSome}
use Rattle.std.proofs.lemmas.Bool.Decides.{nat_tests}
use Rattle.std.proofs.lemmas.List.{length-set, get_or_default}
use Rattle.std.proofs.lemmas.List.Elements.{All-replicate, All-get_or, All-set}
use Rattle.guest_call.specs.Effect.{Effect, answers, blocks}
use Rattle.guest_call.specs.Queues.{places, waits, entering, Keeps}
use Rattle.guest_call.specs.Conditions.{Condition, Leaving as Left, unawaited, condition_queue, first_leaves, signal_leaving, broadcast_leaving}
use Rattle.guest_call.specs.Objects.{all_unawaited}
use Rattle.guest_call.proofs.Counting.{places-nil, places-push, entering-returns, entering-blocks, waits-set, places-le-waits}
use Rattle.guest_call.proofs.Kept.{once_kept, known_kept}
use Rattle.sync_objects.proofs.TableKept.{replicate_table}
use Rattle.sync_objects.specs.declared.conditions.Leaving.{Leaving}
use Rattle.sync_objects.specs.ConditionTable.{IsConditionTable, wait_row, wait_at}
use Rattle.sync_objects.specs.Leaving.{leaving_at}

-- conditions for which no thread waits are a table
pub unawaited_table : IsConditionTable all_unawaited
unfolding all_unawaited
unawaited_table = record {
  table = replicate_table condition_queue unawaited refl;
  named = All-replicate (λ (c : Condition). c.mutex < 64) 64 unawaited (omega arith);
}

-- a wait as an effect: the caller blocks
wait_effect : Bool → Effect
wait_effect does = if does then blocks else answers 0

-- a wait loses no thread and puts none in two places
wait_fair : (t m : ℕ) (c : Condition) (u : ℕ) →
    places u (wait_row t m c).1.queue + places u (wait_effect (wait_row t m c).0).woken
    ≡ places u c.queue + entering t (wait_effect (wait_row t m c).0).fate u
unfolding wait_effect
wait_fair t m c u = grind (arith, places-nil, places-push, entering-returns, entering-blocks)

-- a wait names the mutex that it is given, or keeps the one that was named
wait-named : (t m : ℕ) (c : Condition) → m < 64 → c.mutex < 64 → (wait_row t m c).1.mutex < 64
wait-named t m c lt named = grind arith

wait_at-kept :
    (cells : List Condition) (t i m : ℕ) → IsConditionTable cells → t < 32 → waits condition_queue cells t ≡ 0 → i < 64
    → m < 64
    → IsConditionTable (wait_at t m cells i).1
wait_at-kept cells t i m kept lt idle there mutex =
    let c : Condition = slice_index_or cells i unawaited in
    let d : Condition = (wait_row t m c).1 in
    let e : Effect = wait_effect (wait_row t m c).0 in
    let inside : i < length cells = omega (arith, kept.table.objects) in
    let keeps : Keeps (waits condition_queue cells) t e (waits condition_queue (slice_set cells i d)) =
    λ u. omega (arith, waits-set condition_queue cells i d unawaited u inside, wait_fair t m c u) in
    record {
      table = record {
        objects = length-set cells i d ∙ kept.table.objects;
        low =
            known_kept (waits condition_queue cells) (waits condition_queue (slice_set cells i d)) t 32 e keeps lt
            kept.table.low;
        once =
            once_kept (waits condition_queue cells) (waits condition_queue (slice_set cells i d)) t e keeps idle
            kept.table.once;
      };
      named =
          All-set (λ (x : Condition). x.mutex < 64) cells i d
          (wait-named t m c mutex (All-get_or (λ (x : Condition). x.mutex < 64) cells i unawaited inside kept.named))
          kept.named;
    }

-- the table after a wait, as the answer and the table that the call returned
pub wait_kept :
    (cells after : List Condition) (does : Bool) (t i m : ℕ) → (does, after) ≡ wait_at t m cells i
    → IsConditionTable cells → t < 32 → waits condition_queue cells t ≡ 0 → i < 64 → m < 64
    → IsConditionTable after
wait_kept cells after does t i m is kept lt idle there mutex =
    subst IsConditionTable (sym (ap (λ (r : Bool × List Condition). r.1) is))
    (wait_at-kept cells t i m kept lt idle there mutex)

-- the answer of a condition, and the condition after it, as the table's
pub wait_at-done :
    (cells : List Condition) (d : Condition) (t i m : ℕ) (does : Bool) (after : Condition) → IsConditionTable cells
    → i < 64
    →
    (does, after) ≡ wait_row t m (slice_index_or cells i d) → (does, slice_set cells i after) ≡ wait_at t m cells i
wait_at-done cells d t i m does after kept there is =
    let alike : slice_index_or cells i d ≡ slice_index_or cells i unawaited =
    get_or_default cells i d unawaited (omega (arith, there, kept.table.objects)) in
    grind (arith, is, alike)

-- a thread that leaves a condition waited for it, and one that doesn't still waits
abbrev pub IsLeaving : (Condition → Left) → Type 0
IsLeaving leaving =
    (c : Condition) (u : ℕ) → places u (leaving c).threads + places u (leaving c).rest.queue ≡ places u c.queue

-- a condition that threads leave keeps the name of its mutex
abbrev pub IsNamed : (Condition → Left) → Type 0
IsNamed leaving = (c : Condition) → (leaving c).rest.mutex ≡ c.mutex

first-named : (m : ℕ) (q : List ℕ) → (first_leaves m q).rest.mutex ≡ m
first-named m [] = refl
first-named m (v ∷ rest) = refl

pub signal-named : IsNamed signal_leaving
signal-named c = first-named c.mutex c.queue

pub broadcast-named : IsNamed broadcast_leaving
broadcast-named c = refl

-- the table after threads left one of its conditions
left-kept :
    (leaving : Condition → Left) → IsLeaving leaving → IsNamed leaving → (cells : List Condition) (i : ℕ)
    → IsConditionTable cells → i < 64
    →
    IsConditionTable (slice_set cells i (leaving (slice_index_or cells i unawaited)).rest)
left-kept leaving leaves names cells i kept there =
    let c : Condition = slice_index_or cells i unawaited in
    let d : Condition = (leaving c).rest in
    let inside : i < length cells = omega (arith, kept.table.objects) in
    let named : c.mutex < 64 = All-get_or (λ (x : Condition). x.mutex < 64) cells i unawaited inside kept.named in
    record {
      table = record {
        objects = length-set cells i d ∙ kept.table.objects;
        low =
            λ u le. omega (
              arith,
              waits-set condition_queue cells i d unawaited u inside,
              leaves c u,
              kept.table.low u
                  le,
            );
        once =
            λ u. omega (arith, waits-set condition_queue cells i d unawaited u inside, leaves c u, kept.table.once u);
      };
      named = All-set (λ (x : Condition). x.mutex < 64) cells i d (omega (arith, names c, named)) kept.named;
    }

-- the same at any number, as the call returned it
pub leaving_kept :
    (leaving : Condition → Left) → IsLeaving leaving → IsNamed leaving
    → (cells after : List Condition) (left : Option Leaving) (i : ℕ) → (left, after) ≡ leaving_at leaving cells i
    →
    IsConditionTable cells → IsConditionTable after
leaving_kept leaving leaves names cells after left i is kept = by_range (nat_lt i 64) refl
  where
    by_range : (b : Bool) → nat_lt i 64 ≡ b → IsConditionTable after
    by_range true lt =
        subst IsConditionTable (let same : slice_set cells i (leaving (slice_index_or cells i unawaited)).rest
        ≡ after = grind arith in same) (left-kept leaving leaves names cells i kept (grind (arith, nat_tests)))
    by_range false lt = subst IsConditionTable (let same : cells ≡ after = grind arith in same) kept

-- which threads leave, by the test of the number
abbrev left_by : Bool → (Condition → Left) → List Condition → ℕ → Option Leaving × List Condition
left_by b leaving cells i =
    let c : Condition = slice_index_or cells i unawaited in
    if b then (Some (record { mutex = c.mutex; threads = (leaving c).threads }), slice_set cells i (leaving c).rest)
    else (None, cells)

-- each thread that leaves waited in the table
pub leaving-waited :
    (leaving : Condition → Left) → IsLeaving leaving → (cells after : List Condition) (left : Option Leaving) (i : ℕ)
    → (left, after) ≡ leaving_at leaving cells i
    →
    IsConditionTable cells → IfSome left (λ l. (u : ℕ) → places u l.threads ≤ waits condition_queue cells u)
leaving-waited leaving leaves cells after left i is kept =
    subst (λ (r : Option Leaving). IfSome r (λ l. (u : ℕ) → places u l.threads ≤ waits condition_queue cells u))
    (sym (ap (λ (r : Option Leaving × List Condition). r.0) is)) (by_range (nat_lt i 64) refl)
  where
    by_range : (b : Bool) → nat_lt i 64 ≡ b →
        IfSome (left_by b leaving cells i).0
        (λ (l : Leaving). (u : ℕ) → places u l.threads ≤ waits condition_queue cells u)
    by_range true lt = λ u.
        let inside : i < length cells = grind (arith, nat_tests, kept.table.objects) in
        omega (
          arith,
          leaves (slice_index_or cells i unawaited) u,
          places-le-waits condition_queue cells i unawaited u
              inside,
        )
    by_range false lt = tt

-- the mutex to which they come is one of 64
pub leaving-mutex :
    (leaving : Condition → Left) → (cells after : List Condition) (left : Option Leaving) (i : ℕ)
    → (left, after) ≡ leaving_at leaving cells i
    →
    IsConditionTable cells → IfSome left (λ l. l.mutex < 64)
leaving-mutex leaving cells after left i is kept =
    subst (λ (r : Option Leaving). IfSome r (λ l. l.mutex < 64))
    (sym (ap (λ (r : Option Leaving × List Condition). r.0) is)) (by_range (nat_lt i 64) refl)
  where
    by_range : (b : Bool) → nat_lt i 64 ≡ b → IfSome (left_by b leaving cells i).0 (λ (l : Leaving). l.mutex < 64)
    by_range true lt =
        let inside : i < length cells = grind (arith, nat_tests, kept.table.objects) in
        All-get_or (λ (x : Condition). x.mutex < 64) cells i unawaited inside kept.named
    by_range false lt = tt
