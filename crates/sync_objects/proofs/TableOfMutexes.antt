-- What the table of mutexes keeps when threads come from a condition.
use Rattle.std.proofs.Common.{◌≡◌, ℕ, ◌+◌, ◌<◌, ◌≤◌, List, ◌++◌, length, slice_index_or, slice_set, arith, subst, sym, ap, ◌∙◌, length-append}
use Rattle.std.proofs.lemmas.List.{length-set, get_or_default}
use Rattle.guest_call.specs.Queues.{places, waits}
use Rattle.guest_call.specs.Tables.{IsTable}
use Rattle.guest_call.specs.Mutexes.{Mutex, unlocked, mutex_queue}
use Rattle.guest_call.specs.Conditions.{admit_each}
use Rattle.guest_call.proofs.Counting.{places-append, waits-set, places-le-waits}
use Rattle.guest_call.proofs.Rows.{admit_each_places}
use Rattle.sync_objects.proofs.Room.{length-few}
use Rattle.sync_objects.specs.Admitting.{admit_each_at}

-- the table after these threads came to one of its mutexes
admit_each_at-kept : (cells : List Mutex) (m : ℕ) (threads : List ℕ) → IsTable mutex_queue cells → m < 64 →
    ((u : ℕ) → 32 ≤ u → places u threads ≡ 0) → ((u : ℕ) → waits mutex_queue cells u + places u threads ≤ 1)
    → IsTable mutex_queue (admit_each_at cells m threads).1
admit_each_at-kept cells m threads table lt low once =
    let x : Mutex = slice_index_or cells m unlocked in
    let y : Mutex = (admit_each threads x).1 in
    let inside : m < length cells = omega (arith, table.objects) in
    record {
      objects = length-set cells m y ∙ table.objects;
      low =
          λ u le. omega (
            arith,
            waits-set mutex_queue cells m y unlocked u inside,
            admit_each_places u threads
                x,
            table.low u le,
            low u le,
          );
      once =
          λ u. omega (arith, waits-set mutex_queue cells m y unlocked u inside, admit_each_places u threads x, once u);
    }

pub admit_each_kept :
    (cells after : List Mutex) (admitted : List ℕ) (m : ℕ) (threads : List ℕ)
    → (admitted, after) ≡ admit_each_at cells m threads → IsTable mutex_queue cells → m < 64
    →
    ((u : ℕ) → 32 ≤ u → places u threads ≡ 0) → ((u : ℕ) → waits mutex_queue cells u + places u threads ≤ 1)
    → IsTable mutex_queue after
admit_each_kept cells after admitted m threads is table lt low once =
    subst (IsTable mutex_queue) (sym (ap (λ (r : List ℕ × List Mutex). r.1) is))
    (admit_each_at-kept cells m threads table lt low once)

-- the effect and the mutex after threads came to it, as the table's
pub admit_each_at-done :
    (cells : List Mutex) (d : Mutex) (m : ℕ) (came threads admitted : List ℕ) (after : Mutex)
    → IsTable mutex_queue cells → m < 64
    →
    came ≡ threads → (admitted, after) ≡ admit_each came (slice_index_or cells m d)
    → (admitted, slice_set cells m after) ≡ admit_each_at cells m threads
admit_each_at-done cells d m came threads admitted after table lt same is =
    let alike : slice_index_or cells m d ≡ slice_index_or cells m unlocked =
    get_or_default cells m d unlocked (omega (arith, lt, table.objects)) in
    grind (arith, same, is, alike)

-- a mutex's queue has room for threads that wait in no queue of the table
pub admit_each-room :
    (cells : List Mutex) (d : Mutex) (m : ℕ) (came threads : List ℕ) → IsTable mutex_queue cells → m < 64
    → came ≡ threads
    →
    ((u : ℕ) → 32 ≤ u → places u threads ≡ 0) → ((u : ℕ) → waits mutex_queue cells u + places u threads ≤ 1) →
    length (slice_index_or cells m d).queue + length came ≤ 32
admit_each-room cells d m came threads table lt same low once =
    let q : List ℕ = (slice_index_or cells m d).queue in
    let inside : m < length cells = omega (arith, table.objects) in
    let few = length-few 32 (q ++ threads)
    (λ u le. omega (
      arith,
      places-append u q threads,
      places-le-waits mutex_queue cells m d u inside,
      table.low u
          le,
      low u le,
    ))
    (λ u. omega (arith, places-append u q threads, places-le-waits mutex_queue cells m d u inside, once u)) in
    omega (arith, few, length-append q threads, ap length same)
