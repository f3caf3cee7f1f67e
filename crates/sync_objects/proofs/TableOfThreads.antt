-- What the table of threads keeps by each of its rows.
use Rattle.std.proofs.Common.{◌≡◌, ℕ, ◌<◌, ◌≤◌, List, [], ◌∷◌, length, arith, refl, subst, sym, ap}
use Rattle.std.proofs.lemmas.List.{length-set}
use Rattle.guest_call.specs.Effect.{Effect, waiting}
use Rattle.guest_call.specs.Queues.{waits}
use Rattle.guest_call.specs.Threads.{Member, fresh, member_queue, member_at, ended_with, create_row, thread_exit_row, join_row}
use Rattle.guest_call.proofs.Counting.{places-nil}
use Rattle.guest_call.proofs.Conservation.{IsFairTable, create_fair, thread_exit_fair, join_fair}
use Rattle.guest_call.proofs.Kept.{length-create, length-create-le, once_kept, known_kept}
use Rattle.sync_objects.proofs.TableKept.{entering-none}
use Rattle.sync_objects.specs.ThreadTable.{IsThreadTable}

-- thread 0 alone is a table
pub first_table : IsThreadTable (fresh ∷ [])
unfolding waits
first_table = record {
  some_thread = omega arith;
  few_threads = omega arith;
  once = λ t. omega (arith, places-nil t);
  known = λ t beyond. omega (arith, places-nil t);
}

-- a fair row that removes no thread and stays within 32 keeps the table, if its caller waits for no other
pub table_kept :
    (members : List Member) (t : ℕ) (r : Effect × List Member) → IsFairTable member_queue t members r
    → length members ≤ length r.1 → length r.1 ≤ 32
    →
    IsThreadTable members → t < length members → waits member_queue members t ≡ 0 → IsThreadTable r.1
table_kept members t r fair more few table there idle = record {
  some_thread = omega (arith, more, table.some_thread);
  few_threads = few;
  once = once_kept (waits member_queue members) (waits member_queue r.1) t r.0 fair idle table.once;
  known =
      λ u beyond. known_kept (waits member_queue members) (waits member_queue r.1) t (length members) r.0 fair there
      table.known u (omega (arith, more));
}

-- the same of a row that never blocks, whichever thread calls it
pub still_kept :
    (members : List Member) (t : ℕ) (r : Effect × List Member) → IsFairTable member_queue t members r
    → waiting r.0.fate ≡ 0 → length members ≤ length r.1 → length r.1 ≤ 32
    →
    IsThreadTable members → IsThreadTable r.1
still_kept members t r fair still more few table = record {
  some_thread = omega (arith, more, table.some_thread);
  few_threads = few;
  once = λ u. omega (arith, fair u, entering-none t r.0.fate u still, table.once u);
  known =
      λ u beyond. omega (arith, fair u, entering-none t r.0.fate u still, table.known u (omega (arith, more, beyond)));
}

-- the table after create, thread_exit and join, as the effect and the table that the call returned
pub create_kept :
    (members after : List Member) (e : Effect) (t pc argument : ℕ) → (e, after) ≡ create_row pc argument members
    → IsThreadTable members
    → IsThreadTable after
create_kept members after e t pc argument is table =
    let r : Effect × List Member = create_row pc argument members in
    subst IsThreadTable (sym (ap (λ (p : Effect × List Member). p.1) is))
    (still_kept members t r (create_fair t pc argument members) (grind arith)
    (omega (arith, length-create pc argument members)) (length-create-le pc argument members table.few_threads) table)

pub thread_exit_kept :
    (members after : List Member) (e : Effect) (t v : ℕ) → (e, after) ≡ thread_exit_row t v members
    → IsThreadTable members → t < length members
    → IsThreadTable after
thread_exit_kept members after e t v is table there =
    let same = length-set members t (ended_with v (member_at members t)) in
    subst IsThreadTable (sym (ap (λ (p : Effect × List Member). p.1) is))
    (still_kept members t (thread_exit_row t v members) (thread_exit_fair t v members there) refl (omega (arith, same))
    (omega (arith, same, table.few_threads)) table)

-- a join makes no thread
pub length-join_row : (t u : ℕ) (members : List Member) → length (join_row t u members).1 ≡ length members
length-join_row t u members = grind (arith, length-set)

pub join_kept : (members after : List Member) (e : Effect) (t u : ℕ) → (e, after) ≡ join_row t u members →
    IsThreadTable members → t < length members → waits member_queue members t ≡ 0 → IsThreadTable after
join_kept members after e t u is table there idle =
    let same = length-join_row t u members in
    subst IsThreadTable (sym (ap (λ (p : Effect × List Member). p.1) is))
    (table_kept members t (join_row t u members) (join_fair t u members) (omega (arith, same))
    (omega (arith, same, table.few_threads)) table there idle)
