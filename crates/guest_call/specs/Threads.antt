-- The table of threads: which have ended, with which value, and which thread joins which.
use Rattle.std.specs.Prelude.{ℕ, ◌%◌, ◌==◌, List, [], ◌∷◌, ◌++◌, length, Option, Some, None, is_some, not, nat_lt, option_to_list, slice_index_or, slice_set, if◌then◌else◌}
use Rattle.guest_call.specs.declared.thread_number.TheConstants.{THREADS}
use Rattle.guest_call.specs.Answers.{answer_esrch, answer_eagain, answer_einval, answer_edeadlk}
use Rattle.guest_call.specs.Effect.{Effect, Returns, Ends, answers, blocks, wakes}

-- a thread of the table: the thread that joins it or has joined it, which is never forgotten, and its value once it has
-- ended (POSIX.1-2017, pthread_join)
pub record Member : Type 0 where
  pub joiner : Option ℕ
  pub value : Option ℕ

-- a thread as it is created: no thread joins it, and it has not ended (POSIX.1-2017, pthread_create)
abbrev pub fresh : Member
fresh = record { joiner = None; value = None }

-- the thread that waits for a thread: its joiner, as long as it has no value (POSIX.1-2017, pthread_join)
abbrev pub waiting_joiner : Option ℕ → Option ℕ → List ℕ
waiting_joiner None joiner = option_to_list joiner
waiting_joiner (Some v) joiner = []

-- the thread that waits for a thread to end, if there is one (POSIX.1-2017, pthread_join)
abbrev pub member_queue : Member → List ℕ
member_queue c = waiting_joiner c.value c.joiner

-- the thread of this number
abbrev pub member_at : List Member → ℕ → Member
member_at members u = slice_index_or members u fresh

-- a thread was created with this number, first pc and argument (POSIX.1-2017, pthread_create)
abbrev pub creates : ℕ → ℕ → ℕ → Effect
creates number pc argument =
    record { fate = Returns number None; woken = []; reported = None; created = Some (pc, argument) }

-- create: a pc that isn't a multiple of 4 is refused, and so is a thread beyond 32; else the least number unused
-- (POSIX.1-2017, pthread_create)
abbrev pub create_row : ℕ → ℕ → List Member → Effect × List Member
create_row pc argument members =
    if not (pc % 4 == 0) then (answers answer_einval, members)
    else if not (nat_lt (length members) THREADS) then (answers answer_eagain, members)
    else (creates (length members) pc argument, members ++ fresh ∷ [])

-- the thread has ended with this value (POSIX.1-2017, pthread_exit)
abbrev pub ended_with : ℕ → Member → Member
ended_with v c = record { joiner = c.joiner; value = Some v }

-- thread_exit, called by t: t ends, and the thread that waits to join it gets the value (POSIX.1-2017, pthread_exit)
abbrev pub thread_exit_row : ℕ → ℕ → List Member → Effect × List Member
thread_exit_row t v members = (
  record { fate = Ends v; woken = member_queue (member_at members t); reported = Some v; created = None },
  slice_set members t (ended_with v (member_at members t)),
)

-- the effect of a join: it returns the value of a thread that has ended, or else waits (POSIX.1-2017, pthread_join)
abbrev pub joins : Option ℕ → Effect
joins (Some v) = wakes (Returns 0 (Some v)) []
joins None = blocks

-- the thread with t as its joiner (POSIX.1-2017, pthread_join)
abbrev pub joined_by : ℕ → Member → Member
joined_by t c = record { joiner = Some t; value = c.value }

-- join of u, called by t: refused are a thread that isn't there, t itself, and one that has or had a joiner; else t
-- joins it (POSIX.1-2017, pthread_join)
abbrev pub join_row : ℕ → ℕ → List Member → Effect × List Member
join_row t u members =
    if not (nat_lt u (length members)) then (answers answer_esrch, members)
    else if u == t then (answers answer_edeadlk, members)
    else if is_some (member_at members u).joiner then (answers answer_einval, members)
    else (joins (member_at members u).value, slice_set members u (joined_by t (member_at members u)))
