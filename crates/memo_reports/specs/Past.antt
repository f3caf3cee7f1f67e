-- The accesses to a page so far.
use Rattle.std.specs.Prelude.{◌≡◌, ◌<◌, ◌≤◌, ◌==◌, ◌&&◌, ◌||◌, not, nat_lt, nat_le, Bool, List, All, slice_index}
use Rattle.std.specs.List.{filter, flat_map}
use Rattle.std.specs.List.Sorted.{IsNonDecreasingBy}
use Rattle.guest_call.specs.declared.thread_number.TheConstants.{THREADS}
use Rattle.memo_reports.specs.declared.races.steps.Step.{Step}
use Rattle.memo_reports.specs.declared.races.past.Access.{Access}
use Rattle.memo_reports.specs.declared.races.past.ThreadPast.{ThreadPast}
use Rattle.memo_reports.specs.declared.races.past.PagePast.{PagePast}

-- Whether an access races with one of a later step, by whether the later one writes.
abbrev pub races_with : Step → Bool → Access → Bool
races_with s writes a =
    not (a.thread == s.thread) && ((writes || a.writes) && not (nat_lt a.number (slice_index s.seen a.thread)))

-- An access isn't before another, in place and in number.
pub record IsAfter (a b : Access) : Type 0 where
  pub place : b.place ≤ a.place
  pub number : b.number ≤ a.number

-- Whether an access of the same thread as another isn't before it.
abbrev pub is_misplaced : Access → Access → Bool
is_misplaced a b = (b.thread == a.thread) && not (nat_le b.place a.place && nat_le b.number a.number)

-- The accesses of one thread, in order.
pub record IsThreadPast (p : ThreadPast) : Type 0 where
  pub known : p.thread < THREADS
  pub threads : All (λ (a : Access). a.thread ≡ p.thread) p.all.items
  pub places : IsNonDecreasingBy (λ (a : Access). a.place) p.all.items
  pub numbers : IsNonDecreasingBy (λ (a : Access). a.number) p.all.items
  pub writing : p.writing.items ≡ filter (λ (a : Access). a.writes) p.all.items

-- The same of each thread that has accesses to a page.
abbrev pub IsPagePast : PagePast → Type 0
IsPagePast page = All IsThreadPast page.threads.items

-- The accesses to a page.
abbrev pub accesses_of : PagePast → List Access
accesses_of page = flat_map (λ (p : ThreadPast). p.all.items) page.threads.items
