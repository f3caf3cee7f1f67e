-- A call reads and changes nothing but the objects on which it acts.
use Rattle.std.specs.Prelude.{◌==◌, ◌≡◌, Bool, true, false, List, slice_index_or}
use Rattle.std.specs.List.{list_any}
use Rattle.guest_call.specs.declared.Object.{Object}
use Rattle.guest_call.specs.declared.Object.TheVariants.{Output, ThreadTable, Mutex as MutexOf, Semaphore as SemaphoreOf, Barrier as BarrierOf, Condition as ConditionOf, RwLock as RwLockOf}
use Rattle.guest_call.specs.Effect.{Effect}
use Rattle.guest_call.specs.Mutexes.{Mutex, unlocked}
use Rattle.guest_call.specs.Semaphores.{Semaphore, unposted}
use Rattle.guest_call.specs.Barriers.{Barrier, uninitialised}
use Rattle.guest_call.specs.Conditions.{Condition, unawaited}
use Rattle.guest_call.specs.RwLocks.{RwLock, unheld}
use Rattle.guest_call.specs.Threads.{Member}
use Rattle.guest_call.specs.Objects.{Objects, IsKept}

-- the state of an object: an object of its kind, the table of threads, or nothing, for the output, which the machine
-- keeps
pub data Part : Type 0 where
  MutexPart : Mutex → Part
  SemaphorePart : Semaphore → Part
  BarrierPart : Barrier → Part
  ConditionPart : Condition → Part
  RwLockPart : RwLock → Part
  ThreadsPart : List Member → Part
  NoPart : Part

-- the state of the named object
abbrev pub part_of : Objects → Object → Part
part_of o Output = NoPart
part_of o ThreadTable = ThreadsPart o.threads
part_of o (MutexOf m) = MutexPart (slice_index_or o.mutexes m unlocked)
part_of o (SemaphoreOf s) = SemaphorePart (slice_index_or o.semaphores s unposted)
part_of o (BarrierOf b) = BarrierPart (slice_index_or o.barriers b uninitialised)
part_of o (ConditionOf c) = ConditionPart (slice_index_or o.conditions c unawaited)
part_of o (RwLockOf r) = RwLockPart (slice_index_or o.rwlocks r unheld)

-- whether two names are of one object
abbrev pub same_object : Object → Object → Bool
same_object Output Output = true
same_object ThreadTable ThreadTable = true
same_object (MutexOf k) (MutexOf m) = k == m
same_object (SemaphoreOf k) (SemaphoreOf s) = k == s
same_object (BarrierOf k) (BarrierOf b) = k == b
same_object (ConditionOf k) (ConditionOf c) = k == c
same_object (RwLockOf k) (RwLockOf r) = k == r
same_object _ _ = false

-- whether an object is among some
abbrev pub is_among : Object → List Object → Bool
is_among p objects = list_any (λ q. same_object p q) objects

-- some objects have the same state here and there
abbrev pub Agree : List Object → Objects → Objects → Type 0
Agree objects o other = (p : Object) → is_among p objects ≡ true → part_of other p ≡ part_of o p

-- a change of the objects, at o, is local to those that it names: all others keep their state; and on any objects among
-- which these have the same state, it names the same, has the same effect, and gives these the same state
pub record IsLocalBy (change : Objects → Effect × Objects) (objects : Objects → List Object)
    (o : Objects) : Type 0 where
  pub stays : (p : Object) → is_among p (objects o) ≡ false → part_of (change o).1 p ≡ part_of o p
  pub same_objects : (other : Objects) → Agree (objects o) o other → objects other ≡ objects o
  pub same_effect : (other : Objects) → Agree (objects o) o other → (change other).0 ≡ (change o).0
  pub same_parts :
      (other : Objects) → IsKept other → Agree (objects o) o other → Agree (objects o) (change o).1 (change other).1
