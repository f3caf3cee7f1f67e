-- A row on a condition and a mutex reads and changes only these, and threads that leave a condition touch no mutex
-- if none waits.
use Rattle.std.proofs.Common.{◌≡◌, ℕ, ◌<◌, ◌==◌, Bool, true, false, not, ◌&&◌, List, [], ◌∷◌, length, None, nat_lt, slice_set, if◌then◌else◌, arith, refl, sym, ap, ◌∙◌, ltb-true, true≢false}
use Rattle.std.proofs.lemmas.Bool.{and_parts}
use Rattle.std.proofs.lemmas.List.{get_or-set_same, get_or-set_other, set-get_or}
use Rattle.guest_call.specs.declared.Object.{Object}
use Rattle.guest_call.specs.declared.Object.TheVariants.{Output, ThreadTable, Mutex as MutexOf, Semaphore as SemaphoreOf, Barrier as BarrierOf, Condition as ConditionOf, RwLock as RwLockOf}
use Rattle.guest_call.specs.Answers.{answer_einval}
use Rattle.guest_call.specs.Effect.{Effect, Returns, answers, wakes}
use Rattle.guest_call.specs.Tables.{checked}
use Rattle.guest_call.specs.Mutexes.{Mutex, unlocked}
use Rattle.guest_call.specs.Conditions.{Condition, Leaving, unawaited, cond_wait_row, first_leaves, signal_leaving, broadcast_leaving, admit_each, leave_row}
use Rattle.guest_call.specs.Objects.{Objects, condition_at, mutex_at, on_pair, leave, one_of, leave_objects, IsKept}
use Rattle.guest_call.specs.Locality.{Part, MutexPart, ConditionPart, NoPart, part_of, is_among, Agree, IsLocalBy}
use Rattle.guest_call.proofs.Shape.{kept_shaped, condition_named}
use Rattle.guest_call.proofs.Locality.{nothing_local, seen_local, like_local}

-- a condition and a mutex as parts
abbrev pub pair_part : Condition → Mutex → Object → Part
pair_part c x Output = NoPart
pair_part c x ThreadTable = NoPart
pair_part c x (MutexOf m) = MutexPart x
pair_part c x (SemaphoreOf s) = NoPart
pair_part c x (BarrierOf b) = NoPart
pair_part c x (ConditionOf d) = ConditionPart c
pair_part c x (RwLockOf r) = NoPart

-- a row on a condition and a mutex that exist
pub pair_local :
    (row : Condition → Mutex → Effect × Condition × Mutex) (c m : ℕ) (o : Objects) → c < 64 → m < 64 → IsKept o →
    IsLocalBy (λ x. on_pair row x c m) (λ x. ConditionOf c ∷ MutexOf m ∷ []) o
pair_local row c m o c_in m_in kept =
    seen_local look (λ s. (row s.0 s.1).0) (λ s. pair_part (row s.0 s.1).1 (row s.0 s.1).2)
    (ConditionOf c ∷ MutexOf m ∷ []) (λ x. on_pair row x c m) o kept (record {
      looks = λ other alike. let d = alike (ConditionOf c) (grind arith) in let e = alike (MutexOf m) (grind arith) in
          cc;
      does = λ x. refl;
      writes = writes_by;
      leaves = leaves_by;
    })
  where
    look : Objects → Condition × Mutex
    look x = (condition_at x c, mutex_at x m)

    writes_by : (x : Objects) → IsKept x → (p : Object) → is_among p (ConditionOf c ∷ MutexOf m ∷ []) ≡ true →
        part_of (on_pair row x c m).1 p
        ≡ pair_part (row (condition_at x c) (mutex_at x m)).1 (row (condition_at x c) (mutex_at x m)).2 p
    writes_by x kept_x (ConditionOf d) among =
        let same : d ≡ c = grind arith in
        ap ConditionPart
        (rw same
        (get_or-set_same x.conditions c (row (condition_at x c) (mutex_at x m)).1 unawaited
        (omega (arith, kept_x.all_conditions))))
    writes_by x kept_x (MutexOf k) among =
        let same : k ≡ m = grind arith in
        ap MutexPart
        (rw same
        (get_or-set_same x.mutexes m (row (condition_at x c) (mutex_at x m)).2 unlocked
        (omega (arith, kept_x.all_mutexes))))
    writes_by x kept_x Output among = absurd (true≢false (sym among))
    writes_by x kept_x ThreadTable among = absurd (true≢false (sym among))
    writes_by x kept_x (SemaphoreOf s) among = absurd (true≢false (sym among))
    writes_by x kept_x (BarrierOf b) among = absurd (true≢false (sym among))
    writes_by x kept_x (RwLockOf r) among = absurd (true≢false (sym among))

    leaves_by :
        (p : Object) → is_among p (ConditionOf c ∷ MutexOf m ∷ []) ≡ false
        → part_of (on_pair row o c m).1 p ≡ part_of o p
    leaves_by (ConditionOf d) apart =
        ap ConditionPart
        (get_or-set_other o.conditions c d (row (condition_at o c) (mutex_at o m)).1 unawaited (grind arith))
    leaves_by (MutexOf k) apart =
        ap MutexPart (get_or-set_other o.mutexes m k (row (condition_at o c) (mutex_at o m)).2 unlocked (grind arith))
    leaves_by Output apart = refl
    leaves_by ThreadTable apart = refl
    leaves_by (SemaphoreOf s) apart = refl
    leaves_by (BarrierOf b) apart = refl
    leaves_by (RwLockOf r) apart = refl

pub cond_wait_local : (t c m : ℕ) (o : Objects) → IsKept o →
    IsLocalBy (λ x. checked (nat_lt c 64 && nat_lt m 64) x (on_pair (cond_wait_row t m) x c m))
    (λ x. if nat_lt c 64 && nat_lt m 64 then ConditionOf c ∷ MutexOf m ∷ [] else []) o
cond_wait_local t c m o kept = by_range (nat_lt c 64 && nat_lt m 64) refl
  where
    by_range : (b : Bool) → nat_lt c 64 && nat_lt m 64 ≡ b →
        IsLocalBy (λ x. checked b x (on_pair (cond_wait_row t m) x c m))
        (λ x. if b then ConditionOf c ∷ MutexOf m ∷ [] else []) o
    by_range true is =
        let parts = and_parts (nat_lt c 64) (nat_lt m 64) is in
        pair_local (cond_wait_row t m) c m o (ltb-true c 64 parts.0) (ltb-true m 64 parts.1) kept
    by_range false is = nothing_local (answers answer_einval) [] o

-- if no thread waits, none leaves and the condition stays
abbrev pub IsQuiet : (Condition → Leaving) → Type 0
IsQuiet leaving = (c : Condition) → length c.queue ≡ 0 → leaving c ≡ record { threads = []; rest = c }

pub first_leaves_quiet :
    (m : ℕ) (q : List ℕ) → length q ≡ 0
    → first_leaves m q ≡ record { threads = []; rest = record { mutex = m; queue = q } }
first_leaves_quiet m [] none = refl
first_leaves_quiet m (u ∷ q) none = absurd (omega arith)

pub signal_quiet : IsQuiet signal_leaving
signal_quiet c none = first_leaves_quiet c.mutex c.queue none

pub no_threads : (q : List ℕ) → length q ≡ 0 → q ≡ []
no_threads [] none = refl
no_threads (u ∷ q) none = absurd (omega arith)

pub broadcast_quiet : IsQuiet broadcast_leaving
broadcast_quiet c none =
    let empty : c.queue ≡ [] = no_threads c.queue none in
    ap (λ (q : List ℕ). record { threads = q; rest = record { mutex = c.mutex; queue = [] } }) empty
    ∙ sym (ap (λ (q : List ℕ). record { threads = []; rest = record { mutex = c.mutex; queue = q } }) empty)

-- what a signal or a broadcast does if no thread waits: the condition and its mutex are written as they are
pub quiet_leave :
    (leaving : Condition → Leaving) (c : ℕ) (o : Objects) → IsQuiet leaving → length (condition_at o c).queue ≡ 0 →
    on_pair (leave_row leaving) o c (condition_at o c).mutex ≡ (answers 0, o)
quiet_leave leaving c o quiet none =
    let m = (condition_at o c).mutex in
    ap
    (λ (l : Leaving). (
      wakes (Returns 0 None) (admit_each l.threads (mutex_at o m)).0,
      record o {
        mutexes = slice_set o.mutexes m (admit_each l.threads (mutex_at o m)).1;
        conditions = slice_set o.conditions c l.rest;
      },
    ))
    (quiet (condition_at o c) none)
    ∙ ap (λ (xs : List Mutex).
    (answers 0, record o { mutexes = xs; conditions = slice_set o.conditions c (condition_at o c) }))
    (set-get_or o.mutexes m unlocked)
    ∙ ap (λ (xs : List Condition). (answers 0, record o { conditions = xs })) (set-get_or o.conditions c unawaited)

-- the objects of a signal at a condition with this queue
abbrev pub waiting_objects : ℕ → Condition → List Object
waiting_objects c d = ConditionOf c ∷ one_of (not (length d.queue == 0)) (MutexOf d.mutex)

-- a signal or a broadcast at a condition that exists, by whether a thread waits for it
pub leave_there : (leaving : Condition → Leaving) (c : ℕ) (o : Objects) → IsQuiet leaving → c < 64 → IsKept o →
    IsLocalBy (λ x. on_pair (leave_row leaving) x c (condition_at x c).mutex)
    (λ x. waiting_objects c (condition_at x c)) o
leave_there leaving c o quiet c_in kept = by_queue (length (condition_at o c).queue == 0) refl
  where
    condition_alike :
        (more : List Object) (other : Objects) → Agree (ConditionOf c ∷ more) o other
        → condition_at other c ≡ condition_at o c
    condition_alike more other alike = let e = alike (ConditionOf c) (grind arith) in cc

    somebody : length (condition_at o c).queue == 0 ≡ false →
        IsLocalBy (λ x. on_pair (leave_row leaving) x c (condition_at x c).mutex)
        (λ x. waiting_objects c (condition_at x c)) o
    somebody is =
        let named : List Object = ConditionOf c ∷ MutexOf (condition_at o c).mutex ∷ [] in
        let at_o : waiting_objects c (condition_at o c) ≡ named =
        ap (λ (b : Bool). ConditionOf c ∷ one_of (not b) (MutexOf (condition_at o c).mutex)) is in
        like_local (λ x. on_pair (leave_row leaving) x c (condition_at x c).mutex)
        (λ x. on_pair (leave_row leaving) x c (condition_at o c).mutex)
        (λ x. waiting_objects c (condition_at x c)) named o at_o
        (λ other alike. ap (waiting_objects c) (condition_alike (MutexOf (condition_at o c).mutex ∷ []) other alike)
        ∙ at_o)
        (λ other alike. ap (λ (d : Condition). on_pair (leave_row leaving) other c d.mutex)
        (condition_alike (MutexOf (condition_at o c).mutex ∷ []) other alike))
        (pair_local (leave_row leaving) c (condition_at o c).mutex o c_in
        (condition_named o c (kept_shaped o kept) c_in) kept)

    nobody : length (condition_at o c).queue == 0 ≡ true →
        IsLocalBy (λ x. on_pair (leave_row leaving) x c (condition_at x c).mutex)
        (λ x. waiting_objects c (condition_at x c)) o
    nobody is =
        let named : List Object = ConditionOf c ∷ [] in
        let at_o : waiting_objects c (condition_at o c) ≡ named =
        ap (λ (b : Bool). ConditionOf c ∷ one_of (not b) (MutexOf (condition_at o c).mutex)) is in
        let none : length (condition_at o c).queue ≡ 0 = grind arith in
        like_local (λ x. on_pair (leave_row leaving) x c (condition_at x c).mutex) (λ x. (answers 0, x))
        (λ x. waiting_objects c (condition_at x c)) named o at_o
        (λ other alike. ap (waiting_objects c) (condition_alike [] other alike) ∙ at_o)
        (λ other alike. quiet_leave leaving c other quiet
        (ap (λ (d : Condition). length d.queue) (condition_alike [] other alike) ∙ none))
        (nothing_local (answers 0) named o)

    by_queue : (b : Bool) → length (condition_at o c).queue == 0 ≡ b →
        IsLocalBy (λ x. on_pair (leave_row leaving) x c (condition_at x c).mutex)
        (λ x. waiting_objects c (condition_at x c)) o
    by_queue true is = nobody is
    by_queue false is = somebody is

pub leave_local : (leaving : Condition → Leaving) (c : ℕ) (o : Objects) → IsQuiet leaving → IsKept o →
    IsLocalBy (λ x. leave leaving x c) (λ x. leave_objects x c) o
leave_local leaving c o quiet kept = by_range (nat_lt c 64) refl
  where
    by_range : (b : Bool) → nat_lt c 64 ≡ b →
        IsLocalBy (λ x. checked b x (on_pair (leave_row leaving) x c (condition_at x c).mutex))
        (λ x. if b then waiting_objects c (condition_at x c) else []) o
    by_range true is = leave_there leaving c o quiet (ltb-true c 64 is) kept
    by_range false is = nothing_local (answers answer_einval) [] o
