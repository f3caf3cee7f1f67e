-- What a step answers and changes depends only on the objects on which it acts.
use Rattle.std.proofs.Common.{◌≡◌, ◌+◌, ℕ, Bool, true, false, cond, List, [], length, Option, Some, None, refl, ap, sym, ◌∙◌, subst, arith, ext_get_or}
use Rattle.memory_spec.specs.Pages.{Mapped, Memory}
use Rattle.guest_call.specs.declared.Call.{Call}
use Rattle.guest_call.specs.declared.Call.TheVariants.{Put}
use Rattle.guest_call.specs.declared.Object.{Object}
use Rattle.guest_call.specs.declared.Object.TheVariants.{Output, ThreadTable, Mutex as MutexOf, Semaphore as SemaphoreOf, Barrier as BarrierOf, Condition as ConditionOf, RwLock as RwLockOf}
use Rattle.guest_call.specs.Effect.{Effect, exits}
use Rattle.guest_call.specs.Mutexes.{Mutex, unlocked}
use Rattle.guest_call.specs.Semaphores.{Semaphore, unposted}
use Rattle.guest_call.specs.Barriers.{Barrier, uninitialised}
use Rattle.guest_call.specs.Conditions.{Condition, unawaited}
use Rattle.guest_call.specs.RwLocks.{RwLock, unheld}
use Rattle.guest_call.specs.Threads.{Member}
use Rattle.guest_call.specs.Objects.{Objects, act, acts_on, appends, one_of, created_count, IsKept}
use Rattle.guest_call.specs.Locality.{part_of, is_among, Agree, IsLocalBy}
use Rattle.guest_call.proofs.Locality.{nothing_local}
use Rattle.guest_call.proofs.Local.{act_local}
use Rattle.guest_call.proofs.Kept.{act_creates}
use Rattle.isa_spec.specs.Registers.{Registers}
use Rattle.thunk_spec.specs.declared.ends.ThunkEnd.{ThunkEnd}
use Rattle.thunk_spec.specs.declared.ends.ThunkEnd.TheVariants as thunk_end
use Rattle.thunk_spec.specs.Put.{is_readable, call_at, appended_by, put_addresses}
use Rattle.thunk_spec.specs.Thunk.{Frame}
use Rattle.thunk_spec.specs.Record.{Record, put_of}
use Rattle.machine_spec.specs.declared.states.Asked.{Asked}
use Rattle.machine_spec.specs.declared.states.Asked.TheVariants.{Asks, Stops}
use Rattle.machine_spec.specs.declared.states.End.{End}
use Rattle.machine_spec.specs.Machine.{Machine}
use Rattle.machine_spec.specs.Step.{asked, asked_call, apply, fate_end}
use Rattle.history_spec.specs.Facts.{ask_of, acted, effect_of, acting_on, objects_of}
use Rattle.history_spec.proofs.After.{apply-objects, own_end, own_end_of}

-- effect, objects acted on and end of what was requested, without the machine
abbrev acted_on : List Mapped → ℕ → Asked → Objects → Effect × Objects
acted_on map t (Asks call) o = act (is_readable map) o t call
acted_on map t (Stops e) o = (exits 0, o)

abbrev objects_on : List Mapped → Asked → Objects → List Object
objects_on map (Asks call) o = acts_on (is_readable map) o call
objects_on map (Stops e) o = []

abbrev end_on : Asked → Effect → Option End
end_on (Asks call) e = fate_end e.fate
end_on (Stops x) e = Some x

acted-on : (m : Machine) (t : ℕ) (a : Asked) → acted m t a ≡ acted_on m.frame.map t a m.objects
acted-on m t (Asks call) = refl
acted-on m t (Stops e) = refl

objects-on : (m : Machine) (a : Asked) → acting_on m a ≡ objects_on m.frame.map a m.objects
objects-on m (Asks call) = refl
objects-on m (Stops e) = refl

end-on : (m : Machine) (t : ℕ) (a : Asked) → own_end m t a ≡ end_on a (acted m t a).0
end-on m t (Asks call) = refl
end-on m t (Stops e) = refl

local-on :
    (map : List Mapped) (t : ℕ) (a : Asked) (o : Objects) → IsKept o → IsLocalBy (acted_on map t a) (objects_on map a) o
local-on map t (Asks call) o kept = act_local (is_readable map) o t call kept
local-on map t (Stops e) o kept = nothing_local (exits 0) [] o

-- another machine has the same map, and the same objects where the step acts
pub record IsMet (m : Machine) (r : Record) (n : Machine) : Type 0 where
  pub frame : n.frame ≡ m.frame
  pub kept : IsKept m.objects
  pub alike : Agree (objects_of m r) m.objects n.objects

acted-there : (m n : Machine) (t : ℕ) (a : Asked) → n.frame ≡ m.frame → acted n t a ≡ acted_on m.frame.map t a n.objects
acted-there m n t a frame = acted-on n t a ∙ ap (λ (f : Frame). acted_on f.map t a n.objects) frame

alike-there :
    (m n : Machine) (r : Record) → IsMet m r n → Agree (objects_on m.frame.map (ask_of r) m.objects) m.objects n.objects
alike-there m n r met = subst (λ (os : List Object). Agree os m.objects n.objects) (objects-on m (ask_of r)) met.alike

-- the same objects, the same effect
pub acted-like :
    (m n : Machine) (t : ℕ) (a : Asked) → n.frame ≡ m.frame → n.objects ≡ m.objects → acted n t a ≡ acted m t a
acted-like m n t a frame objects =
    acted-there m n t a frame ∙ ap (acted_on m.frame.map t a) objects ∙ sym (acted-on m t a)

pub objects-like :
    (m n : Machine) (a : Asked) → n.frame ≡ m.frame → n.objects ≡ m.objects → acting_on n a ≡ acting_on m a
objects-like m n a frame objects =
    objects-on n a ∙ ap (λ (f : Frame). objects_on f.map a n.objects) frame ∙ ap (objects_on m.frame.map a) objects
    ∙ sym (objects-on m a)

pub own_end-like :
    (m n : Machine) (t : ℕ) (a : Asked) → n.frame ≡ m.frame → n.objects ≡ m.objects → own_end n t a ≡ own_end m t a
own_end-like m n t a frame objects =
    end-on n t a ∙ ap (λ (x : Effect × Objects). end_on a x.0) (acted-like m n t a frame objects) ∙ sym (end-on m t a)

pub effect-met : (m n : Machine) (r : Record) → IsMet m r n → effect_of n r ≡ effect_of m r
effect-met m n r met =
    ap (λ (x : Effect × Objects). x.0) (acted-there m n r.thread (ask_of r) met.frame)
    ∙ (local-on m.frame.map r.thread (ask_of r) m.objects met.kept).same_effect n.objects (alike-there m n r met)
    ∙ sym (ap (λ (x : Effect × Objects). x.0) (acted-on m r.thread (ask_of r)))

pub objects-met : (m n : Machine) (r : Record) → IsMet m r n → objects_of n r ≡ objects_of m r
objects-met m n r met =
    objects-on n (ask_of r)
    ∙ ap (λ (f : Frame). objects_on f.map (ask_of r) n.objects) met.frame
    ∙ (local-on m.frame.map r.thread (ask_of r) m.objects met.kept).same_objects n.objects (alike-there m n r met)
    ∙ sym (objects-on m (ask_of r))

pub own_end-met : (m n : Machine) (r : Record) → IsMet m r n → own_end_of n r ≡ own_end_of m r
own_end-met m n r met =
    end-on n r.thread (ask_of r) ∙ ap (end_on (ask_of r)) (effect-met m n r met) ∙ sym (end-on m r.thread (ask_of r))

pub parts-stay :
    (m : Machine) (r : Record) (p : Object)
    → IsKept m.objects → is_among p (objects_of m r) ≡ false → part_of (apply m r).objects p ≡ part_of m.objects p
parts-stay m r p kept apart =
    ap (λ (o : Objects). part_of o p)
    (apply-objects m r ∙ ap (λ (x : Effect × Objects). x.1) (acted-on m r.thread (ask_of r)))
    ∙ (local-on m.frame.map r.thread (ask_of r) m.objects kept).stays p
    (subst (λ (os : List Object). is_among p os ≡ false) (objects-on m (ask_of r)) apart)

pub parts-met :
    (m n : Machine) (r : Record) (p : Object)
    → IsMet m r n → IsKept n.objects → is_among p (objects_of m r) ≡ true
    → part_of (apply n r).objects p ≡ part_of (apply m r).objects p
parts-met m n r p met kept among =
    ap (λ (o : Objects). part_of o p)
    (apply-objects n r ∙ ap (λ (x : Effect × Objects). x.1) (acted-there m n r.thread (ask_of r) met.frame))
    ∙ (local-on m.frame.map r.thread (ask_of r) m.objects met.kept).same_parts n.objects kept (alike-there m n r met) p
    (subst (λ (os : List Object). is_among p os ≡ true) (objects-on m (ask_of r)) among)
    ∙ sym (ap (λ (o : Objects). part_of o p)
    (apply-objects m r ∙ ap (λ (x : Effect × Objects). x.1) (acted-on m r.thread (ask_of r))))

-- objects that are alike one by one are the same
same-objects :
    (o : Objects) (ts : List Member) (ms : List Mutex) (ss : List Semaphore) (bs : List Barrier) (cs : List Condition)
    (rs : List RwLock)
    → o.threads ≡ ts → o.mutexes ≡ ms → o.semaphores ≡ ss → o.barriers ≡ bs → o.conditions ≡ cs → o.rwlocks ≡ rs
    → o ≡ record { threads = ts; mutexes = ms; semaphores = ss; barriers = bs; conditions = cs; rwlocks = rs }
same-objects o ts ms ss bs cs rs a b c d e f = rw (← a, ← b, ← c, ← d, ← e, ← f) refl

pub objects-same : (o q : Objects) → IsKept o → IsKept q → ((p : Object) → part_of q p ≡ part_of o p) → q ≡ o
objects-same o q kept_o kept_q alike =
    same-objects q o.threads o.mutexes o.semaphores o.barriers o.conditions o.rwlocks
    (let same = alike ThreadTable in cc)
    (ext_get_or unlocked q.mutexes o.mutexes (kept_q.all_mutexes ∙ sym kept_o.all_mutexes)
    (λ i below. let same = alike (MutexOf i) in cc))
    (ext_get_or unposted q.semaphores o.semaphores (kept_q.all_semaphores ∙ sym kept_o.all_semaphores)
    (λ i below. let same = alike (SemaphoreOf i) in cc))
    (ext_get_or uninitialised q.barriers o.barriers (kept_q.all_barriers ∙ sym kept_o.all_barriers)
    (λ i below. let same = alike (BarrierOf i) in cc))
    (ext_get_or unawaited q.conditions o.conditions (kept_q.all_conditions ∙ sym kept_o.all_conditions)
    (λ i below. let same = alike (ConditionOf i) in cc))
    (ext_get_or unheld q.rwlocks o.rwlocks (kept_q.all_rwlocks ∙ sym kept_o.all_rwlocks)
    (λ i below. let same = alike (RwLockOf i) in cc))

-- a call that creates a thread acts on the table of threads
creates-on :
    (map : List Mapped) (t : ℕ) (a : Asked) (o : Objects)
    → length (acted_on map t a o).1.threads ≡ length o.threads + created_count (acted_on map t a o).0.created
creates-on map t (Asks call) o = act_creates (is_readable map) o t call
creates-on map t (Stops e) o = omega arith

none-created : (c : Option (ℕ × ℕ)) → created_count c ≡ 0 → c ≡ None
none-created None none = refl
none-created (Some c) none = absurd (omega arith)

threads-part : (o q : Objects) → part_of q ThreadTable ≡ part_of o ThreadTable → q.threads ≡ o.threads
threads-part o q same = cc

pub uncreated :
    (m : Machine) (r : Record) → IsKept m.objects → is_among ThreadTable (objects_of m r) ≡ false
    → (effect_of m r).created ≡ None
uncreated m r kept apart =
    let same : (apply m r).objects.threads ≡ m.objects.threads =
    threads-part m.objects (apply m r).objects (parts-stay m r ThreadTable kept apart) in
    let on : acted m r.thread (ask_of r) ≡ acted_on m.frame.map r.thread (ask_of r) m.objects =
    acted-on m r.thread (ask_of r) in
    let more : length (apply m r).objects.threads ≡ length m.objects.threads + created_count (effect_of m r).created =
    ap (λ (o : Objects). length o.threads) (apply-objects m r)
    ∙ subst (λ (x : Effect × Objects). length x.1.threads ≡ length m.objects.threads + created_count x.0.created)
    (sym on)
    (creates-on m.frame.map r.thread (ask_of r) m.objects) in
    let count : length (apply m r).objects.threads ≡ length m.objects.threads =
    ap (λ (ts : List Member). length ts) same in
    none-created (effect_of m r).created (omega arith)

-- a call that appends to the output acts on it
unput-call :
    (m : Machine) (t : ℕ) (r : Registers) (c : Option Call)
    → is_among Output (acting_on m (asked_call t r c)) ≡ false → appended_by m.frame.map c ≡ []
unput-call m t r (Some (Put p n)) apart = here (appends (is_readable m.frame.map) p n) _ apart
  where
    here : (b : Bool) (xs : List ℕ) → is_among Output (one_of b Output) ≡ false → cond b xs [] ≡ []
    here true xs h = cc
    here false xs h = refl
unput-call m t r _ apart = refl

unput-end :
    (m : Machine) (t : ℕ) (e : ThunkEnd) (r : Registers)
    → is_among Output (acting_on m (asked t e r)) ≡ false → put_addresses m.frame.map e r ≡ []
unfolding put_addresses
unput-end m t thunk_end.Call r apart = unput-call m t r (call_at r) apart
unput-end m t (thunk_end.Trap cause) r apart = refl
unput-end m t thunk_end.Fuel r apart = refl

pub unput :
    (m : Machine) (r : Record) (view : Memory) → is_among Output (objects_of m r) ≡ false
    → put_of m.frame.map view r.kept ≡ []
unfolding put_of
unput m r view apart = rw (unput-end m r.thread r.kept.end r.kept.finish apart) refl
