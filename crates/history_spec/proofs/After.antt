-- What applying a record does to one hart, as a function of that hart.
use Rattle.std.proofs.Common.{◌≡◌, ◌≢◌, ◌<◌, ◌≤◌, ◌+◌, ℕ, zero, suc, Bool, true, false, eqb, cond, List, [], ◌∷◌, ◌++◌, length, set, Option, Some, None, refl, ap, sym, ◌∙◌, ap₂, inl, inr, arith}
use Rattle.std.proofs.lemmas.Bool.{cases_eq, cases_lt, eq-eqb}
use Rattle.std.proofs.lemmas.Bool.Decides.{nat_tests}
use Rattle.std.proofs.lemmas.List.{get_or-set_same, get_or-set_other, get_or_past, length-set}
use Rattle.memory_spec.specs.Pages.{Memory}
use Rattle.guest_call.specs.Effect.{Effect}
use Rattle.guest_call.specs.Queues.{places, entering}
use Rattle.guest_call.specs.Objects.{Objects, act, waits_at, created_count}
use Rattle.guest_call.proofs.Counting.{entering-other, entering-exits, places-nil}
use Rattle.guest_call.proofs.Conservation.{act_keeps}
use Rattle.thunk_spec.specs.Put.{is_readable}
use Rattle.thunk_spec.specs.Delta.{masked}
use Rattle.thunk_spec.specs.Record.{Record, put_of}
use Rattle.machine_spec.specs.declared.states.Asked.{Asked}
use Rattle.machine_spec.specs.declared.states.Asked.TheVariants.{Asks, Stops}
use Rattle.machine_spec.specs.declared.states.End.{End}
use Rattle.machine_spec.specs.Machine.{Hart, Machine, hart_of, hart_in, nobody, is_ready}
use Rattle.machine_spec.specs.Performing.{returned, fated, woken, first_hart, with_created, settled}
use Rattle.machine_spec.specs.Step.{written, done_as_asked, finished, apply, fate_end, end_after}
use Rattle.machine_spec.specs.Whole.{IsTied}
use Rattle.machine_spec.proofs.Harts.{ready-below, length-woken, length-created, created-stays, blocked_count-ready}
use Rattle.history_spec.specs.Facts.{ask_of, acted, effect_of}
use Rattle.history_spec.specs.Before.{is_in}
use Rattle.history_spec.proofs.Lists.{or-left, or-right, is_in-places}

-- one hart after some threads were woken
abbrev pub woken_at : Memory → Option ℕ → List ℕ → ℕ → Hart → Hart
woken_at memory reported [] u h = h
woken_at memory reported (v ∷ us) u h = woken_at memory reported us u (cond (eqb v u) (returned memory 0 reported h) h)

-- after an effect, if no thread is created
abbrev pub settled_at : Effect → Memory → ℕ → ℕ → Hart → Hart
settled_at e memory t u h = woken_at memory e.reported e.woken u (cond (eqb t u) (fated e.fate memory h) h)

-- after a thread was created
abbrev pub created_at : Memory → Option (ℕ × ℕ) → ℕ → ℕ → Hart → Hart
created_at memory None n u h = h
created_at memory (Some c) n u h = cond (eqb n u) (first_hart memory n c.0 c.1) h

-- after its own thunk
abbrev pub ran_at : Record → ℕ → Hart → Hart
ran_at r u h =
    cond (eqb r.thread u) (record { view = h.view; regs = r.kept.finish; number = suc h.number; status = h.status }) h

-- one hart after a record's step, which is a function of that hart alone
abbrev pub after_at : Effect → Memory → Record → ℕ → ℕ → Hart → Hart
after_at e memory r n u h = created_at memory e.created n u (settled_at e memory r.thread u (ran_at r u h))

pub cond-same : {A : Type 0} (b : Bool) (x : A) → cond b x x ≡ x
cond-same true x = refl
cond-same false x = refl

eqb-not : (a b : ℕ) → a ≢ b → eqb a b ≡ false
eqb-not a b other = grind (arith, nat_tests)

set-at :
    (hs : List Hart) (v u : ℕ) (f : Hart → Hart) → u < length hs
    → hart_in (set hs v (f (hart_in hs v))) u ≡ cond (eqb v u) (f (hart_in hs u)) (hart_in hs u)
set-at hs v u f below =
    elim (cases_eq v u) [
      | inl same ↦
          let is : eqb v u ≡ true = eq-eqb v u same in
          rw (is, same) (get_or-set_same hs u (f (hart_in hs u)) nobody below)
      | inr other ↦
          let is : eqb v u ≡ false = eqb-not v u other in
          rw is (get_or-set_other hs v u (f (hart_in hs v)) nobody (λ e. other (sym e)))
    ]

woken-at :
    (memory : Memory) (reported : Option ℕ) (us : List ℕ) (hs : List Hart) (u : ℕ)
    → u < length hs → hart_in (woken memory reported us hs) u ≡ woken_at memory reported us u (hart_in hs u)
woken-at memory reported [] hs u below = refl
woken-at memory reported (v ∷ us) hs u below =
    woken-at memory reported us (set hs v (returned memory 0 reported (hart_in hs v))) u
    (let count = length-set hs v (returned memory 0 reported (hart_in hs v)) in omega arith)
    ∙ ap (woken_at memory reported us u) (set-at hs v u (returned memory 0 reported) below)

length-called :
    (e : Effect) (memory : Memory) (t : ℕ) (hs : List Hart)
    → length (woken memory e.reported e.woken (set hs t (fated e.fate memory (hart_in hs t)))) ≡ length hs
length-called e memory t hs =
    length-woken memory e.reported e.woken (set hs t (fated e.fate memory (hart_in hs t)))
    ∙ length-set hs t (fated e.fate memory (hart_in hs t))

settled-at :
    (e : Effect) (memory : Memory) (t : ℕ) (hs : List Hart) (u : ℕ)
    → u < length hs → hart_in (settled e memory t hs) u ≡ settled_at e memory t u (hart_in hs u)
settled-at e memory t hs u below =
    let count = length-called e memory t hs in
    let count_set = length-set hs t (fated e.fate memory (hart_in hs t)) in
    created-stays memory e.created (woken memory e.reported e.woken (set hs t (fated e.fate memory (hart_in hs t)))) u
    (omega arith)
    ∙ woken-at memory e.reported e.woken (set hs t (fated e.fate memory (hart_in hs t))) u (omega arith)
    ∙ ap (woken_at memory e.reported e.woken u) (set-at hs t u (fated e.fate memory) below)

push-at : (hs : List Hart) (h : Hart) → hart_in (hs ++ h ∷ []) (length hs) ≡ h
push-at [] h = refl
push-at (x ∷ hs) h = push-at hs h

push-past : (hs : List Hart) (h : Hart) (u : ℕ) → length hs < u → hart_in (hs ++ h ∷ []) u ≡ nobody
push-past [] h zero past = absurd (omega arith)
push-past [] h (suc u) past = refl
push-past (x ∷ hs) h zero past = absurd (omega arith)
push-past (x ∷ hs) h (suc u) past = push-past hs h u (omega arith)

created-past :
    (memory : Memory) (c : Option (ℕ × ℕ)) (hs : List Hart) (u : ℕ)
    → length hs ≤ u → hart_in (with_created memory c hs) u ≡ created_at memory c (length hs) u nobody
created-past memory None hs u past = get_or_past hs u nobody past
created-past memory (Some c) hs u past =
    elim (cases_eq (length hs) u) [
      | inl same ↦
          let is : eqb (length hs) u ≡ true = eq-eqb (length hs) u same in
          rw (is, ← same) (push-at hs (first_hart memory (length hs) c.0 c.1))
      | inr other ↦
          let is : eqb (length hs) u ≡ false = eqb-not (length hs) u other in
          rw is (push-past hs (first_hart memory (length hs) c.0 c.1) u (omega arith))
    ]

settled-past :
    (e : Effect) (memory : Memory) (t : ℕ) (hs : List Hart) (u : ℕ)
    → length hs ≤ u → hart_in (settled e memory t hs) u ≡ created_at memory e.created (length hs) u nobody
settled-past e memory t hs u past =
    let count = length-called e memory t hs in
    created-past memory e.created (woken memory e.reported e.woken (set hs t (fated e.fate memory (hart_in hs t)))) u
    (omega arith)
    ∙ ap (λ (n : ℕ). created_at memory e.created n u nobody) count

created-below : (memory : Memory) (c : Option (ℕ × ℕ)) (n u : ℕ) (h : Hart) → u < n → created_at memory c n u h ≡ h
created-below memory None n u h below = refl
created-below memory (Some c) n u h below = let is : eqb n u ≡ false = eqb-not n u (omega arith) in rw is refl

done-below :
    (m : Machine) (t u : ℕ) (a : Asked)
    → u < length m.harts → hart_of (done_as_asked m t a) u ≡ settled_at (acted m t a).0 m.memory t u (hart_of m u)
done-below m t u (Asks call) below =
    settled-at (act (is_readable m.frame.map) m.objects t call).0 m.memory t m.harts u below
done-below m t u (Stops e) below = sym (cond-same (eqb t u) (hart_of m u))

done-past :
    (m : Machine) (t u : ℕ) (a : Asked)
    → length m.harts ≤ u
    → hart_of (done_as_asked m t a) u ≡ created_at m.memory (acted m t a).0.created (length m.harts) u nobody
done-past m t u (Asks call) past =
    settled-past (act (is_readable m.frame.map) m.objects t call).0 m.memory t m.harts u past
done-past m t u (Stops e) past = get_or_past m.harts u nobody past

acted-written :
    (m : Machine) (t u : ℕ) (memory : Memory) (r : Record) (put : List ℕ) (a : Asked)
    → acted (written m t memory r.kept.finish put) u a ≡ acted m u a
acted-written m t u memory r put (Asks call) = refl
acted-written m t u memory r put (Stops e) = refl

-- a woken thread waited, or is the caller
pub acted-keeps :
    (m : Machine) (t : ℕ) (a : Asked)
    → IsTied m.objects m.harts → is_ready (hart_of m t).status ≡ true
    → (u : ℕ)
    → waits_at (acted m t a).1 u + places u (acted m t a).0.woken
    ≡ waits_at m.objects u + entering t (acted m t a).0.fate u
acted-keeps m t (Asks call) tied ready u =
    act_keeps (is_readable m.frame.map) m.objects t call tied.kept
    (omega (arith, tied.threads, ready-below m.harts t ready)) u
acted-keeps m t (Stops e) tied ready u =
    let none = places-nil u in let enters = entering-exits t 0 u in omega arith

pub unwoken :
    (m : Machine) (t : ℕ) (a : Asked) (u : ℕ)
    → IsTied m.objects m.harts → is_ready (hart_of m t).status ≡ true
    → u ≢ t → waits_at m.objects u ≡ 0
    → is_in u (acted m t a).0.woken ≡ false
unwoken m t a u tied ready other none =
    let keeps = acted-keeps m t a tied ready u in
    let enters = entering-other t (acted m t a).0.fate u other in
    is_in-places u (acted m t a).0.woken (omega arith)

pub waits-past : (m : Machine) (u : ℕ) → IsTied m.objects m.harts → length m.harts ≤ u → waits_at m.objects u ≡ 0
waits-past m u tied past = tied.kept.known u (omega (arith, tied.threads))

pub waits-ready :
    (m : Machine) (u : ℕ) → IsTied m.objects m.harts → is_ready (hart_of m u).status ≡ true → waits_at m.objects u ≡ 0
waits-ready m u tied ready = tied.blocked u ∙ blocked_count-ready (hart_of m u).status ready

pub woken_at-none :
    (memory : Memory) (reported : Option ℕ) (us : List ℕ) (u : ℕ) (h : Hart)
    → is_in u us ≡ false → woken_at memory reported us u h ≡ h
woken_at-none memory reported [] u h none = refl
woken_at-none memory reported (v ∷ us) u h none =
    let first : eqb v u ≡ false = or-left (eqb v u) (is_in u us) none in
    rw first (woken_at-none memory reported us u h (or-right (eqb v u) (is_in u us) none))

-- the harts after a record was applied
pub apply-at :
    (m : Machine) (r : Record) (u : ℕ)
    → IsTied m.objects m.harts → is_ready (hart_of m r.thread).status ≡ true
    → hart_of (apply m r) u ≡ after_at (effect_of m r) (masked m.memory r.kept.delta) r (length m.harts) u (hart_of m u)
unfolding apply finished
apply-at m r u tied ready =
    let memory : Memory = masked m.memory r.kept.delta in
    let put : List ℕ = put_of m.frame.map (hart_of m r.thread).view r.kept in
    let h : Hart =
    record {
      view = (hart_of m r.thread).view;
      regs = r.kept.finish;
      number = suc (hart_of m r.thread).number;
      status =
          (hart_of m r.thread).status;
    } in
    let count : length (set m.harts r.thread h) ≡ length m.harts = length-set m.harts r.thread h in
    let same : acted (written m r.thread memory r.kept.finish put) r.thread (ask_of r) ≡ acted m r.thread (ask_of r) =
    acted-written m r.thread r.thread memory r put (ask_of r) in
    elim (cases_lt u (length m.harts)) [
      | inl below ↦
          done-below (written m r.thread memory r.kept.finish put) r.thread u (ask_of r) (omega arith)
          ∙ ap (λ (x : Effect × Objects). settled_at x.0 memory r.thread u (hart_in (set m.harts r.thread h) u)) same
          ∙ ap (settled_at (effect_of m r) memory r.thread u)
          (set-at m.harts r.thread u
          (λ g. record { view = g.view; regs = r.kept.finish; number = suc g.number; status = g.status }) below)
          ∙ sym (created-below memory (effect_of m r).created (length m.harts) u
          (settled_at (effect_of m r) memory r.thread u (ran_at r u (hart_of m u))) below)
      | inr past ↦
          let own : r.thread < length m.harts = ready-below m.harts r.thread ready in
          let other : eqb r.thread u ≡ false = eqb-not r.thread u (omega arith) in
          let none : hart_of m u ≡ nobody = get_or_past m.harts u nobody past in
          let ran : ran_at r u nobody ≡ nobody = rw other refl in
          let calm : cond (eqb r.thread u) (fated (effect_of m r).fate memory nobody) nobody ≡ nobody = rw other refl in
          let quiet : is_in u (effect_of m r).woken ≡ false =
          unwoken m r.thread (ask_of r) u tied ready (omega arith) (waits-past m u tied past) in
          done-past (written m r.thread memory r.kept.finish put) r.thread u (ask_of r) (omega arith)
          ∙ ap (λ (x : Effect × Objects). created_at memory x.0.created (length (set m.harts r.thread h)) u nobody) same
          ∙ ap (λ (n : ℕ). created_at memory (effect_of m r).created n u nobody) count
          ∙ ap (created_at memory (effect_of m r).created (length m.harts) u)
          (sym (ap (λ (g : Hart). settled_at (effect_of m r) memory r.thread u (ran_at r u g)) none
          ∙ ap (settled_at (effect_of m r) memory r.thread u) ran
          ∙ ap (woken_at memory (effect_of m r).reported (effect_of m r).woken u) calm
          ∙ woken_at-none memory (effect_of m r).reported (effect_of m r).woken u nobody quiet))
    ]

-- the other parts of the machine

done-length :
    (m : Machine) (t : ℕ) (a : Asked)
    → length (done_as_asked m t a).harts ≡ length m.harts + created_count (acted m t a).0.created
done-length m t (Asks call) =
    length-created m.memory e.created
    (woken m.memory e.reported e.woken (set m.harts t (fated e.fate m.memory (hart_in m.harts t))))
    ∙ ap (λ (n : ℕ). n + created_count e.created) (length-called e m.memory t m.harts)
  where
    e : Effect
    e = (act (is_readable m.frame.map) m.objects t call).0
done-length m t (Stops e) = omega arith

pub apply-length :
    (m : Machine) (r : Record) → length (apply m r).harts ≡ length m.harts + created_count (effect_of m r).created
unfolding apply finished
apply-length m r =
    let h : Hart =
    record {
      view = (hart_of m r.thread).view;
      regs = r.kept.finish;
      number = suc (hart_of m r.thread).number;
      status =
          (hart_of m r.thread).status;
    } in
    let put : List ℕ = put_of m.frame.map (hart_of m r.thread).view r.kept in
    done-length (written m r.thread (masked m.memory r.kept.delta) r.kept.finish put) r.thread (ask_of r)
    ∙ ap₂ (λ (n : ℕ) (x : Effect × Objects). n + created_count x.0.created) (length-set m.harts r.thread h)
    (acted-written m r.thread r.thread (masked m.memory r.kept.delta) r put (ask_of r))

done-objects : (m : Machine) (t : ℕ) (a : Asked) → (done_as_asked m t a).objects ≡ (acted m t a).1
done-objects m t (Asks call) = refl
done-objects m t (Stops e) = refl

pub apply-objects : (m : Machine) (r : Record) → (apply m r).objects ≡ (acted m r.thread (ask_of r)).1
unfolding apply finished
apply-objects m r =
    let put : List ℕ = put_of m.frame.map (hart_of m r.thread).view r.kept in
    done-objects (written m r.thread (masked m.memory r.kept.delta) r.kept.finish put) r.thread (ask_of r)
    ∙ ap (λ (x : Effect × Objects). x.1)
    (acted-written m r.thread r.thread (masked m.memory r.kept.delta) r put (ask_of r))

done-memory : (m : Machine) (t : ℕ) (a : Asked) → (done_as_asked m t a).memory ≡ m.memory
done-memory m t (Asks call) = refl
done-memory m t (Stops e) = refl

pub apply-memory : (m : Machine) (r : Record) → (apply m r).memory ≡ masked m.memory r.kept.delta
unfolding apply finished
apply-memory m r =
    done-memory
    (written m r.thread (masked m.memory r.kept.delta) r.kept.finish
    (put_of m.frame.map (hart_of m r.thread).view r.kept)) r.thread (ask_of r)

done-output : (m : Machine) (t : ℕ) (a : Asked) → (done_as_asked m t a).output ≡ m.output
done-output m t (Asks call) = refl
done-output m t (Stops e) = refl

pub apply-output :
    (m : Machine) (r : Record) → (apply m r).output ≡ m.output ++ put_of m.frame.map (hart_of m r.thread).view r.kept
unfolding apply finished
apply-output m r =
    done-output
    (written m r.thread (masked m.memory r.kept.delta) r.kept.finish
    (put_of m.frame.map (hart_of m r.thread).view r.kept)) r.thread (ask_of r)

done-steps : (m : Machine) (t : ℕ) (a : Asked) → (done_as_asked m t a).steps ≡ m.steps
done-steps m t (Asks call) = refl
done-steps m t (Stops e) = refl

pub apply-steps : (m : Machine) (r : Record) → (apply m r).steps ≡ suc m.steps
unfolding apply finished
apply-steps m r =
    done-steps
    (written m r.thread (masked m.memory r.kept.delta) r.kept.finish
    (put_of m.frame.map (hart_of m r.thread).view r.kept)) r.thread (ask_of r)

done-limit : (m : Machine) (t : ℕ) (a : Asked) → (done_as_asked m t a).limit ≡ m.limit
done-limit m t (Asks call) = refl
done-limit m t (Stops e) = refl

pub apply-limit : (m : Machine) (r : Record) → (apply m r).limit ≡ m.limit
unfolding apply finished
apply-limit m r =
    done-limit
    (written m r.thread (masked m.memory r.kept.delta) r.kept.finish
    (put_of m.frame.map (hart_of m r.thread).view r.kept)) r.thread (ask_of r)

-- the end of a step by itself
abbrev pub own_end : Machine → ℕ → Asked → Option End
own_end m t (Asks call) = fate_end (act (is_readable m.frame.map) m.objects t call).0.fate
own_end m t (Stops e) = Some e

-- the same of what a record's thunk requests
abbrev pub own_end_of : Machine → Record → Option End
own_end_of m r = own_end m r.thread (ask_of r)

own_end-written :
    (m : Machine) (t u : ℕ) (memory : Memory) (r : Record) (put : List ℕ) (a : Asked)
    → own_end (written m t memory r.kept.finish put) u a ≡ own_end m u a
own_end-written m t u memory r put (Asks call) = refl
own_end-written m t u memory r put (Stops e) = refl

done-ending :
    (m : Machine) (t : ℕ) (a : Asked)
    → (done_as_asked m t a).ending ≡ end_after (own_end m t a) (done_as_asked m t a).harts m.limit m.steps
done-ending m t (Asks call) = refl
done-ending m t (Stops e) = refl

pub apply-ending :
    (m : Machine) (r : Record) → (apply m r).ending ≡ end_after (own_end_of m r) (apply m r).harts m.limit (suc m.steps)
unfolding apply finished
apply-ending m r =
    let put : List ℕ = put_of m.frame.map (hart_of m r.thread).view r.kept in
    let memory : Memory = masked m.memory r.kept.delta in
    done-ending (written m r.thread memory r.kept.finish put) r.thread (ask_of r)
    ∙ ap
    (λ (e : Option End).
    end_after e (done_as_asked (written m r.thread memory r.kept.finish put) r.thread (ask_of r)).harts m.limit
    (suc m.steps))
    (own_end-written m r.thread r.thread memory r put (ask_of r))
