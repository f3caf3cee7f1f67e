-- Two neighbouring steps of which neither must come before the other can be swapped.
use Rattle.std.proofs.Common.{◌≡◌, ◌≢◌, ◌<◌, ◌≤◌, ◌+◌, ℕ, zero, suc, Bool, true, false, ◌&&◌, ◌||◌, not, eqb, cond, List, [], ◌∷◌, ◌++◌, length, map, get_or, Option, Some, None, is_none, is_some, refl, ap, ap₂, sym, ◌∙◌, subst, inl, inr, ◌⊎◌, arith, append-nil}
use Rattle.std.proofs.lemmas.Bool.{cases_eq, cases_lt, eqb-true}
use Rattle.std.proofs.lemmas.Bool.Decides.{nat_tests}
use Rattle.std.specs.List.{list_all, list_any}
use Rattle.memory_spec.specs.Pages.{Memory, page_of}
use Rattle.guest_call.specs.declared.Object.{Object}
use Rattle.guest_call.specs.declared.Object.TheVariants.{Output, ThreadTable}
use Rattle.guest_call.specs.Effect.{Effect}
use Rattle.guest_call.specs.Queues.{places}
use Rattle.guest_call.specs.Objects.{Objects, waits_at, created_count}
use Rattle.guest_call.specs.Locality.{part_of, is_among}
use Rattle.guest_call.proofs.Counting.{entering-other}
use Rattle.thunk_spec.specs.Thunk.{Frame}
use Rattle.thunk_spec.specs.Delta.{masked}
use Rattle.thunk_spec.specs.Record.{Record, put_of}
use Rattle.machine_spec.specs.declared.states.End.{End}
use Rattle.machine_spec.specs.declared.states.Status.{Status}
use Rattle.machine_spec.specs.declared.states.Status.TheVariants.{Ready, Blocked, Ended}
use Rattle.machine_spec.specs.Machine.{Hart, Machine, hart_of, hart_in, is_ready, is_ended}
use Rattle.machine_spec.specs.Step.{apply, fits, fate_end, end_after, state_end}
use Rattle.machine_spec.specs.Whole.{IsWhole}
use Rattle.machine_spec.proofs.Harts.{ready-below}
use Rattle.history_spec.proofs.Applying.{fits-can_step, apply-frame, apply-whole, apply-stays}
use Rattle.history_spec.proofs.Truth.{fits-hart}
use Rattle.history_spec.specs.Facts.{Fact, ask_of, acted, effect_of, objects_of, starting, served, served_by, read_by, written_slots, fact_of}
use Rattle.history_spec.specs.Before.{is_in, meets, overlap}
use Rattle.history_spec.proofs.Lists.{is_or_not, meets-not, meets-not_back, overlap-not, overlap-not_back, is_in-places}
use Rattle.history_spec.proofs.Pages.{masked-first, masked-swap}
use Rattle.history_spec.proofs.After.{created_at, settled_at, ran_at, after_at, acted-keeps, unwoken, waits-past, waits-ready, apply-at, apply-length, apply-memory, apply-objects, apply-output, apply-steps, apply-limit, apply-ending, own_end_of}
use Rattle.history_spec.proofs.Local.{IsMet, effect-met, objects-met, own_end-met, parts-stay, parts-met, objects-same, uncreated, unput}
use Rattle.history_spec.proofs.Alike.{bare, IsAlike, bare-after, touched, untouched-after, touched-served, read_by-in, read_by-on, served-touched, end_after-like, fits-parts}
use Rattle.history_spec.proofs.Simulate.{none-is, end_after-none, fate-none, same-fact}

-- two steps, one after the other, of which neither must come before the other, and the later isn't the last
pub record IsPair (reads : ℕ → ℕ → List ℕ) (m : Machine) (a b : Record) : Type 0 where
  pub whole : IsWhole m
  pub none : is_none m.ending ≡ true
  pub fit_a : fits m a ≡ true
  pub none_a : is_none (apply m a).ending ≡ true
  pub fit_b : fits (apply m a) b ≡ true
  pub none_b : is_none (apply (apply m a) b).ending ≡ true
  pub threads : b.thread ≢ a.thread
  pub given : is_in b.thread (served_by m a) ≡ false
  pub objects : overlap (objects_of m a) (objects_of (apply m a) b) ≡ false
  pub writes : meets (written_slots a) (written_slots b) ≡ false
  pub opens : meets (written_slots a) (read_by reads (apply (apply m a) b) (served_by (apply m a) b)) ≡ false
  pub opened : meets (read_by reads (apply m a) (served_by m a)) (written_slots b) ≡ false

-- lemmas that don't need the pair

ready-some :
    (hs : List Hart) (u : ℕ) → is_ready (hart_in hs u).status ≡ true
    → (list_all (λ (h : Hart). is_ended h.status) hs ≡ false) × (list_any (λ (h : Hart). is_ready h.status) hs ≡ true)
ready-some [] u ready = cc
ready-some (h ∷ hs) zero ready = (first h.status ready, rw ready refl)
  where
    first : (s : Status) → is_ready s ≡ true → (is_ended s && list_all (λ (g : Hart). is_ended g.status) hs) ≡ false
    first Ready r = refl
    first Blocked r = refl
    first (Ended v) r = cc
ready-some (h ∷ hs) (suc u) ready =
    let rest = ready-some hs u ready in (left (is_ended h.status) rest.0, right (is_ready h.status) rest.1)
  where
    left : (b : Bool) {c : Bool} → c ≡ false → (b && c) ≡ false
    left true e = e
    left false e = refl

    right : (b : Bool) {c : Bool} → c ≡ true → (b || c) ≡ true
    right true e = refl
    right false e = e

state_end-none :
    (hs : List Hart) (u limit steps : ℕ) → is_ready (hart_in hs u).status ≡ true → steps < limit
    → state_end hs limit steps ≡ None
state_end-none hs u limit steps ready left =
    let some = ready-some hs u ready in
    let fewer : Rattle.std.proofs.Common.leb limit steps ≡ false = grind (arith, nat_tests) in
    rw (some.0, some.1, fewer) refl

at-index :
    (e : Effect) (mem : Memory) (r : Record) (n k u : ℕ) (h : Hart) → (e.created ≡ None) ⊎ (k ≡ n)
    → after_at e mem r k u h ≡ after_at e mem r n u h
at-index e mem r n k u h (inl nobody_new) =
    ap (λ (c : Option (ℕ × ℕ)). created_at mem c k u (settled_at e mem r.thread u (ran_at r u h))) nobody_new
    ∙ sym (ap (λ (c : Option (ℕ × ℕ)). created_at mem c n u (settled_at e mem r.thread u (ran_at r u h))) nobody_new)
at-index e mem r n k u h (inr same) = ap (λ (i : ℕ). after_at e mem r i u h) same

served-index : (e : Effect) (t n k : ℕ) → (e.created ≡ None) ⊎ (k ≡ n) → served e t k ≡ served e t n
served-index e t n k (inl nobody_new) =
    ap (λ (c : Option (ℕ × ℕ)). Rattle.history_spec.specs.Facts.returning t e.fate ++ (e.woken ++ starting k c))
    nobody_new
    ∙ sym (ap
    (λ (c : Option (ℕ × ℕ)). Rattle.history_spec.specs.Facts.returning t e.fate ++ (e.woken ++ starting n c)) nobody_new)
served-index e t n k (inr same) = ap (served e t) same

put-swap : (o p q : List ℕ) → (p ≡ []) ⊎ (q ≡ []) → (o ++ q) ++ p ≡ (o ++ p) ++ q
put-swap o p q (inl none) = rw none (append-nil (o ++ q) ∙ ap (λ (x : List ℕ). x ++ q) (sym (append-nil o)))
put-swap o p q (inr none) = rw none (ap (λ (x : List ℕ). x ++ p) (append-nil o) ∙ sym (append-nil (o ++ p)))

module _ (reads : ℕ → ℕ → List ℕ) (m : Machine) (a b : Record) (pair : IsPair reads m a b) where
  -- the machines after one of the two

  ready_a : is_ready (hart_of m a.thread).status ≡ true
  ready_a = (fits-parts m a pair.fit_a).ready

  whole_a : IsWhole (apply m a)
  whole_a = apply-whole m a pair.whole (fits-can_step m a pair.none pair.fit_a)

  ready_ab : is_ready (hart_of (apply m a) b.thread).status ≡ true
  ready_ab = (fits-parts (apply m a) b pair.fit_b).ready

  fate_a : fate_end (effect_of m a).fate ≡ None
  fate_a =
      fate-none m a.thread (ask_of a)
      (end_after-none (own_end_of m a) (apply m a).harts m.limit (suc m.steps)
      (sym (apply-ending m a) ∙ none-is (apply m a).ending pair.none_a)).0

  -- the earlier step doesn't touch the later one's thread
  untouched_b : touched (effect_of m a) a.thread (length m.harts) b.thread ≡ false
  untouched_b =
      elim (is_or_not (touched (effect_of m a) a.thread (length m.harts) b.thread)) [
        | inr apart ↦ apart
        | inl is ↦
            let at = apply-at m a b.thread pair.whole.tied ready_a in
            let served =
            touched-served (effect_of m a) (masked m.memory a.kept.delta) a (length m.harts) b.thread
            (hart_of m b.thread) is fate_a (ap (λ (h : Hart). is_ready h.status) (sym at) ∙ ready_ab) in
            absurd (let is_it = served.there in let isnt = pair.given in cc)
      ]

  stays_b : hart_of (apply m a) b.thread ≡ hart_of m b.thread
  stays_b =
      apply-at m a b.thread pair.whole.tied ready_a
      ∙ untouched-after (effect_of m a) (masked m.memory a.kept.delta) a (length m.harts) b.thread
      (hart_of m b.thread) untouched_b

  pub fit_early : fits m b ≡ true
  fit_early = sym (fits-hart m (apply m a) b (ap (λ (f : Frame). f.fuel) (apply-frame m a)) stays_b) ∙ pair.fit_b

  ready_b : is_ready (hart_of m b.thread).status ≡ true
  ready_b = (fits-parts m b fit_early).ready

  whole_b : IsWhole (apply m b)
  whole_b = apply-whole m b pair.whole (fits-can_step m b pair.none fit_early)

  -- and the later one's effect is the same before it
  met_b : IsMet (apply m a) b m
  met_b = record {
    frame = sym (apply-frame m a);
    kept = whole_a.tied.kept;
    alike = λ p among.
        sym (parts-stay m a p pair.whole.tied.kept
        (overlap-not_back p (objects_of m a) (objects_of (apply m a) b) pair.objects among));
  }

  objects_b : objects_of m b ≡ objects_of (apply m a) b
  objects_b = objects-met (apply m a) m b met_b

  effect_b : effect_of (apply m a) b ≡ effect_of m b
  effect_b = sym (effect-met (apply m a) m b met_b)

  not_among_b : (p : Object) → is_among p (objects_of m a) ≡ true → is_among p (objects_of m b) ≡ false
  not_among_b p among =
      subst (λ (os : List Object). is_among p os ≡ false) (sym objects_b)
      (overlap-not p (objects_of m a) (objects_of (apply m a) b) pair.objects among)

  met_a : IsMet m a (apply m b)
  met_a = record {
    frame = apply-frame m b;
    kept = pair.whole.tied.kept;
    alike = λ p among. parts-stay m b p pair.whole.tied.kept (not_among_b p among);
  }

  effect_a : effect_of (apply m b) a ≡ effect_of m a
  effect_a = effect-met m (apply m b) a met_a

  stays_a : hart_of (apply m b) a.thread ≡ hart_of m a.thread
  stays_a =
      apply-stays m b a.thread pair.whole (fits-can_step m b pair.none fit_early) (λ e. pair.threads (sym e)) ready_a

  pub fit_late : fits (apply m b) a ≡ true
  fit_late = fits-hart m (apply m b) a (ap (λ (f : Frame). f.fuel) (apply-frame m b)) stays_a ∙ pair.fit_a

  ready_ba : is_ready (hart_of (apply m b) a.thread).status ≡ true
  ready_ba = (fits-parts (apply m b) a fit_late).ready

  -- ends

  whole_ab : IsWhole (apply (apply m a) b)
  whole_ab = apply-whole (apply m a) b whole_a (fits-can_step (apply m a) b pair.none_a pair.fit_b)

  steps_left : suc (suc m.steps) < m.limit
  steps_left =
      let left = whole_ab.steps_left (none-is (apply (apply m a) b).ending pair.none_b) in
      let limit : (apply (apply m a) b).limit ≡ m.limit = apply-limit (apply m a) b ∙ apply-limit m a in
      let steps : (apply (apply m a) b).steps ≡ suc (suc m.steps) = apply-steps (apply m a) b ∙ ap suc (apply-steps m a) in
      omega arith

  ends_ab :
      (own_end_of (apply m a) b ≡ None) × (state_end (apply (apply m a) b).harts (apply m a).limit (suc (apply m a).steps) ≡ None)
  ends_ab =
      end_after-none (own_end_of (apply m a) b) (apply (apply m a) b).harts (apply m a).limit (suc (apply m a).steps)
      (sym (apply-ending (apply m a) b) ∙ none-is (apply (apply m a) b).ending pair.none_b)

  own_b : own_end_of m b ≡ None
  own_b = own_end-met (apply m a) m b met_b ∙ ends_ab.0

  own_a : own_end_of (apply m b) a ≡ None
  own_a =
      own_end-met m (apply m b) a met_a
      ∙ (end_after-none (own_end_of m a) (apply m a).harts m.limit (suc m.steps)
      (sym (apply-ending m a) ∙ none-is (apply m a).ending pair.none_a)).0

  ending_b : (apply m b).ending ≡ None
  ending_b =
      apply-ending m b
      ∙ rw own_b
      (state_end-none (apply m b).harts a.thread m.limit (suc m.steps) ready_ba (let left = steps_left in omega arith))

  pub none_early : is_none (apply m b).ending ≡ true
  none_early = rw ending_b refl

  fate_b : fate_end (effect_of m b).fate ≡ None
  fate_b = fate-none m b.thread (ask_of b) own_b

  whole_ba : IsWhole (apply (apply m b) a)
  whole_ba = apply-whole (apply m b) a whole_b (fits-can_step (apply m b) a none_early fit_late)

  -- a thread that the earlier step touches isn't touched by the later one

  one_creates : ((effect_of m a).created ≡ None) ⊎ ((effect_of m b).created ≡ None)
  one_creates =
      elim (is_or_not (is_among ThreadTable (objects_of m a))) [
        | inl among ↦ inr (uncreated m b pair.whole.tied.kept (not_among_b ThreadTable among))
        | inr apart ↦ inl (uncreated m a pair.whole.tied.kept apart)
      ]

  length-uncreated : (r : Record) → (effect_of m r).created ≡ None → length (apply m r).harts ≡ length m.harts
  length-uncreated r none_new =
      apply-length m r ∙ ap (λ (c : Option (ℕ × ℕ)). length m.harts + created_count c) none_new ∙ omega arith

  index_b : ((effect_of m b).created ≡ None) ⊎ (length (apply m a).harts ≡ length m.harts)
  index_b = elim one_creates [ inl none_new ↦ inr (length-uncreated a none_new) | inr none_new ↦ inl none_new ]

  index_a : ((effect_of m a).created ≡ None) ⊎ (length (apply m b).harts ≡ length m.harts)
  index_a = elim one_creates [ inl none_new ↦ inl none_new | inr none_new ↦ inr (length-uncreated b none_new) ]

  -- a thread that the earlier step woke isn't woken by the later one
  woken-once :
      (u : ℕ) → u ≢ a.thread → u ≢ b.thread → is_in u (effect_of m a).woken ≡ true
      → is_in u (effect_of m b).woken ≡ false
  woken-once u other_a other_b woke =
      let keeps = acted-keeps m a.thread (ask_of a) pair.whole.tied ready_a u in
      let enters = entering-other a.thread (effect_of m a).fate u other_a in
      let once = pair.whole.tied.kept.once u in
      let after : waits_at (apply m a).objects u ≡ waits_at (acted m a.thread (ask_of a)).1 u =
      ap (λ (o : Objects). waits_at o u) (apply-objects m a) in
      let some : places u (effect_of m a).woken ≢ 0 =
      λ none_there. (let isnt = is_in-places u (effect_of m a).woken none_there in cc) in
      subst (λ (e : Effect). is_in u e.woken ≡ false) effect_b
      (unwoken (apply m a) b.thread (ask_of b) u whole_a.tied ready_ab other_b (omega arith))

  below-woken : (u : ℕ) → u ≢ a.thread → is_in u (effect_of m a).woken ≡ true → u < length m.harts
  below-woken u other_a woke =
      elim (cases_lt u (length m.harts)) [
        | inl below ↦ below
        | inr past ↦ absurd
            (let isnt =
            unwoken m a.thread (ask_of a) u pair.whole.tied ready_a other_a (waits-past m u pair.whole.tied past) in cc)
      ]

  not_starting : (c : Option (ℕ × ℕ)) (n u : ℕ) → u < n → is_in u (starting n c) ≡ false
  not_starting None n u below = refl
  not_starting (Some c) n u below = let isnt : eqb n u ≡ false = grind (arith, nat_tests) in rw isnt refl

  starting-is : (c : Option (ℕ × ℕ)) (n u : ℕ) → is_in u (starting n c) ≡ true → (u ≡ n) × (c ≢ None)
  starting-is None n u there = cc
  starting-is (Some c) n u there = (sym (eqb-true n u (here (eqb n u) there)), λ e. cc)
    where
      here : (x : Bool) → (x || false) ≡ true → x ≡ true
      here true h = refl
      here false h = h

  no-starting : (c : Option (ℕ × ℕ)) (n u : ℕ) → c ≡ None → is_in u (starting n c) ≡ false
  no-starting c n u is = rw is refl

  untouched-from :
      (e : Effect) (t n u : ℕ) → t ≢ u → is_in u e.woken ≡ false → is_in u (starting n e.created) ≡ false
      → touched e t n u ≡ false
  untouched-from e t n u other quiet old =
      let isnt : eqb t u ≡ false = grind (arith, nat_tests) in rw (isnt, quiet, old) refl

  apart :
      (u : ℕ) → touched (effect_of m a) a.thread (length m.harts) u ≡ true
      → touched (effect_of m b) b.thread (length m.harts) u ≡ false
  apart u is =
      elim (cases_eq u a.thread) [
        | inl own ↦
            untouched-from (effect_of m b) b.thread (length m.harts) u
            (λ e. pair.threads (e ∙ own))
            (rw own (unwoken m b.thread (ask_of b) a.thread pair.whole.tied ready_b (λ e. pair.threads (sym e))
            (waits-ready m a.thread pair.whole.tied ready_a)))
            (not_starting (effect_of m b).created (length m.harts) u (rw own (ready-below m.harts a.thread ready_a)))
        | inr other ↦
            untouched-from (effect_of m b) b.thread (length m.harts) u
            (λ e. let isnt = untouched_b in let is_b = rw (sym e) at is in cc)
            (elim (is_or_not (is_in u (effect_of m a).woken)) [
              | inl woke ↦ woken-once u other (λ e. let isnt = untouched_b in let is_b = rw e at is in cc) woke
              | inr quiet ↦ unwoken m b.thread (ask_of b) u pair.whole.tied ready_b
                  (λ e. let isnt = untouched_b in let is_b = rw e at is in cc)
                  (waits-past m u pair.whole.tied
                  (let new = (starting-is (effect_of m a).created (length m.harts) u (last other quiet)).0 in
                  omega arith))
            ])
            (elim (is_or_not (is_in u (effect_of m a).woken)) [
              | inl woke ↦ not_starting (effect_of m b).created (length m.harts) u (below-woken u other woke)
              | inr quiet ↦
                  elim one_creates [
                    | inl none_new ↦ absurd
                        ((starting-is (effect_of m a).created (length m.harts) u (last other quiet)).1 none_new)
                    | inr none_new ↦ no-starting (effect_of m b).created (length m.harts) u none_new
                  ]
            ])
      ]
    where
      last :
          u ≢ a.thread → is_in u (effect_of m a).woken ≡ false
          → is_in u (starting (length m.harts) (effect_of m a).created) ≡ true
      last other quiet =
          third (eqb a.thread u) (is_in u (effect_of m a).woken)
          (is_in u (starting (length m.harts) (effect_of m a).created))
          (let isnt : eqb a.thread u ≡ false = grind (arith, nat_tests) in isnt) quiet is
        where
          third : (x y z : Bool) → x ≡ false → y ≡ false → (x || (y || z)) ≡ true → z ≡ true
          third false false z p q h = h
          third true y z p q h = cc
          third false true z p q h = cc

  -- the harts of both orders

  at_a :
      (u : ℕ) → hart_of (apply m a) u
      ≡ after_at (effect_of m a) (masked m.memory a.kept.delta) a (length m.harts) u (hart_of m u)
  at_a u = apply-at m a u pair.whole.tied ready_a

  at_b :
      (u : ℕ) → hart_of (apply m b) u
      ≡ after_at (effect_of m b) (masked m.memory b.kept.delta) b (length m.harts) u (hart_of m u)
  at_b u = apply-at m b u pair.whole.tied ready_b

  at_ab :
      (u : ℕ) → hart_of (apply (apply m a) b) u
      ≡ after_at (effect_of m b) (masked (masked m.memory a.kept.delta) b.kept.delta) b (length m.harts) u
      (hart_of (apply m a) u)
  at_ab u =
      apply-at (apply m a) b u whole_a.tied ready_ab
      ∙ ap₂ (λ (e : Effect) (mem : Memory).
      after_at e (masked mem b.kept.delta) b (length (apply m a).harts) u (hart_of (apply m a) u)) effect_b (apply-memory m a)
      ∙ at-index (effect_of m b) (masked (masked m.memory a.kept.delta) b.kept.delta) b (length m.harts)
      (length (apply m a).harts) u (hart_of (apply m a) u) index_b

  at_ba :
      (u : ℕ) → hart_of (apply (apply m b) a) u
      ≡ after_at (effect_of m a) (masked (masked m.memory b.kept.delta) a.kept.delta) a (length m.harts) u
      (hart_of (apply m b) u)
  at_ba u =
      apply-at (apply m b) a u whole_b.tied ready_ba
      ∙ ap₂ (λ (e : Effect) (mem : Memory).
      after_at e (masked mem a.kept.delta) a (length (apply m b).harts) u (hart_of (apply m b) u)) effect_a (apply-memory m b)
      ∙ at-index (effect_of m a) (masked (masked m.memory b.kept.delta) a.kept.delta) a (length m.harts)
      (length (apply m b).harts) u (hart_of (apply m b) u) index_a

  -- a hart that the earlier step touches
  first_ab :
      (u : ℕ) → touched (effect_of m a) a.thread (length m.harts) u ≡ true
      → hart_of (apply (apply m a) b) u ≡ hart_of (apply m a) u
  first_ab u is =
      at_ab u ∙ untouched-after (effect_of m b) (masked (masked m.memory a.kept.delta) b.kept.delta) b
      (length m.harts) u (hart_of (apply m a) u) (apart u is)

  first_ba :
      (u : ℕ) → touched (effect_of m a) a.thread (length m.harts) u ≡ true
      → hart_of (apply (apply m b) a) u
      ≡ after_at (effect_of m a) (masked (masked m.memory b.kept.delta) a.kept.delta) a (length m.harts) u (hart_of m u)
  first_ba u is =
      at_ba u
      ∙ ap (after_at (effect_of m a) (masked (masked m.memory b.kept.delta) a.kept.delta) a (length m.harts) u)
      (at_b u ∙ untouched-after (effect_of m b) (masked m.memory b.kept.delta) b (length m.harts) u (hart_of m u)
      (apart u is))

  -- a hart that it doesn't touch
  then_ab :
      (u : ℕ) → touched (effect_of m a) a.thread (length m.harts) u ≡ false
      → hart_of (apply (apply m a) b) u
      ≡ after_at (effect_of m b) (masked (masked m.memory a.kept.delta) b.kept.delta) b (length m.harts) u (hart_of m u)
  then_ab u isnt =
      at_ab u
      ∙ ap (after_at (effect_of m b) (masked (masked m.memory a.kept.delta) b.kept.delta) b (length m.harts) u)
      (at_a u ∙ untouched-after (effect_of m a) (masked m.memory a.kept.delta) a (length m.harts) u (hart_of m u) isnt)

  then_ba :
      (u : ℕ) → touched (effect_of m a) a.thread (length m.harts) u ≡ false
      → hart_of (apply (apply m b) a) u ≡ hart_of (apply m b) u
  then_ba u isnt =
      at_ba u ∙ untouched-after (effect_of m a) (masked (masked m.memory b.kept.delta) a.kept.delta) a
      (length m.harts) u (hart_of (apply m b) u) isnt

  first_bare :
      (u : ℕ) → touched (effect_of m a) a.thread (length m.harts) u ≡ true
      → bare (hart_of (apply (apply m b) a) u) ≡ bare (hart_of (apply m a) u)
  first_bare u is =
      ap bare (first_ba u is)
      ∙ bare-after (effect_of m a) (masked (masked m.memory b.kept.delta) a.kept.delta) (masked m.memory a.kept.delta) a
      (length m.harts) u (hart_of m u) (hart_of m u) refl
      ∙ sym (ap bare (at_a u))

  then_bare :
      (u : ℕ) → touched (effect_of m a) a.thread (length m.harts) u ≡ false
      → bare (hart_of (apply m b) u) ≡ bare (hart_of (apply (apply m a) b) u)
  then_bare u isnt =
      ap bare (at_b u)
      ∙ bare-after (effect_of m b) (masked m.memory b.kept.delta) (masked (masked m.memory a.kept.delta) b.kept.delta) b
      (length m.harts) u (hart_of m u) (hart_of m u) refl
      ∙ sym (ap bare (then_ab u isnt))

  harts : (u : ℕ) → bare (hart_of (apply (apply m b) a) u) ≡ bare (hart_of (apply (apply m a) b) u)
  harts u =
      elim (is_or_not (touched (effect_of m a) a.thread (length m.harts) u)) [
        | inl is ↦ first_bare u is ∙ sym (ap bare (first_ab u is))
        | inr isnt ↦ ap bare (then_ba u isnt) ∙ then_bare u isnt
      ]

  count : length (apply (apply m b) a).harts ≡ length (apply (apply m a) b).harts
  count =
      let x : length (apply (apply m b) a).harts ≡ length (apply m b).harts + created_count (effect_of m a).created =
      apply-length (apply m b) a ∙ ap (λ (e : Effect). length (apply m b).harts + created_count e.created) effect_a in
      let y : length (apply (apply m a) b).harts ≡ length (apply m a).harts + created_count (effect_of m b).created =
      apply-length (apply m a) b ∙ ap (λ (e : Effect). length (apply m a).harts + created_count e.created) effect_b in
      let p = apply-length m a in let q = apply-length m b in
      omega arith

  -- the objects

  parts : (p : Object) → part_of (apply (apply m b) a).objects p ≡ part_of (apply (apply m a) b).objects p
  parts p =
      elim (is_or_not (is_among p (objects_of m a))) [
        | inl among ↦
            parts-met m (apply m b) a p met_a whole_b.tied.kept among
            ∙ sym (parts-stay (apply m a) b p whole_a.tied.kept
            (overlap-not p (objects_of m a) (objects_of (apply m a) b) pair.objects among))
        | inr isnt ↦
            parts-stay (apply m b) a p whole_b.tied.kept
            (subst (λ (os : List Object). is_among p os ≡ false) (sym (objects-met m (apply m b) a met_a)) isnt)
            ∙ elim (is_or_not (is_among p (objects_of (apply m a) b))) [
              | inl among ↦ parts-met (apply m a) m b p met_b pair.whole.tied.kept among
              | inr neither ↦
                  parts-stay m b p pair.whole.tied.kept
                  (subst (λ (os : List Object). is_among p os ≡ false) (sym objects_b) neither)
                  ∙ sym (parts-stay m a p pair.whole.tied.kept isnt)
                  ∙ sym (parts-stay (apply m a) b p whole_a.tied.kept neither)
            ]
      ]

  -- the output

  puts :
      (put_of m.frame.map (hart_of m a.thread).view a.kept ≡ []) ⊎
      (put_of m.frame.map (hart_of m b.thread).view b.kept ≡ [])
  puts =
      elim (is_or_not (is_among Output (objects_of m a))) [
        | inl among ↦ inr (unput m b (hart_of m b.thread).view (not_among_b Output among))
        | inr isnt ↦ inl (unput m a (hart_of m a.thread).view isnt)
      ]

  output : (apply (apply m b) a).output ≡ (apply (apply m a) b).output
  output =
      apply-output (apply m b) a
      ∙ ap₂ (λ (o : List ℕ) (x : List ℕ). o ++ x) (apply-output m b)
      (ap₂ (λ (f : Frame) (h : Hart). put_of f.map h.view a.kept) (apply-frame m b) stays_a)
      ∙ put-swap m.output (put_of m.frame.map (hart_of m a.thread).view a.kept)
      (put_of m.frame.map (hart_of m b.thread).view b.kept) puts
      ∙ sym
      (apply-output (apply m a) b
      ∙ ap₂ (λ (o : List ℕ) (x : List ℕ). o ++ x) (apply-output m a)
      (ap₂ (λ (f : Frame) (h : Hart). put_of f.map h.view b.kept) (apply-frame m a) stays_b))

  memory : (apply (apply m b) a).memory ≡ (apply (apply m a) b).memory
  memory =
      apply-memory (apply m b) a
      ∙ ap (λ (x : Memory). masked x a.kept.delta) (apply-memory m b)
      ∙ masked-swap a.kept.delta b.kept.delta m.memory pair.writes
      ∙ sym (apply-memory (apply m a) b ∙ ap (λ (x : Memory). masked x b.kept.delta) (apply-memory m a))

  ending : (apply (apply m b) a).ending ≡ (apply (apply m a) b).ending
  ending =
      let limits : (apply m b).limit ≡ (apply m a).limit = apply-limit m b ∙ sym (apply-limit m a) in
      let steps : (apply m b).steps ≡ (apply m a).steps = apply-steps m b ∙ sym (apply-steps m a) in
      apply-ending (apply m b) a
      ∙ end_after-like (own_end_of (apply m b) a) (apply (apply m a) b).harts (apply (apply m b) a).harts (apply m b).limit
      (suc (apply m b).steps) count harts
      ∙ ap (λ (e : Option End). end_after e (apply (apply m a) b).harts (apply m b).limit (suc (apply m b).steps))
      (own_a ∙ sym ends_ab.0)
      ∙ ap₂ (λ (l s : ℕ). end_after (own_end_of (apply m a) b) (apply (apply m a) b).harts l (suc s)) limits steps
      ∙ sym (apply-ending (apply m a) b)

  -- the views

  views :
      (u p : ℕ) → is_ready (hart_of (apply (apply m a) b) u).status ≡ true
      → is_in p (reads u (hart_of (apply (apply m a) b) u).number) ≡ true
      → page_of (hart_of (apply (apply m b) a) u).view p ≡ page_of (hart_of (apply (apply m a) b) u).view p
  views u p ready read =
      elim (is_or_not (touched (effect_of m a) a.thread (length m.harts) u)) [
        | inl is ↦
            let ready_first =
            ap (λ (h : Hart). is_ready h.status) (sym (at_a u))
            ∙ ap (λ (h : Hart). is_ready h.status) (sym (first_ab u is)) ∙ ready in
            let ready_second =
            ap (λ (h : Hart). is_ready h.status) (sym (first_ba u is)) ∙ ap (λ (h : Hart). is_ready h.status) (harts u)
            ∙ ready in
            let served_a =
            touched-served (effect_of m a) (masked m.memory a.kept.delta) a (length m.harts) u
            (hart_of m u) is fate_a ready_first in
            let served_ba =
            touched-served (effect_of m a) (masked (masked m.memory b.kept.delta) a.kept.delta) a (length m.harts) u
            (hart_of m u) is fate_a ready_second in
            let read_a : is_in p (reads u (hart_of (apply m a) u).number) ≡ true =
            subst (λ (h : Hart). is_in p (reads u h.number) ≡ true) (first_ab u is) read in
            let open_a : is_in p (read_by reads (apply m a) (served_by m a)) ≡ true =
            read_by-in reads (apply m a) (served_by m a) u p served_a.there read_a in
            let unwritten : is_in p (written_slots b) ≡ false =
            meets-not p (read_by reads (apply m a) (served_by m a)) (written_slots b) pair.opened open_a in
            ap (λ (h : Hart). page_of h.view p) (first_ba u is)
            ∙ ap (λ (v : Memory). page_of v p) served_ba.view
            ∙ masked-first a.kept.delta b.kept.delta m.memory p unwritten
            ∙ sym (ap (λ (h : Hart). page_of h.view p) (first_ab u is ∙ at_a u)
            ∙ ap (λ (v : Memory). page_of v p) served_a.view)
        | inr isnt ↦
            elim (is_or_not (touched (effect_of m b) b.thread (length m.harts) u)) [
              | inl is ↦
                  let ready_first = ap (λ (h : Hart). is_ready h.status) (sym (then_ab u isnt)) ∙ ready in
                  let ready_second =
                  ap (λ (h : Hart). is_ready h.status) (sym (at_b u))
                  ∙ ap (λ (h : Hart). is_ready h.status) (sym (then_ba u isnt))
                  ∙ ap (λ (h : Hart). is_ready h.status) (harts u) ∙ ready in
                  let served_ab =
                  touched-served (effect_of m b) (masked (masked m.memory a.kept.delta) b.kept.delta) b
                  (length m.harts) u (hart_of m u) is fate_b ready_first in
                  let served_b =
                  touched-served (effect_of m b) (masked m.memory b.kept.delta) b (length m.harts) u
                  (hart_of m u) is fate_b ready_second in
                  let there : is_in u (served_by (apply m a) b) ≡ true =
                  subst (λ (us : List ℕ). is_in u us ≡ true)
                  (sym (ap (λ (e : Effect). served e b.thread (length (apply m a).harts)) effect_b
                  ∙ served-index (effect_of m b) b.thread (length m.harts) (length (apply m a).harts) index_b))
                  served_ab.there in
                  let open_b : is_in p (read_by reads (apply (apply m a) b) (served_by (apply m a) b)) ≡ true =
                  read_by-in reads (apply (apply m a) b) (served_by (apply m a) b) u p there read in
                  let unwritten : is_in p (written_slots a) ≡ false =
                  meets-not_back p (written_slots a)
                  (read_by reads (apply (apply m a) b) (served_by (apply m a) b)) pair.opens open_b in
                  ap (λ (h : Hart). page_of h.view p) (then_ba u isnt ∙ at_b u)
                  ∙ ap (λ (v : Memory). page_of v p) served_b.view
                  ∙ sym (masked-first b.kept.delta a.kept.delta m.memory p unwritten)
                  ∙ sym (ap (λ (h : Hart). page_of h.view p) (then_ab u isnt)
                  ∙ ap (λ (v : Memory). page_of v p) served_ab.view)
              | inr neither ↦
                  ap (λ (h : Hart). page_of h.view p)
                  (then_ba u isnt ∙ at_b u
                  ∙ untouched-after (effect_of m b) (masked m.memory b.kept.delta) b (length m.harts) u
                  (hart_of m u) neither
                  ∙ sym (then_ab u isnt
                  ∙ untouched-after (effect_of m b) (masked (masked m.memory a.kept.delta) b.kept.delta) b
                  (length m.harts) u (hart_of m u) neither))
            ]
      ]

  -- the machines after both orders are alike
  pub swapped : IsAlike reads (apply (apply m a) b) (apply (apply m b) a)
  swapped =
      record {
        frame = apply-frame (apply m b) a ∙ apply-frame m b ∙ sym (apply-frame (apply m a) b ∙ apply-frame m a);
        limit = apply-limit (apply m b) a ∙ apply-limit m b ∙ sym (apply-limit (apply m a) b ∙ apply-limit m a);
        memory = memory;
        objects =
            objects-same (apply (apply m a) b).objects
            (apply (apply m b) a).objects whole_ab.tied.kept whole_ba.tied.kept parts;
        output = output;
        steps = apply-steps (apply m b) a ∙ ap suc (apply-steps m b) ∙ sym (apply-steps (apply m a) b ∙ ap suc (apply-steps m a));
        ending = ending;
        count = count;
        harts = harts;
        views = λ on u p ready read. views u p ready read;
      }

  pub whole_first : IsWhole (apply (apply m a) b)
  whole_first = whole_ab

  pub whole_second : IsWhole (apply (apply m b) a)
  whole_second = whole_ba

  -- and so are the facts

  touched_not :
      (u : ℕ) → touched (effect_of m b) b.thread (length m.harts) u ≡ true
      → touched (effect_of m a) a.thread (length m.harts) u ≡ false
  touched_not u is =
      elim (is_or_not (touched (effect_of m a) a.thread (length m.harts) u)) [
        | inl both ↦ absurd (let isnt = apart u both in cc)
        | inr isnt ↦ isnt
      ]

  served_b : served_by m b ≡ served_by (apply m a) b
  served_b =
      sym (ap (λ (e : Effect). served e b.thread (length (apply m a).harts)) effect_b
      ∙ served-index (effect_of m b) b.thread (length m.harts) (length (apply m a).harts) index_b)

  served_a : served_by (apply m b) a ≡ served_by m a
  served_a =
      ap (λ (e : Effect). served e a.thread (length (apply m b).harts)) effect_a
      ∙ served-index (effect_of m a) a.thread (length m.harts) (length (apply m b).harts) index_a

  on_b : (u : ℕ) → is_in u (served_by m b) ≡ true → bare (hart_of (apply m b) u) ≡ bare (hart_of (apply (apply m a) b) u)
  on_b u there = then_bare u (touched_not u (served-touched (effect_of m b) b.thread (length m.harts) u there))

  on_a :
      (u : ℕ) → is_in u (served_by (apply m b) a) ≡ true → bare (hart_of (apply (apply m b) a) u) ≡ bare (hart_of (apply m a) u)
  on_a u there =
      first_bare u
      (served-touched (effect_of m a) a.thread (length m.harts) u
      (subst (λ (us : List ℕ). is_in u us ≡ true) served_a there))

  none_late : is_some (apply (apply m b) a).ending ≡ false
  none_late = rw (ending, none-is (apply (apply m a) b).ending pair.none_b) refl

  pub fact_early : fact_of reads m b ≡ fact_of reads (apply m a) b
  fact_early =
      same-fact b.thread (objects_of m b) (objects_of (apply m a) b) _ _ (written_slots b) _ _ _ _ objects_b served_b
      (read_by-on reads (apply (apply m a) b) (apply m b) (served_by m b) on_b
      ∙ ap (read_by reads (apply (apply m a) b)) served_b)
      (ap (λ (e : Option End). is_some e) (ending_b ∙ sym (none-is (apply (apply m a) b).ending pair.none_b)))

  pub fact_late : fact_of reads (apply m b) a ≡ fact_of reads m a
  fact_late =
      same-fact a.thread (objects_of (apply m b) a) (objects_of m a) _ _ (written_slots a) _ _ _ _
      (objects-met m (apply m b) a met_a) served_a
      (read_by-on reads (apply m a) (apply (apply m b) a) (served_by (apply m b) a) on_a
      ∙ ap (read_by reads (apply m a)) served_a)
      (none_late ∙ sym (ap (λ (e : Option End). is_some e) (none-is (apply m a).ending pair.none_a)))
